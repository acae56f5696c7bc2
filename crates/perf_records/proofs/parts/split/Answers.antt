use Rattle.std.proofs.Common.{◌≡◌, ℕ, ◌+◌, ◌-◌, ◌≤◌, ◌<◌, List, length, refl, take, drop, None, Some, Ok, Err, arith, sym, ◌∙◌, ap, subst}
use Rattle.std.proofs.lemmas.Bool.Decides.{nat_tests}
use Rattle.perf_base.specs.Configured.{configuration_of, endian_of}
use Rattle.perf_base.specs.Refusals.{refusal_kind}
use Rattle.perf_base.specs.declared.config.ParseConfig.{ParseConfig}
use Rattle.perf_base.specs.declared.error.ErrorKind.{ErrorKind}
use Rattle.perf_base.specs.declared.error.ErrorKind.TheVariants.{InvalidRecord}
use Rattle.perf_buffers.specs.Buffer.{Source, BufferInvariant}
use Rattle.perf_buffers.specs.Cursor.{cursor_left}
use Rattle.perf_buffers.specs.Taking.{Moves}
use Rattle.perf_buffers.proofs.Takes.{takes_moves}
use Rattle.perf_reader.specs.ReaderState.{ReaderState, state_of}
use Rattle.perf_reader.specs.Reading.{CallInvariant}
use Rattle.perf_reader.proofs.Calls.{keeps_more, can_fault}
use Rattle.perf_records.specs.Answers.{length_after, FrameParts, answered_parts, frame_parts, parts_of}
use Rattle.perf_records.specs.FrameEnds.{TakesId}
use Rattle.perf_records.specs.Metadata.{id_length, id_of_type}
use Rattle.perf_records.proofs.FrameEnds.{body_long, parts_taken}
use Rattle.perf_records.proofs.Preservation.{moved_keeps, stays_refused, within_kept, taken_pays}
use Rattle.perf_records.proofs.Splits.{unsplit_cut, unsplit_room, split_made}
use Rattle.perf_records.proofs.parts.split.Goals as goal

-- the last bytes of a frame, as many as it has
last_all : (frame bytes : List ℕ) (n : ℕ) → n ≡ length frame → bytes ≡ drop (length frame - n) frame → bytes ≡ frame
last_all frame bytes n all is = let none : length frame - n ≡ 0 = omega (arith, all) in is ∙ ap (λ (k : ℕ). drop k frame) none

-- the cut was refused
pub returns-in-Err-clause-call : goal.returns-in-Err-clause-call
returns-in-Err-clause-call g c =
    let old : ReaderState = state_of g.I.Input.source g.E.Endian.order c.args.reader.now in
    let new : ReaderState = state_of g.I.Input.source g.E.Endian.order c.cut.new.self in
    let h = c.args.header in
    let kind : ErrorKind = refusal_kind c.in-Err.refusal in
    let e = c.in-Err.ensures in
    let sized : 8 ≤ h.size = grind (arith, nat_tests) in
    let kept : CallInvariant old (Some kind) new = moved_keeps old new (Some kind) 0 (omega (arith, e.reads)) e.stays (can_fault old.source (Some kind) e.can_fail) (λ told.
    let w = within_kept old.source new.source (length_after h) kind (e.err told) in (w.1, omega (arith, w.1.0))) in record {
      config = e.config;
      whole = e.stays.0;
      told = e.stays.3;
      answer = λ told layout. let u = unsplit_cut old.settings old.order h old.source new.source kind sized (e.err told) layout in (u.0.0, u.1, omega (arith, e.reads, u.0.1));
      keeps = λ start p. keeps_more start old new (Some kind) p kept;
    }

-- the frame was split
pub returns-clause-call : goal.returns-clause-call
returns-clause-call g c =
    let old : ReaderState = state_of g.I.Input.source g.E.Endian.order c.args.reader.now in
    let mid : ReaderState = state_of g.I.Input.source g.E.Endian.order c.cut.new.self in
    let new : ReaderState = state_of g.I.Input.source g.E.Endian.order c.count.new.self in
    let h = c.args.header in
    let frame : List ℕ = cursor_left c.in-Ok.frame in
    let end = c.in-Some.end in
    let metadata = c.from_parts-metadata.result in
    let len : ℕ = length end.body.now in
    let parts : FrameParts = answered_parts (c.drop_last.new.self, metadata) in
    let e = c.in-Ok.ensures in
    let sized : 8 ≤ h.size = grind (arith, nat_tests) in
    let config : c.config.result.now ≡ c.args.reader.now.config = c.config.ensures ∙ e.config in
    let same : new.source ≡ mid.source = ap g.I.Input.source c.count.ensures.input in
    let all : c.last.result.now ≡ frame = last_all frame c.last.result.now c.len.result c.len.ensures c.last.ensures in
    let P : ParseConfig g.row.E.Denot → Type 0 = λ k. TakesId (g.E.Endian.order (endian_of k)) (id_length (configuration_of k) h.type_) (id_of_type (configuration_of k) h.type_) frame end in
    let takes = subst P config (subst (λ xs. TakesId (g.E.Endian.order (endian_of c.config.result.now)) (id_length (configuration_of c.config.result.now) h.type_) (id_of_type (configuration_of c.config.result.now) h.type_) xs end) all c.in-Some.ensures) in
    let room = body_long old.settings old.order h.type_ frame end takes in
    let body : length frame - (c.len-2.result - len) ≡ len = omega (arith, c.len-2.ensures, room, takes.room) in
    let cut : cursor_left c.drop_last.new.self ≡ take len frame = c.drop_last.ensures.left ∙ ap (λ (n : ℕ). take n frame) body in
    let are : parts ≡ parts_of old.settings old.order h frame = ap (frame_parts metadata) cut ∙ parts_taken old.settings old.order h frame end metadata len takes c.from_parts-metadata.ensures refl in
    let less : end.reads ≤ length_after h = omega (arith, takes.bound, takes.room, e.count) in
    let count : new.reads ≡ old.reads + end.reads = c.count.ensures.reads ∙ ap (λ n. n + end.reads) e.reads in
    let stays : BufferInvariant old.source None new.source = subst (λ s. BufferInvariant old.source None s) (sym same) e.stays in
    let kept : CallInvariant old None new = moved_keeps old new None end.reads count stays (λ x. cc) (λ told.
    let o = e.ok told in
    let paid : end.reads + length mid.source.left ≤ length old.source.left = taken_pays old.source mid.source (length_after h) end.reads o.0 less in
    subst (λ (s : Source). Moves old.source s × (end.reads + length s.left ≤ length old.source.left + 0)) (sym same) (takes_moves old.source mid.source (length_after h) o.0, omega (arith, paid))) in record {
      config = c.count.ensures.config ∙ e.config;
      whole = stays.0;
      told = stays.3;
      answer = λ told.
          let o = e.ok told in
          let m = split_made old.settings old.order h old.source.left frame parts sized o.0.0 o.1 takes.room are in
          (m.0, ap (λ (s : Source). s.left) same ∙ o.0.1, count ∙ ap (λ n. old.reads + n) (takes.reads ∙ sym m.1));
      keeps = λ start p. keeps_more start old new None p kept;
    }

-- it is too short for its sample id
pub returns-in-None-clause-call : goal.returns-in-None-clause-call
returns-in-None-clause-call g c =
    let old : ReaderState = state_of g.I.Input.source g.E.Endian.order c.args.reader.now in
    let new : ReaderState = state_of g.I.Input.source g.E.Endian.order c.cut.new.self in
    let h = c.args.header in
    let frame : List ℕ = cursor_left c.in-Ok.frame in
    let e = c.in-Ok.ensures in
    let sized : 8 ≤ h.size = grind (arith, nat_tests) in
    let config : c.config.result.now ≡ c.args.reader.now.config = c.config.ensures ∙ e.config in
    let all : c.last.result.now ≡ frame = last_all frame c.last.result.now c.len.result c.len.ensures c.last.ensures in
    let short : length frame < id_length (configuration_of c.args.reader.now.config) h.type_ =
    subst (λ (k : ParseConfig g.row.E.Denot). length frame < id_length (configuration_of k) h.type_) config (omega (arith, c.in-None.ensures, ap length all)) in
    let stays : BufferInvariant old.source (Some InvalidRecord) new.source = stays_refused old.source new.source InvalidRecord refl e.stays in
    let kept : CallInvariant old (Some InvalidRecord) new = moved_keeps old new (Some InvalidRecord) 0 (omega (arith, e.reads)) stays (λ x. cc) (λ told.
    let m = takes_moves old.source new.source (length_after h) (e.ok told).0 in (m, omega (arith, m.0))) in
    record {
      config = e.config;
      whole = stays.0;
      told = stays.3;
      answer = λ told layout.
          let o = e.ok told in
          let u = unsplit_room old.settings old.order h old.source.left frame sized o.0.0 o.1 short in
          (u.0, o.0.1, omega (arith, e.reads, u.1));
      keeps = λ start p. keeps_more start old new (Some InvalidRecord) p kept;
    }
