-- Frames that are read in place.
use Rattle.std.proofs.Common.{◌≡◌, ℕ, ◌+◌, ◌-◌, ◌≤◌, List, Bool, length, take, drop, false, nat_lt, arith, refl, sym, ◌∙◌, ap}
use Rattle.std.proofs.lemmas.Bool.{le-ltb}
use Rattle.std.proofs.lemmas.List.{length-take-le, take-take, take_all}
use Rattle.std.specs.Prelude.{Result, IsTrue, None, Some, Ok, Err, if◌then◌else◌}
use Rattle.perf_base.specs.Configuration.{Configuration, under_misc}
use Rattle.perf_base.specs.Order.{Order}
use Rattle.perf_base.specs.Refusals.{kinds, kind_if_refused, NeedsNoMemory}
use Rattle.perf_base.specs.declared.refusal.Refusal.{Refusal}
use Rattle.perf_base.specs.declared.sys.perf_event_header.{perf_event_header}
use Rattle.perf_base.specs.Configured.{configuration_of, endian_of}
use Rattle.perf_base.specs.declared.error.ErrorKind.{ErrorKind}
use Rattle.perf_base.specs.declared.error.ErrorKind.TheVariants.{InvalidRecord}
use Rattle.perf_buffers.specs.Buffer.{Source, BufferInvariant}
use Rattle.perf_buffers.specs.Taking.{Takes, CanFail}
use Rattle.perf_buffers.proofs.Takes.{takes_moves}
use Rattle.perf_reader.specs.Calls.{Call}
use Rattle.perf_reader.specs.NextFrame.{GivesNextFrame, FailsToReadFrame}
use Rattle.perf_reader.specs.ReaderState.{ReaderState, state_of}
use Rattle.perf_reader.specs.declared.reader.Reader.{Reader}
use Rattle.perf_reader.proofs.Calls.{keeps_more, can_fault}
use Rattle.perf_reader.specs.Reading.{is_external, one_if_refused, CallInvariant}
use Rattle.perf_records.specs.Answers.{FrameParts, length_after, parts_of, id_reads, split_reads, split_after, record_in, record_reads, answer_after, reads_after, ReadsFrameAfter}
use Rattle.perf_records.specs.Bodies.{body, needs_memory}
use Rattle.perf_records.specs.Metadata.{id_length}
use Rattle.perf_records.specs.Shown.{slice_state, GivesFrameBytes}
use Rattle.perf_records.specs.declared.record.Record.{Record}
use Rattle.perf_sample_types.specs.declared.sample.Sample.{Sample}
use Rattle.std.specs.Prelude.{Box, IfOk}
use Rattle.std.specs.declared.alloc.Global.{Global}
use Rattle.perf_records.specs.Gives.{Event, GivesWholeBody, GivesFrameAfter, BelongsTo, IsRecordOf, IsSampleOf}
use Rattle.perf_records.specs.declared.record.Record.TheVariants as record_of
use Rattle.perf_records.proofs.FrameVisits.{belongs, spares, visits_made, visits_keep, unsplit_visits}
use Rattle.perf_records.proofs.Preservation.{moved_keeps, taken_pays, within_kept}
use Rattle.perf_records.proofs.VisitedRecords.{body_transition}
use Rattle.perf_records.proofs.Splits.{split_made, unsplit_cut}

-- the front of a front
pub front_of : (chunk frame part : List ℕ) (n m : ℕ) → frame ≡ take n chunk → n ≤ length chunk → part ≡ take m frame → m ≤ n → take (length part) chunk ≡ part
front_of chunk frame part n m p within q less =
    let whole : length frame ≡ n = ap length p ∙ length-take-le n chunk within in
    let long : length part ≡ m = ap length q ∙ length-take-le m frame (omega (arith, whole)) in
    ap (λ k. take k chunk) long ∙ sym (take-take m n chunk less) ∙ ap (take m) (sym p) ∙ sym q

-- the visit of a frame's bytes, by that of its body
pub bytes_visited : {O : Type 0} (gives : Event → O → Type 0) (h : perf_event_header) (c under : Configuration) (o o2 : Order) (frame : List ℕ) (borrowed : Bool) (parts : FrameParts) (id made all : ℕ) (result : Result O Refusal) →
    8 ≤ h.size → length frame ≡ length_after h → id_length c h.type_ ≤ length frame → parts ≡ parts_of c o h frame → id ≡ id_reads c o h frame → id ≤ id_length c h.type_ →
    under ≡ under_misc h.misc c → o2 ≡ o → GivesWholeBody gives parts.metadata o2 (body under parts.metadata.ty) parts.body borrowed (kinds result) made →
    is_external (kind_if_refused (kinds result)) ≡ false → made ≤ length parts.body + one_if_refused (kind_if_refused (kinds result)) → all ≡ id + made → GivesFrameBytes gives h c o frame borrowed result all
bytes_visited gives h c under o o2 frame borrowed parts id made all result sized long room are reads bound settings order visits inner cost total =
    let n : ℕ = length_after h in
    let old : ReaderState = slice_state c o frame borrowed 0 in
    let mid : ReaderState = slice_state c o (drop n frame) borrowed id in
    let new : ReaderState = slice_state c o (drop n frame) borrowed all in
    let s = split_made c o h frame frame parts sized (omega (arith, long)) (sym (take_all n frame (omega (arith, long)))) room are in
    let count : id ≡ 0 + split_reads c o h frame = omega (arith, reads, s.1) in
    let named : parts.metadata.ty ≡ h.type_ = ap (λ (p : FrameParts). p.metadata.ty) are in
    let misc : parts.metadata.misc ≡ h.misc = ap (λ (p : FrameParts). p.metadata.misc) are in
    let inside : length parts.body ≡ length frame - id_length c h.type_ = ap (λ (p : FrameParts). length p.body) are ∙ length-take-le (length frame - id_length c h.type_) frame (omega arith) in (
      visits_made gives h old mid new parts o2 under borrowed made (kinds result) order settings named (λ is. is) refl total (s.0, refl, count) visits,
      belongs gives h borrowed borrowed parts.metadata o2 (body under parts.metadata.ty) parts.body made result (named, misc) (λ is. is) visits,
      (λ lent none. spares gives h borrowed parts.metadata o2 (body under parts.metadata.ty) parts.body made result named lent none visits),
      inner,
      omega (arith, total, bound, cost, inside, long, room),
    )

-- ---- a frame has the same contents whatever comes after it
same_split : (c : Configuration) (o : Order) (h : perf_event_header) (xs ys : List ℕ) → 8 ≤ h.size → length_after h ≤ length xs → length_after h ≤ length ys → take (length_after h) xs ≡ take (length_after h) ys →
    split_after c o h xs ≡ split_after c o h ys
same_split c o h xs ys sized p q same =
    let a : nat_lt h.size 8 ≡ false = le-ltb h.size 8 sized in
    let b : nat_lt (length xs) (length_after h) ≡ false = le-ltb (length xs) (length_after h) p in
    let d : nat_lt (length ys) (length_after h) ≡ false = le-ltb (length ys) (length_after h) q in
    let rest : (if nat_lt (length_after h) (id_length c h.type_) then Err InvalidRecord else Ok (parts_of c o h (take (length_after h) xs))) ≡ (if nat_lt (length_after h) (id_length c h.type_) then Err InvalidRecord else Ok (parts_of c o h (take (length_after h) ys))) =
    ap (λ (zs : List ℕ). if nat_lt (length_after h) (id_length c h.type_) then Err InvalidRecord else Ok (parts_of c o h zs)) same in
    rw (a, b, d) rest

same_reads : (c : Configuration) (o : Order) (h : perf_event_header) (xs ys : List ℕ) → split_after c o h xs ≡ split_after c o h ys → take (length_after h) xs ≡ take (length_after h) ys →
    reads_after c o h xs ≡ reads_after c o h ys
same_reads c o h xs ys split same =
    let count : Result FrameParts ErrorKind → List ℕ → ℕ = λ r zs. elim r [ Ok parts ↦ id_reads c o h zs | Err e ↦ 0 ] in
    let first : split_reads c o h xs ≡ split_reads c o h ys = ap (λ r. count r (take (length_after h) xs)) split ∙ ap (count (split_after c o h ys)) same in
    let second : record_reads c o h (split_after c o h xs) ≡ record_reads c o h (split_after c o h ys) = ap (record_reads c o h) split in
    omega (arith, first, second)

-- the visit of a frame that was read by itself
pub frame_visits : {O : Type 0} (gives : Event → O → Type 0) (h : perf_event_header) (a d alone after : ReaderState) (outcome : Result O ErrorKind) → (IsTrue a.source.whole → IsTrue alone.source.whole) →
    split_after a.settings a.order h a.source.left ≡ split_after alone.settings alone.order h alone.source.left → answer_after a.settings a.order h a.source.left ≡ answer_after alone.settings alone.order h alone.source.left →
    reads_after a.settings a.order h a.source.left ≡ reads_after alone.settings alone.order h alone.source.left → d.source.left ≡ drop (length_after h) a.source.left → d.reads ≡ a.reads + after.reads → alone.reads ≡ 0 →
    GivesFrameAfter gives h alone outcome after → GivesFrameAfter gives h a outcome d
frame_visits gives h a d alone after (Ok x) whole split transition reads left count none p = (p.0, p.1, p.2, p.3, split ∙ p.4, (λ is. p.5 (whole is)), (transition ∙ p.6.0, left, omega (arith, p.6.2, count, none, reads)))
frame_visits gives h a d alone after (Err e) whole split transition reads left count none p = λ layout. let q = p layout in (transition ∙ q.0, left, omega (arith, q.2, count, none, reads))

-- the same of a buffer that is whole only if the bytes live as long as the input
belongs_whole : {O : Type 0} (gives : Event → O → Type 0) (h : perf_event_header) (from whole : Bool) (result : Result O Refusal) → (IsTrue whole → IsTrue from) → IfOk result (λ x. BelongsTo gives h from x) → IfOk result (λ x. BelongsTo gives h whole x)
belongs_whole gives h from whole (Ok x) lends b = (b.0, b.1, b.2, b.3, (λ is. b.4 (lends is)), b.5)
belongs_whole gives h from whole (Err e) lends b = tt

-- ---- a frame after its header
module _ {I E O : Type 0} (source : I → Source) (order : E → Order) (gives : Event → O → Type 0) (h : perf_event_header) (old new : Reader I E) where
  -- something was made of its bytes
  abbrev pub Read : Result O Refusal → Type 0
  Read result =
      GivesNextFrame {S = Unit {0}} (λ bytes borrowed made was x now. GivesFrameBytes gives h (configuration_of old.config) (order (endian_of old.config)) bytes borrowed x made) (source old.input) old.reads (length_after h) tt result (source new.input) new.reads tt

  -- what it gives
  pub frame_call : (result : Result O Refusal) → 8 ≤ h.size → Read result → new.config ≡ old.config → BufferInvariant (source old.input) None (source new.input) → Call source order (GivesFrameAfter gives h) old (kinds result) new
  frame_call result sized frame config stays =
      let a : ReaderState = state_of source order old in
      let d : ReaderState = state_of source order new in
      let b : ReaderState = record { settings = d.settings; order = d.order; source = d.source; reads = a.reads } in
      let n : ℕ = length_after h in
      let made : ℕ = frame.0 in
      let bytes : List ℕ = frame.2.0 in
      let long : length bytes ≡ n = frame.2.3 in
      let v = frame.2.2 in
      let takes : IsTrue a.source.told → Takes a.source n d.source = λ told. (frame.2.4 told).0 in
      let kept : CallInvariant a None b = moved_keeps a b None 0 (omega arith) stays (λ x. cc) (λ told. let m = takes_moves a.source d.source n (takes told) in (m, omega (arith, m.0))) in record {
        config = config;
        whole = stays.0;
        told = stays.3;
        answer = λ told.
            let t = frame.2.4 told in
            let front : take n a.source.left ≡ take n bytes = sym t.1 ∙ sym (take_all n bytes (omega (arith, long))) in
            let split = same_split a.settings a.order h a.source.left bytes sized t.0.0 (omega (arith, long)) front in
            frame_visits gives h a d (slice_state a.settings a.order bytes frame.2.1 0) (slice_state a.settings a.order (drop n bytes) frame.2.1 made) (kinds result) (λ is. frame.2.5 is) split (ap (record_in a.settings a.order h) split)
            (same_reads a.settings a.order h a.source.left bytes split front) t.0.1 frame.1 refl v.0;
        keeps = λ start p. visits_keep start a b d made n (kind_if_refused (kinds result)) p (keeps_more start a b None p kept) (λ told. let paid = taken_pays a.source d.source n n (takes told) (omega arith) in omega (arith, paid)) refl frame.1 v.4 v.3;
      }

  -- no memory is taken over a whole buffer, if none is needed
  pub frame_spares : (result : Result O Refusal) → Read result → IsTrue (source old.input).whole → needs_memory h.type_ ≡ false → NeedsNoMemory (kinds result)
  frame_spares result frame whole none = frame.2.2.2 (frame.2.5 whole) none

  -- its bytes could not be read
  pub unread_call : (e : ErrorKind) → 8 ≤ h.size → FailsToReadFrame (source old.input) old.reads (length_after h) e (source new.input) new.reads → new.config ≡ old.config →
      BufferInvariant (source old.input) (Some e) (source new.input) → CanFail (source old.input) (Some e) → Call source order (GivesFrameAfter gives h) old (Err e) new
  unread_call e sized fails config stays can =
      let a : ReaderState = state_of source order old in
      let d : ReaderState = state_of source order new in
      let kept : CallInvariant a (Some e) d = moved_keeps a d (Some e) 0 (omega (arith, fails.0)) stays (can_fault a.source (Some e) can) (λ told.
      let w = within_kept a.source d.source (length_after h) e (fails.1 told) in (w.1, omega (arith, w.1.0))) in record {
        config = config;
        whole = stays.0;
        told = stays.3;
        answer = λ told. unsplit_visits gives h a d e (λ layout. let u = unsplit_cut a.settings a.order h a.source d.source e sized (fails.1 told) layout in (u.0.0, u.1, omega (arith, fails.0, u.0.1)));
        keeps = λ start p. keeps_more start a d (Some e) p kept;
      }

  -- what is known of it even if the buffer's bytes are not known
  pub frame_belongs : (result : Result O Refusal) → Read result → IfOk result (λ x. BelongsTo gives h (source old.input).whole x)
  frame_belongs result frame = belongs_whole gives h frame.2.1 (source old.input).whole result (λ is. frame.2.5 is) frame.2.2.1

-- ---- the contracts of records and of boxed samples, by those of their visits
module _ {I E : Type 0} {source : I → Source} {order : E → Order} (h : perf_event_header) {old new : Reader I E} where
  -- a record that was read is what the frame contains
  pub transition_call : {outcome : Result Record ErrorKind} → Call source order (GivesFrameAfter IsRecordOf h) old outcome new → Call source order (ReadsFrameAfter h) old outcome new
  transition_call {outcome} call = record {
    config = call.config;
    whole = call.whole;
    told = call.told;
    answer = λ t. body_transition h (state_of source order old) (state_of source order new) outcome (call.answer t);
    keeps = call.keeps;
  }

  -- and so is a sample in its box
  pub boxed_call : (content : Box Sample Global) → Call source order (GivesFrameAfter IsSampleOf h) old (Ok content) new → Call source order (ReadsFrameAfter h) old (Ok (record_of.Sample content)) new
  boxed_call content call = record {
    config = call.config;
    whole = call.whole;
    told = call.told;
    answer = λ t. let v = call.answer t in (v.6.0 ∙ ap Ok (sym v.3.0), v.6.1, v.6.2);
    keeps = call.keeps;
  }

  -- its refusal is that of the record
  pub unboxed_call : (e : ErrorKind) → Call source order (GivesFrameAfter IsSampleOf h) old (Err e) new → Call source order (ReadsFrameAfter h) old (Err e) new
  unboxed_call e call = record { config = call.config; whole = call.whole; told = call.told; answer = λ t. call.answer t; keeps = call.keeps }
