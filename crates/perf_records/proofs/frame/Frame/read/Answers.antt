use Rattle.std.proofs.Common.{◌≡◌, ℕ, ◌+◌, ◌≤◌, List, Bool, length, take, arith, refl, sym, ◌∙◌, ap, subst}
use Rattle.std.proofs.lemmas.List.{length-take-le}
use Rattle.std.specs.Prelude.{IsTrue}
use Rattle.perf_base.specs.Configuration.{Configuration, under_misc}
use Rattle.perf_base.specs.Configured.{configuration_of, endian_of}
use Rattle.perf_base.specs.Order.{Order}
use Rattle.perf_base.specs.Refusals.{kinds, kind_if_refused}
use Rattle.perf_buffers.specs.Buffer.{chunk_bytes, chunk_is_borrowed}
use Rattle.perf_reader.specs.Reading.{one_if_refused}
use Rattle.perf_records.specs.Answers.{FrameParts, frame_parts, parts_of}
use Rattle.perf_records.specs.Bodies.{body}
use Rattle.perf_records.specs.FrameEnds.{TakesId}
use Rattle.perf_records.specs.Gives.{Event, GivesWholeBody}
use Rattle.perf_records.specs.Metadata.{id_length, id_of_type}
use Rattle.perf_records.proofs.FrameEnds.{body_long, parts_taken}
use Rattle.perf_records.proofs.Shown.{bytes_visited}
use Rattle.perf_records.proofs.frame.Frame.read.Goals as goal

pub returns-clause-answer : goal.returns-clause-answer
returns-clause-answer g c = λ reads.
    let gives : Event → _ → Type 0 = λ outcome x. g.M.OfBody.gives outcome c.args.state.now x c.read-output.new.state in
    let h = c.args.self.header in
    let frame : List ℕ = chunk_bytes c.args.self.rest in
    let borrowed : Bool = chunk_is_borrowed c.args.self.rest in
    let settings : Configuration = configuration_of c.args.config.now in
    let order : Order = g.E.Endian.order (endian_of c.args.config.now) in
    let end = c.in-Some.end in
    let same : c.as_bytes-bytes.result.now ≡ frame = c.as_bytes-bytes.ensures in
    let i : TakesId order (id_length settings h.type_) (id_of_type settings h.type_) frame end = subst (λ xs. TakesId order (id_length settings h.type_) (id_of_type settings h.type_) xs end) same c.in-Some.ensures in
    let metadata = c.from_parts-metadata.result in
    let len : ℕ = length end.body.now in
    let parts : FrameParts = frame_parts metadata (take len frame) in
    let are : parts ≡ parts_of settings order h frame = parts_taken settings order h frame end metadata len i c.from_parts-metadata.ensures refl in
    let named : metadata.ty ≡ h.type_ = ap (λ (p : FrameParts). p.metadata.ty) are in
    let under = c.set_misc.new.self in
    let r = c.read-output.ensures in
    let mine : g.M.OfBody.reads metadata.ty = subst g.M.OfBody.reads (sym named) reads in
    let made : ℕ = c.read-output.result.1 in
    let output = c.read-output.result.0 in
    let visits : GivesWholeBody gives metadata (g.E.Endian.order (endian_of under).now) (body (configuration_of under) metadata.ty) (take len frame) borrowed (kinds output) made =
    subst (λ b. GivesWholeBody gives metadata (g.E.Endian.order (endian_of under).now) (body (configuration_of under) metadata.ty) (take len frame) b (kinds output) made) c.first.ensures.borrowed
    (subst (λ xs. GivesWholeBody gives metadata (g.E.Endian.order (endian_of under).now) (body (configuration_of under) metadata.ty) xs (chunk_is_borrowed c.first.result) (kinds output) made) c.first.ensures.bytes (r.answer mine)) in
    let long : length (take len frame) ≡ len = length-take-le len frame (omega (arith, body_long settings order h.type_ frame end i)) in
    let cost : made ≤ length (take len frame) + one_if_refused (kind_if_refused (kinds output)) = omega (arith, r.cost mine, ap length c.first.ensures.bytes) in
    bytes_visited gives h settings (configuration_of under) order (g.E.Endian.order (endian_of under).now) frame borrowed parts end.reads made c.add.new.self output
    c.args.self.sized c.args.self.whole i.room are i.reads i.bound
    (c.set_misc.ensures.changed ∙ ap (under_misc h.misc) c.lent-under.ensures.same) (ap (λ e. g.E.Endian.order e.now) c.set_misc.ensures.endian ∙ ap g.E.Endian.order c.lent-under.ensures.order) visits (r.faults mine) cost c.add.ensures

-- the body's bytes live as long as the frame's
pub returns-clause-memory : goal.returns-clause-memory
returns-clause-memory g c = λ plain lasts.
    let h = c.args.self.header in
    let settings : Configuration = configuration_of c.args.config.now in
    let same : configuration_of c.set_misc.new.self ≡ under_misc h.misc settings = c.set_misc.ensures.changed ∙ ap (under_misc h.misc) c.lent-under.ensures.same in
    c.read-output.ensures.memory (subst g.M.OfBody.plain (sym same) plain) (subst IsTrue (sym c.first.ensures.borrowed) lasts)
