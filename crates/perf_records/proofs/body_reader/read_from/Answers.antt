use Rattle.std.proofs.Common.{◌≡◌, length, subst, sym, ◌∙◌, ap}
use Rattle.std.specs.Prelude.{IsTrue}
use Rattle.perf_base.specs.Configured.{configuration_of, endian_of}
use Rattle.perf_base.specs.Refusals.{kinds, kind_if_refused}
use Rattle.perf_base.specs.declared.config.ParseConfig.{ParseConfig}
use Rattle.perf_buffers.specs.Buffer.{Source}
use Rattle.perf_reader.specs.ReaderState.{ReaderState, state_of}
use Rattle.perf_reader.proofs.Calls.{keeps_none}
use Rattle.perf_records.specs.Bodies.{body}
use Rattle.perf_records.specs.Gives.{Event, GivesWholeBody}
use Rattle.perf_records.proofs.BodyVisits.{visits_all}
use Rattle.perf_records.proofs.Preservation.{inside_cannot_fault, inside_pays}
use Rattle.perf_records.proofs.body_reader.read_from.Goals as goal

pub returns-clause-answer : goal.returns-clause-answer
returns-clause-answer g c = λ reads.
    let gives : Event → _ → Type 0 = λ outcome x. g.M.OfBody.gives outcome c.args.state.now x c.read_body-output.new.state in
    let m = c.args.metadata in
    let outcome = kinds c.read_body-output.result in
    let n = c.new-reader.ensures in
    let old : ReaderState = state_of g.I.Input.source g.E.Endian.order c.new-reader.result in
    let new : ReaderState = state_of g.I.Input.source g.E.Endian.order c.read_body-output.new.reader in
    let from : Source = g.I.Input.source c.args.bytes in
    let same : old.source ≡ from = ap g.I.Input.source n.input in
    let told : IsTrue old.source.told = subst (λ (s : Source). IsTrue s.told) (sym same) c.requires.told in
    let done = visits_all gives m outcome old new old.source.whole n.reads (λ is. is) ((c.read_body-output.ensures.call reads).answer told) in
    let P : ParseConfig g.row.E.Denot → Type 0 = λ k. GivesWholeBody gives m (g.E.Endian.order (endian_of k)) (body (configuration_of k) m.ty) from.left from.whole outcome new.reads in
    let Q : Source → Type 0 = λ s. GivesWholeBody gives m old.order (body old.settings m.ty) s.left s.whole outcome new.reads in
    subst (λ k. GivesWholeBody gives m (g.E.Endian.order (endian_of c.args.config)) (body (configuration_of c.args.config) m.ty) from.left from.whole outcome k) (sym c.into_reads.ensures)
    (subst P n.config (subst Q same done))

pub returns-clause-faults : goal.returns-clause-faults
returns-clause-faults g c = λ reads.
    let n = c.new-reader.ensures in
    let old : ReaderState = state_of g.I.Input.source g.E.Endian.order c.new-reader.result in
    let inside : old.source.can_fault ≡ _ = ap (λ i. (g.I.Input.source i).can_fault) n.input ∙ c.requires.inside in
    inside_cannot_fault (kind_if_refused (kinds c.read_body-output.result)) (λ e. subst IsTrue inside (((c.read_body-output.ensures.call reads).keeps old (keeps_none old)).fault e))

pub returns-clause-cost : goal.returns-clause-cost
returns-clause-cost g c = λ reads.
    let n = c.new-reader.ensures in
    let old : ReaderState = state_of g.I.Input.source g.E.Endian.order c.new-reader.result in
    let from : Source = g.I.Input.source c.args.bytes in
    let same : old.source ≡ from = ap g.I.Input.source n.input in
    let told : IsTrue old.source.told = subst (λ (s : Source). IsTrue s.told) (sym same) c.requires.told in
    let k = ((c.read_body-output.ensures.call reads).keeps old (keeps_none old)).cost told in
    inside_pays c.into_reads.result c.read_body-output.new.reader.reads c.new-reader.result.reads (length from.left) (length old.source.left) _ _ c.into_reads.ensures n.reads (ap (λ (s : Source). length s.left) same) k.1

pub returns-clause-memory : goal.returns-clause-memory
returns-clause-memory g c = λ plain whole.
    let n = c.new-reader.ensures in
    c.read_body-output.ensures.memory (subst (λ k. g.M.OfBody.plain (configuration_of k)) (sym n.config) plain)
    (subst (λ i. IsTrue (g.I.Input.source i).whole) (sym n.input) whole)
