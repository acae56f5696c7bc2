use Rattle.std.proofs.Common.{◌∙◌, sym}
use Rattle.perf_base.specs.Dynamic.{order_of}
use Rattle.perf_walk.proofs.Fields.{fields_of}
use Rattle.perf_walk.proofs.Filtered.{taken_at, taken_unnamed}
use Rattle.perf_walk.proofs.walk.Walk.takes.Goals as goal

pub returns-then-is_empty : goal.returns-then-is_empty
returns-then-is_empty c = λ f m s found is past sampled same.
    let flat = c.args.self.now.frame in
    let fields = fields_of m.config (order_of f.order) m.frame s flat is.states sampled in
    c.takes_numbers.ensures ∙ taken_unnamed c.args.filter.now m flat.misc s flat.present c.args.sample.now fields same (sym c.is_empty.ensures ∙ c.if-is_empty.true)

pub returns-else-is_empty : goal.returns-else-is_empty
returns-else-is_empty c = λ f m s found is past sampled same.
    let flat = c.args.self.now.frame in
    let fields = fields_of m.config (order_of f.order) m.frame s flat is.states sampled in
    c.takes_sample.ensures ∙ taken_at c.args.filter.now m flat.misc s flat.present c.args.sample.now c.comm.result fields same (c.comm.ensures m.known past)
