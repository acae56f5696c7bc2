use Rattle.std.proofs.Common.{◌/◌, Option, ℕ, ap, ◌∙◌, arith}
use Rattle.perf_base.specs.Dynamic.{order_of}
use Rattle.perf_sections.specs.declared.descriptions.EventKey.{EventKey}
use Rattle.perf_sections.proofs.NamePlacing.{first_word}
use Rattle.perf_sections.proofs.naming_events.key_of.Goals as goal

pub returns-clause-value : goal.returns-clause-value
returns-clause-value c =
    let attr = c.args.attr.now in
    let s = c.args.section in
    let made = λ (id : Option ℕ). let key : EventKey = record { type_ = attr.type_; config = attr.config; id = id } in key in
    c.key_at.ensures.value ∙ ap made (first_word (order_of c.args.order) c.args.bytes.now s.start (s.size / 8) (omega (arith, c.requires)))
