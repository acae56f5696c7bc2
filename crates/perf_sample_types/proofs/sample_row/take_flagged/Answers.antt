use Rattle.std.proofs.Common.{rules, ◌+◌, ◌≤◌, ◌==◌, option_map, sym, ◌∙◌, ap, subst}
use Rattle.std.specs.Int.RustNames.{bit_and}
use Rattle.perf_base.specs.Table.{present_if}
use Rattle.perf_words.specs.SetBits.{sample_flags_bits}
use Rattle.perf_sample_types.specs.Sample.{settings_of}
use Rattle.perf_sample_types.specs.SampleRows.{TakesField}
use Rattle.perf_sample_types.proofs.RowFields.{field_taken, field_not_taken}
use Rattle.perf_sample_types.proofs.sample_row.take_flagged.Goals as goal

pub returns-then-not-contains : goal.returns-then-not-contains
returns-then-not-contains g c settings =
    subst (λ place. TakesField (g.E.Endian.order c.args.order.now) (present_if (bit_and (sample_flags_bits c.args.flags) (sample_flags_bits c.args.flag) == sample_flags_bits c.args.flag) (g.T.SampleField.parts (settings_of settings))) (option_map g.T.SampleField.value place) c.args.row.now c.args.row.now)
    (sym c.requires)
    (field_not_taken _ _ _ c.args.row.now (search rules))

pub returns-in-Some : goal.returns-in-Some
returns-in-Some g c settings =
    field_taken _ _ _ _ c.in-Some.word.now g.T.WordField.reads c.args.row.now (record { left = c.in-Some.left; reads = c.add.new.self }) (search rules)
    (search rules) (search rules) (search rules)
    (c.add.ensures ∙ ap (λ k. c.args.row.now.reads + k) c.reads.ensures.count)
    (subst (λ k. k ≤ 8) c.reads.ensures.count c.reads.ensures.few)
    (c.of_word.ensures.runs (settings_of settings))
