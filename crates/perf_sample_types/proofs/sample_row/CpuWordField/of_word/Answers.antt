use Rattle.std.proofs.Common.{◌+◌, drop, sym, ◌∙◌, ap}
use Rattle.perf_base.specs.Took.{took}
use Rattle.perf_sample_types.specs.Sample.{number_is}
use Rattle.perf_sample_types.proofs.RowFields.{word_cpu}
use Rattle.perf_sample_types.proofs.sample_row.CpuWordField.of_word.Goals as goal

pub returns : goal.returns
returns g c = record {
  runs = λ settings bytes n fits is.
      word_cpu (g.E.Endian.order c.args.order.now) bytes c.args.word n fits is
      ∙ ap (λ v. took (number_is v) (drop 8 bytes) (n + 2)) (sym c.first_half.ensures);
}
