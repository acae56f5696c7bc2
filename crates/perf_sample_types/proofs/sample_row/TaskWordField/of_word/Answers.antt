use Rattle.std.proofs.Common.{◌≡◌, ◌+◌, Some, drop, length, sym, ◌∙◌, ap, arith, length-drop}
use Rattle.std.proofs.lemmas.List.{length-take-le, take_all}
use Rattle.perf_base.specs.Layout.{slice}
use Rattle.perf_base.specs.Took.{took}
use Rattle.perf_sample_types.specs.Sample.{task_is}
use Rattle.perf_sample_types.proofs.RowFields.{word_task}
use Rattle.perf_sample_types.proofs.sample_row.TaskWordField.of_word.Goals as goal

pub returns : goal.returns
returns g c =
    let o = g.E.Endian.order c.args.order.now in
    let word = c.args.word in record {
      runs = λ settings bytes n fits is.
          let eight : length word ≡ 8 = sym (ap length is) ∙ length-take-le 8 bytes fits in
          let last : slice word 4 4 ≡ drop 4 word = take_all 4 (drop 4 word) (omega (arith, length-drop 4 word, eight)) in
          word_task o bytes word n fits is
          ∙ ap (λ v. took (task_is (Some v) (Some (o.four (drop 4 word)))) (drop 8 bytes) (n + 2)) (sym c.first_half.ensures)
          ∙ ap (λ v. took (task_is (Some c.first_half.result) (Some v)) (drop 8 bytes) (n + 2)) (sym (ap o.four last) ∙ sym c.second_half.ensures);
    }
