use Rattle.std.proofs.Common.{◌<◌, length, ap, sym, subst, ◌∙◌, arith}
use Rattle.std.specs.Prelude.{ℕ}
use Rattle.std.proofs.lemmas.Result.{err_from_is_err_and}
use Rattle.perf_flame.specs.FoldedLines.{folded_lines}
use Rattle.perf_flame.specs.Lines.{add_lines}
use Rattle.perf_fold.specs.Sums.{sums_of, refused_line, IsRefused}
use Rattle.perf_fold.proofs.AddingTexts.{more_read, more_sums, refused_sum}
use Rattle.perf_fold.proofs.texts.read_texts.Goals as goal

pub returns-in_err-add_text : goal.returns-in_err-add_text
returns-in_err-add_text c =
    let texts = c.args.texts.now in
    let i : ℕ = c.loop-index.index in
    let t = c.index-texts-index.result in
    let e = c.in_err-add_text.field-0.0 in
    let bad : IsRefused i t.items e = subst (λ text. IsRefused i text e) c.deref.ensures.value c.in_err-add_text.ensures.refused in
    let found = refused_sum e texts i t (omega (arith, c.loop-index-test.true)) c.index-texts-index.is c.loop-index.invariant.read bad in
    let p = err_from_is_err_and c.from_residual.result c.from_residual.ensures.1 in
    rw (p.1, p.2) found

pub loop-index-preserved : goal.loop-index-preserved
loop-index-preserved c =
    let texts = c.args.texts.now in
    let i : ℕ = c.loop-index.index in
    let t = c.index-texts-index.result in
    let below : i < length texts = omega (arith, c.loop-index-test.true) in
    let same = c.deref.ensures.value in
    record {
      read = more_read texts i t below c.index-texts-index.is c.loop-index.invariant.read (ap refused_line (sym same) ∙ c.in_ok-add_text.ensures.read);
      sums = more_sums texts i t (folded_lines c.loop-index.folded) (folded_lines c.add_text.new.folded) below c.index-texts-index.is c.loop-index.invariant.sums
          (c.in_ok-add_text.ensures.added ∙ ap (λ text. add_lines (folded_lines c.loop-index.folded) (sums_of text)) same);
    }
