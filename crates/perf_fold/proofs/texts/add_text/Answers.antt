use Rattle.std.proofs.Common.{refl, subst, Some, None}
use Rattle.std.specs.Prelude.{Err}
use Rattle.perf_flame.specs.FoldedLines.{folded_lines}
use Rattle.perf_flame.specs.Reading.{Reads}
use Rattle.perf_flame.specs.declared.error.FoldedError.{FoldedError}
use Rattle.perf_fold.proofs.AddingTexts.{adds, refuses}
use Rattle.perf_fold.proofs.texts.add_text.Goals as goal

pub returns-in-Ok-clause-read : goal.returns-in-Ok-clause-read
returns-in-Ok-clause-read c = refuses c.args.text.now (folded_lines c.args.folded.now) (folded_lines c.read_lines.new.folded) None c.in-Ok.ensures

pub returns-in-Ok-clause-added : goal.returns-in-Ok-clause-added
returns-in-Ok-clause-added c = adds c.args.text.now (folded_lines c.args.folded.now) (folded_lines c.read_lines.new.folded) None c.in-Ok.ensures

pub returns-in-Err-BadLine-clause-refused : goal.returns-in-Err-BadLine-clause-refused
returns-in-Err-BadLine-clause-refused c = (
  refl,
  refuses c.args.text.now (folded_lines c.args.folded.now) (folded_lines c.read_lines.new.folded) (Some c.in-Err-BadLine.line)
      (subst (λ (e : FoldedError). Reads (folded_lines c.args.folded.now) c.args.text.now (Err e) (folded_lines c.read_lines.new.folded)) c.in-Err-BadLine.field-0-is c.in-Err-BadLine.ensures),
)
