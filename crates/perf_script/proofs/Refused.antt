-- Whether a flat frame is refused.
use Rattle.std.proofs.Common.{◌≡◌, ℕ, ◌==◌, false, not, List, refl, sym, ◌∙◌, ap}
use Rattle.std.specs.Prelude.{Result, Ok, Err, is_err}
use Rattle.perf_base.specs.Configuration.{Configuration}
use Rattle.perf_base.specs.Order.{Order}
use Rattle.perf_base.specs.Refusals.{refusal_kind}
use Rattle.perf_base.specs.declared.error.ErrorKind.{ErrorKind}
use Rattle.perf_base.specs.declared.error.ErrorKind.TheVariants as kind
use Rattle.perf_flat.specs.Flat.{IsFlat, StatesAnswer, kind_code}
use Rattle.perf_flat.specs.declared.frame.FlatFrame.{FlatFrame}
use Rattle.perf_records.specs.Answers.{FrameParts, answer_of_frame, split_of_frame}
use Rattle.perf_records.specs.Records.{RecordValue}

code_some : (k : ErrorKind) → (kind_code k == 0) ≡ false
code_some kind.Eof = refl
code_some kind.InvalidRecord = refl
code_some kind.UnsupportedConfig = refl
code_some kind.UnsupportedData = refl
code_some kind.External = refl
code_some kind.OutOfMemory = refl

refused : (c : Configuration) (o : Order) (frame : List ℕ) (split : Result FrameParts ErrorKind) (a : Result RecordValue ErrorKind) (f : FlatFrame) → StatesAnswer c o frame split a f → is_err a ≡ not (f.refusal == 0)
refused c o frame (Ok parts) (Ok v) f states = ap (λ n. not (n == 0)) (sym states.0.refusal)
refused c o frame (Err k) (Ok v) f states = absurd states
refused c o frame (Ok parts) (Err k) f states =
    sym (ap (λ (g : FlatFrame). not (g.refusal == 0)) states.is ∙ ap not (code_some (refusal_kind states.told)))
refused c o frame (Err j) (Err k) f states =
    sym (ap (λ (g : FlatFrame). not (g.refusal == 0)) states.is ∙ ap not (code_some (refusal_kind states.told)))

-- whether a frame is refused
pub refused_is : (c : Configuration) (o : Order) (frame : List ℕ) (f : FlatFrame) → IsFlat c o frame f → is_err (answer_of_frame c o frame) ≡ not (f.refusal == 0)
refused_is c o frame f is = refused c o frame (split_of_frame c o frame) (answer_of_frame c o frame) f is.answer
