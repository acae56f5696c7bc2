use Rattle.std.proofs.Common.{◌∙◌, append_assoc, append-nil}
use Rattle.std.proofs.lemmas.Result.{on_ok_weaker}
use Rattle.perf_lines.proofs.records.push_text_poke.Goals as goal

pub returns : goal.returns
returns c =
    on_ok_weaker c.push_hex-2.result
    (λ last. last ∙ rw (c.in_ok-push_hex.ensures, c.in_ok-push_fields.ensures, c.as_slice.ensures, c.as_slice-2.ensures) (simp (append_assoc, append-nil)))
    c.push_hex-2.ensures
