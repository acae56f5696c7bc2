use Rattle.std.proofs.Common.{◌≡◌, ◌++◌, ◌∙◌, ◌∷◌, [], List, ℕ, codes, string_bytes, refl}
use Rattle.perf_lines.specs.Fields.{with_spaces, number, field}
use Rattle.perf_text.specs.Numbers.{hex_bytes}
use Rattle.perf_lines.proofs.Spaced.{last_word}
use Rattle.perf_lines.proofs.records.push_comm.Goals as goal

pub returns : goal.returns
returns c =
    let r = c.args.comm.now in
    let words : List (List ℕ) = codes "Comm" ∷ number (codes "pid") r.pid ∷ number (codes "tid") r.tid ∷ [] in
    let first : string_bytes c.push_fields.new.text ≡ string_bytes c.args.text.now ++ with_spaces words =
    c.in_ok-push_fields.ensures ∙ rw (c.from.ensures, c.from-2.ensures) refl in
    rw c.as_slice.ensures at (last_word c.push_hex.result words (field (codes "comm") (hex_bytes c.as_slice.result.now)) _ _ _ first c.push_hex.ensures)
