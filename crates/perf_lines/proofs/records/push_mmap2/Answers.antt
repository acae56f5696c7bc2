use Rattle.std.proofs.Common.{◌≡◌, ◌++◌, ◌∙◌, ◌∷◌, [], List, ℕ, codes, string_bytes, refl, ap, append_assoc}
use Rattle.std.proofs.lemmas.Result.{on_ok_weaker}
use Rattle.perf_types.specs.MmapDetail.{detail_value}
use Rattle.perf_lines.specs.Fields.{with_spaces, number, field}
use Rattle.perf_text.specs.Numbers.{hex_bytes}
use Rattle.perf_lines.specs.Text.{detail_words}
use Rattle.perf_lines.proofs.Spaced.{words_more, last_word}
use Rattle.perf_lines.proofs.records.push_mmap2.Goals as goal

pub returns : goal.returns
returns c =
    let r = c.args.mapped.now in
    let front : List (List ℕ) = codes "Mmap2" ∷ number (codes "pid") r.pid ∷ number (codes "tid") r.tid ∷ number (codes "addr") r.addr ∷ number (codes "len") r.len ∷ number (codes "pgoff") r.pgoff ∷ [] in
    let detail : List (List ℕ) = detail_words (detail_value r.detail) in
    let back : List (List ℕ) = number (codes "prot") r.prot ∷ number (codes "flags") r.flags ∷ [] in
    let word : List ℕ = field (codes "filename") (hex_bytes c.as_slice.result.now) in
    let first : string_bytes c.push_fields.new.text ≡ string_bytes c.args.text.now ++ with_spaces front =
    c.in_ok-push_fields.ensures ∙ rw (c.from.ensures, c.from-2.ensures) refl in
    let second = words_more front detail _ _ _ first c.in_ok-push_detail.ensures in
    let more : string_bytes c.push_fields-2.new.text ≡ string_bytes c.push_detail.new.text ++ with_spaces back =
    c.in_ok-push_fields-2.ensures ∙ rw (c.from-3.ensures, c.from-4.ensures) refl in
    let third = words_more (front ++ detail) back _ _ _ second more in
    let all = last_word c.push_hex.result ((front ++ detail) ++ back) word _ _ _ third c.push_hex.ensures in
    on_ok_weaker c.push_hex.result
    (λ last. last ∙ ap (λ rest. string_bytes c.args.text.now ++ with_spaces (front ++ rest)) (append_assoc detail back (word ∷ [])) ∙ rw c.as_slice.ensures refl)
    all
