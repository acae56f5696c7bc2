use Rattle.std.proofs.Common.{◌≡◌, ℕ, ◌+◌, ◌-◌, ◌≤◌, List, ◌++◌, length, take, drop, subst, sym, ap, ◌∙◌, arith, length-take-le}
use Rattle.std.specs.Str.{IsUtf8}
use Rattle.std.proofs.lemmas.List.{drop_at, drop-drop}
use Rattle.std.proofs.lemmas.Str.{IsUtf8-append, IsUtf8-had}
use borrow.Rule.Slice.PartMut.{put_mid}
use Rattle.perf_text.proofs.strip.Strip.put.Goals as goal

-- what begins at a word that ends where the text began
from_word : (bytes word : List ℕ) (start : ℕ) → length word ≤ start → start ≤ length bytes → drop (start - length word) (put_mid (start - length word) (start - (start - length word)) bytes word) ≡ word ++ drop start bytes
from_word bytes word start short within =
    let a : ℕ = start - length word in
    let same : a + (start - a) ≡ start = omega arith in
    drop_at (take a bytes) _ a (length-take-le a bytes (omega arith))
    ∙ ap (λ rest. word ++ rest) (drop-drop (start - a) a bytes ∙ ap (λ n. drop n bytes) same)

pub invariant_of-self : goal.invariant_of-self
invariant_of-self c =
    let s = c.args.self.now in
    let word : List ℕ = c.args.word.now in
    let start : ℕ = s.start - length word in
    let copied = c.copy_from_slice.ensures.after ∙ c.as_bytes.ensures.value in
    let text = IsUtf8-append word (drop s.start s.bytes) c.utf8.word (IsUtf8-had _ s.is_text) in record {
      within = omega arith;
      is_text = ∣ subst (λ part. IsUtf8 (drop start (put_mid start (s.start - start) s.bytes part))) (sym copied) (subst IsUtf8 (sym (from_word s.bytes word s.start (omega arith) (omega arith))) text) ∣₁;
    }
