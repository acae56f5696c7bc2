-- Namespaces, in the value of a record, in bytes, and at the span of a flat frame.
use Rattle.std.proofs.Common.{◌≡◌, ℕ, zero, suc, ◌+◌, ◌-◌, ◌*◌, ◌/◌, ◌≤◌, ◌<◌, true, List, [], ◌∷◌, ◌++◌, length, take, drop, refl, sym, ◌∙◌, ap, arith}
use Rattle.std.specs.Prelude.{nat_le}
use Rattle.std.proofs.lemmas.Bool.{le-leb}
use Rattle.std.proofs.lemmas.List.{length-take-le, length-drop, drop-drop}
use Rattle.perf_base.specs.Layout.{slice, words_of}
use Rattle.perf_base.specs.Order.{Order}
use Rattle.perf_flat.specs.Strings.{HasNumbers}
use Rattle.perf_flat.specs.declared.frame.Span.{Span}
use Rattle.perf_types.specs.Namespaces.{namespace_entries}
use Rattle.perf_types.specs.declared.namespaces.NamespaceEntry.{NamespaceEntry}
use Rattle.perf_walk.specs.Parts.{bytes_at}
use Rattle.perf_script.specs.FlatLines.{namespaces_at, namespaces_in}
use Rattle.perf_script.specs.NamespaceText.{gap_before, namespace_text, namespaces_from}

-- those in bytes are those of their numbers
at_words : (o : Order) (k n : ℕ) (bytes : List ℕ) → n ≡ 2 * k → namespaces_at o k bytes ≡ namespace_entries (words_of o n bytes)
at_words o zero zero bytes e = refl
at_words o zero (suc n) bytes e = absurd (omega (arith, e))
at_words o (suc k) zero bytes e = absurd (omega (arith, e))
at_words o (suc k) (suc zero) bytes e = absurd (omega (arith, e))
at_words o (suc k) (suc (suc n)) bytes e =
    let first : NamespaceEntry = record { dev = o.eight (take 8 bytes); inode = o.eight (take 8 (drop 8 bytes)) } in
    ap (λ rest. first ∷ rest) (ap (namespaces_at o k) (sym (drop-drop 8 8 bytes)) ∙ at_words o k n (drop 8 (drop 8 bytes)) (omega (arith, e)))

slice_length : (frame : List ℕ) (at len : ℕ) → at + len ≤ length frame → length (slice frame at len) ≡ len
slice_length frame at len inside =
    let long = length-drop at frame in
    length-take-le len (drop at frame) (omega (arith, long, inside))

-- those of a record are at its span
pub namespaces_here : (o : Order) (frame : List ℕ) (s : Span) (entries : List NamespaceEntry) → HasNumbers o frame s (2 * length entries) (λ words. namespace_entries words ≡ entries)
    → namespaces_in o (bytes_at frame s) ≡ entries
namespaces_here o frame s entries has =
    let bytes : List ℕ = slice frame s.at s.len in
    let n : ℕ = length entries in
    let inside : nat_le (s.at + s.len) (length frame) ≡ true = le-leb (s.at + s.len) (length frame) has.inside in
    let long : length bytes ≡ s.len = slice_length frame s.at s.len has.inside in
    let many : s.len ≡ 8 * (2 * n) = has.many in
    let count : length bytes / 16 ≡ n = omega (arith, long, many) in
    rw inside (ap (λ k. namespaces_at o k bytes) count ∙ at_words o n (2 * n) bytes refl ∙ has.there)

-- how many there are
pub namespaces_count : (o : Order) (n : ℕ) (bytes : List ℕ) → length (namespaces_at o n bytes) ≡ n
namespaces_count o zero bytes = refl
namespaces_count o (suc n) bytes = ap suc (namespaces_count o n (drop 16 bytes))

-- one less is after the first
pub fewer : (n m : ℕ) → 16 ≤ n → m ≡ n - 16 → n / 16 ≡ suc (m / 16)
fewer n m fits is = omega (arith, fits, is)

-- the text of the first, and of those after it
pub first_text : (o : Order) (index : ℕ) (bytes after : List ℕ) → 16 ≤ length bytes → after ≡ drop 16 bytes
    → namespaces_from index (namespaces_in o bytes)
    ≡ gap_before index ++ (namespace_text index (o.eight (take 8 bytes)) (o.eight (take 8 (drop 8 bytes))) ++ namespaces_from (suc index) (namespaces_in o after))
first_text o index bytes after fits is =
    let less : length bytes / 16 ≡ suc (length after / 16) = fewer (length bytes) (length after) fits (ap length is ∙ length-drop 16 bytes) in
    let device : ℕ = o.eight (take 8 bytes) in
    let inode : ℕ = o.eight (take 8 (drop 8 bytes)) in
    ap (λ n. namespaces_from index (namespaces_at o n bytes)) less
    ∙ ap (λ rest. gap_before index ++ (namespace_text index device inode ++ namespaces_from (suc index) (namespaces_at o (length after / 16) rest))) (sym is)

-- none are in fewer bytes
pub none_text : (o : Order) (index : ℕ) (bytes : List ℕ) → length bytes < 16 → namespaces_from index (namespaces_in o bytes) ≡ []
none_text o index bytes short =
    let none : length bytes / 16 ≡ 0 = omega (arith, short) in
    ap (λ n. namespaces_from index (namespaces_at o n bytes)) none
