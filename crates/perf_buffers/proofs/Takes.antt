-- Reads one after another.
use Rattle.std.proofs.Common.{rules, ◌≡◌, ℕ, ◌+◌, ◌-◌, ◌≤◌, Bool, List, length, take, drop, arith, sym, ◌∙◌, ap, ◌++◌, length-drop, [], refl}
use Rattle.std.proofs.lemmas.List.{append_assoc, drop-drop, take_at, drop_at, take-append-le, length-take-le, take_all}
use Rattle.std.proofs.Math.Seq.{take-add}
use borrow.Rule.Slice.PartMut.{put_mid, post_of}
use Rattle.std.proofs.lemmas.Slice.{overwrites}
use Rattle.std.proofs.lemmas.List.Folds.{list_all-append}
use Rattle.std.specs.Prelude.{◌==◌, ◌&&◌}
use Rattle.perf_base.specs.Zeros.{all_zero}
use Rattle.perf_buffers.specs.Buffer.{Source}
use Rattle.perf_buffers.specs.Taking.{Takes, Moves, bytes_between, FailsInRest}
use Rattle.perf_base.specs.declared.error.ErrorKind.{ErrorKind}
use Rattle.perf_base.specs.declared.error.ErrorKind.TheVariants.{Eof, InvalidRecord, UnsupportedConfig, UnsupportedData, External, OutOfMemory}

pub takes_more : (a b c : Source) (n k : ℕ) → Takes a n b → Takes b k c → Takes a (n + k) c
takes_more a b c n k p q =
    let e : length b.left ≡ length a.left - n = ap length p.1 ∙ length-drop n a.left in
    (omega arith, q.1 ∙ ap (λ xs. drop k xs) p.1 ∙ drop-drop k n a.left)

pub take_on : (a n : ℕ) (out part left : List ℕ) → a ≤ length out → length part ≡ length out - a → n ≤ length part → take a out ≡ take a left → take n part ≡ take n (drop a left) → take (a + n) (put_mid a (length out - a) out part) ≡ take (a + n) left
take_on a n out part left le same within p q =
    let rest : List ℕ = post_of a (length out - a) out in
    let at : length (take a out) ≡ a = length-take-le a out le in
    take-add a n (take a out ++ (part ++ rest)) ∙ rw (take_at (take a out) (part ++ rest) a at, drop_at (take a out) (part ++ rest) a at, take-append-le n part rest within, p, q) (sym (take-add a n left))

pub length_on : (a n : ℕ) (out part : List ℕ) → a ≤ length out → length part ≡ length out - a → n ≤ length part → a + n ≤ length (put_mid a (length out - a) out part)
length_on a n out part le same within = search (rules, overwrites)

pub append_on : (start now out left rest : List ℕ) (a n : ℕ) → now ≡ start ++ take a left → rest ≡ drop a left → out ≡ now ++ take n rest → out ≡ start ++ take (a + n) left
append_on start now out left rest a n p q r = r ∙ rw (p, q, take-add a n left) (append_assoc start (take a left) (take n (drop a left)))

pub moves_more : (a b c : Source) → Moves a b → Moves b c → Moves a c
moves_more a b c p q =
    let e : bytes_between a b + bytes_between b c ≡ bytes_between a c = omega arith in
    (omega arith, q.1 ∙ ap (λ xs. drop (bytes_between b c) xs) p.1 ∙ drop-drop (bytes_between b c) (bytes_between a b) a.left ∙ ap (λ n. drop n a.left) e)

pub took_all : (n : ℕ) (first xs left : List ℕ) → first ≡ take n xs → left ≡ drop n xs → left ≡ [] → first ≡ xs
took_all n first xs left p q r =
    let short : length (drop n xs) ≡ 0 = ap length (sym q ∙ r) in
    p ∙ take_all n xs (omega (arith, length-drop n xs))

pub takes_moves : (a b : Source) (n : ℕ) → Takes a n b → Moves a b
takes_moves a b n p =
    let left : length b.left ≡ length a.left - n = ap length p.1 ∙ length-drop n a.left in
    let taken : bytes_between a b ≡ n = omega arith in
    (omega arith, p.1 ∙ sym (ap (λ k. drop k a.left) taken))

-- a read of all that is left, after some bytes were taken
pub rest_more : (a b c : Source) (n : ℕ) (e : ErrorKind) → Takes a n b → FailsInRest b e c → FailsInRest a e c
rest_more a b c n Eof p h = h
rest_more a b c n External p h = moves_more a b c (takes_moves a b n p) h
rest_more a b c n InvalidRecord p h = h
rest_more a b c n UnsupportedConfig p h = h
rest_more a b c n UnsupportedData p h = h
rest_more a b c n OutOfMemory p h = moves_more a b c (takes_moves a b n p) h

-- some bytes, and then others
pub zero_on : (a n : ℕ) (left rest : List ℕ) (was more now : Bool) → rest ≡ drop a left → was ≡ all_zero (take a left) → more ≡ all_zero (take n rest) → now ≡ (was && more) → now ≡ all_zero (take (a + n) left)
zero_on a n left rest was more now after p q r =
    r ∙ rw (p, q, after) refl ∙ sym (list_all-append (λ byte. byte == 0) (take a left) (take n (drop a left))) ∙ ap all_zero (sym (take-add a n left))
