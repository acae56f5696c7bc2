-- How runs compose, and which bytes they depend on.
use Rattle.std.proofs.Common.{◌≡◌, ℕ, ◌≤◌, true, false, List, [], ◌++◌, length, take, drop, refl, sym, ◌∙◌, ap, inl, inr, arith}
use Rattle.std.proofs.lemmas.List.{length-append, length-take-le, take-append-le, drop-append-le, take-append-drop, append_assoc, take_at, drop_at}
use Rattle.std.proofs.lemmas.Bool.{cases_lt}
use Rattle.perf_base.specs.Order.{Order}
use Rattle.perf_base.specs.Layout.{Shape, number, optional, byte_string, words, padding, rest, shape_value, size, Parts, done, part, check, ◌>>=◌}
use Rattle.perf_base.specs.Run.{ran, run_parts}
use Rattle.perf_base.specs.Splice.{IsBounded, Closed}
use Rattle.perf_base.proofs.Bridge.{run_yes, run_no}

-- ---- one after another
pub then_ok : {A B : Type 0} (o : Order) (p : Parts A) (f : A → Parts B) (bytes : List ℕ) (v : A) (left : List ℕ) →
    run_parts o p bytes ≡ ran v left → run_parts o (p >>= f) bytes ≡ run_parts o (f v) left
then_ok o (done x) f bytes v left e =
    let same : x ≡ v = cc in
    let same' : bytes ≡ left = cc in
    cc
then_ok o (check true k p) f bytes v left e = then_ok o p f bytes v left e
then_ok o (check false k p) f bytes v left e = cc
then_ok o (part shape k) f bytes v left e =
    let n : ℕ = size shape (length bytes) in
    elim (cases_lt (length bytes) n) [
      | inl short ↦ cc (run_no o shape k bytes short)
      | inr fits ↦
          run_yes o shape (λ a. k a >>= f) bytes n refl fits
          ∙ then_ok o (k (shape_value o shape (take n bytes))) f (drop n bytes) v left (sym (run_yes o shape k bytes n refl fits) ∙ e)
    ]

pub then_inv : {A B : Type 0} (o : Order) (p : Parts A) (f : A → Parts B) (bytes : List ℕ) (y : B) (left : List ℕ) →
    run_parts o (p >>= f) bytes ≡ ran y left →
    (v : A) × (between : List ℕ) × (run_parts o p bytes ≡ ran v between) × (run_parts o (f v) between ≡ ran y left)
then_inv o (done x) f bytes y left e = (x, bytes, refl, e)
then_inv o (check true k p) f bytes y left e = then_inv o p f bytes y left e
then_inv o (check false k p) f bytes y left e = absurd (cc)
then_inv o (part shape k) f bytes y left e =
    let n : ℕ = size shape (length bytes) in
    elim (cases_lt (length bytes) n) [
      | inl short ↦ absurd (cc (run_no o shape (λ a. k a >>= f) bytes short))
      | inr fits ↦
          let again = then_inv o (k (shape_value o shape (take n bytes))) f (drop n bytes) y left (sym (run_yes o shape (λ a. k a >>= f) bytes n refl fits) ∙ e) in
          (again.0, again.1, run_yes o shape k bytes n refl fits ∙ again.2, again.3)
    ]

-- ---- the bytes after what is read
pub bounded : (shape : Shape) → IsBounded shape → (m n : ℕ) → size shape m ≡ size shape n
bounded (number w) h m n = refl
bounded (byte_string k) h m n = refl
bounded (words k) h m n = refl
bounded (padding k) h m n = refl
bounded rest h m n = absurd h
bounded (optional true w) h m n = refl
bounded (optional false w) h m n = refl

pub run_more : {A : Type 0} (o : Order) (p : Parts A) (w : List ℕ) (v : A) (left more : List ℕ) → Closed p →
    run_parts o p w ≡ ran v left → run_parts o p (w ++ more) ≡ ran v (left ++ more)
run_more o (done x) w v left more closed e =
    let same : x ≡ v = cc in
    let same' : w ≡ left = cc in
    cc
run_more o (check true k p) w v left more closed e = run_more o p w v left more closed e
run_more o (check false k p) w v left more closed e = cc
run_more o (part shape k) w v left more closed e =
    let n : ℕ = size shape (length w) in
    elim (cases_lt (length w) n) [
      | inl short ↦ cc (run_no o shape k w short)
      | inr fits ↦
          let more_fits : n ≤ length (w ++ more) = omega (arith, length-append w more) in
          run_yes o shape k (w ++ more) n (bounded shape closed.0 _ _) more_fits
          ∙ rw (take-append-le n w more fits, drop-append-le n w more fits)
          (run_more o (k (shape_value o shape (take n w))) (drop n w) v left more (closed.1 _) (sym (run_yes o shape k w n refl fits) ∙ e))
    ]

-- only the bytes that are read
pub run_front : {A : Type 0} (o : Order) (p : Parts A) (bytes : List ℕ) (v : A) (left : List ℕ) → Closed p →
    run_parts o p bytes ≡ ran v left → (w : List ℕ) × (bytes ≡ w ++ left) × (run_parts o p w ≡ ran v [])
run_front o (done x) bytes v left closed e =
    let same : x ≡ v = cc in
    let same' : bytes ≡ left = cc in
    ([], same', cc)
run_front o (check true k p) bytes v left closed e = run_front o p bytes v left closed e
run_front o (check false k p) bytes v left closed e = absurd (cc)
run_front o (part shape k) bytes v left closed e =
    let n : ℕ = size shape (length bytes) in
    elim (cases_lt (length bytes) n) [
      | inl short ↦ absurd (cc (run_no o shape k bytes short))
      | inr fits ↦
          let again = run_front o (k (shape_value o shape (take n bytes))) (drop n bytes) v left (closed.1 _) (sym (run_yes o shape k bytes n refl fits) ∙ e) in
          let exactly : length (take n bytes) ≡ n = length-take-le n bytes fits in
          let whole : take n bytes ++ drop n bytes ≡ bytes = take-append-drop n bytes in (
            take n bytes ++ again.0,
            sym whole ∙ ap (λ r. take n bytes ++ r) again.1 ∙ sym (append_assoc (take n bytes) again.0 left),
            run_yes o shape k (take n bytes ++ again.0) n (bounded shape closed.0 _ _) (omega (arith, length-append (take n bytes) again.0))
                ∙ rw (take_at (take n bytes) again.0 n exactly, drop_at (take n bytes) again.0 n exactly) again.2,
          )
    ]
