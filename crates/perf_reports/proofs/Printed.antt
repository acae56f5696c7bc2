-- What is written in steps.
use Rattle.std.proofs.Common.{◌≡◌, ℕ, ◌≤◌, Bool, true, false, List, [], ◌++◌, ◌∙◌, Option, Some, None, Result, Ok, Err, OnOk, is_ok, length, take, drop, refl, sym, ap, subst, arith, append_assoc, append-nil}
use Rattle.std.specs.Prelude.{IfErr, IsErr, IsErrAnd, is_err, if◌then◌else◌}
use Rattle.std.specs.Io.KnownBytes.{Appends, Keeps}
use Rattle.std.proofs.lemmas.List.{take-append-drop}
use lib.Seq.{drop_at}
use Rattle.perf_reports.specs.Printing.{Grows, GrowsWithin}
use Rattle.perf_text.proofs.Written.{appends_more, appends_nothing}

pub grown : (a b c : Option (List ℕ)) (waited between waits first second : List ℕ) → Grows a b waited between first → Grows b c between waits second → Grows a c waited waits (first ++ second)
grown None b c waited between waits first second p q = tt
grown (Some xs) None c waited between waits first second p q = absurd p
grown (Some xs) (Some ys) None waited between waits first second p q = absurd q
grown (Some xs) (Some ys) (Some zs) waited between waits first second p q =
    q ∙ sym (append_assoc ys between second) ∙ ap (λ s. s ++ second) p ∙ append_assoc xs (waited ++ first) second ∙ ap (λ s. xs ++ s) (append_assoc waited first second)

-- all that waited is written
pub sent : (a b : Option (List ℕ)) (waited waits : List ℕ) → Appends a b waited → waits ≡ [] → Grows a b waited waits []
sent None b waited waits p q = tt
sent (Some xs) None waited waits p q = absurd p
sent (Some xs) (Some ys) waited waits p q = rw (q, append-nil ys, append-nil waited) p

-- nothing was written yet
pub none_sent : (a : Option (List ℕ)) (waited : List ℕ) → Grows a a waited waited []
none_sent None waited = tt
none_sent (Some xs) waited = ap (λ s. xs ++ s) (sym (append-nil waited))

-- what waits is written after the rest
pub flushed : (a b c : Option (List ℕ)) (waited waits text : List ℕ) → Grows a b waited waits text → Appends b c waits → Appends a c (waited ++ text)
flushed None b c waited waits text p q = tt
flushed (Some xs) None c waited waits text p q = absurd p
flushed (Some xs) (Some ys) None waited waits text p q = absurd q
flushed (Some xs) (Some ys) (Some zs) waited waits text p q = q ∙ p

-- ---- a part of what was to be written

cancel : (xs ys zs : List ℕ) → xs ++ ys ≡ xs ++ zs → ys ≡ zs
cancel xs ys zs e = sym (drop_at xs ys (length xs) refl) ∙ ap (drop (length xs)) e ∙ drop_at xs zs (length xs) refl

pub taken : (n : ℕ) (xs : List ℕ) → take n xs ++ drop n xs ≡ xs
taken n xs = take-append-drop n xs

pub within : (a b : Option (List ℕ)) (text more : List ℕ) → (n : ℕ) × Appends a b (take n text) → GrowsWithin a b (text ++ more)
within a b text more (n, p) = (take n text, drop n text ++ more, sym (append_assoc (take n text) (drop n text) more) ∙ ap (λ s. s ++ more) (taken n text), p)

pub longer : (a b : Option (List ℕ)) (text more : List ℕ) → GrowsWithin a b text → GrowsWithin a b (text ++ more)
longer a b text more (written, left, e, p) = (written, left ++ more, sym (append_assoc written left more) ∙ ap (λ s. s ++ more) e, p)

-- a part of the second text is written after a part of the first, of which the rest waited
pub within_more : (a b c : Option (List ℕ)) (waited between first second : List ℕ) → GrowsWithin a b (waited ++ first) → Grows a b waited between first → GrowsWithin b c (between ++ second) → GrowsWithin a c (waited ++ (first ++ second))
within_more None b c waited between first second p q r = ([], waited ++ (first ++ second), refl, tt)
within_more (Some xs) None c waited between first second p q r = absurd q
within_more (Some xs) (Some ys) None waited between first second p q (w, l, e, r) = absurd r
within_more (Some xs) (Some ys) (Some zs) waited between first second (v, k, d, p) q (w, l, e, r) =
    let rest : v ++ between ≡ waited ++ first = cancel xs (v ++ between) (waited ++ first) (sym (append_assoc xs v between) ∙ ap (λ s. s ++ between) (sym p) ∙ q) in (
      v ++ w,
      l,
      append_assoc v w l ∙ ap (λ s. v ++ s) e ∙ sym (append_assoc v between second) ∙ ap (λ s. s ++ second) rest ∙ append_assoc waited first second,
      appends_more (Some xs) (Some ys) (Some zs) v w p r,
    )

-- nothing of it was written
pub none_within : (a : Option (List ℕ)) (text : List ℕ) → GrowsWithin a a text
none_within a text = ([], text, refl, appends_nothing a)

-- all of the first, and none of the second
pub first_within : (a b : Option (List ℕ)) (first second : List ℕ) → Appends a b first → GrowsWithin a b (first ++ second)
first_within a b first second p = (first, second, refl, p)

-- all of the first, and a part of the second
pub second_within : (a b c : Option (List ℕ)) (first second : List ℕ) → Appends a b first → (n : ℕ) × Appends b c (take n second) → GrowsWithin a c (first ++ second)
second_within a b c first second p (n, q) =
    (first ++ take n second, drop n second, append_assoc first (take n second) (drop n second) ∙ ap (λ s. first ++ s) (taken n second), appends_more a b c first (take n second) p q)

-- all of both
pub both_within : (a b c : Option (List ℕ)) (first second : List ℕ) → Appends a b first → Appends b c second → GrowsWithin a c (first ++ second)
both_within a b c first second p q = (first ++ second, [], append-nil (first ++ second), appends_more a b c first second p q)

-- a text waits after what waited
pub waits_more : (a : Option (List ℕ)) (waited text : List ℕ) → Grows a a waited (waited ++ text) text
waits_more None waited text = tt
waits_more (Some xs) waited text = refl

-- what waited was written, and a text waits
pub waits_alone : (a b : Option (List ℕ)) (waited text : List ℕ) → Appends a b waited → Grows a b waited text text
waits_alone None b waited text p = tt
waits_alone (Some xs) None waited text p = absurd p
waits_alone (Some xs) (Some ys) waited text p = ap (λ s. s ++ text) p ∙ append_assoc xs waited text

-- what waited was written, and a text after it
pub none_waits : (a b c : Option (List ℕ)) (waited text : List ℕ) → Appends a b waited → Appends b c text → Grows a c waited [] text
none_waits None b c waited text p q = tt
none_waits (Some xs) None c waited text p q = absurd p
none_waits (Some xs) (Some ys) None waited text p q = absurd q
none_waits (Some xs) (Some ys) (Some zs) waited text p q = append-nil zs ∙ appends_more (Some xs) (Some ys) (Some zs) waited text p q

pub whole_within : (a b : Option (List ℕ)) (text : List ℕ) → Appends a b text → GrowsWithin a b text
whole_within a b text p = (text, [], append-nil text, p)

-- ---- a text that was to be kept

-- a text was kept after nothing
pub kept_alone : {T E : Type 0} (r : Result T E) (new old xs text : List ℕ) (failed : Bool) → failed ≡ is_err r → failed ≡ false → old ≡ [] → xs ≡ text → new ≡ (if is_ok r then old ++ xs else old) → new ≡ text
kept_alone (Ok x) new old xs text failed is not none same h = h ∙ ap (λ s. s ++ xs) none ∙ same
kept_alone (Err e) new old xs text failed is not none same h = cc

-- it could not be kept, so nothing waits
pub none_kept : {T E : Type 0} (r : Result T E) (new old xs : List ℕ) (failed : Bool) → failed ≡ is_err r → failed ≡ true → old ≡ [] → new ≡ (if is_ok r then old ++ xs else old) → new ≡ []
none_kept (Ok x) new old xs failed is fails none h = cc
none_kept (Err e) new old xs failed is fails none h = h ∙ none

pub nothing_fits : (xs : List ℕ) (most : ℕ) → xs ≡ [] → length xs ≤ most
nothing_fits xs most none = omega (arith, ap length none)

-- ---- a refusal

-- what holds of a value holds of a refusal
pub none_made : {T E : Type 0} (P : Type 0) (r : Result T E) → IsErr r → OnOk r P
none_made P (Ok x) e = cc
none_made P (Err x) e = tt

pub refused_by : {T E : Type 0} (P : E → Type 0) (r : Result T E) → IsErrAnd r P → IfErr r P
refused_by P (Ok x) h = absurd h
refused_by P (Err e) h = h

-- what held of a refusal that is passed on
pub refused_alike : {T E : Type 0} (P : E → Type 0) (r : Result T E) (why : E) → IsErrAnd r (λ e. e ≡ why) → P why → IfErr r P
refused_alike P (Ok x) why same h = absurd same
refused_alike P (Err e) why same h = subst P (sym same) h

-- a case that cannot be
pub not_both : {P : Type 0} (b : Bool) → b ≡ true → b ≡ false → P
not_both {P} b is not = cc
