-- What was appended is the line.
use Rattle.std.proofs.Common.{◌≡◌, ℕ, List, ◌∷◌, ◌++◌, ◌∙◌, Result, Ok, Err, OnOk, is_ok, ap, append_assoc, codes}
use Rattle.std.specs.Prelude.{if◌then◌else◌}
use Rattle.perf_reports.specs.TaskLines.{line_about}

pub appended : {T E : Type 0} (r : Result T E) (xs ys zs : List ℕ) → ys ≡ zs → OnOk r (xs ≡ ys) → OnOk r (xs ≡ zs)
appended (Ok x) xs ys zs e h = h ∙ e
appended (Err x) xs ys zs e h = h

-- a text that is known by another name was appended
pub pushed : {T E : Type 0} (r : Result T E) (new old xs ys : List ℕ) → xs ≡ ys → new ≡ (if is_ok r then old ++ xs else old) → OnOk r (new ≡ old ++ ys)
pushed (Ok x) new old xs ys e h = h ∙ ap (λ zs. old ++ zs) e
pushed (Err x) new old xs ys e h = tt

-- a line up to its last part, and that part after it
pub said : (what : List ℕ) (pid tid : ℕ) (front says : List ℕ) → line_about what pid tid front ++ says ≡ line_about what pid tid (front ++ says)
said what pid tid front says = simp append_assoc

-- the same of a line with the file of a mapping and its protection
pub mapped : (old what : List ℕ) (pid tid : ℕ) (place file protection name : List ℕ)
    → (((old ++ line_about what pid tid (place ++ codes " ")) ++ file) ++ (codes " " ++ (protection ++ codes " "))) ++ name ≡ old ++ line_about what pid tid (place ++ (32 ∷ (file ++ (32 ∷ (protection ++ (32 ∷ name))))))
mapped old what pid tid place file protection name = simp append_assoc
