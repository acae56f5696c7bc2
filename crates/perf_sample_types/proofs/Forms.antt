-- Lists that are all borrowed, or all owned: the first ones and those after them. The lists of
-- groups are those of their fields.
use Rattle.std.proofs.Common.{◌≡◌, Bool, List, [], ◌∷◌, ◌++◌, append_assoc, refl, sym, ◌∙◌, ap}
use Rattle.perf_base.specs.Copies.{AllAre}

pub all_front : (borrowed : Bool) (xs ys : List Bool) → AllAre borrowed (xs ++ ys) → AllAre borrowed xs
all_front borrowed [] ys all = tt
all_front borrowed (x ∷ xs) ys (one, more) = (one, all_front borrowed xs ys more)

pub all_back : (borrowed : Bool) (xs ys : List Bool) → AllAre borrowed (xs ++ ys) → AllAre borrowed ys
all_back borrowed [] ys all = all
all_back borrowed (x ∷ xs) ys (one, more) = all_back borrowed xs ys more

pub ruleset parts_of_a_form = (all_front, all_back)

pub list_by_list : (xs ys zs : List Bool) → (xs ++ ys) ++ zs ≡ xs ++ (ys ++ zs)
list_by_list xs ys zs = append_assoc xs ys zs

pub ruleset lists_of_groups = (list_by_list)

-- four lists and those after them
pub four_ahead : (xs ys zs us vs : List Bool) → (xs ++ (ys ++ (zs ++ us))) ++ vs ≡ xs ++ (ys ++ (zs ++ (us ++ vs)))
four_ahead xs ys zs us vs =
    append_assoc xs (ys ++ (zs ++ us)) vs
    ∙ ap (λ ls. xs ++ ls) (append_assoc ys (zs ++ us) vs ∙ ap (λ ls. ys ++ ls) (append_assoc zs us vs))

-- they stay the same, if the four and those after them do
pub four_stay : (xs ys zs us vs xs' ys' zs' us' vs' : List Bool) → xs ++ (ys ++ (zs ++ us)) ≡ xs' ++ (ys' ++ (zs' ++ us')) → vs ≡ vs' →
    xs ++ (ys ++ (zs ++ (us ++ vs))) ≡ xs' ++ (ys' ++ (zs' ++ (us' ++ vs')))
four_stay xs ys zs us vs xs' ys' zs' us' vs' four after =
    sym (four_ahead xs ys zs us vs) ∙ ap (λ ls. ls ++ vs) four ∙ ap (λ ls. (xs' ++ (ys' ++ (zs' ++ us'))) ++ ls) after ∙ four_ahead xs' ys' zs' us' vs'

-- four lists stay the same, if each of them does
pub each_stays : {A : Type 0} (xs ys zs us xs' ys' zs' us' : List A) → xs ≡ xs' → ys ≡ ys' → zs ≡ zs' → us ≡ us' →
    xs ++ (ys ++ (zs ++ us)) ≡ xs' ++ (ys' ++ (zs' ++ us'))
each_stays xs ys zs us xs' ys' zs' us' first second third last = rw (first, second, third, last) refl

-- four values of a list stay the same, if each of them does
pub values_stay : {A : Type 0} (x y z u x' y' z' u' : A) → x ≡ x' → y ≡ y' → z ≡ z' → u ≡ u' → x ∷ y ∷ z ∷ u ∷ [] ≡ x' ∷ y' ∷ z' ∷ u' ∷ []
values_stay x y z u x' y' z' u' first second third last = rw (first, second, third, last) refl

-- of four lists that are all borrowed, or all owned, the second, the third and the last
pub all_second : (borrowed : Bool) (xs ys zs us : List Bool) → AllAre borrowed (xs ++ (ys ++ (zs ++ us))) → AllAre borrowed ys
all_second borrowed xs ys zs us all = all_front borrowed ys (zs ++ us) (all_back borrowed xs (ys ++ (zs ++ us)) all)

pub all_third : (borrowed : Bool) (xs ys zs us : List Bool) → AllAre borrowed (xs ++ (ys ++ (zs ++ us))) → AllAre borrowed zs
all_third borrowed xs ys zs us all = all_front borrowed zs us (all_back borrowed ys (zs ++ us) (all_back borrowed xs (ys ++ (zs ++ us)) all))

pub all_last : (borrowed : Bool) (xs ys zs us : List Bool) → AllAre borrowed (xs ++ (ys ++ (zs ++ us))) → AllAre borrowed us
all_last borrowed xs ys zs us all = all_back borrowed zs us (all_back borrowed ys (zs ++ us) (all_back borrowed xs (ys ++ (zs ++ us)) all))

-- lists in groups of two, four and two are eight lists in a row, of which the first is kept and the others stay the same
pub groups_in_a_row : (ns bs xs ys zs us vs ws bs' xs' ys' zs' us' vs' ws' : List Bool) → bs ≡ bs' → xs ≡ xs' → ys ≡ ys' → zs ≡ zs' → us ≡ us' → vs ≡ vs' → ws ≡ ws' →
    (ns ++ bs) ++ ((xs ++ (ys ++ (zs ++ us))) ++ (vs ++ ws)) ≡ ns ++ (bs' ++ (xs' ++ (ys' ++ (zs' ++ (us' ++ (vs' ++ ws'))))))
groups_in_a_row ns bs xs ys zs us vs ws bs' xs' ys' zs' us' vs' ws' b x y z u v w =
    append_assoc ns bs ((xs ++ (ys ++ (zs ++ us))) ++ (vs ++ ws))
    ∙ ap (λ ls. ns ++ (bs ++ ls)) (four_ahead xs ys zs us (vs ++ ws))
    ∙ rw (b, x, y, z, u, v, w) refl
