-- A table around one of its fields, and the two laws.
use Rattle.std.proofs.Common.{◌≡◌, ℕ, suc, ◌<◌, List, [], ◌∷◌, ◌++◌, length, take, drop, set, get_or, Option, Some, None, Result, Ok, Err, refl, sym, ◌∙◌, ap, arith, add-one}
use Rattle.std.proofs.lemmas.List.{append_cancel_right, take-append-drop, set_at, drop_all, drop_more, take_more, set_split, length-take-le}
use Rattle.perf_base.specs.Order.{Order}
use Rattle.perf_base.specs.Layout.{Parts, done, part, check, ◌>>=◌, spots, ending, value, first_refusal, layout}
use Rattle.perf_base.specs.Table.{slot, table, place_of}
use Rattle.perf_base.specs.Run.{Ran, ran, stopped, answer, run_parts, by_places}
use Rattle.perf_base.specs.Splice.{Closed, IsClosed, AllClosed, Spells, put_in, take_out}
use Rattle.perf_base.specs.declared.error.ErrorKind.{ErrorKind}
use Rattle.perf_base.proofs.Bridge.{bridge}
use Rattle.perf_base.proofs.Algebra.{then_ok, then_inv, run_more, run_front}

-- ---- layout and run
judged_ok : {A : Type 0} (f : Option ErrorKind) (v : A) (left back : List ℕ) (x : A) → ◌≡◌ {A = Result A ErrorKind} (elim f [ None ↦ Ok v | Some e ↦ Err e ]) (Ok x) →
    ◌≡◌ {A = Ran A} (elim f [ None ↦ ran v left | Some e ↦ stopped e back ]) (ran x left)
judged_ok None v left back x e = let same : v ≡ x = cc in cc
judged_ok (Some k) v left back x e = cc

pub layout_run : {A : Type 0} (o : Order) (p : Parts A) (body : List ℕ) (v : A) → layout o p body ≡ Ok v →
    run_parts o p body ≡ ran v (drop (ending o body 0 p) body)
layout_run o p body v e = bridge o body 0 p (omega arith) ∙ judged_ok (first_refusal (length body) (spots o body 0 p)) _ _ _ v e

ran_ok : {A : Type 0} (f : Option ErrorKind) (v : A) (left left' back : List ℕ) (x : A) → ◌≡◌ {A = Ran A} (elim f [ None ↦ ran v left | Some e ↦ stopped e back ]) (ran x left') →
    (◌≡◌ {A = Result A ErrorKind} (elim f [ None ↦ Ok v | Some e ↦ Err e ]) (Ok x)) × (left ≡ left')
ran_ok None v left left' back x e = let same : v ≡ x = cc in let same' : left ≡ left' = cc in (cc, same')
ran_ok (Some k) v left left' back x e = absurd (cc)

pub run_layout : {A : Type 0} (o : Order) (p : Parts A) (body : List ℕ) (v : A) (left : List ℕ) → run_parts o p body ≡ ran v left →
    (layout o p body ≡ Ok v) × (drop (ending o body 0 p) body ≡ left)
run_layout o p body v left e = ran_ok (first_refusal (length body) (spots o body 0 p)) _ _ left _ v (sym (bridge o body 0 p (omega arith)) ∙ e)

-- ---- parts in sequence
pub closed_then : {A B : Type 0} (p : Parts A) (f : A → Parts B) → Closed p → ((v : A) → Closed (f v)) → Closed (p >>= f)
closed_then (done v) f c d = d v
closed_then (part shape k) f c d = (c.0, λ a. closed_then (k a) f (c.1 a) d)
closed_then (check t e p) f c d = closed_then p f c d

pub closed_slot : {A : Type 0} (field : Option (Parts A)) → IsClosed field → Closed (slot field)
closed_slot None c = tt
closed_slot (Some p) c = closed_then p (λ v. done (Some v)) c (λ v. tt)

pub closed_table : {A : Type 0} (fields : List (Option (Parts A))) → AllClosed fields → Closed (table fields)
closed_table [] c = tt
closed_table (field ∷ fields) c =
    closed_then (slot field) _ (closed_slot field c.0) (λ v. closed_then (table fields) _ (closed_table fields c.1) (λ vs. tt))

-- ---- tables in sequence
pub tables_ok : {A : Type 0} (o : Order) (xs ys : List (Option (Parts A))) (body between left : List ℕ) (a c : List (Option A)) →
    run_parts o (table xs) body ≡ ran a between → run_parts o (table ys) between ≡ ran c left →
    run_parts o (table (xs ++ ys)) body ≡ ran (a ++ c) left
tables_ok o [] ys body between left a c e f =
    let same : a ≡ [] = cc in
    let same' : body ≡ between = cc in
    rw (same, same') f
tables_ok o (x ∷ xs) ys body between left a c e f =
    let first = then_inv o (slot x) (λ v. (table xs >>= λ vs. done (v ∷ vs))) body a between e in
    let others = then_inv o (table xs) (λ vs. done (first.0 ∷ vs)) first.1 a between first.3 in
    let made : ran (first.0 ∷ others.0) others.1 ≡ ran a between = others.3 in
    let same : a ≡ first.0 ∷ others.0 = cc in
    let same' : others.1 ≡ between = cc in
    let again : run_parts o (table (xs ++ ys)) first.1 ≡ ran (others.0 ++ c) left = tables_ok o xs ys first.1 between left others.0 c (rw same' at others.2) f in
    then_ok o (slot x) (λ v. (table (xs ++ ys) >>= λ vs. done (v ∷ vs))) body first.0 first.1 first.2
    ∙ then_ok o (table (xs ++ ys)) (λ vs. done (first.0 ∷ vs)) first.1 (others.0 ++ c) left again
    ∙ ap (λ t. ran (t ++ c) left) (sym same)

pub tables_inv : {A : Type 0} (o : Order) (xs ys : List (Option (Parts A))) (body left : List ℕ) (vs : List (Option A)) →
    run_parts o (table (xs ++ ys)) body ≡ ran vs left →
    (a : List (Option A)) × (between : List ℕ) × (c : List (Option A)) × (run_parts o (table xs) body ≡ ran a between) ×
    (run_parts o (table ys) between ≡ ran c left) × (vs ≡ a ++ c) × (length a ≡ length xs)
tables_inv o [] ys body left vs e = ([], body, vs, refl, e, refl, refl)
tables_inv o (x ∷ xs) ys body left vs e =
    let first = then_inv o (slot x) (λ v. (table (xs ++ ys) >>= λ vs. done (v ∷ vs))) body vs left e in
    let others = then_inv o (table (xs ++ ys)) (λ vs. done (first.0 ∷ vs)) first.1 vs left first.3 in
    let made : ran (first.0 ∷ others.0) others.1 ≡ ran vs left = others.3 in
    let same : vs ≡ first.0 ∷ others.0 = cc in
    let same' : others.1 ≡ left = cc in
    let again = tables_inv o xs ys first.1 left others.0 (rw same' at others.2) in (
      first.0 ∷ again.0,
      again.1,
      again.2,
      then_ok o (slot x) (λ v. (table xs >>= λ vs. done (v ∷ vs))) body first.0 first.1 first.2
          ∙ then_ok o (table xs) (λ vs. done (first.0 ∷ vs)) first.1 again.0 again.1 again.3,
      again.4,
      same ∙ ap (λ t. first.0 ∷ t) again.5,
      ap suc again.6,
    )

-- ---- changing the bytes of a field
cons_ok : {A : Type 0} (o : Order) (x : Option (Parts A)) (ys : List (Option (Parts A))) (body z left : List ℕ) (v : Option A) (cs : List (Option A)) →
    run_parts o (slot x) body ≡ ran v z → run_parts o (table ys) z ≡ ran cs left → run_parts o (table (x ∷ ys)) body ≡ ran (v ∷ cs) left
cons_ok o x ys body z left v cs e f =
    then_ok o (slot x) (λ u. (table ys >>= λ us. done (u ∷ us))) body v z e
    ∙ then_ok o (table ys) (λ us. done (v ∷ us)) z cs left f

pub cons_inv : {A : Type 0} (o : Order) (x : Option (Parts A)) (ys : List (Option (Parts A))) (body left : List ℕ) (c : List (Option A)) →
    run_parts o (table (x ∷ ys)) body ≡ ran c left →
    (v : Option A) × (z : List ℕ) × (cs : List (Option A)) × (run_parts o (slot x) body ≡ ran v z) × (run_parts o (table ys) z ≡ ran cs left) × (c ≡ v ∷ cs)
cons_inv o x ys body left c e =
    let first = then_inv o (slot x) (λ v. (table ys >>= λ vs. done (v ∷ vs))) body c left e in
    let others = then_inv o (table ys) (λ vs. done (first.0 ∷ vs)) first.1 c left first.3 in
    let made : ran (first.0 ∷ others.0) others.1 ≡ ran c left = others.3 in
    let same : c ≡ first.0 ∷ others.0 = cc in
    let same' : others.1 ≡ left = cc in
    (first.0, first.1, others.0, first.2, rw same' at others.2, same)

changed_at : {A : Type 0} (o : Order) (xs ys : List (Option (Parts A))) (old new : Option (Parts A)) (body between z left w : List ℕ) (vs a cs : List (Option A)) (was v : Option A) (m : ℕ) →
    AllClosed xs → run_parts o (table xs) body ≡ ran a between → run_parts o (slot old) between ≡ ran was z → run_parts o (table ys) z ≡ ran cs left →
    vs ≡ a ++ (was ∷ cs) → length a ≡ length xs →
    run_parts o (slot new) (w ++ z) ≡ ran v z → drop m body ≡ z →
    let n : ℕ = ending o body 0 (table xs) in
    run_parts o (table (xs ++ (new ∷ ys))) (take n body ++ (w ++ drop m body)) ≡ ran (set vs (length xs) v) left
changed_at o xs ys old new body between z left w vs a cs was v m closed first middle last whole counted reads after_m =
    let n : ℕ = ending o body 0 (table xs) in
    let after_n : drop n body ≡ between = (run_layout o (table xs) body a between first).1 in
    let front = run_front o (table xs) body a between (closed_table xs closed) first in
    let before : take n body ≡ front.0 = append_cancel_right (take n body) front.0 between (ap (λ r. take n body ++ r) (sym after_n) ∙ take-append-drop n body ∙ front.1) in
    let again : run_parts o (table xs) (front.0 ++ (w ++ z)) ≡ ran a (w ++ z) = run_more o (table xs) front.0 a [] (w ++ z) (closed_table xs closed) front.2 in
    let value_is : set vs (length xs) v ≡ a ++ (v ∷ cs) = ap (λ t. set t (length xs) v) whole ∙ set_at a was cs v (length xs) counted in
    ap (λ (b : List ℕ). run_parts o (table (xs ++ (new ∷ ys))) (b ++ (w ++ drop m body))) before
    ∙ ap (λ (b : List ℕ). run_parts o (table (xs ++ (new ∷ ys))) (front.0 ++ (w ++ b))) after_m
    ∙ tables_ok o xs (new ∷ ys) (front.0 ++ (w ++ z)) (w ++ z) left a (v ∷ cs) again (cons_ok o new ys (w ++ z) z left v cs reads last)
    ∙ ap (λ t. ran t left) (sym value_is)

-- the bytes that spell a field are read, whatever follows
spelled : {A : Type 0} (o : Order) (p : Parts A) (w z : List ℕ) → Closed p → Spells o p w → run_parts o (slot (Some p)) (w ++ z) ≡ ran (Some (value o w 0 p)) z
spelled {A} o p w z closed s =
    let v : A = value o w 0 p in
    let made : layout o p w ≡ Ok v = ap (λ (f : Option ErrorKind). elim f [ None ↦ Ok v | Some e ↦ Err e ]) s.stand in
    let all : drop (ending o w 0 p) w ≡ [] = drop_all (ending o w 0 p) w (omega (arith, s.whole)) in
    let alone : run_parts o p w ≡ ran v [] = layout_run o p w v made ∙ ap (ran v) all in
    then_ok o p (λ u. done (Some u)) (w ++ z) v z (run_more o p w v [] z closed alone)

-- A field that is absent between xs and ys is inserted.
pub put : {A : Type 0} (o : Order) (xs ys : List (Option (Parts A))) (p : Parts A) (body w : List ℕ) (vs : List (Option A)) →
    AllClosed xs → Closed p → layout o (table (xs ++ (None ∷ ys))) body ≡ Ok vs → Spells o p w →
    layout o (table (xs ++ (Some p ∷ ys))) (put_in body (ending o body 0 (table xs)) w) ≡ Ok (set vs (length xs) (Some (value o w 0 p)))
put o xs ys p body w vs closed closed' e s =
    let left : List ℕ = drop (ending o body 0 (table (xs ++ (None ∷ ys)))) body in
    let around = tables_inv o xs (None ∷ ys) body left vs (layout_run o (table (xs ++ (None ∷ ys))) body vs e) in
    let inside = cons_inv o None ys around.1 left around.2 around.4 in
    let nothing : ran None around.1 ≡ ran inside.0 inside.1 = inside.3 in
    let same : around.1 ≡ inside.1 = cc in
    let after : drop (ending o body 0 (table xs)) body ≡ inside.1 = (run_layout o (table xs) body around.0 around.1 around.3).1 ∙ same in
    (run_layout o (table (xs ++ (Some p ∷ ys))) _ _ left
    (changed_at o xs ys None (Some p) body around.1 inside.1 left w vs around.0 inside.2 inside.0 (Some (value o w 0 p)) (ending o body 0 (table xs)) closed
    around.3 inside.3 inside.4 (around.5 ∙ ap (λ t. around.0 ++ t) inside.5) around.6 (spelled o p w inside.1 closed' s) after)).0

-- A field that is present between xs and ys is removed.
pub out : {A : Type 0} (o : Order) (xs ys : List (Option (Parts A))) (field : Option (Parts A)) (body : List ℕ) (vs : List (Option A)) →
    AllClosed xs → layout o (table (xs ++ (field ∷ ys))) body ≡ Ok vs →
    layout o (table (xs ++ (None ∷ ys))) (take_out body (ending o body 0 (table xs)) (ending o body 0 (table (xs ++ (field ∷ []))))) ≡ Ok (set vs (length xs) None)
out o xs ys field body vs closed e =
    let left : List ℕ = drop (ending o body 0 (table (xs ++ (field ∷ ys)))) body in
    let m : ℕ = ending o body 0 (table (xs ++ (field ∷ []))) in
    let around = tables_inv o xs (field ∷ ys) body left vs (layout_run o (table (xs ++ (field ∷ ys))) body vs e) in
    let inside = cons_inv o field ys around.1 left around.2 around.4 in
    let after : drop m body ≡ inside.1 = (run_layout o (table (xs ++ (field ∷ []))) body _ inside.1
    (tables_ok o xs (field ∷ []) body around.1 inside.1 around.0 (inside.0 ∷ []) around.3 (cons_ok o field [] around.1 inside.1 inside.1 inside.0 [] inside.3 refl))).1 in
    (run_layout o (table (xs ++ (None ∷ ys))) _ _ left
    (changed_at o xs ys field None body around.1 inside.1 left [] vs around.0 inside.2 inside.0 None m closed
    around.3 inside.3 inside.4 (around.5 ∙ ap (λ t. around.0 ++ t) inside.5) around.6 refl after)).0

-- ---- by the index of the field
split_at : {X : Type 0} (xs : List X) (i : ℕ) (d : X) → i < length xs → xs ≡ take i xs ++ (get_or xs i d ∷ drop (suc i) xs)
split_at xs i d h = sym (take-append-drop i xs) ∙ ap (λ t. take i xs ++ t) (drop_more xs i d h ∙ rw add-one refl)

pub splice_fields : {A : Type 0} (o : Order) (fields : List (Option (Parts A))) (i : ℕ) (p : Parts A) (body w : List ℕ) (vs : List (Option A)) →
    i < length fields → get_or fields i None ≡ None → AllClosed (take i fields) → Closed p →
    layout o (table fields) body ≡ Ok vs → Spells o p w →
    layout o (table (set fields i (Some p))) (put_in body (place_of o body fields i) w) ≡ Ok (set vs i (Some (value o w 0 p)))
splice_fields o fields i p body w vs h absent closed closed' e s =
    let whole : fields ≡ take i fields ++ (None ∷ drop (suc i) fields) = split_at fields i None h ∙ ap (λ t. take i fields ++ (t ∷ drop (suc i) fields)) absent in
    let made = put o (take i fields) (drop (suc i) fields) p body w vs closed closed' (ap (λ t. layout o (table t) body) (sym whole) ∙ e) s in
    ap (λ t. layout o (table t) (put_in body (place_of o body fields i) w)) (set_split fields i (Some p) h)
    ∙ made ∙ ap (λ k. Ok (set vs k (Some (value o w 0 p)))) (length-take-le i fields (omega arith))

pub cut_fields : {A : Type 0} (o : Order) (fields : List (Option (Parts A))) (i : ℕ) (body : List ℕ) (vs : List (Option A)) →
    i < length fields → AllClosed (take i fields) → layout o (table fields) body ≡ Ok vs →
    layout o (table (set fields i None)) (take_out body (place_of o body fields i) (place_of o body fields (suc i))) ≡ Ok (set vs i None)
cut_fields o fields i body vs h closed e =
    let field = get_or fields i None in
    let whole : fields ≡ take i fields ++ (field ∷ drop (suc i) fields) = split_at fields i None h in
    let made = out o (take i fields) (drop (suc i) fields) field body vs closed (ap (λ t. layout o (table t) body) (sym whole) ∙ e) in
    let next : take (suc i) fields ≡ take i fields ++ (field ∷ []) = rw (← add-one) (take_more fields i None h) in
    ap (λ t. layout o (table t) (take_out body (place_of o body fields i) (place_of o body fields (suc i)))) (set_split fields i None h)
    ∙ ap (λ t. layout o (table (take i fields ++ (None ∷ drop (suc i) fields))) (take_out body (place_of o body fields i) (ending o body 0 (table t)))) next
    ∙ made ∙ ap (λ k. Ok (set vs k None)) (length-take-le i fields (omega arith))

-- ---- the layout is the run's result, also if it refuses; and the run of what a layout refuses
answer_judged : {A : Type 0} (f : Option ErrorKind) (v : A) (left back : List ℕ) →
    ◌≡◌ {A = Result A ErrorKind} (elim f [ None ↦ Ok v | Some e ↦ Err e ]) (answer (elim f as (λ k. Ran A) [ None ↦ ran v left | Some e ↦ stopped e back ]))
answer_judged None v left back = refl
answer_judged (Some e) v left back = refl

pub layout_is_run : {A : Type 0} (o : Order) (p : Parts A) (body : List ℕ) → layout o p body ≡ answer (run_parts o p body)
layout_is_run o p body = answer_judged (first_refusal (length body) (spots o body 0 p)) (value o body 0 p) (drop (ending o body 0 p) body) _ ∙ ap answer (sym (bridge o body 0 p (omega arith)))

-- the result by offsets is the layout
pub places_layout : {A : Type 0} (o : Order) (p : Parts A) (body : List ℕ) → answer (by_places o p body) ≡ layout o p body
unfolding by_places
places_layout o p body = sym (answer_judged (first_refusal (length body) (spots o body 0 p)) (value o body 0 p) (drop (ending o body 0 p) body) _)
