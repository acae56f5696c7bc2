-- Notes read one after another, as a loop does.
use Rattle.std.specs.List.{filter}
use Rattle.std.specs.Prelude.{◌≢◌}
use Rattle.std.proofs.lemmas.Bool.{eqb-true}
use Rattle.std.proofs.Common.{nat_eq, Bool, true, false, append_assoc, ◌≡◌, ℕ, suc, ◌+◌, ◌≤◌, ◌<◌, List, [], ◌∷◌, ◌++◌, length, map, drop, get_or, Result, Ok, Err, refl, sym, ap, ◌∙◌}
use Rattle.std.proofs.Math.ListN.{drop_of_length-le}
use Rattle.std.proofs.lemmas.List.{append-nil, drop_more, map-append}
use Rattle.perf_file.specs.NoteViews.{note_of}
use Rattle.perf_sections.specs.Opens.{◌>>=◌}
use Rattle.perf_file.specs.Pipes.{FrameNote, each_of}
use Rattle.perf_sections.specs.declared.error.OpenError.{OpenError}
use Rattle.perf_file.specs.declared.note_frames.Note.{Note}
use Rattle.perf_sections.proofs.InTurn.{with_front, regroup}

-- the note at an index is the first that is left
pub here : (list : List Note) (i : ℕ) (x : Note) → i < length list → x ≡ get_or list i x → map note_of (drop i list) ≡ note_of x ∷ map note_of (drop (i + 1) list)
here list i x lt is =
    ap (λ (ns : List Note). map note_of ns) (drop_more list i x lt)
    ∙ ap (λ (y : Note). note_of y ∷ map note_of (drop (i + 1) list)) (sym is)

pub none_left : (list : List Note) (i : ℕ) → length list ≤ i → map note_of (drop i list) ≡ []
none_left list i le = ap (λ (ns : List Note). map note_of ns) (drop_of_length-le list le)

pub goes_on : {A : Type 0} (item : ℕ → FrameNote → Result A OpenError) (front : List A) (list : List Note) (i : ℕ) (x : Note) (a : A) (total : Result (List A) OpenError) → i < length list
    → x ≡ get_or list i x → item i (note_of x) ≡ Ok a
    → with_front front (each_of item i (map note_of (drop i list))) ≡ total → with_front (front ++ a ∷ []) (each_of item (i + 1) (map note_of (drop (i + 1) list))) ≡ total
unfolding each_of
goes_on item front list i x a total lt is got so_far =
    let rest : List FrameNote = map note_of (drop (i + 1) list) in
    let one : with_front front (each_of item i (map note_of (drop i list))) ≡ with_front (front ++ a ∷ []) (each_of item (i + 1) rest) =
    ap (λ (ns : List FrameNote). with_front front (each_of item i ns)) (here list i x lt is) ∙ rw got (regroup front a (each_of item (i + 1) rest)) in
    sym one ∙ so_far

pub ends : {A : Type 0} (item : ℕ → FrameNote → Result A OpenError) (front : List A) (list : List Note) (i : ℕ) (x : Note) (e : OpenError) (total : Result (List A) OpenError) → i < length list
    → x ≡ get_or list i x → item i (note_of x) ≡ Err e
    → with_front front (each_of item i (map note_of (drop i list))) ≡ total → total ≡ Err e
unfolding each_of
ends item front list i x e total lt is got so_far =
    let one : with_front front (each_of item i (map note_of (drop i list))) ≡ Err e =
    ap (λ (ns : List FrameNote). with_front front (each_of item i ns)) (here list i x lt is) ∙ rw got refl in
    sym so_far ∙ one

pub is_done : {A : Type 0} (item : ℕ → FrameNote → Result A OpenError) (front : List A) (list : List Note) (i : ℕ) (total : Result (List A) OpenError) → length list ≤ i
    → with_front front (each_of item i (map note_of (drop i list))) ≡ total → total ≡ Ok front
unfolding each_of
is_done {A} item front list i total le so_far =
    let one : with_front front (each_of item i (map note_of (drop i list))) ≡ Ok front =
    ap (λ (ns : List FrameNote). with_front front (each_of item i ns)) (none_left list i le) ∙ ap (λ (xs : List A). Ok xs) (append-nil front) in
    sym so_far ∙ one

-- as many items as notes
pub each_length : {A : Type 0} (item : ℕ → FrameNote → Result A OpenError) (i : ℕ) (ns : List FrameNote) (xs : List A) → each_of item i ns ≡ Ok xs → length xs ≡ length ns
unfolding each_of
each_length {A} item i [] xs h = let e : [] ≡ xs = cc in ap (λ (ys : List A). length ys) (sym e)
each_length {A} item i (n ∷ ns) xs h = go (item i n) (each_of item (i + 1) ns) refl h (λ ys e. each_length item (i + 1) ns ys e)
  where
    go : (x : Result A OpenError) (rest : Result (List A) OpenError) → each_of item (i + 1) ns ≡ rest → (x >>= λ y. rest >>= λ ys. Ok (y ∷ ys)) ≡ Ok xs → ((ys : List A) → each_of item (i + 1) ns ≡ Ok ys → length ys ≡ length ns) → length xs ≡ suc (length ns)
    go (Err e) rest is f others = absurd (cc)
    go (Ok y) (Err e) is f others = absurd (cc)
    go (Ok y) (Ok ys) is f others = let e : y ∷ ys ≡ xs = cc in ap (λ (zs : List A). length zs) (sym e) ∙ ap (λ k. suc k) (others ys is)

pub same_length : {A B : Type 0} (f : ℕ → FrameNote → Result A OpenError) (g : ℕ → FrameNote → Result B OpenError) (i : ℕ) (ns : List FrameNote) (xs : List A) (ys : List B) → each_of f i ns ≡ Ok xs → each_of g i ns ≡ Ok ys → length xs ≡ length ys
same_length f g i ns xs ys a b = each_length f i ns xs a ∙ sym (each_length g i ns ys b)

-- ---- some of the notes

pub none_yet : (keep : FrameNote → Bool) (found list : List Note) → found ≡ [] → map note_of found ++ filter keep (map note_of (drop 0 list)) ≡ filter keep (map note_of list)
none_yet keep found list none = rw none refl

-- the note at an index is one of them, or it is not
pub one_more : (keep : FrameNote → Bool) (found list : List Note) (i : ℕ) (x : Note) (total : List FrameNote) → i < length list → x ≡ get_or list i x → keep (note_of x) ≡ true
    → map note_of found ++ filter keep (map note_of (drop i list)) ≡ total → map note_of (found ++ x ∷ []) ++ filter keep (map note_of (drop (i + 1) list)) ≡ total
one_more keep found list i x total lt is kept so_far =
    let rest : List FrameNote = map note_of (drop (i + 1) list) in
    let first : filter keep (map note_of (drop i list)) ≡ note_of x ∷ filter keep rest = ap (λ (ns : List FrameNote). filter keep ns) (here list i x lt is) ∙ rw kept refl in
    let grouped : (map note_of found ++ note_of x ∷ []) ++ filter keep rest ≡ map note_of found ++ note_of x ∷ filter keep rest = simp append_assoc in
    ap (λ (ns : List FrameNote). ns ++ filter keep rest) (map-append note_of found (x ∷ []))
    ∙ grouped
    ∙ ap (λ (ns : List FrameNote). map note_of found ++ ns) (sym first)
    ∙ so_far

pub no_more : (keep : FrameNote → Bool) (found list : List Note) (i : ℕ) (x : Note) (total : List FrameNote) → i < length list → x ≡ get_or list i x → keep (note_of x) ≡ false
    → map note_of found ++ filter keep (map note_of (drop i list)) ≡ total → map note_of found ++ filter keep (map note_of (drop (i + 1) list)) ≡ total
no_more keep found list i x total lt is left so_far =
    let first : filter keep (map note_of (drop i list)) ≡ filter keep (map note_of (drop (i + 1) list)) = ap (λ (ns : List FrameNote). filter keep ns) (here list i x lt is) ∙ rw left refl in
    ap (λ (ns : List FrameNote). map note_of found ++ ns) (sym first) ∙ so_far

pub all_found : (keep : FrameNote → Bool) (found list : List Note) (i : ℕ) (total : List FrameNote) → length list ≤ i
    → map note_of found ++ filter keep (map note_of (drop i list)) ≡ total → map note_of found ≡ total
all_found keep found list i total le so_far =
    sym (append-nil (map note_of found)) ∙ ap (λ (ns : List FrameNote). map note_of found ++ filter keep ns) (sym (none_left list i le)) ∙ so_far

-- a number is another one
pub other_type : (m n : ℕ) → m ≢ n → nat_eq m n ≡ false
other_type m n other = go (nat_eq m n) refl
  where
    go : (b : Bool) → nat_eq m n ≡ b → nat_eq m n ≡ false
    go true e = absurd (other (eqb-true m n e))
    go false e = e
