-- The frames of a file.
use Rattle.std.proofs.Common.{◌≡◌, ℕ, zero, suc, ◌+◌, ◌-◌, ◌≤◌, ◌<◌, List, [], ◌∷◌, length, drop, max, refl, sym, ◌∙◌, ap, true, false, nat_lt, inl, inr, arith}
use Rattle.std.proofs.lemmas.Bool.{lt-ltb, le-ltb, cases_lt}
use Rattle.std.proofs.lemmas.List.{length-drop}
use Rattle.perf_base.specs.Order.{Order}
use Rattle.perf_base.specs.Header.{header_of}
use Rattle.perf_base.specs.declared.sys.perf_event_header.{perf_event_header}
use Rattle.perf_reader.specs.Headers.{frame_length}
use Rattle.perf_records.specs.Sights.{Sight, sight_in, sight_after}
use Rattle.perf_records.specs.FrameList.{sights}
use Rattle.perf_records.proofs.FrameList.{next_sight, no_sight}
use Rattle.perf_base.specs.Dynamic.{order_of}
use Rattle.perf_sections.specs.Opened.{File}
use Rattle.perf_file.specs.Owners.{owner_of_sight}
use Rattle.perf_file.specs.Pieces.{Piece, piece_in, place_in, after_piece, after_frame, first_pieces, pieces, drop_most, take_most, size_of, header_seen, payload_length}
use Rattle.perf_file.specs.declared.owning.Owner.{Owner}

pub length-drop_most : (n : ℕ) (bytes : List ℕ) → length (drop_most n bytes) ≤ length bytes
length-drop_most n bytes = elim (cases_lt n (length bytes)) [
  | inl lt ↦ let a : nat_lt n (length bytes) ≡ true = lt-ltb n (length bytes) lt in rw a (omega (arith, length-drop n bytes))
  | inr le ↦ let a : nat_lt n (length bytes) ≡ false = le-ltb n (length bytes) le in rw a (omega arith)
]

-- a frame has at least a header
after_frame_shorter : (o : Order) (bytes : List ℕ) → 8 ≤ length bytes → length (after_frame o bytes) + 8 ≤ length bytes
after_frame_shorter o bytes fits = elim (cases_lt (frame_length o bytes) (length bytes)) [
  | inl lt ↦ let a : nat_lt (frame_length o bytes) (length bytes) ≡ true = lt-ltb (frame_length o bytes) (length bytes) lt in rw a (omega (arith, length-drop (frame_length o bytes) bytes))
  | inr le ↦ let a : nat_lt (frame_length o bytes) (length bytes) ≡ false = le-ltb (frame_length o bytes) (length bytes) le in rw a (omega arith)
]

pub after_shorter : (o : Order) (bytes : List ℕ) → 8 ≤ length bytes → length (after_piece o bytes) + 8 ≤ length bytes
after_shorter o bytes fits =
    let a = length-drop_most (payload_length o (sight_in o bytes true)) (after_frame o bytes) in
    let b = after_frame_shorter o bytes fits in omega (arith, a, b)

pub short : (f : File) (n : ℕ) (bytes : List ℕ) → length bytes < 8 → first_pieces f n bytes ≡ []
short f zero bytes h = refl
short f (suc n) bytes h = let a : nat_lt (length bytes) 8 ≡ true = lt-ltb (length bytes) 8 h in rw a refl

pub first : (f : File) (n : ℕ) (bytes : List ℕ) → 8 ≤ length bytes → first_pieces f (suc n) bytes ≡ piece_in f bytes ∷ first_pieces f n (after_piece (order_of f.order) bytes)
first f n bytes fits = let a : nat_lt (length bytes) 8 ≡ false = le-ltb (length bytes) 8 fits in rw a refl

-- there are no more frames than bytes
enough : (f : File) (n m : ℕ) (bytes : List ℕ) → length bytes ≤ n → length bytes ≤ m → first_pieces f n bytes ≡ first_pieces f m bytes
enough f zero m bytes a b = sym (short f m bytes (omega arith))
enough f (suc n) zero bytes a b = short f (suc n) bytes (omega arith)
enough f (suc n) (suc m) bytes a b = elim (cases_lt (length bytes) 8) [
  | inl lt ↦ short f (suc n) bytes lt ∙ sym (short f (suc m) bytes lt)
  | inr fits ↦
      let s = after_shorter (order_of f.order) bytes fits in
      first f n bytes fits ∙ ap (λ xs. piece_in f bytes ∷ xs) (enough f n m (after_piece (order_of f.order) bytes) (omega (arith, s)) (omega (arith, s))) ∙ sym (first f m bytes fits)
]

pub some_piece : (f : File) (bytes : List ℕ) → 8 ≤ length bytes → pieces f bytes ≡ piece_in f bytes ∷ pieces f (after_piece (order_of f.order) bytes)
some_piece f bytes fits =
    let o = order_of f.order in
    let s = after_shorter o bytes fits in
    enough f (length bytes) (suc (length bytes)) bytes (omega arith) (omega arith) ∙ first f (length bytes) bytes fits
    ∙ ap (λ xs. piece_in f bytes ∷ xs) (enough f (length bytes) (length (after_piece o bytes)) (after_piece o bytes) (omega (arith, s)) (omega arith))

-- the first of them, and the others
pub next_piece : (f : File) (bytes after : List ℕ) (x : Piece) → 8 ≤ length bytes → x ≡ piece_in f bytes → after ≡ after_piece (order_of f.order) bytes → pieces f bytes ≡ x ∷ pieces f after
next_piece f bytes after x fits is rest = some_piece f bytes fits ∙ ap (λ y. y ∷ pieces f (after_piece (order_of f.order) bytes)) (sym is) ∙ ap (λ xs. x ∷ pieces f xs) (sym rest)

pub no_piece : (f : File) (bytes : List ℕ) → length bytes < 8 → pieces f bytes ≡ []
no_piece f bytes h = short f (length bytes) bytes h

-- the header of what is found is the one at the front
pub header_after : (h : perf_event_header) (bytes : List ℕ) → header_seen (sight_after h bytes true) ≡ h
header_after h bytes = elim (cases_lt h.size 8) [
  | inl lt ↦ let a : nat_lt h.size 8 ≡ true = lt-ltb h.size 8 lt in rw a refl
  | inr le ↦ let a : nat_lt h.size 8 ≡ false = le-ltb h.size 8 le in elim (cases_lt (length bytes) (h.size - 8)) [
    | inl lt ↦ let b : nat_lt (length bytes) (h.size - 8) ≡ true = lt-ltb (length bytes) (h.size - 8) lt in rw (a, b) refl
    | inr fits ↦ let b : nat_lt (length bytes) (h.size - 8) ≡ false = le-ltb (length bytes) (h.size - 8) fits in rw (a, b) refl
  ]
]

pub size_is : (h : perf_event_header) → size_of h ≡ max 8 h.size
size_is h = elim (cases_lt h.size 8) [
  | inl lt ↦ let a : nat_lt h.size 8 ≡ true = lt-ltb h.size 8 lt in rw a (omega arith)
  | inr le ↦ let a : nat_lt h.size 8 ≡ false = le-ltb h.size 8 le in rw a (omega arith)
]

-- so many bytes has the first frame
pub size_seen : (o : Order) (bytes : List ℕ) (x : Sight) → x ≡ sight_in o bytes true → size_of (header_seen x) ≡ frame_length o bytes
size_seen o bytes x is = ap (λ s. size_of (header_seen s)) is ∙ ap size_of (header_after (header_of o bytes) (drop 8 bytes)) ∙ size_is (header_of o bytes)

-- what the first of the frames shows
pub first_sight : (o : Order) (bytes : List ℕ) (x : Sight) (others : List Sight) → sights o bytes ≡ x ∷ others → (8 ≤ length bytes) × (x ≡ sight_in o bytes true)
first_sight o bytes x others is = elim (cases_lt (length bytes) 8) [
  | inl lt ↦ let none : sights o bytes ≡ [] = no_sight o bytes lt in absurd (cc)
  | inr fits ↦ let some : sights o bytes ≡ sight_in o bytes true ∷ sights o (drop (frame_length o bytes) bytes) = next_sight o bytes (drop (frame_length o bytes) bytes) (sight_in o bytes true) fits refl refl in (fits, cc)
]

pub piece_is : (f : File) (at : ℕ) (owner : Owner) (bytes after payload left : List ℕ) (x : Sight) → at ≡ place_in f bytes → owner ≡ owner_of_sight f x → x ≡ sight_in (order_of f.order) bytes true
    → after ≡ drop_most (size_of (header_seen x)) bytes → payload ≡ take_most (payload_length (order_of f.order) x) after → left ≡ drop_most (payload_length (order_of f.order) x) after
    → (record { at = at; frame = x; payload = payload; owner = owner } ≡ piece_in f bytes) × (left ≡ after_piece (order_of f.order) bytes)
piece_is f at owner bytes after payload left x place owned is rest paid done =
    let o = order_of f.order in
    let behind : after ≡ after_frame o bytes = rest ∙ ap (λ n. drop_most n bytes) (size_seen o bytes x is) in
    let p : payload ≡ take_most (payload_length o (sight_in o bytes true)) (after_frame o bytes) = paid ∙ ap (λ s. take_most (payload_length o s) after) is ∙ ap (take_most (payload_length o (sight_in o bytes true))) behind in
    let l : left ≡ after_piece o bytes = done ∙ ap (λ s. drop_most (payload_length o s) after) is ∙ ap (drop_most (payload_length o (sight_in o bytes true))) behind in
    let w : owner ≡ owner_of_sight f (sight_in o bytes true) = owned ∙ ap (owner_of_sight f) is in
    ((λ i. record { at = place i; frame = is i; payload = p i; owner = w i }), l)
