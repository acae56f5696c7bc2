-- Where the bytes of notes are in the file, and what notes of some types do not change.
use Rattle.std.proofs.Common.{◌≡◌, ℕ, zero, suc, ◌+◌, ◌-◌, ◌≤◌, ◌<◌, ◌&&◌, ◌||◌, ◌==◌, List, [], ◌∷◌, length, map, take, drop, Bool, true, false, cond, Option, Some, None, All, Ok, nat_lt, nat_le, nat_eq, inl, inr, refl, sym, ap, subst, ◌∙◌, arith}
use Rattle.std.specs.List.{filter}
use Rattle.std.proofs.Math.ListN.{drop_of_length-le}
use Rattle.std.proofs.lemmas.Bool.{lt-ltb, le-ltb, le-leb, ltb-true, cases_lt}
use Rattle.std.proofs.lemmas.List.{length-drop, drop-drop, drop-take, take-take}
use Rattle.std.proofs.lemmas.List.Elements.{All-cons}
use Rattle.perf_base.specs.Dynamic.{order_of}
use Rattle.perf_base.specs.Layout.{slice}
use Rattle.perf_base.specs.Order.{Order}
use Rattle.perf_base.specs.declared.endian.Dynamic.{Dynamic}
use Rattle.perf_reader.specs.Headers.{frame_length}
use Rattle.perf_records.specs.Sights.{sight_in}
use Rattle.perf_sections.specs.Descriptions.{zero_at}
use Rattle.perf_file.specs.Forms.{feature_of, notes_of}
use Rattle.perf_sections.specs.NamePlaces.{name_at}
use Rattle.perf_outlines.specs.NotePlaces.{IsPlaced}
use Rattle.perf_sections.specs.Numbers.{number}
use Rattle.perf_file.specs.Pieces.{piece_in, after_piece, after_frame, first_pieces, payload_length, drop_most}
use Rattle.perf_file.specs.Pipes.{FrameNote, note_in, body_seen, pipe_with, is_of, is_note, all_frames, pipe_order, newer, own_feature, noted_feature, has_name, new_name}
use Rattle.perf_file.proofs.Laws.{short, first}
use Rattle.perf_file.proofs.Noted.{body_there}

-- ---- places

most_is : (n : ℕ) (bytes : List ℕ) → drop_most n bytes ≡ drop n bytes
most_is n bytes = elim (cases_lt n (length bytes)) [
  | inl lt ↦ let a : nat_lt n (length bytes) ≡ true = lt-ltb n (length bytes) lt in rw a refl
  | inr le ↦ let a : nat_lt n (length bytes) ≡ false = le-ltb n (length bytes) le in rw a (sym (drop_of_length-le bytes le))
]

-- what is left after a frame is an end of what was left
after_is : (o : Order) (frames left : List ℕ) (k : ℕ) → left ≡ drop k frames → (n : ℕ) × (after_piece o left ≡ drop n frames)
after_is o frames left k is =
    let p = payload_length o (sight_in o left true) in
    let l = frame_length o left in (
      k + l + p,
      most_is p (after_frame o left) ∙ ap (drop p) (most_is l left ∙ ap (drop l) is ∙ drop-drop l k frames) ∙ drop-drop p (k + l) frames,
    )

placed_pieces : (order : Dynamic) (bytes : List ℕ) (n : ℕ) (left : List ℕ) (k : ℕ) → 16 ≤ length bytes → left ≡ drop k (drop 16 bytes) → All (IsPlaced bytes) (map note_in (first_pieces (pipe_with order (drop 16 bytes) []) n left))
placed_pieces order bytes zero left k long is = λ i d lt. absurd (omega (arith, lt))
placed_pieces order bytes (suc n) left k long is = elim (cases_lt (length left) 8) [
  | inl lt ↦ subst (λ ps. All (IsPlaced bytes) (map note_in ps)) (sym (short (pipe_with order (drop 16 bytes) []) (suc n) left lt)) (λ i d few. absurd (omega (arith, few)))
  | inr fits ↦
      let f = pipe_with order (drop 16 bytes) [] in
      let o = order_of order in
      let body = body_seen (sight_in o left true) in
      let here = body_there o left (sight_in o left true) fits refl in
      let a = length-drop 16 bytes in
      let b = length-drop k (drop 16 bytes) in
      let c = ap (λ (xs : List ℕ). length xs) is in
      let at : 16 + (length (drop 16 bytes) - length left) ≡ 16 + k = omega (arith, a, b, c, fits) in
      let inside : 16 + (length (drop 16 bytes) - length left) + 8 + length body ≤ length bytes = omega (arith, a, b, c, here.0, long) in
      let there : slice bytes (16 + (length (drop 16 bytes) - length left) + 8) (length body) ≡ body =
      ap (λ m. slice bytes (m + 8) (length body)) at
      ∙ ap (take (length body)) (sym (ap (drop 8) is ∙ drop-drop 8 k (drop 16 bytes) ∙ drop-drop (k + 8) 16 bytes ∙ ap (λ m. drop m bytes) (omega arith)))
      ∙ here.1 in
      let next = after_is o (drop 16 bytes) left k is in
      let rest = placed_pieces order bytes n (after_piece o left) next.0 long next.1 in
      subst (λ ps. All (IsPlaced bytes) (map note_in ps)) (sym (first f n left fits))
      (All-cons (IsPlaced bytes) (note_in (piece_in f left)) (map note_in (first_pieces f n (after_piece o left))) (record { inside = inside; there = there }) rest)
]

pub all_placed : (order : Dynamic) (bytes : List ℕ) → 16 ≤ length bytes → All (IsPlaced bytes) (all_frames order (drop 16 bytes))
all_placed order bytes long = placed_pieces order bytes (length (drop 16 bytes)) (drop 16 bytes) 0 long refl

-- ---- features

no_number : (o : Order) (feature : ℕ) (n : FrameNote) → is_of 80 n ≡ false → own_feature o feature n ≡ None
no_number o feature n off = go (nat_lt (length n.body) 8)
  where
    go : (b : Bool) → cond (cond b false (is_of 80 n && number o n.body 0 == feature)) (Some (drop 8 n.body)) None ≡ None
    go true = refl
    go false = rw off refl

is_no_note : (n : FrameNote) (a b c : Bool) → is_of 64 n ≡ a → is_of 67 n ≡ b → is_of 78 n ≡ c → is_of 80 n ≡ true → is_note n ≡ false → ⊥
is_no_note n a b c x y z on off =
    let made : is_note n ≡ (a || (b || (c || true))) = ap (λ v. v || (is_of 67 n || (is_of 78 n || is_of 80 n))) x ∙ ap (λ v. a || (v || (is_of 78 n || is_of 80 n))) y ∙ ap (λ v. a || (b || (v || is_of 80 n))) z ∙ ap (λ v. a || (b || (c || v))) on in
    let yes : is_note n ≡ true = made ∙ all a b c in absurd (cc)
  where
    all : (a b c : Bool) → (a || (b || (c || true))) ≡ true
    all true b c = refl
    all false true c = refl
    all false false true = refl
    all false false false = refl

-- frames that are no notes have no features
pub noted_alike : (o : Order) (feature : ℕ) (ns : List FrameNote) → noted_feature o feature (filter is_note ns) ≡ noted_feature o feature ns
noted_alike o feature [] = refl
noted_alike o feature (n ∷ ns) = go (noted_alike o feature ns) (is_note n) refl (is_of 80 n) refl
  where
    older : (a : Option (List ℕ)) → newer a None ≡ a
    older (Some x) = refl
    older None = refl

    go : noted_feature o feature (filter is_note ns) ≡ noted_feature o feature ns → (b : Bool) → is_note n ≡ b → (c : Bool) → is_of 80 n ≡ c → noted_feature o feature (filter is_note (n ∷ ns)) ≡ noted_feature o feature (n ∷ ns)
    go rest true is c on =
        let here : filter is_note (n ∷ ns) ≡ n ∷ filter is_note ns = ap (λ x. cond x (n ∷ filter is_note ns) (filter is_note ns)) is in
        ap (noted_feature o feature) here ∙ ap (λ r. newer r (own_feature o feature n)) rest
    go rest false is false off =
        let here : filter is_note (n ∷ ns) ≡ filter is_note ns = ap (λ x. cond x (n ∷ filter is_note ns) (filter is_note ns)) is in
        ap (noted_feature o feature) here ∙ rest
        ∙ sym (ap (newer (noted_feature o feature ns)) (no_number o feature n off) ∙ older (noted_feature o feature ns))
    go rest false is true on = absurd (is_no_note n (is_of 64 n) (is_of 67 n) (is_of 78 n) refl refl refl on is)

-- bytes of a note after some of them
pub after_skip : (bytes body : List ℕ) (at skip : ℕ) → skip ≤ length body → slice bytes (at + 8) (length body) ≡ body → drop skip body ≡ take (length body - skip) (drop (at + 8 + skip) bytes)
after_skip bytes body at skip long is =
    let n : length body ≡ skip + (length body - skip) = omega (arith, long) in
    ap (drop skip) (sym is) ∙ ap (λ k. drop skip (take k (drop (at + 8) bytes))) n ∙ drop-take skip (length body - skip) (drop (at + 8) bytes) ∙ ap (take (length body - skip)) (drop-drop skip (at + 8) bytes)

-- the bytes of a feature after its number
pub after_number : (bytes body : List ℕ) (at : ℕ) → 8 ≤ length body → slice bytes (at + 8) (length body) ≡ body → slice bytes (at + 16) (length body - 8) ≡ drop 8 body
after_number bytes body at long is = sym (after_skip bytes body at 8 long is ∙ ap (λ m. take (length body - 8) (drop m bytes)) (omega arith))

-- a feature of a pipe
pub pipe_feature : (bytes : List ℕ) (order : Dynamic) (feature : ℕ) → pipe_order bytes ≡ Some order → feature_of bytes feature ≡ Ok (noted_feature (order_of order) feature (all_frames order (drop 16 bytes)))
unfolding feature_of notes_of
pipe_feature bytes order feature is =
    let o = order_of order in
    let all = all_frames order (drop 16 bytes) in
    let first : feature_of bytes feature ≡ Ok (noted_feature o feature (notes_of bytes)) = rw (feature_of, is) refl in
    let notes : notes_of bytes ≡ filter is_note all = rw (notes_of, is) refl in
    first ∙ ap (λ ns. Ok (noted_feature o feature ns)) notes ∙ ap (λ (found : Option (List ℕ)). Ok found) (noted_alike o feature all)

-- ---- new names

prefix : (m : ℕ) (xs : List ℕ) → take (length (take m xs)) xs ≡ take m xs
prefix zero xs = refl
prefix (suc m) [] = refl
prefix (suc m) (x ∷ xs) = ap (λ ys. x ∷ ys) (prefix m xs)

short_take : (m : ℕ) (xs : List ℕ) → length (take m xs) ≤ length xs
short_take zero xs = omega arith
short_take (suc m) [] = omega arith
short_take (suc m) (x ∷ xs) = let a = short_take m xs in omega (arith, a)

-- a name has a kind and an id before it, and at least one byte
pub name_is : (o : Order) (n : FrameNote) → has_name o n ≡ true → (16 ≤ length n.body) × (0 < length (new_name n))
name_is o n is = elim (cases_lt (length n.body) 16) [
  | inl lt ↦
      let a : nat_lt (length n.body) 16 ≡ true = lt-ltb (length n.body) 16 lt in
      let no : has_name o n ≡ false = ap (λ b. cond b false (is_of 78 n && (number o n.body 0 == 2 && nat_lt 0 (length (new_name n))))) a in absurd (cc)
  | inr le ↦
      let a : nat_lt (length n.body) 16 ≡ false = le-ltb (length n.body) 16 le in
      let rest : (is_of 78 n && (number o n.body 0 == 2 && nat_lt 0 (length (new_name n)))) ≡ true = sym (ap (λ b. cond b false (is_of 78 n && (number o n.body 0 == 2 && nat_lt 0 (length (new_name n))))) a) ∙ is in
      (le, ltb-true 0 (length (new_name n)) (last (is_of 78 n) (number o n.body 0 == 2) (nat_lt 0 (length (new_name n))) rest))
]
  where
    last : (a b c : Bool) → (a && (b && c)) ≡ true → c ≡ true
    last true true c is = is
    last true false c is = absurd (cc)
    last false b c is = absurd (cc)

-- where a new name is in the file
pub placed_name : (bytes name : List ℕ) (n : FrameNote) → IsPlaced bytes n → 16 ≤ length n.body → name ≡ new_name n → name_at bytes (record { start = n.at + 24; size = length name }) ≡ Some (new_name n)
placed_name bytes name n placed long is =
    let rest : List ℕ = drop (n.at + 24) bytes in
    let most = length n.body - 16 in
    let m = zero_at (drop 16 n.body) in
    let cut : drop 16 n.body ≡ take most rest = after_skip bytes n.body n.at 16 long placed.there ∙ ap (λ i. take most (drop i bytes)) (omega arith) in
    let own : name ≡ take m (take most rest) = is ∙ ap (take m) cut in
    let k : length name ≡ length (take m (take most rest)) = ap (λ (xs : List ℕ). length xs) own in
    let few = short_take m (take most rest) in
    let less : length (take most rest) ≤ most = short_most most rest in
    let same : take (length name) rest ≡ new_name n =
    sym (take-take (length name) most rest (omega (arith, k, few, less))) ∙ ap (λ i. take i (take most rest)) k ∙ prefix m (take most rest) ∙ ap (take m) (sym cut) in
    let a : nat_eq (n.at + 24) 0 ≡ false = not_zero n.at in
    let b : nat_le (n.at + 24 + length name) (length bytes) ≡ true = le-leb (n.at + 24 + length name) (length bytes) (omega (arith, placed.inside, long, k, few, less)) in
    rw (a, b) (ap (λ (xs : List ℕ). Some xs) same)
  where
    short_most : (i : ℕ) (xs : List ℕ) → length (take i xs) ≤ i
    short_most zero xs = omega arith
    short_most (suc i) [] = omega arith
    short_most (suc i) (x ∷ xs) = let a = short_most i xs in omega (arith, a)

    not_zero : (i : ℕ) → nat_eq (i + 24) 0 ≡ false
    not_zero i = grind (arith)
