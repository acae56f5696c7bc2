-- Notes of attributes read one after another, and the events that they are.
use Rattle.std.proofs.Common.{◌≡◌, ℕ, zero, suc, ◌+◌, ◌-◌, ◌*◌, ◌/◌, ◌%◌, ◌≤◌, ◌==◌, List, [], ◌∷◌, length, map, take, drop, max, Bool, true, false, not, Result, Ok, Err, nat_lt, inl, inr, refl, sym, ap, subst, ◌∙◌, arith}
use Rattle.std.specs.Prelude.{if◌then◌else◌}
use Rattle.std.specs.List.{filter, list_any}
use Rattle.std.proofs.lemmas.Bool.{lt-ltb, le-ltb, cases_lt}
use Rattle.std.proofs.lemmas.List.{length-drop, length-take-le}
use Rattle.std.proofs.lemmas.List.Sums.{sum_by-cons}
use Rattle.perf_base.specs.Dynamic.{order_of}
use Rattle.perf_base.specs.Header.{header_of}
use Rattle.perf_base.specs.Order.{Order}
use Rattle.perf_base.specs.declared.endian.Dynamic.{Dynamic}
use Rattle.perf_base.specs.declared.sys.perf_event_header.{perf_event_header}
use Rattle.perf_reader.specs.Headers.{frame_length}
use Rattle.perf_records.specs.Answers.{length_after}
use Rattle.perf_records.specs.Sights.{Sight, sight_in, sight_after}
use Rattle.perf_sections.specs.IdSections.{checked_ids}
use Rattle.perf_sections.specs.Opened.{File}
use Rattle.perf_sections.specs.Opens.{◌>>=◌}
use Rattle.perf_outlines.specs.Outlines.{ids_in, id_count}
use Rattle.perf_file.specs.Pieces.{piece_in, after_piece, after_frame, first_pieces, size_of, header_seen, payload_length}
use Rattle.perf_outlines.specs.PipeOutlines.{from_notes, note_sections}
use Rattle.perf_file.specs.Pipes.{FrameNote, note_in, body_seen, pipe_with, is_of, is_compressed, all_frames, each_of, noted_ids, attribute_size, attribute_bytes, id_bytes}
use Rattle.perf_sections.specs.Sections.{is_inside}
use Rattle.perf_sections.specs.declared.error.OpenError.{OpenError}
use Rattle.perf_sections.specs.declared.section.Section.{Section}
use Rattle.perf_file.proofs.Laws.{length-drop_most, header_after, size_is, size_seen, short, first}
use Rattle.perf_file.proofs.Noted.{body_there}
use Rattle.perf_outlines.proofs.Stepping.{regroup}

-- ---- one after another

pub bind_ok : {A B : Type 0} (r : Result A OpenError) (k : A → Result B OpenError) (y : B) → (r >>= k) ≡ Ok y → (x : A) × (r ≡ Ok x) × (k x ≡ Ok y)
bind_ok (Ok x) k y is = (x, refl, is)
bind_ok (Err e) k y is = absurd (cc)

-- a note that is not of an attribute
pub passes_by : {A B : Type 0} (item : ℕ → FrameNote → Result A OpenError) (index : ℕ) (x : FrameNote) (rest : List FrameNote) (made : List A → Result B OpenError) → is_of 64 x ≡ false
    → from_notes item index (x ∷ rest) made ≡ from_notes item index rest made
passes_by item index x rest made off = rw off refl

-- one that is
pub reads_one : {A B : Type 0} (item : ℕ → FrameNote → Result A OpenError) (index : ℕ) (x : FrameNote) (rest : List FrameNote) (a : A) (made : List A → Result B OpenError) → is_of 64 x ≡ true → item index x ≡ Ok a
    → from_notes item index (x ∷ rest) made ≡ from_notes item (index + 1) rest (λ xs. made (a ∷ xs))
unfolding each_of
reads_one item index x rest a made on got = rw (on, got) (regroup a made (each_of item (index + 1) (filter (is_of 64) rest)))

-- one that is refused
pub stops_at : {A B : Type 0} (item : ℕ → FrameNote → Result A OpenError) (index : ℕ) (x : FrameNote) (rest : List FrameNote) (e : OpenError) (made : List A → Result B OpenError) → is_of 64 x ≡ true → item index x ≡ Err e
    → from_notes item index (x ∷ rest) made ≡ Err e
unfolding each_of
stops_at item index x rest e made on got = rw (on, got) refl

pub none_left : {A B : Type 0} (item : ℕ → FrameNote → Result A OpenError) (index : ℕ) (made : List A → Result B OpenError) → from_notes item index [] made ≡ made []
unfolding each_of
none_left item index made = refl

-- the same of what is found
pub made_alike : {A B : Type 0} (item : ℕ → FrameNote → Result A OpenError) (index : ℕ) (left : List FrameNote) (f g : List A → Result B OpenError) → ((xs : List A) → f xs ≡ g xs) → from_notes item index left f ≡ from_notes item index left g
made_alike {A} {B} item index left f g same = go (each_of item index (filter (is_of 64) left))
  where
    go : (r : Result (List A) OpenError) → (r >>= f) ≡ (r >>= g)
    go (Ok xs) = same xs
    go (Err e) = refl

-- the first of some frames is compressed
pub any_first : (x : FrameNote) (rest : List FrameNote) → is_compressed x ≡ true → list_any is_compressed (x ∷ rest) ≡ true
any_first x rest on = rw on refl

-- ---- how many notes there are

pub counts_one : (x : FrameNote) → is_of 64 x ≡ true → length (filter (is_of 64) (x ∷ [])) ≡ 1
counts_one x on = rw on refl

pub counts_more : (x : FrameNote) (rest : List FrameNote) → length (filter (is_of 64) (x ∷ rest)) ≡ length (filter (is_of 64) (x ∷ [])) + length (filter (is_of 64) rest)
counts_more x rest = go (is_of 64 x) refl
  where
    go : (b : Bool) → is_of 64 x ≡ b → length (filter (is_of 64) (x ∷ rest)) ≡ length (filter (is_of 64) (x ∷ [])) + length (filter (is_of 64) rest)
    go true on = rw on (omega arith)
    go false off = rw off (omega arith)

few_pieces : (f : File) (n : ℕ) (left : List ℕ) → length (map note_in (first_pieces f n left)) ≤ n
few_pieces f zero left = omega arith
few_pieces f (suc n) left = elim (cases_lt (length left) 8) [
  | inl lt ↦ let a : length (map note_in (first_pieces f (suc n) left)) ≡ 0 = ap (λ ps. length (map note_in ps)) (short f (suc n) left lt) in omega (arith, a)
  | inr fits ↦
      let a = ap (λ ps. length (map note_in ps)) (first f n left fits) in
      let b = few_pieces f n (after_piece (order_of f.order) left) in
      omega (arith, a, b)
]

-- no more than bytes
pub few_notes : (order : Dynamic) (frames : List ℕ) → length (all_frames order frames) ≤ length frames
few_notes order frames = few_pieces (pipe_with order frames []) (length frames) frames

-- ---- room for the ids

-- a frame takes at least its header and the bytes after it
fits_header : (h : perf_event_header) (rest : List ℕ) (found : Sight) → found ≡ sight_after h rest true → 8 + length (body_seen found) ≤ size_of (header_seen found)
fits_header h rest found is =
    let n : size_of (header_seen found) ≡ max 8 h.size = ap (λ s. size_of (header_seen s)) is ∙ ap size_of (header_after h rest) ∙ size_is h in
    elim (cases_lt h.size 8) [
      | inl lt ↦
          let a : nat_lt h.size 8 ≡ true = lt-ltb h.size 8 lt in
          let b : length (body_seen found) ≡ 0 = ap (λ s. length (body_seen s)) is ∙ rw a refl in
          omega (arith, b, n)
      | inr le ↦
          let a : nat_lt h.size 8 ≡ false = le-ltb h.size 8 le in
          elim (cases_lt (length rest) (length_after h)) [
            | inl lt ↦
                let c : nat_lt (length rest) (length_after h) ≡ true = lt-ltb (length rest) (length_after h) lt in
                let b : length (body_seen found) ≡ 0 = ap (λ s. length (body_seen s)) is ∙ rw (a, c) refl in
                omega (arith, b, n)
            | inr fits ↦
                let c : nat_lt (length rest) (length_after h) ≡ false = le-ltb (length rest) (length_after h) fits in
                let b : body_seen found ≡ take (length_after h) rest = ap body_seen is ∙ rw (a, c) refl in
                let k : length (body_seen found) ≡ length_after h = ap (λ (xs : List ℕ). length xs) b ∙ length-take-le (length_after h) rest fits in
                omega (arith, k, n, le)
          ]
    ]

-- the bytes of a note and those after it
note_and_after : (o : Order) (left : List ℕ) → 8 ≤ length left → 8 + length (body_seen (sight_in o left true)) + length (after_piece o left) ≤ length left
note_and_after o left long =
    let found = sight_in o left true in
    let a = fits_header (header_of o left) (drop 8 left) found refl in
    let b = size_seen o left found refl in
    let c = (body_there o left found long refl).0 in
    let d = length-drop_most (payload_length o found) (after_frame o left) in
    elim (cases_lt (frame_length o left) (length left)) [
      | inl lt ↦
          let e : nat_lt (frame_length o left) (length left) ≡ true = lt-ltb (frame_length o left) (length left) lt in
          let n : length (after_frame o left) ≡ length left - frame_length o left = rw e (length-drop (frame_length o left) left) in
          omega (arith, a, b, c, d, n, lt)
      | inr le ↦
          let e : nat_lt (frame_length o left) (length left) ≡ false = le-ltb (frame_length o left) (length left) le in
          let n : length (after_frame o left) ≡ 0 = rw e refl in
          omega (arith, c, d, n)
    ]

checked_is : (bytes : List ℕ) (index : ℕ) (ids s : Section) → checked_ids bytes index ids ≡ Ok s → s ≡ ids
checked_is bytes index ids s is = go (ids.size % 8 == 0) (is_inside bytes ids) _ _ is
  where
    go : (a b : Bool) (d e : OpenError) → ◌≡◌ {A = Result Section OpenError} (if not a then Err d else (if not b then Err e else Ok ids)) (Ok s) → s ≡ ids
    go false b d e out = absurd (cc)
    go true false d e out = absurd (cc)
    go true true d e out = let same : ids ≡ s = cc in sym same

fit_ids : (f : File) (bytes : List ℕ) (n : ℕ) (left : List ℕ) (index : ℕ) (ss : List Section) → each_of (noted_ids f.order bytes) index (filter (is_of 64) (map note_in (first_pieces f n left))) ≡ Ok ss → 8 * id_count ss ≤ length left
unfolding each_of
fit_ids f bytes zero left index ss is = let e : [] ≡ ss = cc in let none : id_count ss ≡ 0 = ap id_count (sym e) in omega (arith, none)
fit_ids f bytes (suc n) left index ss is = elim (cases_lt (length left) 8) [
  | inl lt ↦
      let out : each_of (noted_ids f.order bytes) index (filter (is_of 64) (map note_in [])) ≡ Ok ss = subst (λ ps. each_of (noted_ids f.order bytes) index (filter (is_of 64) (map note_in ps)) ≡ Ok ss) (short f (suc n) left lt) is in
      let e : [] ≡ ss = cc in let none : id_count ss ≡ 0 = ap id_count (sym e) in omega (arith, none)
  | inr long ↦
      let x = note_in (piece_in f left) in
      let after = after_piece (order_of f.order) left in
      let rest : List FrameNote = map note_in (first_pieces f n after) in
      let out : each_of (noted_ids f.order bytes) index (filter (is_of 64) (x ∷ rest)) ≡ Ok ss = subst (λ ps. each_of (noted_ids f.order bytes) index (filter (is_of 64) (map note_in ps)) ≡ Ok ss) (first f n left long) is in
      more x after rest (note_and_after (order_of f.order) left long) (λ i ts e. fit_ids f bytes n after i ts e) (is_of 64 x) refl out
]
  where
    more : (x : FrameNote) (after : List ℕ) (rest : List FrameNote) → 8 + length x.body + length after ≤ length left → ((i : ℕ) (ts : List Section) → each_of (noted_ids f.order bytes) i (filter (is_of 64) rest) ≡ Ok ts → 8 * id_count ts ≤ length after)
        → (b : Bool) → is_of 64 x ≡ b → each_of (noted_ids f.order bytes) index (filter (is_of 64) (x ∷ rest)) ≡ Ok ss → 8 * id_count ss ≤ length left
    more x after rest room others false off out =
        let item = noted_ids f.order bytes in
        let here : each_of item index (filter (is_of 64) (x ∷ rest)) ≡ each_of item index (filter (is_of 64) rest) = rw off refl in
        let a = others index ss (sym here ∙ out) in omega (arith, a, room)
    more x after rest room others true on out =
        let item = noted_ids f.order bytes in
        let o = order_of f.order in
        let here : each_of item index (filter (is_of 64) (x ∷ rest)) ≡ (item index x >>= λ s. each_of item (index + 1) (filter (is_of 64) rest) >>= λ ts. Ok (s ∷ ts)) = rw on refl in
        let a = bind_ok (item index x) (λ s. each_of item (index + 1) (filter (is_of 64) rest) >>= λ ts. Ok (s ∷ ts)) ss (sym here ∙ out) in
        let b = bind_ok (each_of item (index + 1) (filter (is_of 64) rest)) (λ ts. Ok (a.0 ∷ ts)) ss a.2 in
        let e : a.0 ∷ b.0 ≡ ss = let z = b.2 in cc in
        let size : a.0.size ≡ length (id_bytes o x) = ap (λ (s : Section). s.size) (checked_is bytes index (record { start = x.at + 8 + length (attribute_bytes o x); size = length (id_bytes o x) }) a.0 a.1) in
        let few = length-drop_most (attribute_size o x.body) x.body in
        let sum : id_count (a.0 ∷ b.0) ≡ a.0.size / 8 + id_count b.0 = sum_by-cons ids_in a.0 b.0 in
        let same : id_count ss ≡ id_count (a.0 ∷ b.0) = ap id_count (sym e) in
        let d = others (index + 1) b.0 b.1 in
        omega (arith, size, few, sum, same, d, room)

-- the ids of a pipe have room in its bytes
pub ids_fit : (order : Dynamic) (bytes : List ℕ) (ss : List Section) → note_sections order bytes (all_frames order (drop 16 bytes)) ≡ Ok ss → id_count ss ≤ length bytes / 8
ids_fit order bytes ss is =
    let frames = drop 16 bytes in
    let a = fit_ids (pipe_with order frames []) bytes (length frames) frames 0 ss is in
    let b = length-drop 16 bytes in
    omega (arith, a, b)
