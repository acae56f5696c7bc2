-- A run's list against the answers of all bytes.
use Rattle.std.proofs.Common.{◌≡◌, ℕ, zero, suc, ◌+◌, ◌<◌, ◌≤◌, List, [], ◌∷◌, ◌++◌, length, take, drop, map, arith, refl, sym, ◌∙◌, ap, subst, true, inl, inr}
use Rattle.std.specs.Prelude.{Result, IsTrue, Bool}
use Rattle.std.proofs.lemmas.Bool.{cases_lt}
use Rattle.std.proofs.lemmas.List.{length-append, length-drop, take-map}
use Rattle.perf_base.specs.Configuration.{Configuration}
use Rattle.perf_base.specs.Header.{header_of}
use Rattle.perf_base.specs.Order.{Order}
use Rattle.perf_base.specs.declared.error.ErrorKind.{ErrorKind}
use Rattle.perf_base.specs.declared.error.ParseError.{ParseError}
use Rattle.perf_base.specs.declared.sys.perf_event_header.{perf_event_header}
use Rattle.perf_reader.specs.ReaderState.{ReaderState}
use Rattle.perf_reader.specs.Reading.{of_layout}
use Rattle.perf_records.specs.Answers.{answer_of_frame, answers}
use Rattle.perf_records.specs.Frames.{frame_length, first_frames, frames, drop_frames}
use Rattle.perf_records.specs.Frames.{cut_header, end_with, stream_end}
use Rattle.perf_records.specs.Records.{RecordValue}
use Rattle.perf_records.specs.declared.record.Record.{Record}
use Rattle.perf_records.proofs.FrameList.{frames_first, frames_short}
use Rattle.perf_records.proofs.Headers.{header_alone, answer_alone, reads_alone}
use Rattle.perf_parser.specs.Runs.{Pairs, seen_answer, seen_answers, listed_reads, CountsMore}
use Rattle.perf_parser.specs.Runs.{IsBorrowedAnswer, AllBorrowed, MovesWithinFrame, EndsWith, EndsBetween}
use Rattle.perf_parser.specs.Steps.{StopsAt, StopsBetween, IsEndOf, IsAfter, StepKind, HasTaken, ListsFirst}
use Rattle.perf_parser.specs.declared.run.RunEnd.{RunEnd}
use Rattle.perf_reader.specs.declared.header.Stop.{Stop}
use Rattle.perf_reader.specs.declared.header.Stop.TheVariants as stop
use Rattle.perf_parser.proofs.RunEnds.{end_kind}

pub one_more_borrowed : (pairs : Pairs) (h : perf_event_header) (r : Result Record ParseError) → AllBorrowed pairs → IsBorrowedAnswer r → AllBorrowed (pairs ++ (h, r) ∷ [])
one_more_borrowed [] h r p q = (q, tt)
one_more_borrowed (pair ∷ pairs) h r p q = (p.0, one_more_borrowed pairs h r p.1 q)

-- ---- frames in a row

-- the first k frames are all present
abbrev pub AreThere : Order → ℕ → List ℕ → Type 0
AreThere o k bytes = length (first_frames o k bytes) ≡ k

-- if one more is present, so is the first
pub there_fits : (o : Order) (k : ℕ) (bytes : List ℕ) → AreThere o (suc k) bytes → 8 ≤ length bytes
there_fits o k bytes h = elim (cases_lt (length bytes) 8) [
  | inr fits ↦ fits
  | inl short ↦ absurd (omega (arith, h, ap length (frames_short o (suc k) bytes short)))
]

pub there_next : (o : Order) (k : ℕ) (bytes : List ℕ) → AreThere o (suc k) bytes → AreThere o k (drop (frame_length o bytes) bytes)
there_next o k bytes h =
    let e = ap length (frames_first o k bytes (there_fits o k bytes h)) in
    omega (arith, h, e)

-- one frame more after the first k
pub frames_on : (o : Order) (k : ℕ) (bytes : List ℕ) → AreThere o k bytes → 8 ≤ length (drop_frames o k bytes) →
    first_frames o (k + 1) bytes ≡ first_frames o k bytes ++ take (frame_length o (drop_frames o k bytes)) (drop_frames o k bytes) ∷ []
frames_on o zero bytes h fits = frames_first o 0 bytes fits
frames_on o (suc k) bytes h fits =
    let rest : List ℕ = drop (frame_length o bytes) bytes in
    let eight : 8 ≤ length bytes = there_fits o k bytes h in
    let more : k + 1 ≡ suc k = omega arith in
    let sum : suc k + 1 ≡ suc (suc k) = omega arith in
    ap (λ n. first_frames o n bytes) sum
    ∙ frames_first o (suc k) bytes eight
    ∙ ap (λ n. take (frame_length o bytes) bytes ∷ first_frames o n rest) (sym more)
    ∙ ap (λ fs. take (frame_length o bytes) bytes ∷ fs) (frames_on o k rest (there_next o k bytes h) fits)
    ∙ ap (λ fs. fs ++ take (frame_length o (drop_frames o k rest)) (drop_frames o k rest) ∷ []) (sym (frames_first o k bytes eight))

pub after_on : (o : Order) (k : ℕ) (bytes : List ℕ) → drop_frames o (k + 1) bytes ≡ drop (frame_length o (drop_frames o k bytes)) (drop_frames o k bytes)
after_on o zero bytes = refl
after_on o (suc k) bytes =
    let sum : suc k + 1 ≡ suc (k + 1) = omega arith in
    ap (λ n. drop_frames o n bytes) sum ∙ after_on o k (drop (frame_length o bytes) bytes)

-- as many bytes as frames, at least
pub frames_fit : (o : Order) (k : ℕ) (bytes : List ℕ) → AreThere o k bytes → k ≤ length bytes
frames_fit o zero bytes h = omega arith
frames_fit o (suc k) bytes h =
    let rest : List ℕ = drop (frame_length o bytes) bytes in
    let again : k ≤ length rest = frames_fit o k rest (there_next o k bytes h) in
    omega (arith, there_fits o k bytes h, again, length-drop (frame_length o bytes) bytes)

-- the first k of more frames
frames_take : (o : Order) (k n : ℕ) (bytes : List ℕ) → AreThere o k bytes → k ≤ n → take k (first_frames o n bytes) ≡ first_frames o k bytes
frames_take o zero n bytes h le = refl
frames_take o (suc k) zero bytes h le = absurd (omega arith)
frames_take o (suc k) (suc n) bytes h le =
    let eight : 8 ≤ length bytes = there_fits o k bytes h in
    ap (take (suc k)) (frames_first o n bytes eight)
    ∙ ap (λ fs. take (frame_length o bytes) bytes ∷ fs) (frames_take o k n (drop (frame_length o bytes) bytes) (there_next o k bytes h) (omega arith))
    ∙ sym (frames_first o k bytes eight)

-- no more frames than k, if fewer than eight bytes are left after them
frames_all : (o : Order) (k n : ℕ) (bytes : List ℕ) → AreThere o k bytes → k ≤ n → length (drop_frames o k bytes) < 8 → first_frames o n bytes ≡ first_frames o k bytes
frames_all o zero n bytes h le short = frames_short o n bytes short
frames_all o (suc k) zero bytes h le short = absurd (omega arith)
frames_all o (suc k) (suc n) bytes h le short =
    let eight : 8 ≤ length bytes = there_fits o k bytes h in
    frames_first o n bytes eight
    ∙ ap (λ fs. take (frame_length o bytes) bytes ∷ fs) (frames_all o k n (drop (frame_length o bytes) bytes) (there_next o k bytes h) (omega arith) short)
    ∙ sym (frames_first o k bytes eight)

-- ---- the list so far
-- the next frame after the first k
pub one_frame_more : (start here : ReaderState) (k : ℕ) → IsAfter start k here → 8 ≤ length here.source.left →
    first_frames start.order (k + 1) start.source.left ≡ first_frames start.order k start.source.left ++ take (frame_length start.order here.source.left) here.source.left ∷ []
one_frame_more start here k after fits =
    let o : Order = start.order in let bytes : List ℕ = start.source.left in
    frames_on o k bytes after.there (subst (λ (xs : List ℕ). 8 ≤ length xs) after.left_is fits) ∙ ap (λ xs. first_frames o k bytes ++ take (frame_length o xs) xs ∷ []) (sym after.left_is)

map_on : {X Y : Type 0} (f : X → Y) (xs : List X) (x : X) → map f (xs ++ x ∷ []) ≡ map f xs ++ f x ∷ []
map_on f [] x = refl
map_on f (y ∷ ys) x = ap (λ zs. f y ∷ zs) (map_on f ys x)

-- a frame by its own bytes, and before others
pub listed_alone : (c : Configuration) (o : Order) (bytes : List ℕ) → listed_reads c o (take (frame_length o bytes) bytes) ≡ listed_reads c o bytes
listed_alone c o bytes = ap (λ n. 2 + n) (reads_alone c o bytes)

pub lists_none : (start : ReaderState) → ListsFirst start 0 true []
lists_none start = record { count = refl; goes = refl; borrowed = λ whole. tt; answers = λ told. refl }

-- one frame more is listed
pub lists_more : {S : Type 0} {kind : StepKind S} {state : S} (start here : ReaderState) (was now : Pairs) (k : ℕ) (h : perf_event_header) (r : Result Record ParseError) → HasTaken kind start k here state → ListsFirst start k true was →
    now ≡ was ++ (h, r) ∷ [] → (IsTrue here.source.whole → IsBorrowedAnswer r) → (IsTrue here.source.told → (8 ≤ length here.source.left) × (h ≡ header_of here.order here.source.left) × (seen_answer r ≡ answer_of_frame here.settings here.order here.source.left)) →
    ListsFirst start (k + 1) true now
lists_more start here was now k h r taken so_far pushed borrowed seen =
    let c : Configuration = start.settings in let o : Order = start.order in let bytes : List ℕ = start.source.left in let left : List ℕ = here.source.left in
    let more : List ℕ = take (frame_length o left) left in
    let pair_of : List ℕ → perf_event_header × Result RecordValue ErrorKind = λ frame. (header_of o frame, answer_of_frame c o frame) in record {
      count = ap length pushed ∙ length-append was ((h, r) ∷ []) ∙ ap (λ n. n + 1) so_far.count;
      goes = refl;
      borrowed = λ whole. subst AllBorrowed (sym pushed) (one_more_borrowed was h r (so_far.borrowed whole) (borrowed (taken.keeps.buffer.0 ∙ whole)));
      answers = λ told.
          let q = seen (taken.keeps.buffer.3 told) in
          let header : h ≡ header_of o more = q.1 ∙ ap (λ (x : Order). header_of x left) taken.order ∙ sym (header_alone o left) in
          let answer : seen_answer r ≡ answer_of_frame c o more =
          q.2 ∙ ap (λ (x : Configuration). answer_of_frame x here.order left) taken.settings ∙ ap (λ (x : Order). answer_of_frame c x left) taken.order ∙ sym (answer_alone c o left q.0) in
          let pair : (h, seen_answer r) ≡ pair_of more = ap (λ x. (x, seen_answer r)) header ∙ ap (λ x. (header_of o more, x)) answer in
          ap seen_answers pushed ∙ map_on (λ p. (p.0, seen_answer p.1)) was (h, r) ∙ ap (λ ps. ps ++ (h, seen_answer r) ∷ []) (so_far.answers told)
          ∙ ap (λ p. map pair_of (first_frames o k bytes) ++ p ∷ []) pair
          ∙ sym (map_on pair_of (first_frames o k bytes) more) ∙ ap (map pair_of) (sym (one_frame_more start here k (taken.after told) q.0));
    }

-- ---- what a run lists
pub listed_first : {start : ReaderState} {pairs : Pairs} {k : ℕ} {go : Bool} → IsTrue start.source.told → AreThere start.order k start.source.left → ListsFirst start k go pairs →
    seen_answers pairs ≡ take (length pairs) (answers start.settings start.order start.source.left)
listed_first {start = start} {pairs = pairs} {k = k} told there so_far =
    let c : Configuration = start.settings in let o : Order = start.order in let bytes : List ℕ = start.source.left in
    let pair_of : List ℕ → perf_event_header × Result RecordValue ErrorKind = λ frame. (header_of o frame, answer_of_frame c o frame) in
    so_far.answers told
    ∙ ap (map pair_of) (sym (frames_take o k (length bytes) bytes there (frames_fit o k bytes there)))
    ∙ sym (take-map pair_of k (frames o bytes))
    ∙ ap (λ n. take n (answers c o bytes)) (sym so_far.count)

-- if fewer than eight bytes are left, all frames were read, and the stream ends with those bytes
all_listed : (start here : ReaderState) (k : ℕ) → IsAfter start k here → length here.source.left < 8 →
    (k ≡ length (frames start.order start.source.left)) × (stream_end start.order start.source.left ≡ end_with (length here.source.left))
all_listed start here k so_far short =
    let o : Order = start.order in let bytes : List ℕ = start.source.left in
    let few : length (drop_frames o k bytes) < 8 = subst (λ (xs : List ℕ). length xs < 8) so_far.left_is short in
    let all : frames o bytes ≡ first_frames o k bytes = frames_all o k (length bytes) bytes so_far.there (frames_fit o k bytes so_far.there) few in
    let count : length (frames o bytes) ≡ k = ap length all ∙ so_far.there in
    (sym count, ap (λ n. end_with (length (drop_frames o n bytes))) count ∙ ap (λ xs. end_with (length xs)) (sym so_far.left_is))

-- ---- how it ends

-- a kind that is equal is none of the layout's either
not_of_layout : {a b : ErrorKind} → a ≡ b → (IsTrue (of_layout b) → ⊥) → IsTrue (of_layout a) → ⊥
not_of_layout same other = λ h. other (subst (λ (k : ErrorKind). IsTrue (of_layout k)) same h)

cut_off : (n : ℕ) → 0 < n → end_with n ≡ cut_header
cut_off zero h = absurd (omega arith)
cut_off (suc n) h = refl

pub ends_with : (start here new : ReaderState) (limit : ℕ) (k : ℕ) (s : Stop) (e : RunEnd) → IsAfter start k here → k < limit → here.order ≡ start.order →
    StopsAt here s new → IsEndOf s e → EndsWith start.order limit start.source.left k e new.source.left
ends_with start here new limit k stop.Done e so_far below same p is =
    let nothing : length here.source.left ≡ 0 = ap length p.0 in
    let all = all_listed start here k so_far (omega arith) in
    subst (λ (x : RunEnd). EndsWith start.order limit start.source.left k x new.source.left) (sym is) (below, all.0, all.1 ∙ ap end_with nothing, p.1)
ends_with start here new limit k stop.CutHeader e so_far below same p is =
    let all = all_listed start here k so_far p.1 in
    subst (λ (x : RunEnd). EndsWith start.order limit start.source.left k x new.source.left) (sym is) (below, all.0, all.1 ∙ cut_off (length here.source.left) p.0, p.2)
ends_with start here new limit k (stop.Refused r) e so_far below same p is =
    let within : MovesWithinFrame start.order (drop_frames start.order k start.source.left) new.source.left =
    subst (λ (xs : List ℕ). MovesWithinFrame start.order xs new.source.left) so_far.left_is (subst (λ (o : Order). MovesWithinFrame o here.source.left new.source.left) same p.1) in
    subst (λ (x : RunEnd). EndsWith start.order limit start.source.left k x new.source.left) (sym is.1) (below, not_of_layout is.2.kind_is p.0, within)

-- if a failed allocation ended it
pub ends_between : (start here new : ReaderState) (k : ℕ) (s : Stop) (e : RunEnd) → IsAfter start k here → here.order ≡ start.order →
    StopsBetween here s new → IsEndOf s e → EndsBetween start.order start.source.left k e new.source.left
ends_between start here new k s e so_far order p is = λ h. elim (p (end_kind s e is h)) [
  | inl same ↦ inl (same ∙ so_far.left_is)
  | inr next ↦
      inr (next ∙ ap (λ (o : Order). drop (frame_length o here.source.left) here.source.left) order ∙ ap (λ (xs : List ℕ). drop (frame_length start.order xs) xs) so_far.left_is
      ∙ sym (after_on start.order k start.source.left))
]

-- how many reads it made
pub counts_more : (start here new : ReaderState) (made : ℕ) (s : Stop) (e : RunEnd) → here.reads ≡ start.reads + made → here.reads ≤ new.reads → StopsAt here s new → IsEndOf s e → CountsMore made e start.reads new.reads
counts_more start here new made stop.Done e reads more p is = subst (λ (x : RunEnd). CountsMore made x start.reads new.reads) (sym is) (omega (arith, p.2, reads))
counts_more start here new made stop.CutHeader e reads more p is = subst (λ (x : RunEnd). CountsMore made x start.reads new.reads) (sym is) (omega (arith, p.3, reads))
counts_more start here new made (stop.Refused r) e reads more p is = subst (λ (x : RunEnd). CountsMore made x start.reads new.reads) (sym is.1) (omega (arith, more, reads))
