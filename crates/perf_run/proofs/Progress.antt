-- How far a run has come: the lines of the first n answers are written.
use Rattle.std.proofs.Common.{◌≡◌, ℕ, ◌+◌, ◌-◌, ◌≤◌, min, Bool, false, List, [], ◌∷◌, ◌++◌, length, take, drop, refl, sym, ap, ◌∙◌, arith, subst, append-nil, append_assoc, zero-add, length-drop}
use Rattle.std.specs.Prelude.{Result, Ok, Err, is_err, ◌||◌}
use Rattle.std.specs.List.{list_any}
use Rattle.std.proofs.Math.Seq.{take-add}
use Rattle.std.proofs.lemmas.List.{length-map, length-take, length-take-le}
use Rattle.std.proofs.lemmas.List.Folds.{list_any-append}
use Rattle.perf_base.specs.Order.{Order}
use Rattle.perf_base.specs.Configuration.{Configuration}
use Rattle.perf_base.specs.declared.sys.perf_event_header.{perf_event_header}
use Rattle.perf_base.specs.declared.error.ErrorKind.{ErrorKind}
use Rattle.perf_base.specs.declared.error.ParseError.{ParseError}
use Rattle.perf_records.specs.Records.{RecordValue}
use Rattle.perf_records.specs.declared.record.Record.{Record}
use Rattle.perf_records.specs.Frames.{StreamEnd, frames, drop_frames, stream_end}
use Rattle.perf_records.specs.Answers.{answers, answer_of_frame}
use Rattle.perf_parser.specs.Runs.{seen_answer}
use Rattle.perf_parser.specs.Runs.{seen_answers}
use Rattle.perf_base.specs.Header.{header_of}
use Rattle.perf_run.specs.Text.{lines_from}
use Rattle.perf_run.proofs.Numbered.{lines_append}
use Rattle.perf_records.proofs.FramesAfter.{frames_after, answers_after, end_after}

abbrev Pair : Type 0
Pair = perf_event_header × Result RecordValue ErrorKind

abbrev is_refused : Pair → Bool
is_refused pair = is_err pair.1

-- the lines of the first n answers come after start, and refused is whether one of them is a
-- refusal
pub record Listed (c : Configuration) (o : Order) (bytes start : List ℕ) (n : ℕ) (made : List ℕ) (refused : Bool) : Type 0 where
  pub within : n ≤ length (answers c o bytes)
  pub made_is : made ≡ start ++ lines_from 0 (take n (answers c o bytes))
  pub refused_is : refused ≡ list_any is_refused (take n (answers c o bytes))

pub listed_none : (c : Configuration) (o : Order) (bytes start : List ℕ) → Listed c o bytes start 0 start false
listed_none c o bytes start = record { within = omega arith; made_is = sym (append-nil start); refused_is = refl }

-- there are as many answers as frames
count_answers : (c : Configuration) (o : Order) (bytes : List ℕ) → length (answers c o bytes) ≡ length (frames o bytes)
count_answers c o bytes = length-map (frames o bytes) (λ frame. (header_of o frame, answer_of_frame c o frame))

-- a refusal is one in terms of the definition too
refused_said : (pairs : List (perf_event_header × Result Record ParseError)) → list_any (λ pair. is_err pair.1) pairs ≡ list_any is_refused (seen_answers pairs)
refused_said [] = refl
refused_said ((h, Ok r) ∷ pairs) = refused_said pairs
refused_said ((h, Err e) ∷ pairs) = refl

-- one more batch
pub listed_more : (c : Configuration) (o : Order) (bytes start : List ℕ) (n : ℕ) (made : List ℕ) (refused : Bool) → Listed c o bytes start n made refused → (left : List ℕ) → left ≡ drop_frames o n bytes → (pairs : List (perf_event_header × Result Record ParseError)) → seen_answers pairs ≡ take (length pairs) (answers c o left) → (now : List ℕ) → now ≡ made ++ lines_from n (seen_answers pairs) → Listed c o bytes start (n + length pairs) now (refused || list_any (λ pair. is_err pair.1) pairs)
listed_more c o bytes start n made refused before left at pairs are now grown =
    let all : List Pair = answers c o bytes in
    let k : ℕ = length pairs in
    let more : List Pair = seen_answers pairs in
    let as_many : length more ≡ k = length-map pairs (λ pair. (pair.0, seen_answer pair.1)) in
    let there : n ≤ length (frames o bytes) = omega (arith, before.within, count_answers c o bytes) in
    let next : more ≡ take k (drop n all) = are ∙ ap (λ xs. take k xs) (ap (λ xs. answers c o xs) at ∙ answers_after c o n bytes there) in
    let together : take (n + k) all ≡ take n all ++ more = take-add n k all ∙ ap (λ xs. take n all ++ xs) (sym next) in
    let front : length (take n all) ≡ n = length-take-le n all before.within in
    let fits : length more ≡ min k (length all - n) = ap length next ∙ length-take k (drop n all) ∙ ap (λ j. min k j) (length-drop n all) in
    let lines : lines_from 0 (take n all ++ more) ≡ lines_from 0 (take n all) ++ lines_from n more =
    lines_append 0 (take n all) more ∙ ap (λ j. lines_from 0 (take n all) ++ lines_from j more) (zero-add (length (take n all)) ∙ front) in
    record {
      within = omega (arith, before.within);
      made_is = grown ∙ ap (λ xs. xs ++ lines_from n more) before.made_is ∙ append_assoc start (lines_from 0 (take n all)) (lines_from n more)
          ∙ ap (λ xs. start ++ xs) (sym lines ∙ ap (λ xs. lines_from 0 xs) (sym together));
      refused_is = ap (λ b. b || list_any (λ pair. is_err pair.1) pairs) before.refused_is
          ∙ ap (λ b. list_any is_refused (take n all) || b) (refused_said pairs)
          ∙ sym (list_any-append is_refused (take n all) more)
          ∙ ap (λ xs. list_any is_refused xs) (sym together);
    }

-- the same, as the code has it
pub batch_more : (c : Configuration) (o : Order) (bytes start : List ℕ) (n : ℕ) (made : List ℕ) (refused : Bool) → Listed c o bytes start n made refused → (left : List ℕ) → left ≡ drop_frames o n bytes → (pairs : List (perf_event_header × Result Record ParseError)) → seen_answers pairs ≡ take (length pairs) (answers c o left) → (shown : List (perf_event_header × Result Record ParseError)) → shown ≡ pairs → (now : List ℕ) → now ≡ made ++ lines_from n (seen_answers shown) → (seen : List (perf_event_header × Result Record ParseError)) → seen ≡ pairs → (any : Bool) → any ≡ list_any (λ pair. is_err pair.1) seen → Listed c o bytes start (n + length pairs) now (refused || any)
batch_more c o bytes start n made refused before left at pairs are shown same now grown seen alike any is =
    subst (λ b. Listed c o bytes start (n + length pairs) now (refused || b)) (sym (is ∙ ap (λ xs. list_any (λ pair. is_err pair.1) xs) alike))
    (listed_more c o bytes start n made refused before left at pairs are now (grown ∙ ap (λ xs. made ++ lines_from n (seen_answers xs)) same))

-- with a batch that lists the rest, all answers of the stream are listed
pub all_listed : (c : Configuration) (o : Order) (bytes : List ℕ) (n k : ℕ) (left : List ℕ) → n ≤ length (answers c o bytes) → left ≡ drop_frames o n bytes → k ≡ length (frames o left) → n + k ≡ length (answers c o bytes)
all_listed c o bytes n k left within at all =
    let there : n ≤ length (frames o bytes) = omega (arith, count_answers c o bytes) in
    let count : k ≡ length (frames o bytes) - n = all ∙ ap (λ xs. length (frames o xs)) at ∙ ap length (frames_after o n bytes there) ∙ length-drop n (frames o bytes) in
    omega (arith, count_answers c o bytes)

pub ends_alike : (c : Configuration) (o : Order) (bytes : List ℕ) (n : ℕ) (left : List ℕ) (end : StreamEnd) → n ≤ length (answers c o bytes) → left ≡ drop_frames o n bytes → stream_end o left ≡ end → stream_end o bytes ≡ end
ends_alike c o bytes n left end within at ends =
    let there : n ≤ length (frames o bytes) = omega (arith, count_answers c o bytes) in
    sym (end_after o n bytes there) ∙ ap (λ xs. stream_end o xs) (sym at) ∙ ends
