-- What a run over frames hands out, how it ends, what it leaves, and how many elementary reads it makes.
use Rattle.std.specs.Prelude.{Option, Some, None, true, false, Bool, IsTrue, ◌≡◌, ◌⊎◌, ℕ, ◌+◌, ◌*◌, ◌<◌, ◌≤◌}
use Rattle.std.specs.Prelude.{List, [], ◌∷◌, length}
use Rattle.perf_base.specs.Order.{Order}
use Rattle.perf_base.specs.declared.error.ErrorKind.{ErrorKind}
use Rattle.perf_reader.specs.ReaderState.{ReaderState}
use Rattle.perf_records.specs.Frames.{first_frames, drop_frames}
use Rattle.perf_records.specs.Sights.{Sight, sight_in}
use Rattle.perf_parser.specs.Runs.{EndsWith, CountsMore, end_refusal, one_if_ended}
use Rattle.perf_parser.specs.declared.run.RunEnd.{RunEnd}

-- A handler was handed these frames, one after the other: what is at each, by its bytes, which live
-- as long as the input if the buffer is whole. It went on after each except perhaps the last, after
-- which it returned this.
abbrev pub Handed : {S : Type 0} → (S → Sight → Bool → S → Type 0) → Order → (whole : Bool) → S →
    List (List ℕ) → Bool → S → Type 0
Handed gets o whole was [] go now = (now ≡ was) × (go ≡ true)
Handed {S} gets o whole was (frame ∷ frames) go now =
    (borrowed : Bool) × (IsTrue whole → IsTrue borrowed)
    × (((mid : S) × gets was (sight_in o frame borrowed) true mid
    × Handed gets o whole mid frames go now)
    ⊎ (gets was (sight_in o frame borrowed) false now × (frames ≡ []) × (go ≡ false)))

-- the handler went on
abbrev pub went_on : Option RunEnd → Bool
went_on (Some e) = true
went_on None = false

-- the handler got the first count frames, which are all present
abbrev pub HandsFirst : {S : Type 0} → (S → Sight → Bool → S → Type 0) → ReaderState → (count : ℕ) →
    Option RunEnd → S → S → Type 0
HandsFirst gets old count e was now =
    (length (first_frames old.order count old.source.left) ≡ count)
    × Handed gets old.order old.source.whole was
    (first_frames old.order count old.source.left) (went_on e) now

-- How a run ends that handed over count frames of these bytes, and what it leaves: like a run that
-- lists them, or by its handler after the last of them.
abbrev pub EndsFrames : Order → (limit : ℕ) → List ℕ → (count : ℕ) → Option RunEnd → List ℕ → Type 0
EndsFrames o limit bytes count (Some e) left = EndsWith o limit bytes count e left
EndsFrames o limit bytes count None left =
    (0 < count) × (count ≤ limit) × (left ≡ drop_frames o count bytes)

-- the reads of a run, by those of its frames
abbrev pub CountsRunReads : (made : ℕ) → Option RunEnd → (old new : ℕ) → Type 0
CountsRunReads made None old new = new ≡ old + made
CountsRunReads made (Some e) old new = CountsMore made e old new

-- two reads for each header, and those of its end
abbrev pub CountsHeaders : (count : ℕ) → Option RunEnd → (old new : ℕ) → Type 0
CountsHeaders count e old new = CountsRunReads (2 * count) e old new

-- the kind of the fault that ended it, if one did
abbrev pub frames_refusal : Option RunEnd → Option ErrorKind
frames_refusal None = None
frames_refusal (Some e) = end_refusal e

-- one if it ended before its limit, and not by its handler
abbrev pub one_if_run_ended : Option RunEnd → ℕ
one_if_run_ended None = 0
one_if_run_ended (Some e) = one_if_ended e
