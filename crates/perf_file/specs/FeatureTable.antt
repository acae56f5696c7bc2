-- The features of a file: what perf states about the recording, each by its number. They come after
-- the frames, with a table of where each of them is.
use Rattle.std.specs.Prelude.{ℕ, zero, suc, ◌+◌, ◌*◌, ◌/◌, ◌%◌, not, ◌||◌, Bool, List, length, nat_lt, Option, Some, None, Result, Ok, Err, if◌then◌else◌}
use Rattle.perf_base.specs.Dynamic.{order_of}
use Rattle.perf_base.specs.Layout.{slice}
use Rattle.perf_base.specs.Order.{Order}
use Rattle.perf_sections.specs.Numbers.{number}
use Rattle.perf_sections.specs.Opened.{checked_head}
use Rattle.perf_sections.specs.Sections.{section_at, is_inside}
use Rattle.perf_file.specs.declared.feature.BadFeature.{BadFeature}
use Rattle.perf_file.specs.declared.feature.BadFeature.TheVariants.{PastEnd}
use Rattle.perf_sections.specs.declared.head.Head.{Head}
use Rattle.perf_sections.specs.declared.section.Section.{Section}
use Rattle.perf_words.specs.Bits.{has_bit}

-- whether the head has the bit of a feature: of the number k, bit k % 64 of the number k / 64
abbrev pub has_feature : Order → List ℕ → (feature : ℕ) → Bool
has_feature o bytes feature = has_bit (number o bytes (72 + 8 * (feature / 64))) (feature % 64)

-- how many features the file has before one
unfoldable pub features_before : Order → List ℕ → (feature : ℕ) → ℕ
features_before o bytes zero = 0
features_before o bytes (suc k) = features_before o bytes k + (if has_feature o bytes k then 1 else 0)

-- Where the table states a feature: it has 16 bytes for each feature of the file, in rising order, and
-- begins where the frames end.
abbrev pub entry_of : List ℕ → Head → (feature : ℕ) → ℕ
entry_of bytes h feature = h.frames.start + h.frames.size + 16 * features_before (order_of h.order) bytes feature

-- a part of the file that is to end inside it
abbrev pub checked_section : List ℕ → Section → Result (Option Section) BadFeature
checked_section bytes s = if is_inside bytes s then Ok (Some s) else Err PastEnd

-- where a feature is, if perf closed the file and the file has it
abbrev pub section_of : List ℕ → Head → (feature : ℕ) → Result (Option Section) BadFeature
section_of bytes h feature =
    if not h.is_closed || not (has_feature (order_of h.order) bytes feature) then Ok None
    else (if nat_lt (length bytes) (entry_of bytes h feature + 16) then Err PastEnd
    else checked_section bytes (section_at (order_of h.order) bytes (entry_of bytes h feature)))

-- what a call over features returns, seen by view
abbrev pub seen : {X Y : Type 0} → (X → Y) → Result (Option X) BadFeature → Result (Option Y) BadFeature
seen view (Ok (Some x)) = Ok (Some (view x))
seen view (Ok None) = Ok None
seen view (Err e) = Err e

-- the bytes of a feature of a file with that head
abbrev pub feature_with : List ℕ → Head → (feature : ℕ) → Result (Option (List ℕ)) BadFeature
feature_with bytes h feature = seen (λ (s : Section). slice bytes s.start s.size) (section_of bytes h feature)

-- those of a file that is no pipe; none if it cannot be opened
unfoldable pub file_feature_of : List ℕ → (feature : ℕ) → Result (Option (List ℕ)) BadFeature
file_feature_of bytes feature = elim (checked_head bytes) [ Ok h ↦ feature_with bytes h feature | Err e ↦ Ok None ]
