-- What some features contain: texts, the words of the command, and times.
use Rattle.std.specs.Prelude.{ℕ, zero, suc, ◌+◌, Bool, true, false, List, [], ◌∷◌, length, drop, nat_lt, nat_le, codes, Option, Some, None, Result, Ok, Err, if◌then◌else◌}
use Rattle.perf_base.specs.Dynamic.{order_of}
use Rattle.perf_base.specs.Layout.{slice}
use Rattle.perf_base.specs.Order.{Order}
use Rattle.perf_base.specs.declared.endian.Dynamic.{Dynamic}
use Rattle.perf_sections.specs.Descriptions.{before_zero}
use Rattle.perf_file.specs.Forms.{feature_of}
use Rattle.perf_sections.specs.Numbers.{number, small_number}
use Rattle.perf_file.specs.declared.feature.BadFeature.{BadFeature}
use Rattle.perf_file.specs.declared.feature.BadFeature.TheVariants as bad
use Rattle.perf_file.specs.declared.header_texts.SampleTimes.{SampleTimes}
use Rattle.perf_file.specs.declared.command_line.CommandLine.{CommandLine}

-- what a refusal says
abbrev pub message : BadFeature → List ℕ
message bad.PastEnd = codes "the feature ends beyond the file, so it is cut off: copy it again, or record again"
message bad.Short = codes "the feature is damaged: copy the file again, or record again"

-- what was read of a feature that is there
abbrev pub present : {A : Type 0} → Result A BadFeature → Result (Option A) BadFeature
present (Ok a) = Ok (Some a)
present (Err e) = Err e

-- what is read of the bytes of a feature, if the file has it
abbrev pub then_read : {A : Type 0} → (List ℕ → Result A BadFeature) → Result (Option (List ℕ)) BadFeature → Result (Option A) BadFeature
then_read read (Ok (Some bytes)) = present (read bytes)
then_read read (Ok None) = Ok None
then_read read (Err e) = Err e

-- ---- strings

-- how many bytes a string takes: its length is a number of four bytes, and comes first
abbrev pub string_size : Order → List ℕ → ℕ
string_size o bytes = 4 + small_number o bytes 0

-- whether the string at the front is whole
abbrev pub is_whole : Order → List ℕ → Bool
is_whole o bytes =
    if nat_lt (length bytes) 4 then false
    else nat_le (string_size o bytes) (length bytes)

-- its text, which zeros may follow
abbrev pub text_in : Order → List ℕ → List ℕ
text_in o bytes = before_zero (slice bytes 4 (small_number o bytes 0))

-- the text of a feature that is a string
abbrev pub checked_text : Order → List ℕ → Result (List ℕ) BadFeature
checked_text o bytes = if is_whole o bytes then Ok (text_in o bytes) else Err bad.Short

-- the text of a feature of a file in that order
abbrev pub text_of : Dynamic → List ℕ → (feature : ℕ) → Result (Option (List ℕ)) BadFeature
text_of order bytes feature = then_read (checked_text (order_of order)) (feature_of bytes feature)

-- ---- the words of the command

-- the texts of at most n strings one after another, up to the first that is not whole
unfoldable pub words : Order → (n : ℕ) → List ℕ → List (List ℕ)
words o zero bytes = []
words o (suc n) bytes =
    if is_whole o bytes then text_in o bytes ∷ words o n (drop (string_size o bytes) bytes)
    else []

-- whether n strings are whole
unfoldable pub are_whole : Order → (n : ℕ) → List ℕ → Bool
are_whole o zero bytes = true
are_whole o (suc n) bytes =
    if is_whole o bytes then are_whole o n (drop (string_size o bytes) bytes)
    else false

-- the words of the feature: their number comes first
abbrev pub checked_words : Order → List ℕ → Result (List (List ℕ)) BadFeature
checked_words o bytes =
    if nat_lt (length bytes) 4 then Err bad.Short
    else (if are_whole o (small_number o bytes 0) (drop 4 bytes) then Ok (words o (small_number o bytes 0) (drop 4 bytes))
    else Err bad.Short)

-- those of a file in that order
abbrev pub command_line_of : Dynamic → List ℕ → Result (Option (List (List ℕ))) BadFeature
command_line_of order bytes = then_read (checked_words (order_of order)) (feature_of bytes 11)

-- the words that are left of a list of the code
abbrev pub words_left : CommandLine → List (List ℕ)
words_left line = words (order_of line.order) line.count line.left.now

-- ---- times

-- the times of the first and of the last sample, two numbers
abbrev pub checked_times : Order → List ℕ → Result SampleTimes BadFeature
checked_times o bytes =
    if nat_lt (length bytes) 16 then Err bad.Short
    else Ok (record { first = number o bytes 0; last = number o bytes 8 })

-- those of a file in that order
abbrev pub sample_times_of : Dynamic → List ℕ → Result (Option SampleTimes) BadFeature
sample_times_of order bytes = then_read (checked_times (order_of order)) (feature_of bytes 21)
