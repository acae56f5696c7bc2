-- Answers of streams, computed.
use Rattle.std.proofs.Common.{◌≡◌, ℕ, List, [], ◌∷◌, ◌++◌, Ok, Err, refl, ◌+◌, ◌*◌, ◌^◌}
use Rattle.std.specs.Prelude.{Result, slice_index}
use Rattle.perf_base.specs.Order.{Order, little, big}
use Rattle.perf_base.specs.Configuration.{plain}
use Rattle.perf_base.specs.declared.sys.perf_event_header.{perf_event_header}
use Rattle.perf_base.specs.declared.error.ErrorKind.{ErrorKind}
use Rattle.perf_base.specs.declared.error.ErrorKind.TheVariants.{Eof, InvalidRecord}
use Rattle.perf_records.specs.Records.{RecordValue, lost_samples_is, unknown_is}
use Rattle.perf_records.specs.Frames.{stream_end, done, cut_header}
use Rattle.perf_records.specs.Answers.{answers}

abbrev head : ℕ → ℕ → perf_event_header
head ty size = record { type_ = ty; misc = 0; size = size }

-- a LOST_SAMPLES of 5
abbrev five : List ℕ
five = 13 ∷ 0 ∷ 0 ∷ 0 ∷ 0 ∷ 0 ∷ 16 ∷ 0 ∷ 5 ∷ 0 ∷ 0 ∷ 0 ∷ 0 ∷ 0 ∷ 0 ∷ 0 ∷ []

abbrev five_said : perf_event_header × Result RecordValue ErrorKind
five_said = (head 13 16, Ok (lost_samples_is (record { lost = 5 })))

nothing : answers plain little [] ≡ []
nothing = refl

nothing_is_done : stream_end little [] ≡ done
nothing_is_done = refl

three_bytes_are_cut : stream_end little (13 ∷ 0 ∷ 0 ∷ []) ≡ cut_header
three_bytes_are_cut = refl

one_frame : answers plain little five ≡ five_said ∷ []
one_frame = refl

-- a size of seven costs its header
size_of_seven : answers plain little ((2 ∷ 0 ∷ 0 ∷ 0 ∷ 0 ∷ 0 ∷ 7 ∷ 0 ∷ []) ++ five) ≡ (head 2 7, Err InvalidRecord) ∷ five_said ∷ []
size_of_seven = refl

-- a LOST of one number costs its frame
lost_of_one_number : answers plain little ((2 ∷ 0 ∷ 0 ∷ 0 ∷ 0 ∷ 0 ∷ 16 ∷ 0 ∷ 1 ∷ 0 ∷ 0 ∷ 0 ∷ 0 ∷ 0 ∷ 0 ∷ 0 ∷ []) ++ five) ≡ (head 2 16, Err Eof) ∷ five_said ∷ []
lost_of_one_number = refl

-- an unfinished frame is the last
unfinished : answers plain little (five ++ 13 ∷ 0 ∷ 0 ∷ 0 ∷ 0 ∷ 0 ∷ 24 ∷ 0 ∷ 5 ∷ 0 ∷ 0 ∷ []) ≡ five_said ∷ (head 13 24, Err Eof) ∷ []
unfinished = refl

unfinished_is_done : stream_end little (five ++ 13 ∷ 0 ∷ 0 ∷ 0 ∷ 0 ∷ 0 ∷ 24 ∷ 0 ∷ 5 ∷ 0 ∷ 0 ∷ []) ≡ done
unfinished_is_done = refl

types_without_a_table : answers plain little (0 ∷ 0 ∷ 0 ∷ 0 ∷ 0 ∷ 0 ∷ 8 ∷ 0 ∷ 22 ∷ 0 ∷ 0 ∷ 0 ∷ 0 ∷ 0 ∷ 9 ∷ 0 ∷ 7 ∷ []) ≡
    (head 0 8, Ok (unknown_is 0 [])) ∷ (head 22 9, Ok (unknown_is 22 (7 ∷ []))) ∷ []
types_without_a_table = refl

in_big : answers plain big (0 ∷ 0 ∷ 0 ∷ 13 ∷ 0 ∷ 0 ∷ 0 ∷ 16 ∷ 0 ∷ 0 ∷ 0 ∷ 0 ∷ 0 ∷ 0 ∷ 0 ∷ 5 ∷ []) ≡ five_said ∷ []
in_big = refl

-- an order of two-byte words, the highest word first, each with its low byte first
abbrev word_at : ℕ → List ℕ → ℕ
word_at i bytes = slice_index bytes i + 256 * slice_index bytes (i + 1)

abbrev words_first : Order
words_first = record {
  two = word_at 0;
  four = λ bytes. word_at 0 bytes * 2 ^ 16 + word_at 2 bytes;
  eight = λ bytes. word_at 0 bytes * 2 ^ 48 + word_at 2 bytes * 2 ^ 32 + word_at 4 bytes * 2 ^ 16 + word_at 6 bytes;
}

in_words : answers plain words_first (0 ∷ 0 ∷ 13 ∷ 0 ∷ 0 ∷ 0 ∷ 16 ∷ 0 ∷ 0 ∷ 0 ∷ 0 ∷ 0 ∷ 0 ∷ 0 ∷ 5 ∷ 0 ∷ []) ≡ five_said ∷ []
in_words = refl

-- an order in which every two bytes are 8
abbrev always_eight : Order
always_eight = record { two = λ _. 8; four = little.four; eight = little.eight }

zero_bytes : answers plain always_eight (0 ∷ 0 ∷ 0 ∷ 0 ∷ 0 ∷ 0 ∷ 0 ∷ 0 ∷ 0 ∷ 0 ∷ 0 ∷ 0 ∷ 0 ∷ 0 ∷ 0 ∷ 0 ∷ []) ≡
    (record { type_ = 0; misc = 8; size = 8 }, Ok (unknown_is 0 [])) ∷ (record { type_ = 0; misc = 8; size = 8 }, Ok (unknown_is 0 [])) ∷ []
zero_bytes = refl
