-- The folded stacks of the samples of a recording.
use Rattle.std.specs.Prelude.{◌≡◌, ℕ, ◌&&◌, Bool, false, List, [], fold, reverse, Option, Some, None, if◌then◌else◌}
use Rattle.std.specs.List.{filter}
use Rattle.perf_base.specs.Dynamic.{order_of}
use Rattle.perf_base.specs.Header.{header_of}
use Rattle.perf_base.specs.Order.{Order}
use Rattle.perf_file.specs.Entries.{IsInOrder, entries_of}
use Rattle.perf_sections.specs.Opened.{File}
use Rattle.perf_file.specs.declared.entries.Entry.{Entry}
use Rattle.perf_flame.specs.Lines.{Line, add_count}
use Rattle.perf_flat.specs.Samples.{sample_present}
use Rattle.perf_sample_types.specs.Sample.{SampleValue}
use Rattle.perf_walk.specs.Filters.{takes_at}
use Rattle.perf_walk.specs.Moments.{Moment, moments}
use Rattle.perf_walk.specs.Samples.{sample_of, sample_view}
use Rattle.perf_walk.specs.declared.sampling.Sample.{Sample}
use Rattle.perf_words.specs.Bits.{has_bit}
use Rattle.perf_fold.specs.EventLabels.{EventLabel, label_at}
use Rattle.perf_fold.specs.SampleStacks.{sample_calls, stack_text}
use Rattle.perf_fold.specs.declared.folding.Choice.{Choice}
use Rattle.perf_fold.specs.declared.folding.Weight.{Weight}
use Rattle.perf_fold.specs.declared.folding.Weight.TheVariants as weight

-- what a sample with these fields counts as, whose event has that period: the period of a sample is its
-- own, or else that of its event
abbrev pub weight_of : Weight → (period fields : ℕ) → Sample → ℕ
weight_of weight.Samples period fields s = 1
weight_of weight.Period period fields s = if has_bit fields 8 then s.period else period

-- that of the sample of a moment
abbrev pub weight_at : Choice → List EventLabel → Moment → Sample → ℕ
weight_at how labels m s = weight_of how.weight (label_at labels m.event).period (sample_present m.config) s

-- lines to which a sample is added, if there is one
abbrev pub add_sample : Choice → List EventLabel → Moment → (misc : ℕ) → List Line → Option SampleValue → List Line
add_sample how labels m misc lines (Some s) =
    add_count lines (stack_text how.frames labels m.event m.known (sample_view misc s) (reverse (sample_calls misc s))) (weight_at how labels m (sample_view misc s))
add_sample how labels m misc lines None = lines

-- lines to which a frame is added, if it contains a sample
abbrev pub add_moment : Choice → List EventLabel → Order → List Line → Moment → List Line
add_moment how labels o lines m = add_sample how labels m (header_of o m.frame).misc lines (sample_of m.config o m.frame)

-- whether a sample counts
abbrev pub takes : Choice → List EventLabel → Moment → (misc : ℕ) → SampleValue → Bool
takes how labels m misc s = (label_at labels m.event).counts && takes_at how.filter m misc s

-- lines to which a sample is added, if it counts
abbrev pub add_taken : Choice → List EventLabel → Moment → (misc : ℕ) → List Line → SampleValue → List Line
add_taken how labels m misc lines s = if takes how labels m misc s then add_sample how labels m misc lines (Some s) else lines

-- whether a frame contains a sample that counts
abbrev pub is_chosen : Choice → List EventLabel → Order → Moment → Bool
is_chosen how labels o m = elim (sample_of m.config o m.frame) [ Some s ↦ takes how labels m (header_of o m.frame).misc s | None ↦ false ]

-- lines to which a frame is added, if its sample counts
abbrev pub add_chosen : Choice → List EventLabel → Order → List Line → Moment → List Line
add_chosen how labels o lines m = if is_chosen how labels o m then add_moment how labels o lines m else lines

-- the same for a frame that may be absent
abbrev pub add_if : Choice → List EventLabel → Order → List Line → Option Moment → List Line
add_if how labels o lines (Some m) = add_chosen how labels o lines m
add_if how labels o lines None = lines

-- the lines of the frames whose samples count, added to others
abbrev pub add_moments : Choice → List EventLabel → Order → List Line → List Moment → List Line
add_moments how labels o lines ms = fold (add_moment how labels o) lines (filter (is_chosen how labels o) ms)

-- the lines of a file whose events have these labels: those of its frames by time
abbrev pub IsFoldOf : Choice → List EventLabel → File → List Line → Type 0
IsFoldOf how labels f lines =
    (entries : List Entry) × IsInOrder (entries_of f) entries × (lines ≡ add_moments how labels (order_of f.order) [] (moments f entries []))
