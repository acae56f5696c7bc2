-- Frames that are read in place.
use Rattle.std.specs.Prelude.{Result, ◌≡◌, ℕ, ◌+◌, ◌≤◌, Bool, true, false, List, IfOk, None}
use Rattle.std.specs.Prelude.{drop, IsTrue}
use Rattle.perf_base.specs.Configuration.{Configuration}
use Rattle.perf_base.specs.Order.{Order}
use Rattle.perf_base.specs.Refusals.{kind_if_refused, kinds, NeedsNoMemory}
use Rattle.perf_base.specs.declared.refusal.Refusal.{Refusal}
use Rattle.perf_base.specs.declared.sys.perf_event_header.{perf_event_header}
use Rattle.perf_reader.specs.ReaderState.{ReaderState}
use Rattle.perf_reader.specs.Reading.{is_external, one_if_refused}
use Rattle.perf_records.specs.Answers.{length_after}
use Rattle.perf_records.specs.Bodies.{needs_memory}
use Rattle.perf_records.specs.Gives.{Event, GivesFrameAfter, BelongsTo}

-- the state of a reader of these bytes, which live as long as the input or not
abbrev pub slice_state : Configuration → Order → List ℕ → Bool → ℕ → ReaderState
slice_state c o bytes borrowed reads = record {
  settings = c;
  order = o;
  source = record { left = bytes; told = true; whole = borrowed; can_fault = false; faults = None };
  reads = reads;
}

-- The visit of the frame with these bytes after its header, in k reads.
abbrev pub GivesFrameBytes : {O : Type 0} → (Event → O → Type 0) → perf_event_header →
    Configuration → Order → List ℕ → Bool → Result O Refusal → (k : ℕ) → Type 0
GivesFrameBytes gives h c o bytes borrowed result k =
    GivesFrameAfter gives h (slice_state c o bytes borrowed 0) (kinds result)
    (slice_state c o (drop (length_after h) bytes) borrowed k)
    × IfOk result (λ output. BelongsTo gives h borrowed output)
    × (IsTrue borrowed → needs_memory h.type_ ≡ false → NeedsNoMemory (kinds result))
    × (is_external (kind_if_refused (kinds result)) ≡ false)
    × (k ≤ length_after h + one_if_refused (kind_if_refused (kinds result)))
