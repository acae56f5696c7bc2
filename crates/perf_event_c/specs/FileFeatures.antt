-- Where a feature of a file is.
use Rattle.std.specs.Prelude.{◌≡◌, ℕ, List, Option, Some, None, Result, Ok, Err}
use Rattle.perf_outlines.specs.NotePlaces.{bytes_of}
use Rattle.perf_sections.specs.Sections.{IsInside}
use Rattle.perf_file.specs.declared.feature.BadFeature.{BadFeature}
use Rattle.perf_sections.specs.declared.section.Section.{Section}

-- The bytes of a feature are at the place that is written. Without one, or if it ends beyond the file,
-- nothing is written, and the number of that is returned.
abbrev pub FindsFeature : List ℕ → Result (Option (List ℕ)) BadFeature → (result : ℕ) → (old new : Section) → Type 0
FindsFeature bytes (Ok (Some found)) result old new = (result ≡ 0) × (bytes_of bytes new ≡ found) × IsInside bytes new
FindsFeature bytes (Ok None) result old new = (result ≡ 20) × (new ≡ old)
FindsFeature bytes (Err e) result old new = (result ≡ 21) × (new ≡ old)
