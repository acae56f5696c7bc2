-- What the call that opens a `perf.data` file returns and writes.
use Rattle.std.specs.Prelude.{◌≡◌, ℕ, Result, Ok, Err}
use Rattle.perf_sections.specs.declared.error.OpenError.{OpenError}
use Rattle.perf_outlines.specs.Files.{open_code, flat_file}
use Rattle.perf_outlines.specs.declared.file.FlatFile.{FlatFile}
use Rattle.perf_outlines.specs.declared.summary.Outline.{Outline}

-- A file is opened: its numbers are written, or the number of its refusal is returned and nothing is
-- written.
abbrev pub OpensFile : Result Outline OpenError → (result : ℕ) → (old new : FlatFile) → Type 0
OpensFile (Ok o) result old new = (result ≡ 0) × (new ≡ flat_file o)
OpensFile (Err e) result old new = (result ≡ open_code e) × (new ≡ old)
