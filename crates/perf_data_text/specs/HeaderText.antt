-- The lines of what perf states about the machine and the command.
use Rattle.std.specs.Prelude.{ℕ, ◌++◌, ◌||◌, Bool, List, [], codes, decimal, is_err, Option, Some, None, Result, Ok, Err}
use Rattle.std.specs.List.{flat_map}
use Rattle.perf_base.specs.declared.endian.Dynamic.{Dynamic}
use Rattle.perf_text.specs.Numbers.{hex_bytes}
use Rattle.perf_file.specs.BuildIds.{Build, build_ids_of}
use Rattle.perf_file.specs.FeatureTexts.{text_of, command_line_of, sample_times_of}
use Rattle.perf_sections.specs.Names.{escaped}
use Rattle.perf_file.specs.declared.feature.BadFeature.{BadFeature}
use Rattle.perf_file.specs.declared.header_texts.SampleTimes.{SampleTimes}

-- bytes as they are printed
abbrev pub printed : List ℕ → List ℕ
printed bytes = flat_map escaped bytes

-- a line: `# `, a name, a colon, and what is stated
abbrev pub stated_line : List ℕ → List ℕ → List ℕ
stated_line name stated = codes "# " ++ name ++ codes " : " ++ stated ++ codes "\n"

-- the line of a feature that cannot be read
abbrev pub refused_line : List ℕ → List ℕ
refused_line name = codes "# " ++ name ++ codes " refused\n"

-- the lines of a feature: those of what it states, one if it cannot be read, and none if the file does
-- not have it
abbrev pub feature_lines : {A : Type 0} → List ℕ → (A → List ℕ) → Result (Option A) BadFeature → List ℕ
feature_lines name lines (Ok (Some stated)) = lines stated
feature_lines name lines (Ok None) = []
feature_lines name lines (Err e) = refused_line name

-- the line of a text
abbrev pub text_line : List ℕ → List ℕ → List ℕ
text_line name text = stated_line name (printed text)

-- a space before each word
unfoldable pub spaced : List (List ℕ) → List ℕ
spaced words = flat_map (λ word. codes " " ++ printed word) words

-- the line of the words of the command
abbrev pub words_line : List (List ℕ) → List ℕ
words_line words = codes "# cmdline :" ++ spaced words ++ codes "\n"

-- the line of a build id: its bytes in hexadecimal, and the path of the file
abbrev pub build_line : Build → List ℕ
build_line b = stated_line (codes "build id") (hex_bytes b.id ++ codes " " ++ printed b.filename)

-- those of several
abbrev pub build_lines : List Build → List ℕ
build_lines builds = flat_map build_line builds

-- the line of the times of the first and of the last sample
abbrev pub times_line : SampleTimes → List ℕ
times_line t = stated_line (codes "sample times") (decimal t.first ++ codes " " ++ decimal t.last)

-- those of the features of a file in that order with these bytes
abbrev pub header_text : Dynamic → List ℕ → List ℕ
header_text order bytes =
    feature_lines (codes "hostname") (text_line (codes "hostname")) (text_of order bytes 3)
    ++ feature_lines (codes "os release") (text_line (codes "os release")) (text_of order bytes 4)
    ++ feature_lines (codes "cmdline") words_line (command_line_of order bytes)
    ++ feature_lines (codes "build id") build_lines (build_ids_of order bytes)
    ++ feature_lines (codes "sample times") times_line (sample_times_of order bytes)

-- whether one of them cannot be read
abbrev pub is_refused : Dynamic → List ℕ → Bool
is_refused order bytes =
    is_err (text_of order bytes 3) || is_err (text_of order bytes 4) || is_err (command_line_of order bytes)
    || is_err (build_ids_of order bytes) || is_err (sample_times_of order bytes)
