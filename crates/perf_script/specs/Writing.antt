-- A text that is written in parts.
use Rattle.std.specs.Prelude.{◌≡◌, ℕ, Bool, true, false, List, [], ◌++◌, take, Option, Result, Ok, Err}
use Rattle.std.specs.Io.KnownBytes.{Appends}
use Rattle.std.specs.declared.alloc.AllocError.{AllocError}
use Rattle.perf_sections.specs.Opened.{File}
use Rattle.perf_file.specs.declared.entries.Entry.{Entry}
use Rattle.perf_lines.specs.declared.outcome.Outcome.{Outcome}
use Rattle.perf_lines.specs.declared.outcome.Outcome.TheVariants as outcome
use Rattle.perf_walk.specs.Moments.{moments}
use Rattle.perf_script.specs.ScriptText.{Choice, IsTextOf, text_from}
use Rattle.perf_script.specs.UnderWay.{IsUnderWay}
use Rattle.perf_script.specs.declared.script.Script.{Script}
use Rattle.std.specs.Prelude.{if◌then◌else◌}

-- the outcome of a text that could be written
abbrev pub outcome_of : (refused : Bool) → Outcome
outcome_of refused = if refused then outcome.Refused else outcome.Clean

-- a beginning of a text was written
abbrev pub WritesFront : (text : List ℕ) → (old new : Option (List ℕ)) → Type 0
WritesFront text old new = (n : ℕ) × Appends old new (take n text)

-- what was written of a text: all of it, or its beginning if writing failed
abbrev pub Writes : Outcome → (refused : Bool) → (text : List ℕ) → (old new : Option (List ℕ)) → Type 0
Writes outcome.Stopped refused text old new = WritesFront text old new
Writes how refused text old new = (how ≡ outcome_of refused) × Appends old new text

-- a text was written but for what is kept of it, and the frames of these entries are left
pub record IsWriting (f : File) (c : Choice) (left : List Entry) (any : Bool) (whole : List ℕ) (old new : Option (List ℕ)) (script : Script) : Type 0 where
  pub written : List ℕ
  pub rest : List ℕ
  pub appends : Appends old new written
  pub parts : written ++ rest ≡ whole
  pub under : IsUnderWay f c left any rest script

-- a frame is done, and a text goes on; or it does not, as writing failed or memory ran out
abbrev pub GoesOn : File → Choice → List Entry → (any : Bool) → (whole : List ℕ) → (old : Option (List ℕ)) → Result Bool AllocError → (new : Option (List ℕ)) → Script → Type 0
GoesOn f c left any whole old (Ok true) new script = IsWriting f c left any whole old new script
GoesOn f c left any whole old (Ok false) new script = WritesFront whole old new
GoesOn f c left any whole old (Err e) new script = WritesFront whole old new

-- what was written of the frames of entries
abbrev pub WritesEntries : File → Choice → List Entry → Result Outcome AllocError → (old new : Option (List ℕ)) → Type 0
WritesEntries f c entries (Ok how) old new = (refused : Bool) × (text : List ℕ) × IsTextOf f c entries refused text × Writes how refused text old new
WritesEntries f c entries (Err e) old new = WritesFront (text_from f c [] (moments f entries [])) old new
