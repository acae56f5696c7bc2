-- The forms in which folded stacks are written.
use Rattle.std.specs.Prelude.{◌≡◌, ℕ, ◌^◌, ◌<◌, ◌≤◌, Bool, true, false, List, Result, Ok, Err}
use Rattle.std.specs.Global.{Vec}
use Rattle.perf_flame.specs.Keys.{by_frames}
use Rattle.perf_flame.specs.Lines.{Line, lines_text, total_of}
use Rattle.perf_flame.specs.Svg.{flame_text}
use Rattle.perf_fold.specs.declared.error.TextError.{TextError}
use Rattle.perf_fold.specs.declared.error.TextError.TheVariants as errors
use Rattle.perf_fold.specs.declared.form.Form.{Form}
use Rattle.perf_fold.specs.declared.form.Form.TheVariants as form

-- the flame graph of lines, which there is if the sum of all counts fits 64 bits
abbrev pub IsGraph : (inverted : Bool) → List Line → List ℕ → Type 0
IsGraph inverted lines text = (total_of (by_frames inverted lines) < 2 ^ 64) × (text ≡ flame_text (by_frames inverted lines))

-- there is none, or memory ran out
abbrev pub HasNoGraph : (inverted : Bool) → List Line → TextError → Type 0
HasNoGraph inverted lines (errors.BadLine i line) = ⊥
HasNoGraph inverted lines errors.TooMany = 2 ^ 64 ≤ total_of (by_frames inverted lines)
HasNoGraph inverted lines errors.OutOfMemory = Unit {0}

-- the text of lines in a form
abbrev pub IsText : Form → List Line → List ℕ → Type 0
IsText form.Lines lines text = text ≡ lines_text lines
IsText form.Flame lines text = IsGraph false lines text
IsText form.Inverted lines text = IsGraph true lines text

-- why there is none
abbrev pub Fails : Form → List Line → TextError → Type 0
Fails form.Lines lines e = e ≡ errors.OutOfMemory
Fails form.Flame lines e = HasNoGraph false lines e
Fails form.Inverted lines e = HasNoGraph true lines e

-- a flame graph of lines, or why there is none
abbrev pub GivesGraph : (inverted : Bool) → List Line → Result (Vec ℕ) TextError → Type 0
GivesGraph inverted lines (Ok text) = IsGraph inverted lines text.items
GivesGraph inverted lines (Err e) = HasNoGraph inverted lines e

-- the text of lines in a form, or why there is none
abbrev pub GivesText : Form → List Line → Result (Vec ℕ) TextError → Type 0
GivesText form lines (Ok text) = IsText form lines text.items
GivesText form lines (Err e) = Fails form lines e
