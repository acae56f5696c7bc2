-- What is written into a strip.
use Rattle.std.specs.Prelude.{ℕ, List, drop}
use Rattle.perf_text.specs.declared.strip.Strip.{Strip}

-- the text of a strip
abbrev pub strip_text : Strip → List ℕ
strip_text strip = drop strip.start strip.bytes

-- how many bytes can still be written before the text
abbrev pub room_of : Strip → ℕ
room_of strip = strip.start
