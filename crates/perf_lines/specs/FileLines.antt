-- The line of a frame, by what its call is given.
use Rattle.std.specs.Prelude.{ℕ, List, option_map}
use Rattle.perf_base.specs.Configuration.{Configuration}
use Rattle.perf_base.specs.Configured.{configuration_of, endian_of}
use Rattle.perf_base.specs.Dynamic.{order_of}
use Rattle.perf_base.specs.Order.{Order}
use Rattle.perf_base.specs.declared.config.ParseConfig.{ParseConfig}
use Rattle.perf_base.specs.declared.endian.Dynamic.{Dynamic}
use Rattle.perf_records.specs.Sights.{sight_of}
use Rattle.perf_lines.specs.FileText.{Words, words_of_frame, file_line}
use Rattle.perf_lines.specs.declared.line.file.FrameLine.{FrameLine}

-- how frames are read: under a configuration, in its order
abbrev pub read_by : ParseConfig Dynamic → Configuration × Order
read_by c = (configuration_of c, order_of (endian_of c))

-- the words of a frame
abbrev pub frame_words : FrameLine → Words
frame_words l = words_of_frame l.event (option_map (λ c. read_by c.now) l.config) l.has_payload (sight_of l.frame)

-- its line with a number
abbrev pub numbered_line : ℕ → FrameLine → List ℕ
numbered_line index l = file_line index l.at l.event l.header (frame_words l)
