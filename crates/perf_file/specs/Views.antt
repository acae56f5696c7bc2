-- A file that was opened.
use Rattle.std.specs.Prelude.{map}
use Rattle.perf_sections.specs.Opened.{File, event_view}
use Rattle.perf_file.specs.declared.opening.Recording.{Recording}

-- what it contains
abbrev pub view : Recording → File
view r = record {
  order = r.order;
  is_closed = r.is_closed;
  start = r.start;
  frames = r.frames.now;
  events = map event_view r.events.items;
}
