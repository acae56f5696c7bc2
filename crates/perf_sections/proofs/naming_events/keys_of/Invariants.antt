use Rattle.std.proofs.Common.{◌<◌, ℕ, All, Contains, get_or}
use Rattle.perf_base.specs.Dynamic.{order_of}
use Rattle.perf_base.specs.declared.sys.perf_event_attr.{perf_event_attr}
use Rattle.perf_sections.specs.NamePlaces.{IsUnnamed, unnamed}
use Rattle.perf_sections.specs.Names.{key_of}
use Rattle.perf_sections.specs.Opened.{event_in}
use Rattle.perf_sections.specs.declared.section.Section.{Section}
use Rattle.perf_sections.proofs.naming_events.keys_of.Given as goal

abbrev pub invariant-loop-index : goal.invariant-loop-index
invariant-loop-index l = record {
  none : All IsUnnamed l.found.items;
  keys : (k : ℕ) (a : perf_event_attr) (s : Section) → k < l.index → Contains l.found.items (unnamed (key_of (event_in (order_of l.order) l.bytes (get_or l.attributes k a, get_or l.sections k s))));
}
