use Rattle.std.proofs.Common.{◌≡◌, ◌<◌, ℕ, All, length, map, drop, get_or}
use Rattle.perf_base.specs.Configured.{endian_of}
use Rattle.perf_base.specs.Dynamic.{order_of}
use Rattle.perf_base.specs.declared.endian.Dynamic.{Dynamic}
use Rattle.perf_sections.specs.Names.{name_view}
use Rattle.perf_file.specs.NoteViews.{note_of}
use Rattle.perf_sections.specs.Opened.{event_view}
use Rattle.perf_file.specs.Pipes.{named_by, last_name}
use Rattle.perf_sections.specs.declared.events.Event.{Event}
use Rattle.perf_file.proofs.piped.rename_all.Given as goal

abbrev pub invariant-loop-index : goal.invariant-loop-index
invariant-loop-index l = record {
  same : map event_view l.events ≡ map event_view l.initial.events;
  order : (o : Dynamic) → All (λ (e : Event). endian_of e.config ≡ o) l.initial.events → All (λ (e : Event). endian_of e.config ≡ o) l.events;
  named : (k : ℕ) (d : Event) → k < length l.initial.events →
      named_by (last_name (order_of l.order) l.table k (map note_of (drop l.index l.notes))) (name_view (get_or l.events k d).name)
      ≡ named_by (last_name (order_of l.order) l.table k (map note_of l.notes)) (name_view (get_or l.initial.events k d).name);
}
