-- Events by their numbers.
use Rattle.std.proofs.Common.{◌≡◌, ℕ, zero, suc, ◌≤◌, ◌<◌, List, [], ◌∷◌, length, map, get_or, Some, None, refl, arith}
use Rattle.perf_file.specs.Entries.{event_at}
use Rattle.perf_sections.specs.Opened.{event_view}
use Rattle.perf_sections.specs.declared.events.Event.{Event}

pub event_there : (es : List Event) (n : ℕ) (d : Event) → n < length es → event_at (map event_view es) n ≡ Some (event_view (get_or es n d))
event_there [] n d lt = absurd (omega (arith, lt))
event_there (e ∷ es) zero d lt = refl
event_there (e ∷ es) (suc n) d lt = event_there es n d (omega (arith, lt))

pub event_absent : (es : List Event) (n : ℕ) → length es ≤ n → event_at (map event_view es) n ≡ None
event_absent [] n le = refl
event_absent (e ∷ es) zero le = absurd (omega (arith, le))
event_absent (e ∷ es) (suc n) le = event_absent es n (omega (arith, le))
