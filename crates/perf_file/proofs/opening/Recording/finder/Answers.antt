use Rattle.std.proofs.Common.{◌≡◌, List, length, map, nat_lt, refl, ap, sym, subst, ◌∙◌, arith}
use Rattle.std.proofs.lemmas.List.{length-map}
use Rattle.perf_file.specs.Finders.{IsTableOf}
use Rattle.perf_sections.specs.Opened.{attributes_of, event_view}
use Rattle.perf_file.specs.Owners.{first_has_ids}
use Rattle.perf_file.specs.Views.{view}
use Rattle.perf_sections.specs.declared.events.Event.{Event}
use Rattle.perf_file.proofs.opening.Recording.finder.Goals as goal

pub returns : goal.returns
returns c =
    let r = c.args.self.now in
    let n : c.len.result ≡ length (map event_view r.events.items) = omega (arith, length-map r.events.items event_view) in
    let table : IsTableOf (view r) r.ids.items = record { sorted = r.rising; found = r.found } in
    record {
      order = refl;
      single = ap (λ k. nat_lt k 2) n;
      first = c.first_has_ids.ensures ∙ ap (λ (es : List Event). first_has_ids (attributes_of (map event_view es))) c.deref.ensures.value;
      place = r.place_is;
      table = subst (IsTableOf (view r)) (sym c.deref-2.ensures.value) table;
    }
