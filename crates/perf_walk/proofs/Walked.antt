-- The frame of an entry, and what is known after it.
use Rattle.std.proofs.Common.{◌≡◌, ℕ, List, take, refl, sym, ◌∙◌, ap, subst}
use Rattle.std.specs.Prelude.{max, Option, Some, None, option_map, option_and_then}
use Rattle.std.specs.List.{cons_option}
use Rattle.perf_base.specs.Configuration.{Configuration}
use Rattle.perf_base.specs.Dynamic.{order_of}
use Rattle.perf_base.specs.Header.{header_of}
use Rattle.perf_base.specs.Order.{Order}
use Rattle.perf_base.specs.declared.sys.perf_event_header.{perf_event_header}
use Rattle.perf_file.specs.Entries.{config_of}
use Rattle.perf_sections.specs.Opened.{File}
use Rattle.perf_file.specs.Pieces.{left_at}
use Rattle.perf_file.specs.declared.entries.Entry.{Entry}
use Rattle.perf_flat.specs.Flat.{IsFlat, first_frame}
use Rattle.perf_flat.specs.declared.frame.FlatFrame.{FlatFrame}
use Rattle.perf_records.proofs.Headers.{header_alone}
use Rattle.perf_history.specs.declared.changes.Change.{Change}
use Rattle.perf_history.specs.declared.histories.History.{History}
use Rattle.perf_walk.specs.Changes.{change_of}
use Rattle.perf_walk.specs.Moments.{Moment, frame_at, moment, moment_at, known_after, event_of}
use Rattle.perf_walk.specs.Plain.{IsPast}
use Rattle.perf_walk.specs.Steps.{Finds}
use Rattle.perf_walk.specs.declared.walk.Found.{Found}

-- the frame at an offset, and what was read of it
pub frame_read : (f : File) (e : Entry) (c : Configuration) (o : Order) (left frame : List ℕ) (flat : FlatFrame) → Some c ≡ config_of f e.owner → Some left ≡ left_at f e.at → o ≡ order_of f.order
    → IsFlat c o (first_frame o left) flat → frame ≡ take (max 8 flat.size) left
    → (config : Configuration) × (frame_at f e ≡ Some (config, frame)) × IsFlat config (order_of f.order) frame flat
frame_read f e c o left frame flat configured there order is cut =
    let size : flat.size ≡ (header_of o left).size = is.header.size ∙ ap (λ (h : perf_event_header). h.size) (header_alone o left) in
    let whole : frame ≡ first_frame o left = cut ∙ ap (λ n. take (max 8 n) left) size in
    let found : frame_at f e ≡ Some (c, frame) =
    ap (λ (found : Option Configuration). option_and_then (λ c. option_map (λ left. (c, first_frame (order_of f.order) left)) (left_at f e.at)) found) (sym configured)
    ∙ ap (λ (found : Option (List ℕ)). option_map (λ left. (c, first_frame (order_of f.order) left)) found) (sym there)
    ∙ ap (λ p. Some (c, first_frame p left)) (sym order) ∙ ap (λ b. Some (c, b)) (sym whole) in
    (c, found, subst (λ p. IsFlat c p frame flat) order (subst (λ b. IsFlat c o b flat) (sym whole) is))

-- what is known after a moment, or without one
abbrev known_if : (older : List Change) → Option Moment → List Change
known_if older m = elim m [ Some m ↦ m.known | None ↦ older ]

-- a step to a frame
pub stepped : (f : File) (e : Entry) (c : Configuration) (found : Found) (flat : FlatFrame) (history : History) (older : List Change) (change : Option Change) → frame_at f e ≡ Some (c, found.bytes.now)
    → IsFlat c (order_of f.order) found.bytes.now flat → found.event ≡ event_of e.owner → change ≡ change_of c (order_of f.order) found.bytes.now → IsPast history (cons_option change older)
    → Finds f (moment_at f e older) (Some found) flat × IsPast history (known_after f e older)
stepped f e c found flat history older change at is event states past =
    let m : Moment = moment f e.owner c found.bytes.now older in
    let here : moment_at f e older ≡ Some m = ap (option_map (λ (found : Configuration × List ℕ). moment f e.owner found.0 found.1 older)) at in
    let after : known_after f e older ≡ cons_option (change_of c (order_of f.order) found.bytes.now) older = ap (known_if older) here in
    let now : IsPast history (cons_option (change_of c (order_of f.order) found.bytes.now) older) = subst (λ x. IsPast history (cons_option x older)) states past in (
      subst (λ x. Finds f x (Some found) flat) (sym here) (record { bytes = refl; event = event; states = is }),
      subst (IsPast history) (sym after) now,
    )

-- no step
pub stayed : (f : File) (e : Entry) (flat : FlatFrame) (history : History) (older : List Change) → frame_at f e ≡ None → IsPast history older
    → Finds f (moment_at f e older) None flat × IsPast history (known_after f e older)
stayed f e flat history older none past =
    let here : moment_at f e older ≡ None = ap (option_map (λ (found : Configuration × List ℕ). moment f e.owner found.0 found.1 older)) none in
    let after : known_after f e older ≡ older = ap (known_if older) here in
    (subst (λ x. Finds f x None flat) (sym here) tt, subst (IsPast history) (sym after) past)
