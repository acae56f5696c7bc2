-- A frame after its header: its parts, and then the visit of its body.
use Rattle.std.proofs.Common.{◌≡◌, ℕ, ◌+◌, ◌≤◌, length, drop, List, Bool, false, arith, sym, ◌∙◌, ap, subst}
use Rattle.std.specs.Prelude.{Option, None, Some, Result, Ok, Err, IsTrue, IfOk, IfErr}
use Rattle.perf_base.specs.Configuration.{Configuration, under_misc}
use Rattle.perf_base.specs.Layout.{Parts, layout}
use Rattle.perf_base.specs.LayoutReads.{layout_reads}
use Rattle.perf_base.specs.Order.{Order}
use Rattle.perf_base.specs.Refusals.{kinds, NeedsNoMemory}
use Rattle.perf_base.specs.declared.error.ErrorKind.{ErrorKind}
use Rattle.perf_base.specs.declared.refusal.Refusal.{Refusal}
use Rattle.perf_base.specs.declared.sys.perf_event_header.{perf_event_header}
use Rattle.perf_buffers.specs.Buffer.{Source, BufferInvariant}
use Rattle.perf_reader.specs.ReaderState.{ReaderState}
use Rattle.perf_reader.specs.Reading.{CallInvariant, is_external, one_if_refused, last_of}
use Rattle.perf_records.specs.Answers.{FrameParts, length_after, split_after, split_reads, record_in, record_reads, SplitsAfter}
use Rattle.perf_records.specs.Bodies.{body, needs_memory}
use Rattle.perf_records.specs.Metadata.{MetadataValue}
use Rattle.perf_records.specs.Records.{RecordValue}
use Rattle.perf_records.specs.Gives.{Event, event, GivesWholeBody, GivesFrameAfter, BelongsTo}
use Rattle.perf_records.proofs.Preservation.{no_fault, stays_refused}

-- what is known of an output, by the visit of the body
pub belongs : {O : Type 0} (gives : Event → O → Type 0) (h : perf_event_header) (whole from : Bool) (m : MetadataValue) (o : Order) (p : Parts RecordValue) (bytes : List ℕ) (k : ℕ) (result : Result O Refusal) →
    (m.ty ≡ h.type_) × (m.misc ≡ h.misc) → (IsTrue whole → IsTrue from) → GivesWholeBody gives m o p bytes from (kinds result) k → IfOk result (λ output. BelongsTo gives h whole output)
belongs gives h whole from m o p bytes k (Ok output) named lends v =
    (event v.0 v.1 m, v.2, named.0, named.1, (λ is. v.5 (lends is)), (λ is. ap needs_memory (sym named.0) ∙ v.6 is))
belongs gives h whole from m o p bytes k (Err e) named lends v = tt

-- no memory is taken for a body of borrowed bytes whose type needs none
pub spares : {O : Type 0} (gives : Event → O → Type 0) (h : perf_event_header) (from : Bool) (m : MetadataValue) (o : Order) (p : Parts RecordValue) (bytes : List ℕ) (k : ℕ) (result : Result O Refusal) →
    m.ty ≡ h.type_ → IsTrue from → needs_memory h.type_ ≡ false → GivesWholeBody gives m o p bytes from (kinds result) k → NeedsNoMemory (kinds result)
spares gives h from m o p bytes k (Ok output) named lent none v = tt
spares gives h from m o p bytes k (Err e) named lent none v = v.1 lent (ap needs_memory named ∙ none)

-- whatever the refusal is
pub refused_so : {A E : Type 0} (result : Result A E) (X : E → Type 0) (P : Type 0) → P → IfErr result (λ e. X e → P)
refused_so (Ok a) X P p = tt
refused_so (Err e) X P p = λ x. p

-- a frame that could not be split is not visited
pub unsplit_visits : {O : Type 0} (gives : Event → O → Type 0) (h : perf_event_header) (old new : ReaderState) (e : ErrorKind) → SplitsAfter h old (Err e) new → GivesFrameAfter gives h old (Err e) new
unsplit_visits gives h old new e s = λ kind.
    let w = s kind in
    let none : record_reads old.settings old.order h (split_after old.settings old.order h old.source.left) ≡ 0 = ap (record_reads old.settings old.order h) w.0 in
    (ap (record_in old.settings old.order h) w.0, w.1, omega (arith, w.2, none))

-- the visit of a frame that was split, by that of its body
pub visits_made : {O : Type 0} (gives : Event → O → Type 0) (h : perf_event_header) (old mid new : ReaderState) (parts : FrameParts) (o : Order) (c : Configuration) (from : Bool) (made : ℕ) (outcome : Result O ErrorKind) →
    o ≡ old.order → c ≡ under_misc h.misc old.settings → parts.metadata.ty ≡ h.type_ → (IsTrue old.source.whole → IsTrue from) → new.source ≡ mid.source → new.reads ≡ mid.reads + made →
    (split_after old.settings old.order h old.source.left ≡ Ok parts) × (mid.source.left ≡ drop (length_after h) old.source.left) × (mid.reads ≡ old.reads + split_reads old.settings old.order h old.source.left) →
    GivesWholeBody gives parts.metadata o (body c parts.metadata.ty) parts.body from outcome made → GivesFrameAfter gives h old outcome new
visits_made {O} gives h old mid new parts o c from made outcome order config named lends same count s v = go outcome v
  where
    inside : Parts RecordValue
    inside = body (under_misc h.misc old.settings) h.type_

    laid : layout old.order inside parts.body ≡ layout o (body c parts.metadata.ty) parts.body
    laid = ap (λ (x : Order). layout x inside parts.body) (sym order) ∙ ap (λ (x : Configuration). layout o (body x h.type_) parts.body) (sym config) ∙ ap (λ t. layout o (body c t) parts.body) (sym named)

    counted : layout_reads old.order inside parts.body ≡ layout_reads o (body c parts.metadata.ty) parts.body
    counted = ap (λ (x : Order). layout_reads x inside parts.body) (sym order) ∙ ap (λ (x : Configuration). layout_reads o (body x h.type_) parts.body) (sym config) ∙ ap (λ t. layout_reads o (body c t) parts.body) (sym named)

    left : new.source.left ≡ drop (length_after h) old.source.left
    left = ap (λ (x : Source). x.left) same ∙ s.1

    reads : made ≡ layout_reads o (body c parts.metadata.ty) parts.body → new.reads ≡ old.reads + (split_reads old.settings old.order h old.source.left + record_reads old.settings old.order h (split_after old.settings old.order h old.source.left))
    reads k =
        let r : record_reads old.settings old.order h (split_after old.settings old.order h old.source.left) ≡ made = ap (record_reads old.settings old.order h) s.0 ∙ counted ∙ sym k in
        omega (arith, count, s.2, r)

    go : (outcome : Result O ErrorKind) → GivesWholeBody gives parts.metadata o (body c parts.metadata.ty) parts.body from outcome made → GivesFrameAfter gives h old outcome new
    go (Ok output) v = (v.0, v.1, parts, v.2, s.0, (λ is. v.5 (lends is)), (ap (record_in old.settings old.order h) s.0 ∙ laid ∙ v.3, left, reads v.4))
    go (Err e) v = λ kind. let w = v.0 kind in (ap (record_in old.settings old.order h) s.0 ∙ laid ∙ w.0, left, reads w.1)

stays_any : (a b : Source) (e : Option ErrorKind) → is_external e ≡ false → BufferInvariant a None b → BufferInvariant a e b
stays_any a b None inner p = p
stays_any a b (Some e) inner p = stays_refused a b e inner p

-- what a call keeps that was paid for n reads, and makes no more than these
pub visits_keep : (start old mid new : ReaderState) (made n : ℕ) (e : Option ErrorKind) → CallInvariant start None old → CallInvariant start None mid →
    (IsTrue old.source.told → mid.reads + n + length mid.source.left ≤ old.reads + length old.source.left) → new.source ≡ mid.source → new.reads ≡ mid.reads + made → made ≤ n + one_if_refused e → is_external e ≡ false → CallInvariant start e new
visits_keep start old mid new made n e p q paid same count cost inner = record {
  buffer = subst (λ (s : Source). BufferInvariant start.source e s) (sym same) (stays_any start.source mid.source e inner q.buffer);
  fault = λ x. no_fault e _ inner x;
  cost = λ t.
      let a = p.cost t in
      let b = q.cost t in
      let d = paid (p.buffer.3 t) in
      let l : length new.source.left ≡ length mid.source.left = ap (λ (s : Source). length s.left) same in
      (omega (arith, b.0, count), omega (arith, a.1, d, cost, count, l));
  place = λ t. subst (λ (s : Source). (length s.left ≤ length start.source.left) × (s.left ≡ last_of (length s.left) start.source.left)) (sym same) (q.place t);
}
