-- Visits of bodies, and of frames.
use Rattle.std.proofs.Common.{◌≡◌, ◌+◌, ◌≤◌, length, drop, Bool, arith, sym, ◌∙◌, ap, subst}
use Rattle.std.specs.Prelude.{Option, Result, Ok, Err, IsTrue}
use Rattle.perf_base.specs.Configuration.{Configuration}
use Rattle.perf_base.specs.Header.{header, header_of}
use Rattle.perf_base.specs.LayoutReads.{layout_reads}
use Rattle.perf_base.specs.Order.{Order}
use Rattle.perf_base.specs.declared.error.ErrorKind.{ErrorKind}
use Rattle.perf_base.specs.declared.sys.perf_event_header.{perf_event_header}
use Rattle.perf_reader.specs.ReaderState.{ReaderState}
use Rattle.perf_records.specs.Answers.{split_after, length_after, answer_after, reads_after, split_of_frame, answer_of_frame, frame_reads}
use Rattle.perf_records.specs.Bodies.{body}
use Rattle.perf_records.specs.Frames.{frame_length}
use Rattle.perf_records.specs.Metadata.{MetadataValue}
use Rattle.perf_records.specs.Records.{RecordValue}
use Rattle.perf_buffers.specs.Buffer.{Source}
use Rattle.perf_reader.specs.Calls.{Call}
use Rattle.perf_reader.specs.declared.reader.Reader.{Reader}
use Rattle.perf_records.specs.Records.{type_of}
use Rattle.perf_records.specs.declared.record_type.RecordType.{RecordType}
use Rattle.perf_records.specs.Gives.{Event, GivesOf, GivesBody, GivesWholeBody, GivesExactly}
use Rattle.perf_records.proofs.LayoutResults.{took_result, quit_result}
use Rattle.perf_records.proofs.Headers.{tells_frame, frame_whole}

-- the visit of a type, if that is the one given by the metadata
pub visits_type : {I E O : Type 0} {source : I → Source} {order : E → Order} (gives : Event → O → Type 0) (m : MetadataValue) {type : Option RecordType} {old new : Reader I E} {outcome : Result O ErrorKind} →
    type_of m.ty ≡ type → Call source order (GivesOf gives m type) old outcome new → Call source order (GivesBody gives m) old outcome new
visits_type {source} {order} gives m {old} {new} {outcome} is call = subst (λ t. Call source order (GivesOf gives m t) old outcome new) (sym is) call

-- the visit of all of a body
pub visits_all : {O : Type 0} (gives : Event → O → Type 0) (m : MetadataValue) (outcome : Result O ErrorKind) (old new : ReaderState) (from : Bool) →
    old.reads ≡ 0 → (IsTrue from → IsTrue old.source.whole) → GivesBody gives m old outcome new →
    GivesWholeBody gives m old.order (body old.settings m.ty) old.source.left from outcome new.reads
visits_all gives m (Ok output) old new from none lends v =
    let s = took_result old.order (body old.settings m.ty) old.source.left new.source.left old.reads new.reads v.0 v.3 in
    (v.0, v.1, v.2, s.0, omega (arith, none, s.2), (λ is. v.4 (lends is)), v.5)
visits_all gives m (Err e) old new from none lends v = (
  (λ kind. let s = quit_result old.order (body old.settings m.ty) old.source.left new.source.left old.reads new.reads e (v.0 kind) in (s.0, omega (arith, none, s.1))),
  (λ is. v.1 (lends is)),
)

-- the visit of a frame whose header was read before it
pub visits_frame : {O : Type 0} (gives : Event → O → Type 0) (old mid new : ReaderState) (h : perf_event_header) (outcome : Result O ErrorKind) →
    8 ≤ length old.source.left → h ≡ header_of old.order old.source.left → mid.source.left ≡ drop 8 old.source.left → mid.reads ≡ old.reads + layout_reads old.order header old.source.left →
    mid.source.whole ≡ old.source.whole → (let c = old.settings in let o = old.order in let bytes = mid.source.left in
    GivesExactly gives (split_after c o h bytes) (answer_after c o h bytes) (length_after h) (reads_after c o h bytes) mid outcome new) →
    (let c = old.settings in let o = old.order in let bytes = old.source.left in
    GivesExactly gives (split_of_frame c o bytes) (answer_of_frame c o bytes) (frame_length o bytes) (frame_reads (reads_after c o) o bytes) old outcome new)
visits_frame gives old mid new h (Ok output) fits e m n whole v =
    let c : Configuration = old.settings in let o : Order = old.order in
    let t = tells_frame (λ (x : RecordValue). x) (answer_after c o) (reads_after c o) old mid new h (Ok v.0) fits e m n v.6 in
    let split : split_of_frame c o old.source.left ≡ Ok v.2 =
    frame_whole (split_after c o) o old.source.left fits ∙ ap (λ k. split_after c o k (drop 8 old.source.left)) (sym e) ∙ ap (split_after c o h) (sym m) ∙ v.4 in
    (v.0, v.1, v.2, v.3, split, (λ is. v.5 (subst IsTrue (sym whole) is)), t)
visits_frame gives old mid new h (Err x) fits e m n whole v =
    tells_frame (λ (x : RecordValue). x) (answer_after old.settings old.order) (reads_after old.settings old.order) old mid new h (Err x) fits e m n v
