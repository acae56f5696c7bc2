-- Records that are made from what was visited.
use Rattle.std.proofs.Common.{◌≡◌, Bool, true, false, refl, arith, sym, ◌∙◌, ap, subst}
use Rattle.std.specs.Prelude.{Result, None, Some, Ok, Err, IfOk, IsTrue}
use Rattle.perf_base.specs.Refusals.{kinds, refusal_kind}
use Rattle.perf_base.specs.declared.error.ErrorKind.{ErrorKind}
use Rattle.perf_base.specs.declared.error.ErrorKind.TheVariants.{OutOfMemory}
use Rattle.perf_base.specs.Order.{Order}
use Rattle.perf_buffers.specs.Buffer.{Source}
use Rattle.perf_reader.specs.Calls.{Call}
use Rattle.perf_reader.specs.declared.reader.Reader.{Reader}
use Rattle.perf_base.specs.declared.refusal.Refusal.{Refusal}
use Rattle.perf_base.specs.declared.sys.perf_event_header.{perf_event_header}
use Rattle.perf_reader.specs.ReaderState.{ReaderState, state_of}
use Rattle.perf_reader.specs.Reading.{CallInvariant}
use Rattle.perf_records.specs.Answers.{ReadsFrameAfter}
use Rattle.perf_records.specs.Records.{IsBorrowed, sample_is, sample_value}
use Rattle.perf_records.specs.Metadata.{MetadataValue}
use Rattle.perf_records.specs.Records.{type_of}
use Rattle.perf_records.specs.Gives.{Event, event, GivesRecord, IsRecordOf, IsSampleOf, IsSampleIn, is_borrowed_sample, GivesBody, GivesType, GivesFrameAfter, BelongsTo}
use Rattle.perf_records.specs.declared.record.Record.TheVariants as record_of
use Rattle.perf_records.specs.declared.record_type.RecordType.TheVariants as type
use Rattle.perf_sample_types.specs.declared.sample.Sample.{Sample}
use Rattle.perf_sample_types.specs.Sample.{sample}
use Rattle.perf_sample_types.specs.SampleEmpty.{fill_result}
use Rattle.perf_sample_types.specs.SampleBoxed.{boxed_value, IsBorrowedBox}
use Rattle.perf_sample_types.specs.SampleGroups.{IsBorrowedSample}
use Rattle.perf_reader.specs.TableRuns.{ReadsBorrowed}
use Rattle.perf_records.proofs.BorrowedValues.{sample_borrowed, borrowed_sample}
use Rattle.perf_records.proofs.TypeVisits.{visited, unvisited, of_said}
use Rattle.perf_records.proofs.BodyVisits.{visits_type}
use Rattle.std.specs.Prelude.{Box}
use Rattle.std.specs.declared.alloc.Global.{Global}
use Rattle.perf_records.specs.declared.record.Record.{Record}

-- what belongs to an event, where records are made
abbrev Gives : Event → Result Record Refusal → Type 0
Gives outcome output = GivesRecord outcome (kinds output)

-- what a call keeps that ran out of memory
pub keeps_unmade : (start new : ReaderState) → CallInvariant start None new → CallInvariant start (Some OutOfMemory) new
keeps_unmade start new p = record {
  buffer = p.buffer;
  fault = λ x. absurd (cc);
  cost = λ t. let k = p.cost t in (k.0, omega (arith, k.1));
  place = p.place;
}

-- ---- bodies

module _ {I E : Type 0} {source : I → Source} {order : E → Order} (m : MetadataValue) {a b : Reader I E} where
  -- the record that was made is what the body contains
  pub made_body : (output : Result Record Refusal) (r : Record) → output ≡ Ok r → Call source order (GivesBody Gives m) a (Ok output) b → Call source order (GivesBody IsRecordOf m) a (Ok r) b
  unfolding GivesRecord
  made_body output r is call = record {
    config = call.config;
    whole = call.whole;
    told = call.told;
    answer = λ t.
        let v = call.answer t in
        let gave : GivesRecord (event v.0 v.1 m) (Ok r) = subst (λ (o : Result Record Refusal). GivesRecord (event v.0 v.1 m) (kinds o)) is v.2 in
        (v.0, v.1, gave, v.3, v.4, v.5);
    keeps = call.keeps;
  }

  -- one that was not made ran out of memory
  pub unmade_body : (output : Result Record Refusal) (e : Refusal) → output ≡ Err e → IsTrue (source a.input).told → Call source order (GivesBody Gives m) a (Ok output) b →
      Call source order (GivesBody IsRecordOf m) a (Err (refusal_kind e)) b
  unfolding GivesRecord
  unmade_body output e is told call =
      let v = call.answer told in
      let gave : GivesRecord (event v.0 v.1 m) (Err (refusal_kind e)) = subst (λ (o : Result Record Refusal). GivesRecord (event v.0 v.1 m) (kinds o)) is v.2 in
      subst (λ (k : ErrorKind). Call source order (GivesBody IsRecordOf m) a (Err k) b) (sym gave.0) (record {
        config = call.config;
        whole = call.whole;
        told = call.told;
        answer = λ t. ((λ kind. absurd (cc)), (λ w none. let never : true ≡ false = sym (v.5 gave.1) ∙ none in absurd (cc)));
        keeps = λ start p. keeps_unmade start (state_of source order b) (call.keeps start p);
      })

-- ---- samples
module _ {I E : Type 0} {source : I → Source} {order : E → Order} (m : MetadataValue) {a b : Reader I E} where
  -- one that was read into a box, or refused
  pub boxed_visit : (outcome : Result (Box Sample Global) ErrorKind) → Call source order (ReadsBorrowed sample boxed_value IsBorrowedBox) a outcome b → Call source order (GivesType IsSampleOf m type.Sample) a outcome b
  boxed_visit (Ok content) call = visited IsSampleOf m sample boxed_value sample_is (is_borrowed_sample content.value) true (refl, borrowed_sample content.value) (λ t w. sample_borrowed content.value ((call.answer t).1 w)) (λ is. refl) (of_said (λ transition. transition.0) call)
  boxed_visit (Err e) call = unvisited IsSampleOf m sample boxed_value sample_is true (λ t w no. let never : true ≡ false = no in absurd (cc)) (of_said (λ transition. transition.0) call)

  -- one that was read into the place of another, or refused
  pub placed_visit : (s : Sample) (outcome : Result (Unit {0}) ErrorKind) → Call source order (ReadsBorrowed sample sample_value IsBorrowedSample) a (fill_result outcome s) b → Call source order (GivesType (λ seen (x : Unit {0}). IsSampleIn seen s) m type.Sample) a outcome b
  placed_visit s (Ok tt) call = visited (λ outcome (x : Unit {0}). IsSampleIn outcome s) m sample sample_value sample_is (is_borrowed_sample s) true (refl, borrowed_sample s) (λ t w. sample_borrowed s ((call.answer t).1 w)) (λ is. refl) (of_said (λ transition. transition.0) call)
  placed_visit s (Err e) call = unvisited (λ outcome (x : Unit {0}). IsSampleIn outcome s) m sample sample_value sample_is true (λ t w no. let never : true ≡ false = no in absurd (cc)) (of_said (λ transition. transition.0) call)

-- a sample in its box is the record of its body
module _ {I E : Type 0} {source : I → Source} {order : E → Order} (m : MetadataValue) {a b : Reader I E} where
  pub boxed_body : (content : Box Sample Global) → m.ty ≡ 9 → Call source order (GivesType IsSampleOf m type.Sample) a (Ok content) b → Call source order (GivesBody IsRecordOf m) a (Ok (record_of.Sample content)) b
  boxed_body content is call = visits_type IsRecordOf m (ap type_of is) (record { config = call.config; whole = call.whole; told = call.told; answer = λ t. call.answer t; keeps = call.keeps })

  pub unboxed_body : (e : ErrorKind) → m.ty ≡ 9 → Call source order (GivesType IsSampleOf m type.Sample) a (Err e) b → Call source order (GivesBody IsRecordOf m) a (Err e) b
  unboxed_body e is call = visits_type IsRecordOf m (ap type_of is) (record { config = call.config; whole = call.whole; told = call.told; answer = λ t. call.answer t; keeps = call.keeps })

-- the record of a frame's body is what the frame contains
pub body_transition : (h : perf_event_header) (old new : ReaderState) (outcome : Result Record ErrorKind) → GivesFrameAfter IsRecordOf h old outcome new → ReadsFrameAfter h old outcome new
body_transition h old new (Ok r) v = (v.6.0 ∙ ap Ok (sym v.3.0), v.6.1, v.6.2)
body_transition h old new (Err e) v = v

-- and nothing of it was copied
pub body_borrows : (h : perf_event_header) (from : Bool) (r : Record) → BelongsTo IsRecordOf h from r → IsTrue from → IsBorrowed r
body_borrows h from r b whole = b.1.1 (b.4 whole)

pub body_borrows_if : (h : perf_event_header) (from : Bool) (result : Result Record Refusal) → IfOk result (λ r. BelongsTo IsRecordOf h from r) → IsTrue from → IfOk (kinds result) IsBorrowed
body_borrows_if h from (Ok r) b whole = body_borrows h from r b whole
body_borrows_if h from (Err e) b whole = tt
