-- The error that the refusal of a frame becomes.
use Rattle.std.proofs.Common.{◌≡◌, Err, ℕ, List, Bool, false, sym, subst}
use Rattle.std.specs.Prelude.{◌≢◌, IsTrue}
use Rattle.perf_base.specs.Configuration.{Configuration}
use Rattle.perf_base.specs.Errors.{kind_of}
use Rattle.perf_base.specs.Order.{Order}
use Rattle.perf_base.specs.Refusals.{IsErrorOf, refusal_kind}
use Rattle.perf_base.specs.declared.error.ErrorKind.{ErrorKind}
use Rattle.perf_base.specs.declared.error.ErrorKind.TheVariants.{External, OutOfMemory}
use Rattle.perf_base.specs.declared.error.ParseError.{ParseError}
use Rattle.perf_base.specs.declared.sys.perf_event_header.{perf_event_header}
use Rattle.perf_reader.specs.Reading.{of_layout}
use Rattle.perf_records.specs.Answers.{answer_after}
use Rattle.perf_records.specs.Bodies.{needs_memory}
use Rattle.perf_records.specs.FrameReadings.{FrameGives, FrameGivesOrBad}
use Rattle.perf_records.specs.Gives.{Event}
use Rattle.perf_records.specs.declared.frame_handler.BadFrame.{BadFrame}

pub error_gives : {O : Type 0} (gives : Event → O → Type 0) (h : perf_event_header) (c : Configuration) (o : Order) (bytes : List ℕ) (borrowed : Bool) (bad : BadFrame) (e : ParseError) →
    FrameGivesOrBad gives h c o bytes borrowed (Err bad) → IsErrorOf e bad.refusal → FrameGives gives h c o bytes borrowed (Err e)
error_gives gives h c o bytes borrowed bad e told is =
    let kind : kind_of e ≡ refusal_kind bad.refusal = is.kind_is in (
      subst (λ (k : ErrorKind). IsTrue (of_layout k) → answer_after c o h bytes ≡ Err k) (sym kind) told.1,
      (λ room. subst (IsErrorOf e) (told.2 room) is),
      subst (λ (k : ErrorKind). k ≢ External) (sym kind) told.3,
      subst (λ (k : ErrorKind). IsTrue borrowed → needs_memory h.type_ ≡ false → k ≢ OutOfMemory) (sym kind) told.4,
    )
