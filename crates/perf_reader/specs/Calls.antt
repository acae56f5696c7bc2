-- A call of a reader, in one clause: what it returns, and what every call keeps.
use Rattle.std.specs.Prelude.{Result, ◌≡◌, IsTrue, None}
use Rattle.perf_base.specs.Order.{Order}
use Rattle.perf_base.specs.Refusals.{kind_if_refused}
use Rattle.perf_base.specs.declared.error.ErrorKind.{ErrorKind}
use Rattle.perf_buffers.specs.Buffer.{Source}
use Rattle.perf_reader.specs.ReaderState.{ReaderState, input_of, config_of, state_of}
use Rattle.perf_reader.specs.Reading.{Transition, CallInvariant}
use Rattle.perf_reader.specs.declared.reader.Reader.{Reader}

module _ {I E X : Type 0} (source : I → Source) (order : E → Order) (transition : Transition X) where
  -- one call: the reader before it, its result, and the reader after it
  pub record Call (old : Reader I E) (outcome : Result X ErrorKind) (new : Reader I E) : Type 0 where
    -- the configuration stays
    pub config : config_of new ≡ config_of old
    -- a buffer stays whole, and its bytes stay known
    pub whole : (source (input_of new)).whole ≡ (source (input_of old)).whole
    pub told : IsTrue (source (input_of old)).told → IsTrue (source (input_of new)).told
    -- the result, if the bytes of the buffer are known
    pub answer : IsTrue (source (input_of old)).told →
        transition (state_of source order old) outcome (state_of source order new)
    -- what was kept since any moment before is kept
    pub keeps : (start : ReaderState) → CallInvariant start None (state_of source order old) →
        CallInvariant start (kind_if_refused outcome) (state_of source order new)
