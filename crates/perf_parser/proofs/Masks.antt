-- Registers by a mask of the configuration.
use Rattle.std.proofs.Common.{◌≡◌, ℕ, subst}
use Rattle.std.specs.Prelude.{Result}
use Rattle.perf_base.specs.Configuration.{Configuration}
use Rattle.perf_base.specs.Configured.{configuration_of}
use Rattle.perf_base.specs.Order.{Order}
use Rattle.perf_base.specs.Took.{took_by_places}
use Rattle.perf_base.specs.declared.error.ErrorKind.{ErrorKind}
use Rattle.perf_buffers.specs.Buffer.{Source}
use Rattle.perf_reader.specs.Calls.{Call}
use Rattle.perf_reader.specs.ReaderState.{ReaderState, config_of, state_of}
use Rattle.perf_reader.specs.Reading.{AnswersRun, Reads}
use Rattle.perf_reader.specs.declared.reader.Reader.{Reader}
use Rattle.perf_sample_types.specs.Registers.{registers_of, registers_value}
use Rattle.perf_sample_types.specs.declared.registers.Registers.{Registers}

-- the same call, by the mask that the configuration has
pub by_mask : {I E : Type 0} (source : I → Source) (order : E → Order) (old new : Reader I E) (outcome : Result Registers ErrorKind) (mask : ℕ) (mask_of : Configuration → ℕ) →
    mask ≡ mask_of (configuration_of (config_of old)) →
    Call source order (Reads (λ c. registers_of mask) registers_value) old outcome new → Call source order (Reads (λ c. registers_of (mask_of c)) registers_value) old outcome new
by_mask source order old new outcome mask mask_of same call =
    let a : ReaderState = state_of source order old in
    let b : ReaderState = state_of source order new in record {
      config = call.config;
      whole = call.whole;
      told = call.told;
      answer = λ t. subst (λ m. AnswersRun registers_value (took_by_places a.order (registers_of m) a.source.left a.reads) outcome b) same (call.answer t);
      keeps = call.keeps;
    }
