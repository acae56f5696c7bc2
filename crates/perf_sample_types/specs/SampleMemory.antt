-- When a sample is read without memory.
use Rattle.std.specs.Prelude.{◌≡◌, [], ◌∷◌, false, IsTrue}
use Rattle.perf_base.specs.Configuration.{Configuration}
use Rattle.perf_buffers.specs.Buffer.{Source}
use Rattle.perf_reader.specs.ReaderState.{input_of}
use Rattle.perf_reader.specs.declared.reader.Reader.{Reader}
use Rattle.perf_sample_types.specs.Sample.{has_one}

-- the bytes of the input are known, and live as long as the input
abbrev pub Lasts : {I E : Type 0} → (I → Source) → Reader I E → Type 0
Lasts source r = IsTrue (source (input_of r)).told × IsTrue (source (input_of r)).whole

-- the sample type has none of READ, CALLCHAIN, BRANCH_STACK, REGS_USER and REGS_INTR
abbrev pub HasNoLists : Configuration → Type 0
HasNoLists c = has_one c.sample_type (4 ∷ 5 ∷ 11 ∷ 12 ∷ 18 ∷ []) ≡ false
