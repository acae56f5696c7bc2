-- The state of a reader: its configuration and its order, what its input contains, and how many
-- elementary reads it made.
use Rattle.std.specs.Prelude.{ℕ}
use Rattle.perf_base.specs.Order.{Order}
use Rattle.perf_base.specs.Configuration.{Configuration}
use Rattle.perf_base.specs.Configured.{configuration_of, endian_of}
use Rattle.perf_buffers.specs.Buffer.{Source}
use Rattle.perf_base.specs.declared.config.ParseConfig.{ParseConfig}
use Rattle.perf_buffers.specs.declared.outer.Outer.{Outer}
use Rattle.perf_reader.specs.declared.reader.Reader.{Reader}

-- the state of a reader
pub record ReaderState : Type 0 where
  pub settings : Configuration
  pub order : Order
  pub source : Source
  pub reads : ℕ

-- what a reader takes its bytes from
abbrev pub input_of : {I E : Type 0} → Reader I E → I
input_of r = r.input

-- the buffer of a reader of a caller's buffer
abbrev pub buffer_of : {B E : Type 0} → Reader (Outer B) E → B
buffer_of r = r.input.buf

-- its configuration
abbrev pub config_of : {I E : Type 0} → Reader I E → ParseConfig E
config_of r = r.config

-- how many elementary reads it made
abbrev pub reads_of : {I E : Type 0} → Reader I E → ℕ
reads_of r = r.reads

-- the state of a reader, by what its input contains and its order
abbrev pub state_of : {I E : Type 0} → (I → Source) → (E → Order) → Reader I E → ReaderState
state_of source order r = record {
  settings = configuration_of r.config;
  order = order (endian_of r.config);
  source = source r.input;
  reads = r.reads;
}
