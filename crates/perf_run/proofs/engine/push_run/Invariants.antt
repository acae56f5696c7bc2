use Rattle.std.proofs.Common.{◌-◌, ◌≡◌, ◌≤◌, string_bytes}
use Rattle.std.specs.Prelude.{IsTrue}
use Rattle.perf_base.specs.Configured.{configuration_of, endian_of}
use Rattle.perf_records.specs.Frames.{drop_frames}
use Rattle.perf_run.proofs.Progress.{Listed}
use Rattle.perf_run.proofs.engine.push_run.Given as goal

abbrev pub invariant-loop-count : goal.invariant-loop-count
invariant-loop-count g l =
    let source = g.B.ParseBuf.source in
    let order = g.E.Endian.order (endian_of l.initial.parser.reader.config) in
    let bytes = (source l.initial.parser.reader.input.buf).left in record {
      within : l.count ≤ l.limit;
      config : l.parser.reader.config ≡ l.initial.parser.reader.config;
      can_fault : IsTrue (source l.parser.reader.input.buf).can_fault → IsTrue (source l.initial.parser.reader.input.buf).can_fault;
      told : IsTrue (source l.initial.parser.reader.input.buf).told → IsTrue (source l.parser.reader.input.buf).told;
      left : IsTrue (source l.initial.parser.reader.input.buf).told → (source l.parser.reader.input.buf).left ≡ drop_frames order l.count bytes;
      listed : IsTrue (source l.initial.parser.reader.input.buf).told
          → Listed (configuration_of l.initial.parser.reader.config) order bytes (string_bytes l.initial.text) l.count (string_bytes l.text) l.any_refused;
    }

abbrev pub decreases-loop-count : goal.decreases-loop-count
decreases-loop-count g l = l.limit - l.count
