use Rattle.std.proofs.Common.{string_bytes, subst, sym, refl, ◌≡◌, ◌∙◌}
use Rattle.std.specs.Prelude.{IsTrue}
use Rattle.perf_base.specs.Attribute.{attribute}
use Rattle.perf_base.specs.Configuration.{configured_by}
use Rattle.perf_base.specs.Configured.{configuration_of, endian_of}
use Rattle.perf_base.specs.Errors.{kind_of}
use Rattle.perf_base.specs.declared.error.ErrorKind.TheVariants.{External}
use Rattle.perf_reader.specs.Reading.{of_layout}
use Rattle.perf_reader.proofs.Calls.{keeps_none}
use Rattle.perf_records.proofs.LayoutResults.{took_result}
use Rattle.perf_parser.specs.ReaderState.{parser_state}
use Rattle.perf_run.specs.Text.{stream_after_attribute, without_frames}
use Rattle.perf_run.proofs.Endings.{made_refused, made_after, read_attribute, refused_attribute, framed_as}
use Rattle.perf_run.proofs.engine.push_run_with_attr.Goals as goal

pub returns-in-Err : goal.returns-in-Err
returns-in-Err g c = λ told.
    let order = g.E.Endian.order (endian_of c.args.parser.reader.config) in
    let bytes = (g.B.ParseBuf.source c.args.parser.reader.input.buf).left in
    let stream = stream_after_attribute order bytes in
    let kind = kind_of c.in-Err.error in
    let read = λ (known : IsTrue (of_layout kind)). refused_attribute order bytes kind (c.in-Err.ensures.refused told known) in
    let refused = subst (λ kind. IsTrue (of_layout kind) → stream ≡ without_frames kind) (sym c.kind.ensures) read in
    let can_fault = (g.B.ParseBuf.source c.args.parser.reader.input.buf).can_fault in
    let fault = subst (λ kind. kind ≡ External → IsTrue can_fault) (sym c.kind.ensures) c.in-Err.ensures.fault in
    made_refused can_fault order c.args.limit stream (string_bytes c.args.text.now) c.kind.result refused fault
    c.push_refusal.result (string_bytes c.push_refusal.new.text) c.push_refusal.ensures.refused c.push_refusal.ensures.fault

pub returns-in-Ok : goal.returns-in-Ok
returns-in-Ok g c = λ told.
    let after = c.in-Ok.after in
    let start = parser_state g.B.ParseBuf.source g.E.Endian.order c.args.parser in
    let now = parser_state g.B.ParseBuf.source g.E.Endian.order after in
    let kept = c.in-Ok.ensures.keeps start (keeps_none start) in
    let read = c.in-Ok.ensures.read told in
    let framed = read_attribute start.order start.source.left now.source.left read.0
    (took_result start.order attribute start.source.left now.source.left start.reads now.reads read.0 read.1).0 read.2
    ∙ framed_as (configured_by read.0) (configuration_of after.reader.config) (sym read.3) now.source.left now.source.left refl in
    made_after start.source.can_fault now.source.can_fault kept.buffer.1 start.order now.order c.args.limit
    (stream_after_attribute start.order start.source.left) now.source.left (string_bytes c.args.text.now)
    (configuration_of after.reader.config) c.in-Ok.ensures.order framed
    c.push_run.result (string_bytes c.push_run.new.text) (c.push_run.ensures (kept.buffer.3 told))
