use Rattle.std.proofs.Common.{ℕ, List, string_bytes, sym, subst}
use Rattle.std.specs.Prelude.{IfOk}
use Rattle.perf_base.specs.Configured.{endian_of}
use Rattle.perf_run.specs.Text.{stream_of, framed}
use Rattle.perf_run.proofs.Endings.{MadeOf}
use Rattle.perf_run.proofs.engine.push_stream.Goals as goal

pub returns-then-with_attr : goal.returns-then-with_attr
returns-then-with_attr g c = λ told.
    let order = g.E.Endian.order (endian_of c.args.parser.reader.config) in
    let source = g.B.ParseBuf.source c.args.parser.reader.input.buf in
    let old : List ℕ = string_bytes c.args.text.now in
    let new : List ℕ = string_bytes c.push_run_with_attr.new.text in
    subst (λ b. IfOk c.push_run_with_attr.result (λ outcome. MadeOf source.can_fault order c.args.limit (stream_of b order source.left) old outcome new))
    (sym c.if-with_attr.true) (c.push_run_with_attr.ensures told)

pub returns-else-with_attr : goal.returns-else-with_attr
returns-else-with_attr g c = λ told.
    let order = g.E.Endian.order (endian_of c.args.parser.reader.config) in
    let source = g.B.ParseBuf.source c.args.parser.reader.input.buf in
    let old : List ℕ = string_bytes c.args.text.now in
    let new : List ℕ = string_bytes c.push_run.new.text in
    subst (λ b. IfOk c.push_run.result (λ outcome. MadeOf source.can_fault order c.args.limit (stream_of b order source.left) old outcome new))
    (sym c.if-with_attr.false)
    (subst (λ d. IfOk c.push_run.result (λ outcome. MadeOf source.can_fault order c.args.limit (framed d source.left) old outcome new))
    c.requires (c.push_run.ensures told))
