use Rattle.std.proofs.Common.{ap, sym, subst, ◌∙◌}
use Rattle.std.specs.Prelude.{IsTrue}
use Rattle.perf_base.specs.Attribute.{attribute}
use Rattle.perf_base.specs.Configured.{configuration_of, endian_of}
use Rattle.perf_base.specs.Errors.{kind_of}
use Rattle.perf_base.specs.Took.{took}
use Rattle.perf_base.specs.declared.config.ParseConfig.{ParseConfig}
use Rattle.perf_reader.proofs.Calls.{keeps_none}
use Rattle.perf_records.proofs.LayoutResults.{quit_result}
use Rattle.perf_parser.specs.ReaderState.{parser_buffer, parser_reads, parser_state}
use Rattle.perf_parser.proofs.Attributes.{keeps_moved, not_of_layout, no_fault, is_external_fault}
use Rattle.perf_parser.proofs.parser.Parser.after_attribute.Goals as goal

pub returns-in-Err-clause-refused : goal.returns-in-Err-clause-refused
returns-in-Err-clause-refused g c = λ told known.
    let start = parser_state g.B.ParseBuf.source g.E.Endian.order c.args.self in
    let mid = parser_state g.B.ParseBuf.source g.E.Endian.order c.parse.new.self in
    (quit_result start.order attribute start.source.left mid.source.left start.reads mid.reads (kind_of c.in-Err.error) ((c.in-Err.ensures.call.answer told).0 known)).0

pub returns-in-Err-clause-fault : goal.returns-in-Err-clause-fault
returns-in-Err-clause-fault g c = λ external.
    let start = parser_state g.B.ParseBuf.source g.E.Endian.order c.args.self in
    let kept = c.in-Err.ensures.call.counted start (keeps_none start) in
    kept.fault (is_external_fault (kind_of c.in-Err.error) external)

pub returns-in-Err-clause-memory : goal.returns-in-Err-clause-memory
returns-in-Err-clause-memory g c = λ told is. absurd ((c.in-Err.ensures.call.answer told).1 is)

pub returns-in-Err-duplicate-clause-refused : goal.returns-in-Err-duplicate-clause-refused
returns-in-Err-duplicate-clause-refused g c = λ told known. absurd (not_of_layout (kind_of c.in-Err-duplicate.error) c.in-Err-duplicate.ensures.refused.0 known)

pub returns-in-Err-duplicate-clause-fault : goal.returns-in-Err-duplicate-clause-fault
returns-in-Err-duplicate-clause-fault g c = λ external. absurd (no_fault (kind_of c.in-Err-duplicate.error) c.in-Err-duplicate.ensures.refused.0 external)

pub returns-in-Err-duplicate-clause-memory : goal.returns-in-Err-duplicate-clause-memory
returns-in-Err-duplicate-clause-memory g c = λ told is.
    let order = subst (λ (x : g.row.E.Denot). IsTrue (g.E.Endian.may_refuse x)) c.endian.ensures c.in-Err-duplicate.ensures.refused.1 in
    subst (λ (k : ParseConfig g.row.E.Denot). IsTrue (g.E.Endian.may_refuse (endian_of k))) c.in-Ok.ensures.call.config order

pub returns-clause-read : goal.returns-clause-read
returns-clause-read g c = λ told.
    let source = g.B.ParseBuf.source in
    let mid = c.parse.new.self in
    let answer = c.in-Ok.ensures.call.answer told in
    let left = sym (ap (λ b. (source b).left) c.reconfigure.ensures.buf) in (
      c.in-Ok.attr,
      answer.0 ∙ ap (λ l. took c.in-Ok.attr l (parser_reads mid)) left ∙ ap (λ n. took c.in-Ok.attr (source (parser_buffer c.reconfigure.result)).left n) (sym c.reconfigure.ensures.reads),
      sym left ∙ answer.2,
      ap configuration_of c.reconfigure.ensures.config ∙ c.with_endian-config.ensures.same ∙ c.from.ensures.0,
    )

pub returns-clause-keeps : goal.returns-clause-keeps
returns-clause-keeps g c = λ start kept.
    let mid = parser_state g.B.ParseBuf.source g.E.Endian.order c.parse.new.self in
    let after = parser_state g.B.ParseBuf.source g.E.Endian.order c.reconfigure.result in
    keeps_moved start mid after (ap g.B.ParseBuf.source c.reconfigure.ensures.buf) c.reconfigure.ensures.reads (c.in-Ok.ensures.call.counted start kept)
