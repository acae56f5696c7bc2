use Rattle.std.proofs.Common.{◌≡◌, true, Bool, List, ℕ, ap, sym, subst, ◌∙◌, drop, rules}
use Rattle.std.specs.Prelude.{IsTrue}
use Rattle.perf_base.specs.Configuration.{Configuration, configured_by}
use Rattle.perf_base.specs.Configured.{configuration_of, endian_of}
use Rattle.perf_base.specs.Errors.{kind_of}
use Rattle.perf_base.specs.Order.{Order}
use Rattle.perf_base.specs.declared.config.ParseConfig.{ParseConfig}
use Rattle.perf_reader.proofs.Calls.{keeps_none}
use Rattle.perf_parser.specs.ReaderState.{parser_buffer, parser_config, parser_state}
use Rattle.perf_reports.specs.Counting.{CountsRun, CountsStream, attribute_in}
use Rattle.perf_reports.specs.declared.streams.TheConstants.{MOST_FRAMES}
use Rattle.perf_reports.proofs.Counted.{attribute_read, attribute_refused}
use Rattle.perf_reports.proofs.streams.count_stream.Goals as goal

pub returns-in-Ok-clause-counts : goal.returns-in-Ok-clause-counts
returns-in-Ok-clause-counts g c = λ told.
    let source = g.B.ParseBuf.source in
    let p = c.new-parser in
    let here : IsTrue (source (parser_buffer p.result)).told = subst (λ (b : g.row.B.Denot). IsTrue (source b).told) (sym p.ensures.buf) told in
    let o : Order = g.E.Endian.order c.args.endian in
    let order : g.E.Endian.order (endian_of (parser_config p.result)) ≡ o = ap (λ (k : ParseConfig g.row.E.Denot). g.E.Endian.order (endian_of k)) p.ensures.config ∙ ap g.E.Endian.order c.with_endian-plain.ensures.endian in
    let bytes : List ℕ = (source c.args.input).left in
    let same : (source (parser_buffer p.result)).left ≡ bytes = ap (λ (b : g.row.B.Denot). (source b).left) p.ensures.buf in
    let start = parser_state source g.E.Endian.order p.result in
    let now = parser_state source g.E.Endian.order c.in-Ok.after in
    let a = c.in-Ok.ensures.read here in
    let is_read = attribute_read start.order start.source.left now.source.left start.reads now.reads a.0 a.1 in
    let counted = c.count_records-in-Ok.result in
    let left : List ℕ = (source (parser_buffer c.count_records-in-Ok.new.parser)).left in
    let R : Configuration → Order → List ℕ → Type 0 = λ k x xs. CountsRun k x MOST_FRAMES xs counted.0 counted.1 left in
    let after = c.in-Ok.after in
    let rest : List ℕ = drop a.0.size bytes in
    let run : R (configured_by a.0) o rest =
    subst (λ (k : Configuration). R k o rest) a.3
    (subst (λ (x : Order). R (configuration_of (parser_config after)) x rest) (c.in-Ok.ensures.order ∙ order)
    (subst (λ (xs : List ℕ). R (configuration_of (parser_config after)) (g.E.Endian.order (endian_of (parser_config after))) xs) (a.2 ∙ ap (drop a.0.size) same) (c.count_records-in-Ok.ensures.counts ((c.in-Ok.ensures.keeps start (keeps_none start)).buffer.3 here)))) in
    let read = ap (λ (x : Order). attribute_in x bytes) (sym order) ∙ ap (attribute_in (g.E.Endian.order (endian_of (parser_config p.result)))) (sym same) ∙ is_read in
    let with : c.args.with_attr ≡ true = search rules in
    subst (λ (b : Bool). CountsStream b o MOST_FRAMES bytes counted.0 counted.1) (sym with) (a.0, read, (left, run))

pub returns-in-Err-clause-refused : goal.returns-in-Err-clause-refused
returns-in-Err-clause-refused g c = λ told known.
    let source = g.B.ParseBuf.source in
    let p = c.new-parser in
    let here : IsTrue (source (parser_buffer p.result)).told = subst (λ (b : g.row.B.Denot). IsTrue (source b).told) (sym p.ensures.buf) told in
    let o : Order = g.E.Endian.order c.args.endian in
    let order : g.E.Endian.order (endian_of (parser_config p.result)) ≡ o = ap (λ (k : ParseConfig g.row.E.Denot). g.E.Endian.order (endian_of k)) p.ensures.config ∙ ap g.E.Endian.order c.with_endian-plain.ensures.endian in
    let bytes : List ℕ = (source c.args.input).left in
    let same : (source (parser_buffer p.result)).left ≡ bytes = ap (λ (b : g.row.B.Denot). (source b).left) p.ensures.buf in
    let with : c.args.with_attr ≡ true = search rules in
    (with, ap (λ (x : Order). attribute_in x bytes) (sym order) ∙ ap (attribute_in (g.E.Endian.order (endian_of (parser_config p.result)))) (sym same) ∙ attribute_refused (g.E.Endian.order (endian_of (parser_config p.result))) (source (parser_buffer p.result)).left (kind_of c.in-Err.error) (c.in-Err.ensures.refused here known))

pub returns-in-Ok-clause-fault : goal.returns-in-Ok-clause-fault
returns-in-Ok-clause-fault g c = λ told external.
    let source = g.B.ParseBuf.source in
    let p = c.new-parser in
    let here : IsTrue (source (parser_buffer p.result)).told = subst (λ (b : g.row.B.Denot). IsTrue (source b).told) (sym p.ensures.buf) told in
    let start = parser_state source g.E.Endian.order p.result in
    let kept = (c.in-Ok.ensures.keeps start (keeps_none start)).buffer in
    let faulted = c.count_records-in-Ok.ensures.fault (kept.3 here) external in
    subst (λ (b : g.row.B.Denot). IsTrue (source b).can_fault) p.ensures.buf (kept.1 faulted)
