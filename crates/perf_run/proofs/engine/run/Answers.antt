use Rattle.std.proofs.Common.{ℕ, true, List, [], take, string_bytes, subst}
use Rattle.std.specs.Io.KnownBytes.{Appends}
use Rattle.perf_lines.specs.declared.outcome.Outcome.TheVariants.{Stopped}
use Rattle.perf_run.specs.Outcomes.{IsWritten, Writes}
use Rattle.perf_run.specs.Text.{stream_of}
use Rattle.perf_text.proofs.Written.{appends_nothing}
use Rattle.perf_run.proofs.Endings.{if_some_all, if_some_map, says_nothing, says_beginning}
use Rattle.perf_run.proofs.engine.run.Goals as goal

pub returns-in_default : goal.returns-in_default
returns-in_default g c =
    let order = g.E.Endian.order c.args.order in
    let old = g.W.Write.contents c.args.writer.now in
    if_some_all (g.R.Read.remaining c.args.reader) (λ bytes. Writes order c.args.limit (stream_of c.args.with_attr order bytes) Stopped old old)
    (λ bytes. ([], appends_nothing old, says_nothing true order c.args.limit (stream_of c.args.with_attr order bytes)))

pub returns : goal.returns
returns g c =
    let order = g.E.Endian.order c.args.order in
    let old = g.W.Write.contents c.args.writer.now in
    let new = g.W.Write.contents c.write_and_flush.new.writer in
    let text : List ℕ = string_bytes c.in-Ok.text in
    let part = subst (λ bytes. (n : ℕ) × Appends old new (take n bytes)) c.as_bytes.ensures.value c.write_and_flush.ensures.part in
    if_some_map (g.R.Read.remaining c.args.reader)
    (λ bytes. IsWritten true order c.args.limit (stream_of c.args.with_attr order bytes) c.in-Ok.outcome text)
    (λ bytes. Writes order c.args.limit (stream_of c.args.with_attr order bytes) Stopped old new)
    (λ bytes says. (take part.0 text, part.1, says_beginning true order c.args.limit (stream_of c.args.with_attr order bytes) c.in-Ok.outcome text part.0 says))
    c.in-Ok.ensures

pub returns-then-write_and_flush : goal.returns-then-write_and_flush
returns-then-write_and_flush g c =
    let order = g.E.Endian.order c.args.order in
    let old = g.W.Write.contents c.args.writer.now in
    let new = g.W.Write.contents c.write_and_flush.new.writer in
    let text : List ℕ = string_bytes c.in-Ok.text in
    let all = subst (λ bytes. Appends old new bytes) c.as_bytes.ensures.value (c.write_and_flush.ensures.whole c.if-write_and_flush.true) in
    if_some_map (g.R.Read.remaining c.args.reader)
    (λ bytes. IsWritten true order c.args.limit (stream_of c.args.with_attr order bytes) c.in-Ok.outcome text)
    (λ bytes. Writes order c.args.limit (stream_of c.args.with_attr order bytes) c.in-Ok.outcome old new)
    (λ bytes says. (text, all, says))
    c.in-Ok.ensures
