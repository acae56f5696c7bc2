use Rattle.std.proofs.Common.{◌≡◌, ℕ, List, Option, Some, None, rules, sym, subst}
use Rattle.perf_base.specs.Order.{Order}
use Rattle.perf_buffers.specs.Buffer.{chunk_bytes}
use Rattle.perf_records.specs.FrameNumbers.{IsIdentifierRead, identifier_in}
use Rattle.perf_records.proofs.FrameNumbers.{identifier_read}
use Rattle.perf_records.proofs.frame.Frame.identifier.Goals as goal

pub returns-in-Some-clause-read : goal.returns-in-Some-clause-read
returns-in-Some-clause-read g c =
    let o : Order = g.E.Endian.order c.args.order.now in
    let h = c.args.self.now.header in
    let bytes : List ℕ = chunk_bytes c.args.self.now.rest in
    let placed : Some c.convert_u64.result ≡ identifier_in o h bytes = search rules in
    subst (IsIdentifierRead o h bytes) (sym placed) (identifier_read o h bytes c.args.self.now.sized c.args.self.now.whole)

pub returns-in-None-clause-read : goal.returns-in-None-clause-read
returns-in-None-clause-read g c =
    let o : Order = g.E.Endian.order c.args.order.now in
    let h = c.args.self.now.header in
    let bytes : List ℕ = chunk_bytes c.args.self.now.rest in
    let placed : ◌≡◌ {A = Option ℕ} None (identifier_in o h bytes) = search rules in
    subst (IsIdentifierRead o h bytes) (sym placed) (identifier_read o h bytes c.args.self.now.sized c.args.self.now.whole)
