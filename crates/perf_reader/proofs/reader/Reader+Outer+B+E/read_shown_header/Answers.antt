use Rattle.std.proofs.Common.{◌≡◌, ℕ, ◌+◌, List, take, refl, ap, arith}
use Rattle.std.specs.Prelude.{IsTrue}
use Rattle.perf_buffers.specs.Taking.{Takes}
use Rattle.perf_buffers.proofs.Options.{some_matches}
use Rattle.perf_reader.specs.ReaderState.{ReaderState}
use Rattle.perf_reader.proofs.HeaderAtOnce.{header_of_front, header_keeps}
use Rattle.perf_reader.proofs.reader.Reader+Outer+B+E.read_shown_header.Goals as goal

pub returns-in-Ok-Some : goal.returns-in-Ok-Some
returns-in-Ok-Some g c =
    let old : ReaderState = record { settings = _; order = g.E.Endian.order c.args.self.now.config.endian; source = g.B.ParseBuf.source c.args.self.now.input.buf; reads = c.args.self.now.reads } in
    let new : ReaderState = record { settings = old.settings; order = old.order; source = g.B.ParseBuf.source c.take_shown.new.self.buf; reads = c.tick-in-Ok-Some.new.self } in
    let e = c.in-Ok-Some.ensures in
    let count : new.reads ≡ old.reads + 2 = omega (arith, c.tick.ensures, c.tick-in-Ok-Some.ensures) in
    let taken : IsTrue old.source.told → Takes old.source 8 new.source × (◌≡◌ {A = List ℕ} c.in-Ok-Some.bytes (take 8 old.source.left)) = λ told. some_matches _ _ c.in-Ok-Some.field-0 c.in-Ok-Some.bytes c.in-Ok-Some.field-0-is (e.ok told) in record {
      call = record {
        config = refl;
        whole = e.stays.0;
        told = e.stays.3;
        answer = λ told. let t = taken told in (t.0.0, header_of_front old.order (g.E.Endian.order c.endian.result.now) old.source.left c.in-Ok-Some.bytes c.header_in.result t.1 (ap g.E.Endian.order c.endian.ensures) c.header_in.ensures, t.0.1, count);
        keeps = λ start p. header_keeps start old new 2 (omega arith) p count e.stays (λ told. (taken told).0);
      };
    }
