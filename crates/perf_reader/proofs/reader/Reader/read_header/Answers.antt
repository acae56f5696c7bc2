use Rattle.std.proofs.Common.{◌≡◌, ◌+◌, Some, refl, ap, arith}
use Rattle.perf_base.specs.Refusals.{refusal_kind}
use Rattle.perf_reader.specs.ReaderState.{ReaderState}
use Rattle.perf_reader.proofs.HeaderAtOnce.{header_at_once, never_short, header_keeps}
use Rattle.perf_reader.proofs.Calls.{array_keeps}
use Rattle.perf_reader.proofs.reader.Reader.read_header.Goals as goal

pub returns-in-Err : goal.returns-in-Err
returns-in-Err g c =
    let old : ReaderState = record { settings = _; order = g.E.Endian.order c.args.self.now.config.endian; source = g.I.Input.source c.args.self.now.input; reads = c.args.self.now.reads } in
    let new : ReaderState = record { settings = old.settings; order = old.order; source = g.I.Input.source c.take_array.new.input; reads = c.tick.new.self } in
    let e = c.in-Err.ensures in record {
      call = record {
        config = refl;
        whole = e.stays.0;
        told = e.stays.3;
        answer = λ told. ((λ kind. never_short old.order old.source new.source (refusal_kind c.in-Err.refusal) old.reads new.reads (c.requires told) (e.err told) kind), e.memory);
        keeps = λ start p. array_keeps start old new 8 (Some (refusal_kind c.in-Err.refusal)) p (omega arith) c.tick.ensures e.stays e.can_fail (λ told. e.err told);
      };
    }

pub returns : goal.returns
returns g c =
    let old : ReaderState = record { settings = _; order = g.E.Endian.order c.args.self.now.config.endian; source = g.I.Input.source c.args.self.now.input; reads = c.args.self.now.reads } in
    let new : ReaderState = record { settings = old.settings; order = old.order; source = g.I.Input.source c.take_array.new.input; reads = c.tick-3.new.self } in
    let e = c.in-Ok.ensures in
    let count : new.reads ≡ old.reads + 3 = omega (arith, c.tick.ensures, c.tick-2.ensures, c.tick-3.ensures) in record {
      call = record {
        config = refl;
        whole = e.stays.0;
        told = e.stays.3;
        answer = λ told. let t = e.ok told in (header_at_once old.order (g.E.Endian.order c.endian.result.now) old.source.left c.in-Ok.bytes new.source.left old.reads new.reads c.header_in.result t.0.0 t.1 t.0.1 count (ap g.E.Endian.order c.endian.ensures) c.header_in.ensures, tt);
        keeps = λ start p. header_keeps start old new 3 (omega arith) p count e.stays (λ told. (e.ok told).0);
      };
    }
