use Rattle.perf_reader.specs.ReaderState.{ReaderState, state_of}
use Rattle.perf_reader.proofs.Attributes.{takes_its_size}
use Rattle.perf_reader.proofs.attribute.Perf_event_attrReadFrom.read.Goals as goal

pub returns-in-Ok : goal.returns-in-Ok
returns-in-Ok g c =
    let old : ReaderState = state_of g.I.Input.source g.E.Endian.order c.args.reader.now in
    let new : ReaderState = state_of g.I.Input.source g.E.Endian.order c.read_groups.new.reader in
    let e = c.in-Ok.ensures.call in record {
      call = record {
        config = e.config;
        whole = e.whole;
        told = e.told;
        answer = λ told. (e.answer told, tt, takes_its_size old.order old.source.left new.source.left old.reads new.reads c.in-Ok.attribute (e.answer told));
        keeps = e.keeps;
      };
    }

pub returns-in-Err : goal.returns-in-Err
returns-in-Err g c =
    let e = c.in-Err.ensures.call in record {
      call = record {
        config = e.config;
        whole = e.whole;
        told = e.told;
        answer = λ told. (e.answer told, c.in-Err.ensures.memory, tt);
        keeps = e.keeps;
      };
    }
