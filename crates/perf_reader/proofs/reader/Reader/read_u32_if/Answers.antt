use Rattle.perf_base.specs.Layout.{w4}
use Rattle.perf_reader.proofs.Fields.{present_read, present_refused, absent_read}
use Rattle.perf_reader.proofs.reader.Reader.read_u32_if.Goals as goal

pub returns-then-not-present : goal.returns-then-not-present
returns-then-not-present g c = record { memory = tt; call = absent_read c.args.present w4 c.if-not-present.true }

pub returns-in-Ok : goal.returns-in-Ok
returns-in-Ok g c =
    let e = c.in-Ok.ensures in record {
      memory = tt;
      call = present_read c.args.present w4 c.in-Ok.number c.if-not-present.false e.call;
    }

pub returns-in-Err : goal.returns-in-Err
returns-in-Err g c =
    let e = c.in-Err.ensures in record {
      memory = e.memory;
      call = present_refused c.args.present w4 _ c.if-not-present.false e.call;
    }
