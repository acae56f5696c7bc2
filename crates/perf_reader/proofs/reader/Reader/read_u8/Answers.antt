use Rattle.std.proofs.Common.{◌≡◌, Err, refl}
use Rattle.perf_base.specs.Layout.{w1}
use Rattle.perf_reader.proofs.After.{came_up}
use Rattle.perf_reader.proofs.Fields.{number_read, number_refused}
use Rattle.perf_reader.proofs.reader.Reader.read_u8.Goals as goal

pub returns-in_err-byte : goal.returns-in_err-byte
returns-in_err-byte g c =
    let up : c.from_residual.result ≡ Err c.in_err-byte.field-0.0 = came_up _ _ c.from_residual.ensures in
    let e = c.in_err-byte.ensures in record {
      counted = e.counted;
      memory = rw up e.memory;
      call = rw up (number_refused w1 _ e.call);
    }

pub returns : goal.returns
returns g c =
    let e = c.in_ok-byte.ensures in record {
      counted = e.counted;
      memory = tt;
      call = number_read w1 c.in_ok-byte.field-0 _ _ refl refl e.call;
    }
