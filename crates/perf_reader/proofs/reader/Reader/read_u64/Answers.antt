use Rattle.std.proofs.Common.{◌≡◌, Err}
use Rattle.perf_base.specs.Layout.{w8}
use Rattle.perf_reader.proofs.After.{came_up}
use Rattle.perf_reader.proofs.Fields.{number_read, number_refused}
use Rattle.perf_reader.proofs.reader.Reader.read_u64.Goals as goal

pub returns-in_err-bytes : goal.returns-in_err-bytes
returns-in_err-bytes g c =
    let up : c.from_residual.result ≡ Err c.in_err-bytes.field-0.0 = came_up _ _ c.from_residual.ensures in
    let e = c.in_err-bytes.ensures in record {
      counted = e.counted;
      memory = rw up e.memory;
      call = rw up (number_refused w8 _ e.call);
    }

pub returns : goal.returns
returns g c =
    let e = c.in_ok-bytes.ensures in record {
      counted = e.counted;
      memory = tt;
      call = number_read w8 c.in_ok-bytes.bytes c.convert_u64.result c.endian.result.now c.endian.ensures c.convert_u64.ensures e.call;
    }
