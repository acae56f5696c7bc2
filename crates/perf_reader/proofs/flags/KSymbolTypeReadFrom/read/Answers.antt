use Rattle.std.proofs.Common.{◌≡◌, Err}
use Rattle.perf_base.specs.Layout.{w2}
use Rattle.perf_reader.proofs.After.{came_up}
use Rattle.perf_reader.proofs.Fields.{value_read, value_refused}
use Rattle.perf_reader.proofs.flags.KSymbolTypeReadFrom.read.Goals as goal

pub returns-in_err-read_u16 : goal.returns-in_err-read_u16
returns-in_err-read_u16 g c =
    let up : c.from_residual.result ≡ Err c.in_err-read_u16.field-0.0 = came_up _ _ c.from_residual.ensures in
    let e = c.in_err-read_u16.ensures in record { call = rw up (value_refused w2 (λ n. n) _ e.memory e.call) }

pub returns : goal.returns
returns g c = record { call = value_read w2 (λ n. n) c.new.result _ c.new.ensures c.in_ok-read_u16.ensures.call }
