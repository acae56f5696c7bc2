use Rattle.std.proofs.Common.{◌≡◌, Err}
use Rattle.perf_base.specs.Layout.{w8}
use Rattle.perf_words.specs.SetBits.{txn_bits}
use Rattle.perf_reader.proofs.After.{came_up}
use Rattle.perf_reader.proofs.Fields.{value_read, value_refused}
use Rattle.perf_reader.proofs.flags.TxnReadFrom.read.Goals as goal

pub returns-in_err-read_u64 : goal.returns-in_err-read_u64
returns-in_err-read_u64 g c =
    let up : c.from_residual.result ≡ Err c.in_err-read_u64.field-0.0 = came_up _ _ c.from_residual.ensures in
    let e = c.in_err-read_u64.ensures in record { call = rw up (value_refused w8 txn_bits _ e.memory e.call) }

pub returns : goal.returns
returns g c = record { call = value_read w8 txn_bits c.from_bits_retain.result _ (c.from_bits_retain.ensures tt) c.in_ok-read_u64.ensures.call }
