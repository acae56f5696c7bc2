use Rattle.std.proofs.Common.{◌≡◌, ℕ, Err, ap, sym}
use Rattle.perf_base.specs.Layout.{number, w8}
use Rattle.perf_reader.proofs.After.{came_up, part_after}
use Rattle.perf_reader.proofs.RequestedParts.{words_after, words_stop, call_gives}
use Rattle.perf_sample_types.proofs.ReadParts.{part_refused}
use Rattle.perf_sample_types.specs.Registers.{RegistersValue, register_count}
use Rattle.perf_sample_types.proofs.registers.read_registers.Goals as goal

pub returns-in_err-abi : goal.returns-in_err-abi
returns-in_err-abi g c =
    let up : c.from_residual.result ≡ Err c.in_err-abi.field-0.0 = came_up _ _ c.from_residual.ensures in
    let e = c.in_err-abi.ensures in rw up (record {
      call = part_refused (number w8) (λ n. n) _ e.call;
    })

pub returns-in_err-regs : goal.returns-in_err-regs
returns-in_err-regs g c =
    let up : c.from_residual-in_err-regs.result ≡ Err c.in_err-regs.field-0.0 = came_up _ _ c.from_residual-in_err-regs.ensures in
    let e = c.in_err-regs.ensures in rw up (record {
      call = part_after (number w8) (λ n. n) _ c.in_ok-abi.ensures.call (words_stop (λ _. register_count c.args.mask c.in_ok-abi.abi) _ _ (sym c.register_count-count.ensures) e.call);
    })

pub returns : goal.returns
returns g c =
    let value : ℕ → RegistersValue = λ abi. record { abi = abi; mask = c.args.mask; regs = c.in_ok-regs.regs.items } in
    record {
      call = part_after (number w8) (λ n. n) _ c.in_ok-abi.ensures.call (words_after (λ _. register_count c.args.mask c.in_ok-abi.abi) _ _ (sym c.register_count-count.ensures) c.in_ok-regs.ensures.call (call_gives (λ _. value c.in_ok-abi.abi) (ap value (sym c.new.ensures))));
    }
