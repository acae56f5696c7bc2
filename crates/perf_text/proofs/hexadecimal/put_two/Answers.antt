use Rattle.std.proofs.Common.{◌≡◌, ◌+◌, ◌-◌, set, arith, length-set}
use Rattle.std.proofs.lemmas.List.{set_comm, drop-set}
use Rattle.perf_text.proofs.hexadecimal.put_two.Goals as goal

pub returns : goal.returns
returns c =
    let end = c.args.end in
    let bytes = c.args.bytes.now in
    let low = c.args.second in
    let second : end - 2 + 1 ≡ end - 1 = omega arith in
    let after : end - 1 + 1 ≡ end = omega arith in
    rw (set_comm bytes (end - 2) (end - 1) _ _ (λ x. omega arith), drop-set (set bytes (end - 1) low) (end - 2) _ (omega (arith, length-set bytes (end - 1) low)), second, drop-set bytes (end - 1) _ (omega arith), after)
