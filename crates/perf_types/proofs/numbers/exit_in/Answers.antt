use Rattle.std.proofs.Common.{◌≡◌, ℕ, ◌/◌, List, length, take, drop, refl, ap, ◌∙◌, arith, rules}
use Rattle.std.proofs.lemmas.List.{drop-drop}
use Rattle.std.specs.Simd.{first_chunks}
use Rattle.perf_base.specs.Layout.{value}
use Rattle.perf_base.specs.Order.{Order}
use Rattle.perf_reader.proofs.AtOnce.{in_front}
use Rattle.perf_types.specs.Numbers.{exit}
use Rattle.perf_types.specs.Pair.{pair}
use Rattle.perf_types.specs.declared.numbers.Exit.{Exit}
use Rattle.perf_types.proofs.numbers.exit_in.Goals as goal

-- two pairs and a time
in_three : (o : Order) (bytes : List ℕ) → let task : ℕ × ℕ = value o (take 8 bytes) 0 pair in let thread : ℕ × ℕ = value o (take 8 (drop 8 bytes)) 0 pair in
    let read : Exit = record { pid = task.0; ppid = task.1; tid = thread.0; ptid = thread.1; time = o.eight (take 8 (drop 8 (drop 8 bytes))) } in
    read ≡ value o bytes 0 exit
in_three o bytes = rw (in_front 0 4 8 bytes (omega arith), in_front 4 4 8 bytes (omega arith), in_front 0 4 8 (drop 8 bytes) (omega arith), in_front 4 4 8 (drop 8 bytes) (omega arith), drop-drop 4 8 bytes, drop-drop 8 8 bytes) refl

pub returns : goal.returns
returns g c =
    let bytes : List ℕ = c.args.bytes in
    let long : length bytes ≡ 24 = search rules in
    let three : c.as_chunks.result.0.now ≡ first_chunks 8 3 bytes = c.as_chunks.ensures.front ∙ ap (λ n. first_chunks 8 (n / 8) bytes) long in
    rw (c.pair_in-pid.ensures, c.pair_in-tid.ensures, c.convert_u64.ensures, three) (in_three (g.E.Endian.order c.args.endian.now) bytes)
