use Rattle.std.proofs.Common.{◌≡◌, ℕ, ◌/◌, List, length, take, drop, refl, ap, ◌∙◌, arith, rules}
use Rattle.std.proofs.lemmas.List.{drop-drop}
use Rattle.std.specs.Simd.{first_chunks}
use Rattle.perf_base.specs.Layout.{value}
use Rattle.perf_base.specs.Order.{Order}
use Rattle.perf_reader.proofs.AtOnce.{in_front}
use Rattle.perf_types.specs.Mmap2.{place}
use Rattle.perf_types.specs.Pair.{pair}
use Rattle.perf_types.specs.declared.mmap2.Place.{Place}
use Rattle.perf_types.proofs.mmap2.Place.from_bytes.Goals as goal

-- a pair and three numbers
in_four : (o : Order) (bytes : List ℕ) → let task : ℕ × ℕ = value o (take 8 bytes) 0 pair in
    let read : Place = record { pid = task.0; tid = task.1; addr = o.eight (take 8 (drop 8 bytes)); len = o.eight (take 8 (drop 8 (drop 8 bytes))); pgoff = o.eight (take 8 (drop 8 (drop 8 (drop 8 bytes)))) } in
    read ≡ value o bytes 0 place
in_four o bytes = rw (in_front 0 4 8 bytes (omega arith), in_front 4 4 8 bytes (omega arith), drop-drop 8 8 bytes, drop-drop 8 16 bytes) refl

pub returns : goal.returns
returns g c =
    let bytes : List ℕ = c.args.bytes in
    let long : length bytes ≡ 32 = search rules in
    let four : c.as_chunks.result.0.now ≡ first_chunks 8 4 bytes = c.as_chunks.ensures.front ∙ ap (λ n. first_chunks 8 (n / 8) bytes) long in
    rw (c.pair_in-pid.ensures, c.convert_u64.ensures, c.convert_u64-2.ensures, c.convert_u64-3.ensures, four) (in_four (g.E.Endian.order c.args.endian.now) bytes)
