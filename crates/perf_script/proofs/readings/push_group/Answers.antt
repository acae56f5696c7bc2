use Rattle.std.proofs.Common.{◌≡◌, ℕ, suc, ◌-◌, ◌*◌, ◌/◌, ◌++◌, ◌∷◌, [], List, drop, length, sym, ◌∙◌, ap, append_assoc, arith}
use Rattle.perf_base.specs.Dynamic.{order_of}
use Rattle.perf_base.specs.Order.{Order}
use Rattle.perf_counters.specs.GroupEntry.{block_len}
use Rattle.perf_script.specs.Blocks.{readings_in, first_reading}
use Rattle.perf_script.specs.declared.readings.Reading.{Reading}
use Rattle.perf_script.proofs.Blocks.{readings_more, count_less}
use Rattle.perf_script.proofs.readings.push_group.Goals as goal

pub loop-count-preserved : goal.loop-count-preserved
loop-count-preserved c =
    let o : Order = order_of c.args.order in
    let wi = c.args.with_id in
    let wl = c.args.with_lost in
    let count : ℕ = c.loop-count.count in
    let left : List ℕ = c.loop-count.left.now in
    let len : ℕ = 8 * c.block_len-len.result in
    let is : len ≡ 8 * block_len wi wl = ap (λ n. 8 * n) c.block_len-len.ensures.value in
    let some : count ≡ suc (count - 1) = omega (arith, c.loop-count-test.true) in
    let old : List Reading = c.loop-count.readings.items in
    let after : List ℕ = c.bytes_after-left.result.now in
    let dropped : after ≡ drop len left = c.bytes_after-left.ensures in
    let rest : List Reading = readings_in o wi wl (count - 1) after in (
      count_less wi wl count len left is c.loop-count-test.true c.loop-count.invariant.0 ∙ ap (λ bytes. length bytes / (8 * block_len wi wl)) (sym dropped),
      ap (λ rs. rs ++ rest) c.in_ok-push.ensures.items ∙ append_assoc old (c.first_reading.result ∷ []) rest
          ∙ ap (λ (r : Reading). old ++ (r ∷ rest)) c.first_reading.ensures
          ∙ ap (λ bytes. old ++ (first_reading o wi left ∷ readings_in o wi wl (count - 1) bytes)) dropped
          ∙ ap (λ rs. old ++ rs) (sym (readings_more o wi wl count len left is some)) ∙ c.loop-count.invariant.1,
    )
