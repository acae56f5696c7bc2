use Rattle.std.proofs.Common.{◌≡◌, ◌++◌, ◌∷◌, ◌+◌, ◌-◌, ◌/◌, suc, ℕ, List, length, drop, sym, ap, ◌∙◌, arith, length-drop}
use Rattle.perf_base.specs.Dynamic.{order_of}
use Rattle.perf_base.specs.Layout.{words_of}
use Rattle.perf_walk.specs.Calls.{calls_in}
use Rattle.perf_walk.proofs.calls.push_chain.Goals as goal

pub loop-index-preserved : goal.loop-index-preserved
loop-index-preserved c =
    let o = order_of c.args.order in
    let i : ℕ = c.loop-index._index in
    let n : ℕ = length c.args.chain.now / 8 in
    let left : List ℕ = c.loop-index.left.now in
    let number : ℕ = c.next_number-number.result.0 in
    let after : List ℕ = c.next_number-number.result.1.now in
    let k : ℕ = n - (i + 1) in
    let more : n - i ≡ suc k = omega (arith, c.loop-index-test.true) in
    let words : words_of o (n - i) left ≡ number ∷ words_of o k after =
    ap (λ m. words_of o m left) more
    ∙ ap (λ x. x ∷ words_of o k (drop 8 left)) (sym c.next_number-number.ensures.number)
    ∙ ap (λ b. number ∷ words_of o k b) (sym c.next_number-number.ensures.after) in
    let shorter = ap (λ (b : List ℕ). length b) c.next_number-number.ensures.after in
    let long = length-drop 8 left in
    record {
      whole = c.in_ok-mode.ensures (words_of o k after) ∙ ap (λ ws. c.loop-index.calls.items ++ calls_in c.loop-index.mode ws) (sym words) ∙ c.loop-index.invariant.whole;
      room = omega (arith, more, c.loop-index.invariant.room, shorter, long);
    }
