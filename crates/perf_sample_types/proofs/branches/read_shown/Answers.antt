use Rattle.std.proofs.Common.{◌≡◌, ◌≤◌, ◌+◌, ◌*◌, ℕ, List, length, take, ap, ◌∙◌, subst, arith}
use Rattle.std.specs.List.{flat_map}
use Rattle.std.specs.Prelude.{IsTrue}
use Rattle.perf_base.specs.Layout.{words_of}
use Rattle.perf_buffers.specs.Taking.{Takes}
use Rattle.perf_reader.specs.ReaderState.{ReaderState, state_of}
use Rattle.perf_reader.proofs.AtHand.{shown_there}
use Rattle.perf_sample_types.specs.Branches.{branch_numbers}
use Rattle.perf_sample_types.proofs.branches.read_shown.Goals as goal

pub returns-clause-shown : goal.returns-clause-shown
returns-clause-shown g c =
    let source = g.I.Input.source in
    let order = g.E.Endian.order in
    let old : ReaderState = state_of source order c.args.reader.now in
    let new : ReaderState = state_of source order c.pass.new.self in
    let n = length c.args.branches.now in
    let shown : List ℕ = c.shown_bytes-front.result.now in
    let ys : List ℕ = flat_map branch_numbers c.convert.new.branches in
    let bytes : 24 * n ≡ 8 * (3 * n) = omega arith in
    let within : 8 * (3 * n) ≤ length shown = omega (arith, c.if-front-count.false) in
    let shows = subst (λ i. IsTrue (source i).told → (length shown ≤ length (source i).left) × (shown ≡ take (length shown) (source i).left)) c.input.ensures c.shown_bytes-front.ensures in
    let made : ys ≡ words_of (order c.endian.result.now) (3 * n) (take (8 * (3 * n)) shown) =
    c.convert.ensures ∙ ap (λ k. words_of (order c.endian.result.now) (3 * n) (take k shown)) bytes in
    let call = c.in_ok-pass.ensures.call in
    λ is. record {
      config = call.config;
      whole = call.whole;
      told = call.told;
      answer = λ t. let a = call.answer t in
          shown_there old.order (order c.endian.result.now) old.source new.source (3 * n) old.reads new.reads shown ys
          (ap order c.endian.ensures) (a.2 ∙ ap (λ k. old.reads + k) c.of.ensures) within (shows t).1
          (subst (λ k. Takes old.source k new.source) bytes (a.0, a.1)) made;
      keeps = call.keeps;
    }
