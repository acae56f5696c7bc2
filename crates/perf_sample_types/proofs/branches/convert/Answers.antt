use Rattle.std.proofs.Common.{◌≡◌, ◌/◌, ◌*◌, ℕ, List, length, map, sym, ◌∙◌, ap, arith}
use Rattle.std.proofs.lemmas.List.{take_all}
use Rattle.std.specs.List.{flat_map}
use Rattle.std.specs.Simd.{first_chunks}
use Rattle.perf_base.specs.Layout.{words_of}
use Rattle.perf_base.specs.Order.{Order}
use Rattle.perf_sample_types.specs.Branches.{branch_numbers, branch_of}
use Rattle.perf_words.specs.declared.branch.BranchEntry.{BranchEntry}
use Rattle.perf_sample_types.proofs.BranchLists.{branch_words}
use Rattle.perf_sample_types.proofs.branches.convert.Goals as goal

pub returns : goal.returns
returns g c =
    let o : Order = g.E.Endian.order c.args.order.now in
    let i = c.loop-i.i in
    let ys : List BranchEntry = c.loop-i.branches in
    let bytes : List ℕ = c.args.bytes.now in
    let chunks : List (List ℕ) = c.as_chunks.result.0.now in
    let n : length bytes / 24 ≡ length c.args.branches.now = omega (arith, c.requires) in
    let long : length chunks ≡ length bytes / 24 = c.as_chunks.ensures.front_len in
    let whole : ys ≡ map (branch_of o) (first_chunks 24 (length bytes / 24) bytes) = sym (take_all i ys (omega (arith, c.loop-i.auto.branches, c.loop-i-test.false)))
    ∙ c.loop-i.invariant
    ∙ ap (map (branch_of o)) (take_all i chunks (omega (arith, n, long, c.loop-i-test.false)) ∙ c.as_chunks.ensures.front) in
    ap (flat_map branch_numbers) whole
    ∙ branch_words o (length bytes / 24) bytes
    ∙ ap (λ k. words_of o (3 * k) bytes) n
