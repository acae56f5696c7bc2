use Rattle.std.proofs.Common.{rules, Err, ◌≡◌, ℕ, List, ◌+◌, ◌*◌, ◌≤◌, ◌++◌, ◌∷◌, [], length, ap, sym, ◌∙◌, arith}
use Rattle.std.proofs.lemmas.List.{length-append}
use Rattle.std.proofs.lemmas.List.Concat.{flat_map-append}
use Rattle.std.specs.List.{flat_map}
use Rattle.perf_base.specs.Refusals.{refusal_kind}
use Rattle.perf_reader.proofs.After.{came_up}
use Rattle.perf_reader.proofs.InRow.{row_none, row_cast, row_seen, row_further, row_ceases}
use Rattle.perf_sample_types.specs.Branches.{branch_numbers}
use Rattle.perf_words.specs.declared.branch.BranchEntry.{BranchEntry}
use Rattle.perf_sample_types.proofs.BranchLists.{numbers_of_three}
use Rattle.perf_sample_types.proofs.branches.append_branches.Goals as goal

pub loop-init : goal.loop-init
loop-init g c =
    let s = g.I.Input.source in let o = g.E.Endian.order in
    let none : length c.args.entries.items ≡ 0 = ap length c.requires in (
      omega arith,
      none,
      row_cast s o 0 0 c.args.reader.now c.args.reader.now [] (flat_map branch_numbers c.args.entries.items) (omega arith)
          (sym (ap (flat_map branch_numbers) c.requires)) (row_none s o c.args.reader.now),
    )

pub returns-in_err-read_block : goal.returns-in_err-read_block
returns-in_err-read_block g c =
    let s = g.I.Input.source in let o = g.E.Endian.order in
    let more : 3 * c.loop.counter + 3 ≤ 3 * c.args.count = omega (arith, c.loop-test.true) in
    let up : c.from_residual.result ≡ Err c.in_err-read_block.field-0.0 = came_up _ _ c.from_residual.ensures in
    rw up (row_ceases s o (λ v. flat_map branch_numbers v.items) (λ (none : Unit {0}). c.read_block.new.numbers) (3 * c.loop.counter) 3 (3 * c.args.count) c.args.reader.now c.loop.reader c.read_block.new.self (flat_map branch_numbers c.loop.entries.items)
    (refusal_kind c.in_err-read_block.field-0.0) more c.loop.invariant.2 c.in_err-read_block.ensures.call)

pub loop-preserved : goal.loop-preserved
loop-preserved g c =
    let s = g.I.Input.source in let o = g.E.Endian.order in
    let old : List BranchEntry = c.loop.entries.items in
    let branch : BranchEntry = c.from_words.result in
    let ys : List ℕ = flat_map branch_numbers old in
    let zs : List ℕ = c.read_block.new.numbers in
    let three : length zs ≡ 3 = search rules in
    let whole : branch_numbers branch ≡ zs = ap branch_numbers c.from_words.ensures ∙ numbers_of_three zs three in
    let kept : c.push.new.self.items ≡ old ++ branch ∷ [] = search rules in
    let count : 3 * c.loop.counter + 3 ≡ 3 * (c.loop.counter + 1) = omega arith in
    let shown : ys ++ zs ≡ flat_map branch_numbers c.push.new.self.items = ap (λ (ns : List ℕ). ys ++ ns) (sym whole)
    ∙ sym (ap (flat_map branch_numbers) kept ∙ flat_map-append branch_numbers old (branch ∷ [])) in (
      omega (arith, c.loop-test.true),
      ap length kept ∙ length-append old (branch ∷ []) ∙ ap (λ k. k + 1) c.loop.invariant.1,
      row_cast s o (3 * c.loop.counter + 3) (3 * (c.loop.counter + 1)) c.args.reader.now c.read_block.new.self (ys ++ zs) (flat_map branch_numbers c.push.new.self.items)
          count shown
          (row_further s o (3 * c.loop.counter) 3 c.args.reader.now c.loop.reader c.read_block.new.self ys zs c.loop.invariant.2
          (row_seen s o (λ (none : Unit {0}). zs) 3 c.loop.reader c.read_block.new.self c.in_ok-read_block.field-0 c.in_ok-read_block.ensures.call)),
    )
