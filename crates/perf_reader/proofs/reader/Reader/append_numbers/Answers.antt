use Rattle.std.proofs.Common.{rules, ◌≡◌, ℕ, List, ◌+◌, ◌≤◌, ◌++◌, [], length, take, drop, ap, refl, sym, ◌∙◌, arith, length-drop}
use Rattle.std.proofs.lemmas.List.{length-append, length-take-le, take_at}
use Rattle.perf_base.specs.Refusals.{refusal_kind}
use Rattle.perf_reader.proofs.InRow.{row_none, row_cast, row_seen, row_further, row_ceases, row_starves, row_gives}
use Rattle.perf_reader.proofs.reader.Reader.append_numbers.Goals as goal

pub loop-block-init : goal.loop-block-init
loop-block-init g c =
    let s = g.I.Input.source in let o = g.E.Endian.order in
    let none : length c.args.numbers.items ≡ 0 = ap length c.requires in (
      omega (arith, none),
      row_cast s o 0 (length c.args.numbers.items) c.args.self.now c.args.self.now [] c.args.numbers.items (sym none)
          (sym c.requires) (row_none s o c.args.self.now),
      refl,
      omega arith,
    )

pub overflow_sub-count : goal.overflow_sub-count
overflow_sub-count g c =
    let len : c.len.result ≡ length c.loop-block.numbers.items = search rules in
    omega (arith, len, c.loop-block.invariant.0)

-- the contents of a list after a block was appended
appended : (ys zs block items : List ℕ) (k more : ℕ) → k ≡ more → length zs ≡ k → items ≡ ys ++ take more (zs ++ drop more block) → items ≡ ys ++ zs
appended ys zs block items k more is long kept = kept ∙ ap (λ (ws : List ℕ). ys ++ ws) (take_at zs (drop more block) more (long ∙ is))

-- the length of a block after a read
filled : (zs block : List ℕ) (k more : ℕ) → k ≡ more → more ≤ 48 → length zs ≡ k → length block ≡ 48 → length (zs ++ drop more block) ≡ 48
filled zs block k more is within long all = omega (arith, length-append zs (drop more block), length-drop more block, is, within, long, all)

pub returns-in-Err-clause-call : goal.returns-in-Err-clause-call
returns-in-Err-clause-call g c =
    let s = g.I.Input.source in let o = g.E.Endian.order in
    let ys = c.loop-block.numbers.items in
    let more = c.min-more.result in
    let block : List ℕ = c.loop-block.block in
    let zs : List ℕ = c.read_block.new.numbers in
    let len : c.len-in-loop-block.result ≡ length ys = search rules in
    let k : length (take more block) ≡ more = length-take-le more block (omega (arith, c.min-more.ensures, c.loop-block.invariant.2)) in
    row_ceases s o (λ v. v.items) (λ (none : Unit {0}). zs) (length ys) (length (take more block)) c.args.count c.args.self.now c.loop-block.self c.read_block.new.self ys
    (refusal_kind c.in-Err.refusal) (omega (arith, k, len, c.min-more.ensures, c.loop-block.invariant.0)) c.loop-block.invariant.1 c.in-Err.ensures.call

pub returns-then-is_err-clause-call : goal.returns-then-is_err-clause-call
returns-then-is_err-clause-call g c =
    let s = g.I.Input.source in let o = g.E.Endian.order in
    let ys = c.loop-block.numbers.items in
    let k = length (take c.min-more.result c.loop-block.block) in
    let zs : List ℕ = c.read_block.new.numbers in
    row_starves s o (λ v. v.items) (length ys + k) c.args.count c.args.self.now c.read_block.new.self (ys ++ zs)
    (row_further s o (length ys) k c.args.self.now c.loop-block.self c.read_block.new.self ys zs c.loop-block.invariant.1
    (row_seen s o (λ (none : Unit {0}). zs) k c.loop-block.self c.read_block.new.self c.in-Ok.field-0 c.in-Ok.ensures.call))

pub loop-block-smaller : goal.loop-block-smaller
loop-block-smaller g c =
    let ys = c.loop-block.numbers.items in
    let more = c.min-more.result in
    let block : List ℕ = c.loop-block.block in
    let zs : List ℕ = c.read_block.new.numbers in
    let len : c.len-in-loop-block.result ≡ length ys = search rules in
    let first : c.len.result ≡ length ys = search rules in
    let k : length (take more block) ≡ more = length-take-le more block (omega (arith, c.min-more.ensures, c.loop-block.invariant.2)) in
    let kept : c.extend_from_slice.new.self.items ≡ ys ++ zs = appended ys zs block c.extend_from_slice.new.self.items _ more k c.read_block.auto.numbers (search rules) in
    let sum : length c.extend_from_slice.new.self.items ≡ length ys + length zs = ap length kept ∙ length-append ys zs in
    omega (arith, sum, k, c.read_block.auto.numbers, c.min-more.ensures, len, first, c.loop-block-test.true, c.loop-block.invariant.0)

pub loop-block-preserved : goal.loop-block-preserved
loop-block-preserved g c =
    let s = g.I.Input.source in let o = g.E.Endian.order in
    let ys = c.loop-block.numbers.items in
    let more = c.min-more.result in
    let block : List ℕ = c.loop-block.block in
    let zs : List ℕ = c.read_block.new.numbers in
    let len : c.len-in-loop-block.result ≡ length ys = search rules in
    let k : length (take more block) ≡ more = length-take-le more block (omega (arith, c.min-more.ensures, c.loop-block.invariant.2)) in
    let kept : c.extend_from_slice.new.self.items ≡ ys ++ zs = appended ys zs block c.extend_from_slice.new.self.items _ more k c.read_block.auto.numbers (search rules) in
    let sum : length c.extend_from_slice.new.self.items ≡ length ys + length zs = ap length kept ∙ length-append ys zs in
    let n = length (take more block) in (
      omega (arith, sum, k, c.read_block.auto.numbers, c.min-more.ensures, len, c.loop-block.invariant.0),
      row_cast s o (length ys + n) (length c.extend_from_slice.new.self.items) c.args.self.now c.read_block.new.self (ys ++ zs) c.extend_from_slice.new.self.items
          (omega (arith, sum, c.read_block.auto.numbers)) (sym kept)
          (row_further s o (length ys) n c.args.self.now c.loop-block.self c.read_block.new.self ys zs c.loop-block.invariant.1
          (row_seen s o (λ (none : Unit {0}). zs) n c.loop-block.self c.read_block.new.self c.in-Ok.field-0 c.in-Ok.ensures.call)),
      filled zs block n more k (omega (arith, c.min-more.ensures)) c.read_block.auto.numbers c.loop-block.invariant.2,
      omega (arith, c.loop-block.invariant.3, c.extend_from_slice.ensures.capacity),
    )

pub returns-clause-length : goal.returns-clause-length
returns-clause-length g c =
    let len : c.len.result ≡ length c.loop-block.numbers.items = search rules in
    omega (arith, len, c.loop-block-test.false, c.loop-block.invariant.0)

pub returns-clause-call : goal.returns-clause-call
returns-clause-call g c =
    let s = g.I.Input.source in let o = g.E.Endian.order in
    let ys = c.loop-block.numbers.items in
    let len : c.len.result ≡ length ys = search rules in
    let all : length ys ≡ c.args.count = omega (arith, len, c.loop-block-test.false, c.loop-block.invariant.0) in
    row_gives s o (λ v. v.items) c.args.count c.args.self.now c.loop-block.self c.loop-block.numbers
    (row_cast s o (length ys) c.args.count c.args.self.now c.loop-block.self ys ys all refl c.loop-block.invariant.1)

pub returns-clause-enough : goal.returns-clause-enough
returns-clause-enough g c = λ room. tt

pub slice_bounds-block-end : goal.slice_bounds-block-end
slice_bounds-block-end g c = omega (arith, c.min-more.ensures, c.loop-block.invariant.2)

pub slice_bounds-read_block-end : goal.slice_bounds-read_block-end
slice_bounds-read_block-end g c =
    let more = c.min-more.result in
    let block : List ℕ = c.loop-block.block in
    sym (length-take-le more block (omega (arith, c.min-more.ensures, c.loop-block.invariant.2)))
