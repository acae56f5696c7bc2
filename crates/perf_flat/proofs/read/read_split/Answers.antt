use Rattle.std.proofs.Common.{◌≡◌, ◌==◌, ℕ, true, List, [], ◌∷◌, ◌++◌, length, take, drop, refl, sym, ap, ◌∙◌, arith}
use Rattle.std.proofs.lemmas.Bool.Decides.{nat_tests}
use Rattle.perf_base.specs.Configured.{configuration_of, endian_of}
use Rattle.perf_flat.proofs.SplitFrames.{first_has, copy_has, flat_of}
use Rattle.perf_flat.specs.Flat.{first_frame}
use Rattle.perf_flat.specs.Split.{split_frame}
use Rattle.perf_flat.proofs.read.read_split.Goals as goal

-- a list of no items
no_items : (xs : List ℕ) → length xs ≡ 0 → xs ≡ []
no_items [] none = refl
no_items (x ∷ xs) none = absurd (cc)

pub returns-then-is_empty-3-clause-read : goal.returns-then-is_empty-3-clause-read
returns-then-is_empty-3-clause-read g c = λ _.
    let o = g.E.Endian.order (endian_of c.args.config.now) in
    let first : List ℕ = c.args.first.now in
    let second : List ℕ = c.args.second.now in
    let zero : (length first == 0) ≡ true = sym c.is_empty-2.ensures ∙ c.if-is_empty-3.true in
    let empty : length first ≡ 0 = grind (arith, nat_tests) in
    flat_of (configuration_of c.args.config.now) o c.read_first.new.frame second (split_frame o first second)
    (ap (λ (xs : List ℕ). first_frame o (xs ++ second)) (sym (no_items first empty))) c.read_first.ensures

pub returns-then-len-first-clause-read : goal.returns-then-len-first-clause-read
returns-then-len-first-clause-read g c = λ _.
    let o = g.E.Endian.order (endian_of c.args.config.now) in
    let first = c.args.first.now in
    let second = c.args.second.now in
    let has = first_has o _ first second c.in-Some.len (ap g.E.Endian.order c.endian.ensures) c.in-Some.ensures c.if-len-first.true in
    flat_of (configuration_of c.args.config.now) o c.read_first-then-len-first.new.frame first (split_frame o first second) has.is c.read_first-then-len-first.ensures

pub returns-then-len-first-clause-place : goal.returns-then-len-first-clause-place
returns-then-len-first-clause-place g c = λ _.
    let o = g.E.Endian.order (endian_of c.args.config.now) in
    (first_has o _ c.args.first.now c.args.second.now c.in-Some.len (ap g.E.Endian.order c.endian.ensures) c.in-Some.ensures c.if-len-first.true).place

pub returns-clause-read : goal.returns-clause-read
returns-clause-read g c = λ _.
    let o = g.E.Endian.order (endian_of c.args.config.now) in
    let first = c.args.first.now in
    let second = c.args.second.now in
    let len = c.in-Some.len in
    let to = c.copy_front.new.to in
    let scratch = c.args.scratch.now in
    let has = copy_has o _ first second len to scratch (ap g.E.Endian.order c.endian.ensures) c.in-Some.ensures c.if-scratch-len.false c.copy_front.ensures in
    flat_of (configuration_of c.args.config.now) o c.read_first-2.new.frame (take len (to ++ drop len scratch)) (split_frame o first second) has.is c.read_first-2.ensures

pub returns-clause-place : goal.returns-clause-place
returns-clause-place g c = λ _.
    let o = g.E.Endian.order (endian_of c.args.config.now) in
    (copy_has o _ c.args.first.now c.args.second.now c.in-Some.len c.copy_front.new.to c.args.scratch.now (ap g.E.Endian.order c.endian.ensures) c.in-Some.ensures c.if-scratch-len.false c.copy_front.ensures).place

pub returns-clause-scratch : goal.returns-clause-scratch
returns-clause-scratch g c =
    let o = g.E.Endian.order (endian_of c.args.config.now) in
    (copy_has o _ c.args.first.now c.args.second.now c.in-Some.len c.copy_front.new.to c.args.scratch.now (ap g.E.Endian.order c.endian.ensures) c.in-Some.ensures c.if-scratch-len.false c.copy_front.ensures).all
