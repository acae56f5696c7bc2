use Rattle.std.proofs.Common.{◌≡◌, ◌/◌, ◌∷◌, ℕ, zero, suc, List, length, take, drop, map, refl, sym, ◌∙◌, ap, arith}
use Rattle.std.proofs.lemmas.List.{take_all}
use Rattle.std.specs.Simd.{first_chunks}
use Rattle.perf_base.specs.Layout.{words_of}
use Rattle.perf_base.specs.Order.{Order}
use Rattle.perf_reader.proofs.blocks.convert.Goals as goal

-- numbers are made of chunks of eight bytes
words_chunks : (o : Order) (k : ℕ) (bytes : List ℕ) → map o.eight (first_chunks 8 k bytes) ≡ words_of o k bytes
words_chunks o zero bytes = refl
words_chunks o (suc k) bytes = ap (λ (ys : List ℕ). o.eight (take 8 bytes) ∷ ys) (words_chunks o k (drop 8 bytes))

pub returns : goal.returns
returns g c =
    let o : Order = g.E.Endian.order c.args.order.now in
    let i = c.loop-i.i in
    let ys : List ℕ = c.loop-i.numbers in
    let bytes : List ℕ = c.args.bytes.now in
    let chunks : List (List ℕ) = c.as_chunks.result.0.now in
    let n : length bytes / 8 ≡ length c.args.numbers.now = omega (arith, c.requires) in
    let long : length chunks ≡ length bytes / 8 = c.as_chunks.ensures.front_len in
    sym (take_all i ys (omega (arith, c.loop-i.auto.numbers, c.loop-i-test.false)))
    ∙ c.loop-i.invariant
    ∙ ap (map o.eight) (take_all i chunks (omega (arith, n, long, c.loop-i-test.false)) ∙ c.as_chunks.ensures.front)
    ∙ words_chunks o (length bytes / 8) bytes
    ∙ ap (λ k. words_of o k bytes) n
