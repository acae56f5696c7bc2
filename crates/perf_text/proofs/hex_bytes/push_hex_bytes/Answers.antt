use Rattle.std.proofs.Common.{◌≡◌, ◌++◌, ◌∙◌, ℕ, List, [], ◌∷◌, length, string_bytes, refl, sym, ap, arith, append-nil, append_assoc}
use Rattle.std.specs.Slice.Iter.{chunks_rest, chunks_size}
use Rattle.std.proofs.lemmas.Grind.{flat_map-append}
use Rattle.perf_text.specs.Numbers.{hex_byte, hex_bytes}
use Rattle.perf_text.proofs.hex_bytes.push_hex_bytes.Goals as goal

nothing : (xs : List ℕ) → length xs ≡ 0 → xs ≡ []
nothing [] e = refl
nothing (x ∷ xs) e = absurd (omega arith)

pub loop-some-init : goal.loop-some-init
loop-some-init c =
    let start : List ℕ = string_bytes c.args.text.now in record {
      size = ap chunks_size c.into_iter-some-iterator.ensures.into_iter_gives ∙ c.chunks-some-items.ensures.size;
      written = ap (λ it. start ++ hex_bytes (chunks_rest it)) c.into_iter-some-iterator.ensures.into_iter_gives ∙ ap (λ xs. start ++ hex_bytes xs) c.chunks-some-items.ensures.rest;
    }

pub loop-some-preserved : goal.loop-some-preserved
loop-some-preserved c =
    let text : List ℕ = string_bytes c.loop-some.text in
    let some : List ℕ = c.in-Some.some.now in
    let rest : List ℕ = chunks_rest c.next.new.self in
    let digits : List ℕ = hex_bytes some in
    let written : c.text.result.now ≡ digits = c.text.ensures ∙ c.put_hex_bytes.ensures.text ∙ ap (λ s. digits ++ s) c.clear.ensures.text ∙ append-nil digits in record {
      size = c.in-Some.ensures.steps.0 ∙ c.loop-some.invariant.size;
      written = ap (λ s. s ++ hex_bytes rest) (c.in_ok-push_str.ensures.bytes ∙ ap (λ s. text ++ s) written) ∙ append_assoc text digits (hex_bytes rest)
          ∙ ap (λ xs. text ++ xs) (sym (flat_map-append hex_byte some rest) ∙ ap hex_bytes (sym c.in-Some.ensures.steps.1.0))
          ∙ c.loop-some.invariant.written;
    }

pub returns : goal.returns
returns c =
    let text : List ℕ = string_bytes c.loop-some.text in
    sym (append-nil text) ∙ ap (λ xs. text ++ hex_bytes xs) (sym (nothing (chunks_rest c.loop-some.some-iterator) c.in-None.ensures.steps.1.0))
    ∙ c.loop-some.invariant.written
