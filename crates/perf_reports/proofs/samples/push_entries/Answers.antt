use Rattle.std.proofs.Common.{◌≡◌, ◌++◌, ◌∙◌, ℕ, List, [], ◌∷◌, length, string_bytes, refl, sym, ap, arith, append-nil, append_assoc}
use Rattle.std.specs.List.{flat_map}
use Rattle.std.specs.Slice.Iter.{chunks_rest, chunks_size}
use Rattle.std.proofs.lemmas.Grind.{flat_map-append}
use Rattle.perf_reports.specs.SampleLines.{entry}
use Rattle.perf_reports.proofs.samples.push_entries.Goals as goal

nothing : (xs : List ℕ) → length xs ≡ 0 → xs ≡ []
nothing [] e = refl
nothing (x ∷ xs) e = absurd (omega arith)

pub loop-some-init : goal.loop-some-init
loop-some-init c =
    let start : List ℕ = string_bytes c.args.text.now in record {
      size = ap chunks_size c.into_iter-some-iterator.ensures.into_iter_gives ∙ c.chunks-some-items.ensures.size;
      written = ap (λ it. start ++ flat_map entry (chunks_rest it)) c.into_iter-some-iterator.ensures.into_iter_gives ∙ ap (λ xs. start ++ flat_map entry xs) c.chunks-some-items.ensures.rest;
    }

pub loop-some-preserved : goal.loop-some-preserved
loop-some-preserved c =
    let text : List ℕ = string_bytes c.loop-some.text in
    let some : List ℕ = c.in-Some.some.now in
    let rest : List ℕ = chunks_rest c.next.new.self in record {
      size = c.in-Some.ensures.steps.0 ∙ c.loop-some.invariant.size;
      written = ap (λ s. s ++ flat_map entry rest) (c.in_ok-push_str.ensures.bytes ∙ ap (λ s. text ++ s) (c.text.ensures ∙ c.put_entries.ensures)) ∙ append_assoc text (flat_map entry some) (flat_map entry rest)
          ∙ ap (λ xs. text ++ xs) (sym (flat_map-append entry some rest) ∙ ap (flat_map entry) (sym c.in-Some.ensures.steps.1.0))
          ∙ c.loop-some.invariant.written;
    }

pub returns : goal.returns
returns c =
    let text : List ℕ = string_bytes c.loop-some.text in
    sym (append-nil text) ∙ ap (λ xs. text ++ flat_map entry xs) (sym (nothing (chunks_rest c.loop-some.some-iterator) c.in-None.ensures.steps.1.0))
    ∙ c.loop-some.invariant.written
