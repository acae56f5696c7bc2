use Rattle.std.proofs.Common.{◌++◌, ◌∙◌, ℕ, List, string_bytes, decimal, codes, refl, sym, ap, append_assoc}
use Rattle.std.specs.List.{flat_map}
use Rattle.std.specs.Slice.Iter.{chunks_rest, chunks_size}
use Rattle.std.proofs.lemmas.Grind.{flat_map-append}
use Rattle.std.proofs.lemmas.List.{nil_from_length}
use Rattle.perf_lines.proofs.Spaced.{listed_to_end}
use Rattle.perf_lines.proofs.fields.push_items.Goals as goal

abbrev after_comma : ℕ → List ℕ
after_comma n = codes "," ++ decimal n

pub loop-piece-init : goal.loop-piece-init
loop-piece-init c = record {
  size = ap chunks_size c.into_iter-piece-iterator.ensures.into_iter_gives ∙ c.chunks-piece-items.ensures.size;
  written = refl;
}

pub loop-piece-preserved : goal.loop-piece-preserved
loop-piece-preserved c =
    let text : List ℕ = string_bytes c.loop-piece.text in
    let piece : List ℕ = c.in-Some-piece.piece.now in
    let rest : List ℕ = chunks_rest c.next.new.self in record {
      size = c.in-Some-piece.ensures.steps.0 ∙ c.loop-piece.invariant.size;
      written = ap (λ s. s ++ flat_map after_comma rest) c.in_ok-push_others.ensures
          ∙ append_assoc text (flat_map after_comma piece) (flat_map after_comma rest)
          ∙ ap (λ xs. text ++ xs) (sym (flat_map-append after_comma piece rest) ∙ ap (flat_map after_comma) (sym c.in-Some-piece.ensures.steps.1.0))
          ∙ c.loop-piece.invariant.written;
    }

pub returns : goal.returns
returns c =
    let first : List ℕ = string_bytes c.push_number.new.text in
    let others = ap chunks_rest c.into_iter-piece-iterator.ensures.into_iter_gives ∙ c.chunks-piece-items.ensures.rest in
    listed_to_end decimal (string_bytes c.args.text.now) c.args.before.now (string_bytes c.push_str.new.self) first (string_bytes c.loop-piece.text) c.in-Some.first.now (chunks_rest c.loop-piece.piece-iterator) c.in-Some.rest.now c.args.numbers.now
    c.in_ok-push_str.ensures.bytes c.in_ok-push_number.ensures
    (c.loop-piece.invariant.written ∙ ap (λ xs. first ++ flat_map after_comma xs) others)
    (nil_from_length _ c.in-None.ensures.steps.1.0) c.in-Some.ensures.cases.0
