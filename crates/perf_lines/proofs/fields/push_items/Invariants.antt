use Rattle.std.proofs.Common.{◌≡◌, ◌++◌, string_bytes, decimal, codes}
use Rattle.std.specs.List.{flat_map}
use Rattle.std.specs.Slice.Iter.{chunks_rest, chunks_size}
use Rattle.perf_lines.proofs.fields.push_items.Given as goal

abbrev pub invariant-loop-piece : goal.invariant-loop-piece
invariant-loop-piece l = record {
  size : chunks_size l.piece-iterator ≡ 12;
  written : string_bytes l.text ++ flat_map (λ n. codes "," ++ decimal n) (chunks_rest l.piece-iterator)
      ≡ string_bytes l.initial.text ++ flat_map (λ n. codes "," ++ decimal n) (chunks_rest l.initial.piece-iterator);
}
