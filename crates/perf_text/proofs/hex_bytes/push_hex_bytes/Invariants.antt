use Rattle.std.proofs.Common.{◌≡◌, ◌++◌, string_bytes}
use Rattle.std.specs.Slice.Iter.{chunks_rest, chunks_size}
use Rattle.perf_text.specs.Numbers.{hex_bytes}
use Rattle.perf_text.proofs.hex_bytes.push_hex_bytes.Given as goal

abbrev pub invariant-loop-some : goal.invariant-loop-some
invariant-loop-some l = record {
  size : chunks_size l.some-iterator ≡ 128;
  written : string_bytes l.text ++ hex_bytes (chunks_rest l.some-iterator) ≡ string_bytes l.initial.text ++ hex_bytes l.bytes;
}
