use Rattle.std.proofs.Common.{◌≡◌, take, length, min, flat_map}
use Rattle.perf_sections.specs.Names.{escaped}
use Rattle.perf_outlines.specs.FlatNames.{over}
use Rattle.perf_outlines.proofs.event_name.put_bytes.Given as goal

abbrev pub invariant-loop-byte : goal.invariant-loop-byte
invariant-loop-byte l = (l.out ≡ over (flat_map escaped (take l.byte-index l.name)) l.initial.out) × (l.at ≡ min (length (flat_map escaped (take l.byte-index l.name))) (length l.initial.out))
