use Rattle.std.proofs.Common.{drop, ◌-◌, arith, subst, sym, length-drop}
use Rattle.std.specs.Str.{IsUtf8}
use Rattle.std.proofs.lemmas.List.{take_all}
use Rattle.std.proofs.lemmas.Str.{IsUtf8-had}
use Rattle.perf_text.proofs.strip.Strip.text.Goals as goal

pub from_utf8_unchecked-requires : goal.from_utf8_unchecked-requires
from_utf8_unchecked-requires c =
    let s = c.args.self.now in
    subst IsUtf8 (sym (take_all (256 - s.start) (drop s.start s.bytes) (omega (arith, length-drop s.start s.bytes)))) (IsUtf8-had _ s.is_text)
