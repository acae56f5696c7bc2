use Rattle.perf_text.proofs.Hex.{PAIRS_at}
use Rattle.perf_text.proofs.hexadecimal.put_pair.Goals as goal

pub returns : goal.returns
returns c =
    let p = PAIRS_at c.args.byte c.requires.0 in
    rw (← p.0, ← p.1) c.put_two.ensures
