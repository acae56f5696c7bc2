use Rattle.std.proofs.Common.{rules}
use Rattle.perf_words.proofs.data_source.MemSnoopFlags.flags.Goals as goal

pub returns : goal.returns
returns c = search rules steps 1000000
