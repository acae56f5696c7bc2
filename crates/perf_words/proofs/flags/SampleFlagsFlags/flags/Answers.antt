use Rattle.std.proofs.Common.{rules}
use Rattle.perf_words.proofs.flags.SampleFlagsFlags.flags.Goals as goal

pub returns : goal.returns
returns c = search rules steps 1000000
