use Rattle.std.proofs.Common.{rules}
use Rattle.perf_words.proofs.named.SampleRegsAbi.names.Goals as goal

pub returns : goal.returns
returns c = search rules steps 1000000
