use Rattle.std.proofs.Common.{arith}
use Rattle.std.proofs.lemmas.Grind.{common_steps}
use Rattle.perf_text.proofs.args.command.Goals as goal

pub returns-in-len3 : goal.returns-in-len3
returns-in-len3 c = grind (arith, common_steps) steps 5000000
