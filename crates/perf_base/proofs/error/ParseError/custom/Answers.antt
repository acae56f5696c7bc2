use Rattle.std.proofs.Common.{rules}
use Rattle.perf_base.proofs.Cuts.{cut_to-whole}
use Rattle.perf_base.proofs.error.ParseError.custom.Goals as goal

pub returns-clause-whole : goal.returns-clause-whole
returns-clause-whole c = λ h. search (rules, cut_to-whole 120 c.args.message.now h)

pub returns-clause-cut : goal.returns-clause-cut
returns-clause-cut c = search rules steps 300000
