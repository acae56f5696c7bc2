use Rattle.std.proofs.Common.{arith}
use Rattle.perf_outlines.proofs.NameLaws.{moved}
use Rattle.perf_outlines.proofs.file_names.in_file.Goals as goal

pub returns : goal.returns
returns c = λ bytes inside. moved bytes c.args.descriptions c.args.place inside c.if-place-eq0.false (omega arith)
