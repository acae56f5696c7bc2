use Rattle.std.proofs.Common.{arith}
use Rattle.perf_sections.proofs.NamePlacing.{number_fits}
use Rattle.perf_sections.proofs.name_places.key_at.Goals as goal

pub returns-clause-fits : goal.returns-clause-fits
returns-clause-fits c = number_fits c.first_id_at.result c.args.config c.first_id_at.ensures.fits (omega arith)
