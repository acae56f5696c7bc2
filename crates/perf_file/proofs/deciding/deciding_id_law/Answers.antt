use Rattle.perf_file.proofs.IdLaw.{deciding_id}
use Rattle.perf_file.proofs.deciding.deciding_id_law.Goals as goal

pub returns : goal.returns
returns c = deciding_id
