use Rattle.std.proofs.Common.{sym}
use Rattle.perf_outlines.proofs.PipeInMemory.{form_refused}
use Rattle.perf_event_c.proofs.file.ped_file_open.Goals as goal

pub returns-in-Err-clause-refused : goal.returns-in-Err-clause-refused
returns-in-Err-clause-refused c = λ some. (c.in-Err.refusal, form_refused c.args.bytes.now c.in-Err.refusal (sym c.in-Err.ensures), c.open_code.ensures)
