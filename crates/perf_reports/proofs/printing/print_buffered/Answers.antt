use Rattle.perf_reports.proofs.KnownReaders.{lines_of, of_known}
use Rattle.perf_reports.proofs.printing.print_buffered.Goals as goal

pub returns-clause-all : goal.returns-clause-all
returns-clause-all g c = of_known _ _ (λ told. lines_of _ _ _ _ _ _ _ (c.print_buffer-clean.ensures.all told))

pub returns-clause-part : goal.returns-clause-part
returns-clause-part g c = of_known _ _ c.print_buffer-clean.ensures.part
