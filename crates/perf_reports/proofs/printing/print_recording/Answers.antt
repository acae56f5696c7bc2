use Rattle.perf_reports.proofs.KnownReaders.{new_remaining, of_same}
use Rattle.perf_reports.proofs.printing.print_recording.Goals as goal

pub returns-clause-all : goal.returns-clause-all
returns-clause-all g c =
    let made = c.in_ok-input.ensures in
    of_same _ (new_remaining g.R.Read.remaining c.in_ok-input.input c.args.input made.inner made.empty made.capacity) c.replace_with.ensures.0

pub returns-clause-part : goal.returns-clause-part
returns-clause-part g c =
    let made = c.in_ok-input.ensures in
    of_same _ (new_remaining g.R.Read.remaining c.in_ok-input.input c.args.input made.inner made.empty made.capacity) c.replace_with.ensures.1
