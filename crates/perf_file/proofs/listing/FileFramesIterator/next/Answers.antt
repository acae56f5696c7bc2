use Rattle.perf_file.specs.Pieces.{piece_of}
use Rattle.perf_file.specs.Views.{view}
use Rattle.perf_file.proofs.Laws.{next_piece}
use Rattle.perf_file.proofs.listing.FileFramesIterator.next.Goals as goal

pub returns-clause-steps : goal.returns-clause-steps
returns-clause-steps c =
    let s = c.args.self.now in
    let e = c.in_ok-found.ensures in
    next_piece (view s.recording.now) s.left.now c.in_ok-found.after.now (piece_of c.in_ok-found.found) e.0 e.1 e.2
