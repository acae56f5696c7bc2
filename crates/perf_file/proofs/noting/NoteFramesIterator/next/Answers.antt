use Rattle.perf_file.specs.NoteViews.{note_of}
use Rattle.perf_file.specs.Pipes.{pipe_with}
use Rattle.std.proofs.Common.{[]}
use Rattle.perf_file.proofs.Noted.{next_note}
use Rattle.perf_file.proofs.noting.NoteFramesIterator.next.Goals as goal

pub returns-clause-steps : goal.returns-clause-steps
returns-clause-steps c =
    let s = c.args.self.now in
    let e = c.in_ok-note.ensures in
    next_note (pipe_with s.order s.frames.now []) s.left.now c.in_ok-note.left.now (note_of c.in_ok-note.note) e.0 e.1 e.2
