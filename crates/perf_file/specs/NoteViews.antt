-- Notes of the code.
use Rattle.std.specs.Prelude.{List, [], map}
use Rattle.perf_file.specs.Pieces.{pieces}
use Rattle.perf_file.specs.Pipes.{FrameNote, note_in, pipe_with}
use Rattle.perf_file.specs.declared.note_frames.Note.{Note}
use Rattle.perf_file.specs.declared.note_frames.NoteFrames.{NoteFrames}

-- what a note contains
abbrev pub note_of : Note → FrameNote
note_of n = record { at = n.at; header = n.header; body = n.body.now }

-- those of frames that are left
abbrev pub notes_left : NoteFrames → List FrameNote
notes_left s = map note_in (pieces (pipe_with s.order s.frames.now []) s.left.now)
