-- Where the bytes of notes are in the file.
use Rattle.std.specs.Prelude.{◌≡◌, ◌+◌, ◌≤◌, ℕ, List, length}
use Rattle.perf_base.specs.Layout.{slice}
use Rattle.perf_file.specs.Pipes.{FrameNote}
use Rattle.perf_sections.specs.declared.section.Section.{Section}

-- the bytes of a part
abbrev pub bytes_of : List ℕ → Section → List ℕ
bytes_of bytes s = slice bytes s.start s.size

-- the bytes after the header of a note are in the file, after its offset
pub record IsPlaced (bytes : List ℕ) (n : FrameNote) : Type 0 where
  pub inside : n.at + 8 + length n.body ≤ length bytes
  pub there : slice bytes (n.at + 8) (length n.body) ≡ n.body
