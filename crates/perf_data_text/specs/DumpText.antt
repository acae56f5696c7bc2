-- The lines of frames.
use Rattle.std.specs.Prelude.{◌≡◌, ℕ, Bool, List, is_err, Option, option_map}
use Rattle.std.specs.List.{flat_map, enumerate_from, filter_map, list_any}
use Rattle.std.specs.List.Sorted.{IsPermutation, IsSortedByKey}
use Rattle.perf_base.specs.Configuration.{Configuration}
use Rattle.perf_base.specs.Dynamic.{order_of}
use Rattle.perf_base.specs.Order.{Order}
use Rattle.perf_lines.specs.FileText.{Words, words_of_frame, file_line}
use Rattle.perf_lines.specs.declared.line.file.FrameEvent.{FrameEvent}
use Rattle.perf_lines.specs.declared.line.file.FrameEvent.TheVariants as event
use Rattle.perf_file.specs.Entries.{config_of, time_of, by_time_then_place}
use Rattle.perf_sections.specs.Opened.{File}
use Rattle.perf_file.specs.Payloads.{has_payload}
use Rattle.perf_file.specs.Pieces.{Piece, header_seen, pieces_of, piece_at}
use Rattle.perf_file.specs.declared.entries.Entry.{Entry}
use Rattle.perf_file.specs.declared.owning.Owner.{Owner}
use Rattle.perf_file.specs.declared.owning.Owner.TheVariants as owner

-- the owner of a frame, as its line names it
abbrev pub event_of : Owner → FrameEvent
event_of (owner.Event n) = event.Number n
event_of owner.Perf = event.Perf
event_of (owner.Unknown id) = event.Unknown id
event_of owner.Short = event.Short

-- how the frames of an owner are read
abbrev pub how_of : File → Owner → Option (Configuration × Order)
how_of f who = option_map (λ c. (c, order_of f.order)) (config_of f who)

-- the words of a frame, or why it is refused
abbrev pub words_of_piece : File → Piece → Words
words_of_piece f p = words_of_frame (event_of p.owner) (how_of f p.owner) (has_payload f p) p.frame

-- the line of a frame, with a number
abbrev pub piece_line : File → ℕ → Piece → List ℕ
piece_line f index p = file_line index p.at (event_of p.owner) (header_seen p.frame) (words_of_piece f p)

-- those of frames, numbered from a first number
abbrev pub piece_lines : File → ℕ → List Piece → List ℕ
piece_lines f first pieces = flat_map (λ numbered. piece_line f numbered.0 numbered.1) (enumerate_from first pieces)

-- whether a frame is refused
abbrev pub any_refused : File → List Piece → Bool
any_refused f pieces = list_any (λ p. is_err (words_of_piece f p)) pieces

-- the text of these frames, of which some are refused or none
abbrev pub IsTextOfPieces : File → List Piece → (refused : Bool) → List ℕ → Type 0
IsTextOfPieces f pieces refused text = (refused ≡ any_refused f pieces) × (text ≡ piece_lines f 0 pieces)

-- the frames of entries
abbrev pub pieces_at : File → List Entry → List Piece
pieces_at f entries = filter_map (λ (e : Entry). piece_at f e.at) entries

-- when a frame happened, and where it is
abbrev pub time_and_place_of : File → Piece → ℕ × ℕ
time_and_place_of f p = (time_of f p, p.at)

-- the frames of a file, by time and at equal times by place
pub record AreByTime (f : File) (pieces : List Piece) : Type 0 where
  pub same : IsPermutation (pieces_of f) pieces
  pub sorted : IsSortedByKey (time_and_place_of f) by_time_then_place pieces

-- their text, of which some are refused or none
abbrev pub IsTextByTime : File → (refused : Bool) → List ℕ → Type 0
IsTextByTime f refused text =
    (pieces : List Piece) × AreByTime f pieces × IsTextOfPieces f pieces refused text
