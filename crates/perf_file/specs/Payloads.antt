-- Whether payloads are whole.
use Rattle.std.specs.Prelude.{Bool, length, nat_le}
use Rattle.perf_base.specs.Dynamic.{order_of}
use Rattle.perf_sections.specs.Opened.{File}
use Rattle.perf_file.specs.Pieces.{Piece, payload_length}

-- whether the payload that a frame announces is all there
abbrev pub has_payload : File → Piece → Bool
has_payload f p = nat_le (payload_length (order_of f.order) p.frame) (length p.payload)
