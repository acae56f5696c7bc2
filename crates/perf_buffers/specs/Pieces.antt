-- The contents of a `PieceBuf`.
use Rattle.std.specs.Prelude.{ℕ, Bool, true, false, List, take, None}
use Rattle.perf_buffers.specs.Buffer.{Source}
use Rattle.perf_buffers.specs.declared.pieces.PieceBuf.{PieceBuf}

-- the bytes that are left
abbrev pub piece_bytes : PieceBuf → List ℕ
piece_bytes b = b.bytes.now

-- the maximal number of bytes of a piece
abbrev pub piece_most : PieceBuf → ℕ
piece_most b = b.most

-- whether its pieces live as long as the input
abbrev pub piece_borrowed : PieceBuf → Bool
piece_borrowed b = b.borrowed

-- its state as a buffer: known bytes, which come in pieces and without faults
abbrev pub piece_source : PieceBuf → Source
piece_source b = record {
  left = b.bytes.now;
  told = true;
  whole = false;
  can_fault = false;
  faults = None;
}

-- the next piece
abbrev pub piece_ready : PieceBuf → List ℕ
piece_ready b = take b.most b.bytes.now
