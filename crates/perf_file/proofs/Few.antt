-- A file has no more frames than bytes.
use Rattle.std.proofs.Common.{◌≡◌, ℕ, zero, suc, ◌≤◌, List, true, false, nat_lt, inl, inr, length, arith}
use Rattle.std.proofs.lemmas.Bool.{lt-ltb, le-ltb, cases_lt}
use Rattle.perf_base.specs.Dynamic.{order_of}
use Rattle.perf_sections.specs.Opened.{File}
use Rattle.perf_file.specs.Pieces.{pieces_of, first_pieces, after_piece}

few : (f : File) (n : ℕ) (bytes : List ℕ) → length (first_pieces f n bytes) ≤ n
few f zero bytes = omega arith
few f (suc n) bytes = elim (cases_lt (length bytes) 8) [
  | inl lt ↦ let a : nat_lt (length bytes) 8 ≡ true = lt-ltb (length bytes) 8 lt in rw a (omega arith)
  | inr fits ↦
      let a : nat_lt (length bytes) 8 ≡ false = le-ltb (length bytes) 8 fits in
      rw a (omega (arith, few f n (after_piece (order_of f.order) bytes)))
]

pub pieces_below : (f : File) → length (pieces_of f) ≤ length f.frames
pieces_below f = few f (length f.frames) f.frames
