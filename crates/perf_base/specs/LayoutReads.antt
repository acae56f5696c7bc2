-- Elementary reads: how much work a layout may cost. One read is one number, or one run of at least
-- one byte.
use Rattle.std.specs.Prelude.{ℕ, zero, suc, ◌+◌, ◌-◌, ◌/◌, true, false, List, [], ◌∷◌, length, take}
use Rattle.std.specs.Prelude.{drop, Option, Some, None, nat_le}
use Rattle.perf_base.specs.Order.{Order}
use Rattle.perf_base.specs.Layout.{Shape, number, optional, byte_string, words, padding, rest, shape_value}
use Rattle.perf_base.specs.Layout.{size, Parts, done, part, check, Spot, takes, holds, spots}
use Rattle.perf_base.specs.declared.error.ErrorKind.{ErrorKind}

-- one, or zero for zero
abbrev pub one_if_any : ℕ → ℕ
one_if_any zero = 0
one_if_any (suc n) = 1

-- The reads of a part of n bytes that succeeds: one per number, and one for other bytes, if there
-- are any.
abbrev pub part_reads : Shape → ℕ → ℕ
part_reads (number w) n = 1
part_reads (optional b w) n = one_if_any n
part_reads (byte_string k) n = one_if_any n
part_reads (words k) n = k
part_reads (padding k) n = one_if_any n
part_reads rest n = one_if_any n

-- The reads of a part that fails with `left` bytes remaining: the last of the reads fails.
abbrev pub failed_reads : Shape → ℕ → ℕ
failed_reads (words k) left = left / 8 + 1
failed_reads _ left = 1

-- the reads of parts at their offsets, up to the first that fails
abbrev pub reads : ℕ → List Spot → ℕ
reads len [] = 0
reads len (takes s n shape ∷ xs) =
    elim (nat_le (s + n) len)
    [ true ↦ part_reads shape n + reads len xs | false ↦ failed_reads shape (len - s) ]
reads len (holds s t e ∷ xs) = elim t [ true ↦ reads len xs | false ↦ 0 ]

-- The bytes consumed: all of them, if there are too few; those before a check that is false.
abbrev pub bytes_consumed : ℕ → ℕ → List Spot → ℕ
bytes_consumed len at [] = at
bytes_consumed len at (takes s n shape ∷ xs) =
    elim (nat_le (s + n) len) [ true ↦ bytes_consumed len (s + n) xs | false ↦ len ]
bytes_consumed len at (holds s t e ∷ xs) = elim t [ true ↦ bytes_consumed len s xs | false ↦ s ]

-- one if there was a refusal
abbrev pub one_if_refused : Option ErrorKind → ℕ
one_if_refused None = 0
one_if_refused (Some e) = 1

-- how many reads a layout takes
abbrev pub layout_reads : {A : Type 0} → Order → Parts A → List ℕ → ℕ
layout_reads o p body = reads (length body) (spots o body 0 p)

-- how many bytes a layout consumes
abbrev pub layout_consumed : {A : Type 0} → Order → Parts A → List ℕ → ℕ
layout_consumed o p body = bytes_consumed (length body) 0 (spots o body 0 p)

-- the reads of a run over the remaining bytes
abbrev pub run_reads : {A : Type 0} → Order → Parts A → List ℕ → ℕ
run_reads o (done v) bytes = 0
run_reads o (part shape k) bytes =
    let n = size shape (length bytes) in
    elim (nat_le n (length bytes)) [
      | true ↦ part_reads shape n + run_reads o (k (shape_value o shape (take n bytes))) (drop n bytes)
      | false ↦ failed_reads shape (length bytes)
    ]
run_reads o (check t e p) bytes = elim t [ true ↦ run_reads o p bytes | false ↦ 0 ]
