-- Heads of records whose bytes are taken at once: the numbers in them.
use Rattle.std.proofs.Common.{◌≡◌, ℕ, ◌+◌, ◌≤◌, List, length, take, drop, refl, sym, ◌∙◌, ap, arith}
use Rattle.perf_base.specs.FieldWords.{u32, u64}
use Rattle.perf_base.specs.Layout.{done, ◌>>=◌, value}
use Rattle.perf_base.specs.Order.{Order}
use Rattle.perf_base.specs.Took.{took, took_by_places}
use Rattle.perf_base.proofs.Took.{places_took}
use Rattle.perf_reader.proofs.AtOnce.{four_at, eight_at, in_front}
use Rattle.perf_types.specs.Numbers.{exit}
use Rattle.perf_types.specs.Mmap2.{place}
use Rattle.perf_types.specs.MmapDetail.{inode, inode_is}
use Rattle.perf_types.specs.Pair.{pair}

-- ---- two numbers of four bytes

pair_front : (o : Order) (bytes : List ℕ) → value o (take 8 bytes) 0 pair ≡ value o bytes 0 pair
pair_front o bytes = rw (in_front 0 4 8 bytes (omega arith), in_front 4 4 8 bytes (omega arith)) refl

pub pair_taken : (o : Order) (bytes : List ℕ) (n : ℕ) → 8 ≤ length bytes → took_by_places o pair bytes n ≡ took (value o (take 8 bytes) 0 pair) (drop 8 bytes) (n + 2)
pair_taken o bytes n fits =
    let first : ℕ = (o.four (take 4 (drop 0 bytes))) in
    let count : n + 1 + 1 ≡ n + 2 = omega arith in
    places_took o pair bytes n
    ∙ four_at o (λ first. u32 >>= λ second. done (first, second)) bytes 0 (n) (omega (arith, fits))
    ∙ four_at o (λ second. done (first, second)) bytes 4 (n + 1) (omega (arith, fits))
    ∙ ap (took (value o bytes 0 pair) (drop 8 bytes)) count
    ∙ ap (λ v. took v (drop 8 bytes) (n + 2)) (sym (pair_front o bytes))

-- ---- EXIT and FORK

exit_front : (o : Order) (bytes : List ℕ) → value o (take 24 bytes) 0 exit ≡ value o bytes 0 exit
exit_front o bytes = rw (in_front 0 4 24 bytes (omega arith), in_front 4 4 24 bytes (omega arith), in_front 8 4 24 bytes (omega arith), in_front 12 4 24 bytes (omega arith), in_front 16 8 24 bytes (omega arith)) refl

pub exit_taken : (o : Order) (bytes : List ℕ) (n : ℕ) → 24 ≤ length bytes → took_by_places o exit bytes n ≡ took (value o (take 24 bytes) 0 exit) (drop 24 bytes) (n + 5)
exit_taken o bytes n fits =
    let pid : ℕ = (o.four (take 4 (drop 0 bytes))) in
    let ppid : ℕ = (o.four (take 4 (drop 4 bytes))) in
    let tid : ℕ = (o.four (take 4 (drop 8 bytes))) in
    let ptid : ℕ = (o.four (take 4 (drop 12 bytes))) in
    let count : n + 1 + 1 + 1 + 1 + 1 ≡ n + 5 = omega arith in
    places_took o exit bytes n
    ∙ four_at o (λ pid. u32 >>= λ ppid. u32 >>= λ tid. u32 >>= λ ptid. u64 >>= λ time. done (record { pid = pid; ppid = ppid; tid = tid; ptid = ptid; time = time })) bytes 0 (n) (omega (arith, fits))
    ∙ four_at o (λ ppid. u32 >>= λ tid. u32 >>= λ ptid. u64 >>= λ time. done (record { pid = pid; ppid = ppid; tid = tid; ptid = ptid; time = time })) bytes 4 (n + 1) (omega (arith, fits))
    ∙ four_at o (λ tid. u32 >>= λ ptid. u64 >>= λ time. done (record { pid = pid; ppid = ppid; tid = tid; ptid = ptid; time = time })) bytes 8 (n + 1 + 1) (omega (arith, fits))
    ∙ four_at o (λ ptid. u64 >>= λ time. done (record { pid = pid; ppid = ppid; tid = tid; ptid = ptid; time = time })) bytes 12 (n + 1 + 1 + 1) (omega (arith, fits))
    ∙ eight_at o (λ time. done (record { pid = pid; ppid = ppid; tid = tid; ptid = ptid; time = time })) bytes 16 (n + 1 + 1 + 1 + 1) (omega (arith, fits))
    ∙ ap (took (value o bytes 0 exit) (drop 24 bytes)) count
    ∙ ap (λ v. took v (drop 24 bytes) (n + 5)) (sym (exit_front o bytes))

-- ---- MMAP and MMAP2

place_front : (o : Order) (bytes : List ℕ) → value o (take 32 bytes) 0 place ≡ value o bytes 0 place
place_front o bytes = rw (in_front 0 4 32 bytes (omega arith), in_front 4 4 32 bytes (omega arith), in_front 8 8 32 bytes (omega arith), in_front 16 8 32 bytes (omega arith), in_front 24 8 32 bytes (omega arith)) refl

pub place_taken : (o : Order) (bytes : List ℕ) (n : ℕ) → 32 ≤ length bytes → took_by_places o place bytes n ≡ took (value o (take 32 bytes) 0 place) (drop 32 bytes) (n + 5)
place_taken o bytes n fits =
    let pid : ℕ = (o.four (take 4 (drop 0 bytes))) in
    let tid : ℕ = (o.four (take 4 (drop 4 bytes))) in
    let addr : ℕ = (o.eight (take 8 (drop 8 bytes))) in
    let len : ℕ = (o.eight (take 8 (drop 16 bytes))) in
    let count : n + 1 + 1 + 1 + 1 + 1 ≡ n + 5 = omega arith in
    places_took o place bytes n
    ∙ four_at o (λ pid. u32 >>= λ tid. u64 >>= λ addr. u64 >>= λ len. u64 >>= λ pgoff. done (record { pid = pid; tid = tid; addr = addr; len = len; pgoff = pgoff })) bytes 0 (n) (omega (arith, fits))
    ∙ four_at o (λ tid. u64 >>= λ addr. u64 >>= λ len. u64 >>= λ pgoff. done (record { pid = pid; tid = tid; addr = addr; len = len; pgoff = pgoff })) bytes 4 (n + 1) (omega (arith, fits))
    ∙ eight_at o (λ addr. u64 >>= λ len. u64 >>= λ pgoff. done (record { pid = pid; tid = tid; addr = addr; len = len; pgoff = pgoff })) bytes 8 (n + 1 + 1) (omega (arith, fits))
    ∙ eight_at o (λ len. u64 >>= λ pgoff. done (record { pid = pid; tid = tid; addr = addr; len = len; pgoff = pgoff })) bytes 16 (n + 1 + 1 + 1) (omega (arith, fits))
    ∙ eight_at o (λ pgoff. done (record { pid = pid; tid = tid; addr = addr; len = len; pgoff = pgoff })) bytes 24 (n + 1 + 1 + 1 + 1) (omega (arith, fits))
    ∙ ap (took (value o bytes 0 place) (drop 32 bytes)) count
    ∙ ap (λ v. took v (drop 32 bytes) (n + 5)) (sym (place_front o bytes))

inode_front : (o : Order) (bytes : List ℕ) → value o (take 24 bytes) 0 inode ≡ value o bytes 0 inode
inode_front o bytes = rw (in_front 0 4 24 bytes (omega arith), in_front 4 4 24 bytes (omega arith), in_front 8 8 24 bytes (omega arith), in_front 16 8 24 bytes (omega arith)) refl

pub inode_taken : (o : Order) (bytes : List ℕ) (n : ℕ) → 24 ≤ length bytes → took_by_places o inode bytes n ≡ took (value o (take 24 bytes) 0 inode) (drop 24 bytes) (n + 4)
inode_taken o bytes n fits =
    let maj : ℕ = (o.four (take 4 (drop 0 bytes))) in
    let min : ℕ = (o.four (take 4 (drop 4 bytes))) in
    let ino : ℕ = (o.eight (take 8 (drop 8 bytes))) in
    let count : n + 1 + 1 + 1 + 1 ≡ n + 4 = omega arith in
    places_took o inode bytes n
    ∙ four_at o (λ maj. u32 >>= λ min. u64 >>= λ ino. u64 >>= λ generation. done (inode_is maj min ino generation)) bytes 0 (n) (omega (arith, fits))
    ∙ four_at o (λ min. u64 >>= λ ino. u64 >>= λ generation. done (inode_is maj min ino generation)) bytes 4 (n + 1) (omega (arith, fits))
    ∙ eight_at o (λ ino. u64 >>= λ generation. done (inode_is maj min ino generation)) bytes 8 (n + 1 + 1) (omega (arith, fits))
    ∙ eight_at o (λ generation. done (inode_is maj min ino generation)) bytes 16 (n + 1 + 1 + 1) (omega (arith, fits))
    ∙ ap (took (value o bytes 0 inode) (drop 24 bytes)) count
    ∙ ap (λ v. took v (drop 24 bytes) (n + 4)) (sym (inode_front o bytes))
