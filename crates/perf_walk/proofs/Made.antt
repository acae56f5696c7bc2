-- The changes that are made of the numbers and the byte strings of a flat frame.
use Rattle.std.proofs.Common.{◌≡◌, ℕ, Bool, not, List, get_or, refl, ◌∙◌, ap}
use Rattle.perf_flat.specs.Arrays.{filled, low_u32}
use Rattle.perf_flat.specs.Strings.{span_at}
use Rattle.perf_flat.specs.declared.frame.FlatFrame.{FlatFrame}
use Rattle.perf_history.specs.Modes.{mode_of}
use Rattle.perf_history.specs.declared.changes.Change.TheVariants.{Comm, Fork, Map, Symbol}
use Rattle.perf_history.specs.declared.changes.Identity.{Identity}
use Rattle.perf_history.specs.declared.changes.Identity.TheVariants.{Unknown}
use Rattle.perf_history.specs.declared.changes.Inode as inodes
use Rattle.perf_history.specs.declared.changes.Mode.{Mode}
use Rattle.perf_records.specs.Records.{comm_is, fork_is, mmap_is, mmap2_is, ksymbol_is}
use Rattle.perf_types.specs.Comm.{CommValue}
use Rattle.perf_types.specs.KSymbol.{KSymbolValue}
use Rattle.perf_types.specs.Mmap.{MmapValue}
use Rattle.perf_types.specs.Mmap2.{Mmap2Value}
use Rattle.perf_types.specs.declared.numbers.Exit.{Exit}
use Rattle.perf_words.specs.Bits.{has_bit}
use Rattle.perf_walk.specs.Changes.{comm_change, fork_change, mmap_change, mmap2_change, symbol_change, inode_of, identity_of}
use Rattle.perf_walk.specs.Contents.{HasContents}
use Rattle.perf_walk.specs.Parts.{bytes_at}
use Rattle.perf_walk.specs.Plain.{lent}
use Rattle.perf_walk.proofs.Stated.{bytes_here}

-- a number of a flat frame
abbrev at : FlatFrame → ℕ → ℕ
at f i = get_or f.numbers i 0

-- an inode
abbrev inode : (major minor number generation : ℕ) → inodes.Inode
inode major minor number generation = record { major = major; minor = minor; number = number; generation = generation }

-- its first byte string
abbrev first : List ℕ → FlatFrame → List ℕ
first frame f = bytes_at frame (span_at f.spans 0)

pub comm_made : (frame : List ℕ) (f : FlatFrame) (r : CommValue) → HasContents frame f (comm_is r) → (tid : ℕ) (name : List ℕ) → tid ≡ low_u32 (at f 1) → name ≡ first frame f
    → Comm (record { tid = tid; name = lent name }) ≡ comm_change r
unfolding filled
comm_made frame f r has tid name t n =
    let ids : tid ≡ low_u32 r.tid = t ∙ ap (λ ns. low_u32 (get_or ns 1 0)) has.numbers in
    let bytes : name ≡ r.comm = n ∙ bytes_here frame (span_at f.spans 0) r.comm has.strings.0 in
    rw (ids, bytes) refl

pub fork_made : (frame : List ℕ) (f : FlatFrame) (r : Exit) (misc : ℕ) → HasContents frame f (fork_is r) → (pid ppid tid ptid : ℕ) (made_up : Bool)
    → pid ≡ low_u32 (at f 0) → ppid ≡ low_u32 (at f 1) → tid ≡ low_u32 (at f 2) → ptid ≡ low_u32 (at f 3) → made_up ≡ has_bit misc 13
    → Fork (record { pid = pid; ppid = ppid; tid = tid; ptid = ptid; made_up = made_up }) ≡ fork_change misc r
unfolding filled
fork_made frame f r misc has pid ppid tid ptid made_up p pp t pt m =
    let a : pid ≡ low_u32 r.pid = p ∙ ap (λ ns. low_u32 (get_or ns 0 0)) has.numbers in
    let b : ppid ≡ low_u32 r.ppid = pp ∙ ap (λ ns. low_u32 (get_or ns 1 0)) has.numbers in
    let c : tid ≡ low_u32 r.tid = t ∙ ap (λ ns. low_u32 (get_or ns 2 0)) has.numbers in
    let d : ptid ≡ low_u32 r.ptid = pt ∙ ap (λ ns. low_u32 (get_or ns 3 0)) has.numbers in
    rw (a, b, c, d, m) refl

pub mmap_made : (frame : List ℕ) (f : FlatFrame) (r : MmapValue) (misc : ℕ) → HasContents frame f (mmap_is r) → (pid : ℕ) (mode : Mode) (start len offset : ℕ) (file : List ℕ) (executable : Bool)
    → pid ≡ low_u32 (at f 0) → mode ≡ mode_of misc → start ≡ at f 2 → len ≡ at f 3 → offset ≡ at f 4 → file ≡ first frame f → executable ≡ not (has_bit misc 13)
    → Map (record { pid = pid; mode = mode; start = start; len = len; offset = offset; file = lent file; identity = Unknown; executable = executable }) ≡ mmap_change misc r
unfolding filled
mmap_made frame f r misc has pid mode start len offset file executable p m s l o n x =
    let a : pid ≡ low_u32 r.pid = p ∙ ap (λ ns. low_u32 (get_or ns 0 0)) has.numbers in
    let b : start ≡ r.addr = s ∙ ap (λ ns. get_or ns 2 0) has.numbers in
    let c : len ≡ r.len = l ∙ ap (λ ns. get_or ns 3 0) has.numbers in
    let d : offset ≡ r.pgoff = o ∙ ap (λ ns. get_or ns 4 0) has.numbers in
    let e : file ≡ r.filename = n ∙ bytes_here frame (span_at f.spans 0) r.filename has.strings.0 in
    rw (a, m, b, c, d, e, x) refl

pub inode_made : (frame : List ℕ) (f : FlatFrame) (r : Mmap2Value) → HasContents frame f (mmap2_is r) → (major minor number generation : ℕ)
    → major ≡ low_u32 (at f 7) → minor ≡ low_u32 (at f 8) → number ≡ at f 9 → generation ≡ at f 10
    → inode major minor number generation ≡ inode_of r.detail
unfolding filled
inode_made frame f r has major minor number generation ma mi n g =
    let a = ma ∙ ap (λ ns. low_u32 (get_or ns 7 0)) has.numbers in
    let b = mi ∙ ap (λ ns. low_u32 (get_or ns 8 0)) has.numbers in
    let c = n ∙ ap (λ ns. get_or ns 9 0) has.numbers in
    let d = g ∙ ap (λ ns. get_or ns 10 0) has.numbers in
    rw (a, b, c, d) refl

pub mmap2_made : (frame : List ℕ) (f : FlatFrame) (r : Mmap2Value) (misc : ℕ) → HasContents frame f (mmap2_is r) → (pid : ℕ) (mode : Mode) (start len offset : ℕ) (file : List ℕ) (identity : Identity) (executable : Bool)
    → pid ≡ low_u32 (at f 0) → mode ≡ mode_of misc → start ≡ at f 2 → len ≡ at f 3 → offset ≡ at f 4 → file ≡ first frame f → identity ≡ identity_of misc r.detail → executable ≡ has_bit (at f 5) 2
    → Map (record { pid = pid; mode = mode; start = start; len = len; offset = offset; file = lent file; identity = identity; executable = executable }) ≡ mmap2_change misc r
unfolding filled
mmap2_made frame f r misc has pid mode start len offset file identity executable p m s l o n i x =
    let a : pid ≡ low_u32 r.pid = p ∙ ap (λ ns. low_u32 (get_or ns 0 0)) has.numbers in
    let b : start ≡ r.addr = s ∙ ap (λ ns. get_or ns 2 0) has.numbers in
    let c : len ≡ r.len = l ∙ ap (λ ns. get_or ns 3 0) has.numbers in
    let d : offset ≡ r.pgoff = o ∙ ap (λ ns. get_or ns 4 0) has.numbers in
    let e : file ≡ r.filename = n ∙ bytes_here frame (span_at f.spans 0) r.filename has.strings.0 in
    let g : executable ≡ has_bit r.prot 2 = x ∙ ap (λ ns. has_bit (get_or ns 5 0) 2) has.numbers in
    rw (a, m, b, c, d, e, i, g) refl

pub symbol_made : (frame : List ℕ) (f : FlatFrame) (r : KSymbolValue) → HasContents frame f (ksymbol_is r) → (start len : ℕ) (name : List ℕ) (removed : Bool)
    → start ≡ at f 0 → len ≡ at f 1 → name ≡ first frame f → removed ≡ has_bit (at f 3) 0
    → Symbol (record { start = start; len = len; name = lent name; removed = removed }) ≡ symbol_change r
unfolding filled
symbol_made frame f r has start len name removed s l n x =
    let a : start ≡ r.addr = s ∙ ap (λ ns. get_or ns 0 0) has.numbers in
    let b : len ≡ r.len = l ∙ ap (λ ns. get_or ns 1 0) has.numbers in
    let c : name ≡ r.name = n ∙ bytes_here frame (span_at f.spans 0) r.name has.strings.0 in
    let d : removed ≡ has_bit r.flags 0 = x ∙ ap (λ ns. has_bit (get_or ns 3 0) 0) has.numbers in
    rw (a, b, c, d) refl
