-- How a frame is split.
use Rattle.std.proofs.Common.{◌≡◌, ℕ, ◌<◌, ◌≤◌, List, length, take, drop, arith, refl, sym, ◌∙◌, ap, true, false, nat_lt}
use Rattle.std.specs.Prelude.{Ok, Err, IsTrue, Result}
use Rattle.std.proofs.lemmas.Bool.{lt-ltb, le-ltb}
use Rattle.std.proofs.lemmas.List.{drop_all, length-take-le}
use Rattle.perf_base.specs.Configuration.{Configuration}
use Rattle.perf_base.specs.Order.{Order}
use Rattle.perf_base.specs.declared.error.ErrorKind.{ErrorKind}
use Rattle.perf_base.specs.declared.error.ErrorKind.TheVariants.{Eof, InvalidRecord, UnsupportedConfig, UnsupportedData, External, OutOfMemory}
use Rattle.perf_base.specs.declared.sys.perf_event_header.{perf_event_header}
use Rattle.perf_buffers.specs.Buffer.{Source}
use Rattle.perf_buffers.specs.Taking.{FailsToKeep}
use Rattle.perf_reader.specs.Reading.{of_layout}
use Rattle.perf_records.specs.Answers.{length_after, FrameParts, parts_of, split_after, split_reads, id_reads}
use Rattle.perf_records.specs.Metadata.{id_length}

-- ---- the four cases
pub split_small : (c : Configuration) (o : Order) (h : perf_event_header) (bytes : List ℕ) → h.size < 8 → split_after c o h bytes ≡ Err InvalidRecord
split_small c o h bytes small = let a : nat_lt h.size 8 ≡ true = lt-ltb h.size 8 small in rw a refl

pub split_short : (c : Configuration) (o : Order) (h : perf_event_header) (bytes : List ℕ) → 8 ≤ h.size → length bytes < length_after h → split_after c o h bytes ≡ Err Eof
split_short c o h bytes sized short =
    let a : nat_lt h.size 8 ≡ false = le-ltb h.size 8 sized in
    let b : nat_lt (length bytes) (length_after h) ≡ true = lt-ltb (length bytes) (length_after h) short in
    rw (a, b) refl

pub split_no_room : (c : Configuration) (o : Order) (h : perf_event_header) (bytes : List ℕ) → 8 ≤ h.size → length_after h ≤ length bytes → length_after h < id_length c h.type_ → split_after c o h bytes ≡ Err InvalidRecord
split_no_room c o h bytes sized fits small =
    let a : nat_lt h.size 8 ≡ false = le-ltb h.size 8 sized in
    let b : nat_lt (length bytes) (length_after h) ≡ false = le-ltb (length bytes) (length_after h) fits in
    let d : nat_lt (length_after h) (id_length c h.type_) ≡ true = lt-ltb (length_after h) (id_length c h.type_) small in
    rw (a, b, d) refl

pub split_whole : (c : Configuration) (o : Order) (h : perf_event_header) (bytes : List ℕ) → 8 ≤ h.size → length_after h ≤ length bytes → id_length c h.type_ ≤ length_after h →
    split_after c o h bytes ≡ Ok (parts_of c o h (take (length_after h) bytes))
split_whole c o h bytes sized fits room =
    let a : nat_lt h.size 8 ≡ false = le-ltb h.size 8 sized in
    let b : nat_lt (length bytes) (length_after h) ≡ false = le-ltb (length bytes) (length_after h) fits in
    let d : nat_lt (length_after h) (id_length c h.type_) ≡ false = le-ltb (length_after h) (id_length c h.type_) room in
    rw (a, b, d) refl

-- ---- frames that are refused, with no read after the header

-- the result of a split that was refused
abbrev pub Unsplit : Configuration → Order → perf_event_header → List ℕ → ErrorKind → Type 0
Unsplit c o h bytes e = (split_after c o h bytes ≡ Err e) × (split_reads c o h bytes ≡ 0)

unsplit : (c : Configuration) (o : Order) (h : perf_event_header) (bytes : List ℕ) (e : ErrorKind) → split_after c o h bytes ≡ Err e → Unsplit c o h bytes e
unsplit c o h bytes e p = (p, ap (λ (r : Result FrameParts ErrorKind). elim r [ Ok parts ↦ id_reads c o h (take (length_after h) bytes) | Err e ↦ 0 ]) p)

pub unsplit_cut : (c : Configuration) (o : Order) (h : perf_event_header) (old new : Source) (e : ErrorKind) → 8 ≤ h.size → FailsToKeep old (length_after h) e new → IsTrue (of_layout e) →
    Unsplit c o h old.left e × (new.left ≡ drop (length_after h) old.left)
unsplit_cut c o h old new Eof sized p kind = (unsplit c o h old.left Eof (split_short c o h old.left sized p.0), p.1 ∙ sym (drop_all (length_after h) old.left (omega arith)))
unsplit_cut c o h old new InvalidRecord sized p kind = absurd p
unsplit_cut c o h old new UnsupportedConfig sized p kind = absurd p
unsplit_cut c o h old new UnsupportedData sized p kind = absurd p
unsplit_cut c o h old new External sized p kind = cc
unsplit_cut c o h old new OutOfMemory sized p kind = cc

pub unsplit_room : (c : Configuration) (o : Order) (h : perf_event_header) (bytes frame : List ℕ) → 8 ≤ h.size → length_after h ≤ length bytes → frame ≡ take (length_after h) bytes → length frame < id_length c h.type_ →
    Unsplit c o h bytes InvalidRecord
unsplit_room c o h bytes frame sized fits cut small =
    let long : length frame ≡ length_after h = ap length cut ∙ length-take-le (length_after h) bytes fits in
    unsplit c o h bytes InvalidRecord (split_no_room c o h bytes sized fits (omega arith))

-- ---- frames that are split
pub split_made : (c : Configuration) (o : Order) (h : perf_event_header) (bytes frame : List ℕ) (parts : FrameParts) → 8 ≤ h.size → length_after h ≤ length bytes → frame ≡ take (length_after h) bytes →
    id_length c h.type_ ≤ length frame → parts ≡ parts_of c o h frame → (split_after c o h bytes ≡ Ok parts) × (split_reads c o h bytes ≡ id_reads c o h frame)
split_made c o h bytes frame parts sized fits cut room are =
    let long : length frame ≡ length_after h = ap length cut ∙ length-take-le (length_after h) bytes fits in
    let whole : split_after c o h bytes ≡ Ok parts = split_whole c o h bytes sized fits (omega arith) ∙ ap Ok (sym (are ∙ ap (parts_of c o h) cut)) in
    (whole, ap (λ (r : Result FrameParts ErrorKind). elim r [ Ok parts ↦ id_reads c o h (take (length_after h) bytes) | Err e ↦ 0 ]) whole ∙ sym (ap (id_reads c o h) cut))
