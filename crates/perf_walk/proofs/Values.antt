-- The record in a frame, by the type that was read.
use Rattle.std.proofs.Common.{◌≡◌, ℕ, suc, ◌+◌, ◌-◌, ◌==◌, Bool, true, false, List, length, drop, refl, sym, ◌∙◌, ap, if◌then◌else◌}
use Rattle.std.specs.Prelude.{Option, Some, None, Result, Ok, Err, nat_lt}
use Rattle.std.proofs.lemmas.Bool.{eqb-true}
use Rattle.perf_base.specs.Configuration.{Configuration, under_misc}
use Rattle.perf_base.specs.Header.{header_of}
use Rattle.perf_base.specs.Layout.{Parts, done, part, check, map_parts, value, layout, spots, first_refusal, size, shape_value, slice}
use Rattle.perf_base.specs.Order.{Order}
use Rattle.perf_base.specs.declared.error.ErrorKind.{ErrorKind}
use Rattle.perf_base.specs.declared.error.ErrorKind.TheVariants.{Eof}
use Rattle.perf_base.specs.declared.sys.perf_event_header.{perf_event_header}
use Rattle.perf_flat.specs.Flat.{read_type}
use Rattle.perf_records.specs.Answers.{FrameParts, answer_of_frame, answer_after, record_in, split_after}
use Rattle.perf_records.specs.Bodies.{body, body_of_type}
use Rattle.perf_records.specs.Records.{RecordValue}
use Rattle.perf_records.specs.Records as records
use Rattle.perf_records.specs.Records.{type_of}
use Rattle.perf_records.specs.declared.record_type.RecordType.{RecordType}
use Rattle.perf_records.specs.declared.record_type.RecordType.TheVariants as type
use Rattle.perf_base.specs.FieldWords.{all_left}
use Rattle.perf_types.specs.Mmap.{mmap}
use Rattle.perf_types.specs.Numbers.{lost, exit, throttle, aux, itrace_start, lost_samples}
use Rattle.perf_types.specs.Numbers.{bpf_event, aux_output_hw_id}
use Rattle.perf_types.specs.Comm.{comm}
use Rattle.perf_types.specs.Read.{read}
use Rattle.perf_sample_types.specs.Sample.{sample}
use Rattle.perf_types.specs.Mmap2.{mmap2}
use Rattle.perf_types.specs.SwitchCpuWide.{switch_cpu_wide}
use Rattle.perf_types.specs.Namespaces.{namespaces}
use Rattle.perf_types.specs.KSymbol.{ksymbol}
use Rattle.perf_types.specs.CGroup.{cgroup}
use Rattle.perf_types.specs.TextPoke.{text_poke}
use Rattle.perf_walk.specs.Changes.{change_in}
use Rattle.perf_walk.specs.Samples.{sample_if}

-- the value of parts to which a function is applied
pub mapped_value : {A B : Type 0} (o : Order) (body : List ℕ) (s : ℕ) (f : A → B) (p : Parts A) → value o body s (map_parts f p) ≡ f (value o body s p)
mapped_value o body s f (done v) = refl
mapped_value o body s f (part shape k) =
    mapped_value o body (s + size shape (length body - s)) f (k (shape_value o shape (slice body s (size shape (length body - s)))))
mapped_value o body s f (check t e p) = mapped_value o body s f p

abbrev laid : {A : Type 0} → Option ErrorKind → A → Result A ErrorKind
laid r w = elim r [ None ↦ Ok w | Some e ↦ Err e ]

laid_value : {A : Type 0} (r : Option ErrorKind) (w v : A) → laid r w ≡ Ok v → v ≡ w
laid_value None w v e = cc
laid_value (Some k) w v e = absurd (cc)

-- the value of a layout
pub layout_value : {A : Type 0} (o : Order) (p : Parts A) (bytes : List ℕ) (v : A) → layout o p bytes ≡ Ok v → v ≡ value o bytes 0 p
layout_value o p bytes v e = laid_value (first_refusal (length bytes) (spots o bytes 0 p)) (value o bytes 0 p) v e

-- the record in a frame is the value of the layout of its type
record_value_in : (c : Configuration) (o : Order) (h : perf_event_header) (split : Result FrameParts ErrorKind) (v : RecordValue) → record_in c o h split ≡ Ok v
    → (bytes : List ℕ) × (v ≡ value o bytes 0 (body (under_misc h.misc c) h.type_))
record_value_in c o h (Ok parts) v e = (parts.body, layout_value o (body (under_misc h.misc c) h.type_) parts.body v e)
record_value_in c o h (Err k) v e = absurd (cc)

answer_value_if : (b : Bool) (c : Configuration) (o : Order) (h : perf_event_header) (after : List ℕ) (v : RecordValue) → (if b then Err Eof else answer_after c o h after) ≡ Ok v
    → (bytes : List ℕ) × (v ≡ value o bytes 0 (body (under_misc h.misc c) h.type_))
answer_value_if true c o h after v e = absurd (cc)
answer_value_if false c o h after v e = record_value_in c o h (split_after c o h after) v e

pub answer_value : (c : Configuration) (o : Order) (frame : List ℕ) (v : RecordValue) → answer_of_frame c o frame ≡ Ok v
    → (bytes : List ℕ) × (v ≡ value o bytes 0 (body (under_misc (header_of o frame).misc c) (header_of o frame).type_))
answer_value c o frame v e = answer_value_if (nat_lt (length frame) 8) c o (header_of o frame) (drop 8 frame) v e

-- ---- types

-- the type that is read is the type of the header, unless it is 0
read_if : (t : Option RecordType) (ty n : ℕ) → (elim t [ Some known ↦ ty | None ↦ 0 ]) ≡ suc n → ty ≡ suc n
read_if (Some known) ty n e = e
read_if None ty n e = absurd (cc)

pub read_is : (ty n : ℕ) → read_type ty ≡ suc n → ty ≡ suc n
read_is ty n e = read_if (type_of ty) ty n e

-- the number of each type
abbrev number_of : RecordType → ℕ
number_of type.Mmap = 1
number_of type.Lost = 2
number_of type.Comm = 3
number_of type.Exit = 4
number_of type.Throttle = 5
number_of type.Unthrottle = 6
number_of type.Fork = 7
number_of type.Read = 8
number_of type.Sample = 9
number_of type.Mmap2 = 10
number_of type.Aux = 11
number_of type.ITraceStart = 12
number_of type.LostSamples = 13
number_of type.Switch = 14
number_of type.SwitchCpuWide = 15
number_of type.Namespaces = 16
number_of type.KSymbol = 17
number_of type.BpfEvent = 18
number_of type.CGroup = 19
number_of type.TextPoke = 20
number_of type.AuxOutputHwId = 21

-- the number is that of the type, if there is one
abbrev IsTyped : ℕ → Option RecordType → Type 0
IsTyped ty (Some k) = ty ≡ number_of k
IsTyped ty None = Unit {0}

typed_if : (b : Bool) (ty : ℕ) (k : RecordType) (rest : Option RecordType) → (b ≡ true → ty ≡ number_of k) → IsTyped ty rest → IsTyped ty (if b then Some k else rest)
typed_if true ty k rest is others = is refl
typed_if false ty k rest is others = others

typed : (ty : ℕ) → IsTyped ty (type_of ty)
typed ty =
    typed_if (ty == 1) ty type.Mmap _ (eqb-true ty 1)
    (typed_if (ty == 2) ty type.Lost _ (eqb-true ty 2)
    (typed_if (ty == 3) ty type.Comm _ (eqb-true ty 3)
    (typed_if (ty == 4) ty type.Exit _ (eqb-true ty 4)
    (typed_if (ty == 5) ty type.Throttle _ (eqb-true ty 5)
    (typed_if (ty == 6) ty type.Unthrottle _ (eqb-true ty 6)
    (typed_if (ty == 7) ty type.Fork _ (eqb-true ty 7)
    (typed_if (ty == 8) ty type.Read _ (eqb-true ty 8)
    (typed_if (ty == 9) ty type.Sample _ (eqb-true ty 9)
    (typed_if (ty == 10) ty type.Mmap2 _ (eqb-true ty 10)
    (typed_if (ty == 11) ty type.Aux _ (eqb-true ty 11)
    (typed_if (ty == 12) ty type.ITraceStart _ (eqb-true ty 12)
    (typed_if (ty == 13) ty type.LostSamples _ (eqb-true ty 13)
    (typed_if (ty == 14) ty type.Switch _ (eqb-true ty 14)
    (typed_if (ty == 15) ty type.SwitchCpuWide _ (eqb-true ty 15)
    (typed_if (ty == 16) ty type.Namespaces _ (eqb-true ty 16)
    (typed_if (ty == 17) ty type.KSymbol _ (eqb-true ty 17)
    (typed_if (ty == 18) ty type.BpfEvent _ (eqb-true ty 18)
    (typed_if (ty == 19) ty type.CGroup _ (eqb-true ty 19)
    (typed_if (ty == 20) ty type.TextPoke _ (eqb-true ty 20)
    (typed_if (ty == 21) ty type.AuxOutputHwId _ (eqb-true ty 21) tt))))))))))))))))))))

-- the number of the type of a record, 0 if it is unknown
abbrev pub kind_of : RecordValue → ℕ
kind_of (records.mmap_is r) = 1
kind_of (records.lost_is r) = 2
kind_of (records.comm_is r) = 3
kind_of (records.exit_is r) = 4
kind_of (records.throttle_is r) = 5
kind_of (records.unthrottle_is r) = 6
kind_of (records.fork_is r) = 7
kind_of (records.read_is r) = 8
kind_of (records.sample_is r) = 9
kind_of (records.mmap2_is r) = 10
kind_of (records.aux_is r) = 11
kind_of (records.itrace_start_is r) = 12
kind_of (records.lost_samples_is r) = 13
kind_of records.switch_is = 14
kind_of (records.switch_cpu_wide_is r) = 15
kind_of (records.namespaces_is r) = 16
kind_of (records.ksymbol_is r) = 17
kind_of (records.bpf_event_is r) = 18
kind_of (records.cgroup_is r) = 19
kind_of (records.text_poke_is r) = 20
kind_of (records.aux_output_hw_id_is r) = 21
kind_of (records.unknown_is ty bytes) = 0

mapped_kind : {A : Type 0} (o : Order) (bytes : List ℕ) (f : A → RecordValue) (n : ℕ) → ((a : A) → kind_of (f a) ≡ n) → (p : Parts A) → kind_of (value o bytes 0 (map_parts f p)) ≡ n
mapped_kind o bytes f n is p = ap kind_of (mapped_value o bytes 0 f p) ∙ is (value o bytes 0 p)

value_kind : (c : Configuration) (o : Order) (bytes : List ℕ) (ty : ℕ) (t : Option RecordType) → IsTyped ty t
    → kind_of (value o bytes 0 (body_of_type c ty t)) ≡ (elim t [ Some known ↦ ty | None ↦ 0 ])
value_kind c o bytes ty (Some type.Mmap) is = mapped_kind o bytes records.mmap_is 1 (λ _. refl) mmap ∙ sym is
value_kind c o bytes ty (Some type.Lost) is = mapped_kind o bytes records.lost_is 2 (λ _. refl) lost ∙ sym is
value_kind c o bytes ty (Some type.Comm) is = mapped_kind o bytes records.comm_is 3 (λ _. refl) comm ∙ sym is
value_kind c o bytes ty (Some type.Exit) is = mapped_kind o bytes records.exit_is 4 (λ _. refl) exit ∙ sym is
value_kind c o bytes ty (Some type.Throttle) is = mapped_kind o bytes records.throttle_is 5 (λ _. refl) throttle ∙ sym is
value_kind c o bytes ty (Some type.Unthrottle) is = mapped_kind o bytes records.unthrottle_is 6 (λ _. refl) throttle ∙ sym is
value_kind c o bytes ty (Some type.Fork) is = mapped_kind o bytes records.fork_is 7 (λ _. refl) exit ∙ sym is
value_kind c o bytes ty (Some type.Read) is = mapped_kind o bytes records.read_is 8 (λ _. refl) (read c) ∙ sym is
value_kind c o bytes ty (Some type.Sample) is = mapped_kind o bytes records.sample_is 9 (λ _. refl) (sample c) ∙ sym is
value_kind c o bytes ty (Some type.Mmap2) is = mapped_kind o bytes records.mmap2_is 10 (λ _. refl) (mmap2 c) ∙ sym is
value_kind c o bytes ty (Some type.Aux) is = mapped_kind o bytes records.aux_is 11 (λ _. refl) aux ∙ sym is
value_kind c o bytes ty (Some type.ITraceStart) is = mapped_kind o bytes records.itrace_start_is 12 (λ _. refl) itrace_start ∙ sym is
value_kind c o bytes ty (Some type.LostSamples) is = mapped_kind o bytes records.lost_samples_is 13 (λ _. refl) lost_samples ∙ sym is
value_kind c o bytes ty (Some type.Switch) is = sym is
value_kind c o bytes ty (Some type.SwitchCpuWide) is = mapped_kind o bytes records.switch_cpu_wide_is 15 (λ _. refl) (switch_cpu_wide c) ∙ sym is
value_kind c o bytes ty (Some type.Namespaces) is = mapped_kind o bytes records.namespaces_is 16 (λ _. refl) namespaces ∙ sym is
value_kind c o bytes ty (Some type.KSymbol) is = mapped_kind o bytes records.ksymbol_is 17 (λ _. refl) ksymbol ∙ sym is
value_kind c o bytes ty (Some type.BpfEvent) is = mapped_kind o bytes records.bpf_event_is 18 (λ _. refl) bpf_event ∙ sym is
value_kind c o bytes ty (Some type.CGroup) is = mapped_kind o bytes records.cgroup_is 19 (λ _. refl) cgroup ∙ sym is
value_kind c o bytes ty (Some type.TextPoke) is = mapped_kind o bytes records.text_poke_is 20 (λ _. refl) text_poke ∙ sym is
value_kind c o bytes ty (Some type.AuxOutputHwId) is = mapped_kind o bytes records.aux_output_hw_id_is 21 (λ _. refl) aux_output_hw_id ∙ sym is
value_kind c o bytes ty None is = mapped_kind o bytes (records.unknown_is ty) 0 (λ _. refl) all_left

-- the type of the record in a body is the one that was read
pub body_kind : (c : Configuration) (o : Order) (bytes : List ℕ) (ty : ℕ) → kind_of (value o bytes 0 (body c ty)) ≡ read_type ty
body_kind c o bytes ty = value_kind c o bytes ty (type_of ty) (typed ty)

-- the type is none of those that state something about threads and memory
pub record IsOther (n : ℕ) : Type 0 where
  pub mmap : n ≡ 1 → ⊥
  pub comm : n ≡ 3 → ⊥
  pub fork : n ≡ 7 → ⊥
  pub mmap2 : n ≡ 10 → ⊥
  pub ksymbol : n ≡ 17 → ⊥

pub no_change : (misc : ℕ) (v : RecordValue) → IsOther (kind_of v) → change_in misc v ≡ None
no_change misc (records.mmap_is r) n = absurd (n.mmap refl)
no_change misc (records.comm_is r) n = absurd (n.comm refl)
no_change misc (records.fork_is r) n = absurd (n.fork refl)
no_change misc (records.mmap2_is r) n = absurd (n.mmap2 refl)
no_change misc (records.ksymbol_is r) n = absurd (n.ksymbol refl)
no_change misc _ n = refl

-- another type is no sample
pub no_sample : (v : RecordValue) → (kind_of v ≡ 9 → ⊥) → sample_if (Ok v) ≡ None
no_sample (records.sample_is s) n = absurd (n refl)
no_sample _ n = refl
