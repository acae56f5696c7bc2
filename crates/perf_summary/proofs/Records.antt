-- What a flat frame states of a record, in the numbers that are counted.
use Rattle.std.proofs.Common.{◌≡◌, ℕ, ◌≤◌, ◌<◌, ◌==◌, Bool, true, false, not, List, length, Option, Some, None, refl, sym, ◌∙◌, ap, subst, arith}
use Rattle.std.specs.Prelude.{Result, Ok, Err, is_ok, is_none, option_map, option_and_then}
use Rattle.std.specs.Result.{result_ok}
use Rattle.perf_base.specs.Attribute.{or_zero}
use Rattle.perf_base.specs.Configuration.{Configuration, under_misc}
use Rattle.perf_base.specs.Layout.{Parts, done, part, check, map_parts, value, layout}
use Rattle.perf_base.specs.Order.{Order}
use Rattle.perf_base.specs.Refusals.{refusal_kind}
use Rattle.perf_base.specs.declared.error.ErrorKind.{ErrorKind}
use Rattle.perf_base.specs.declared.error.ErrorKind.TheVariants as kind
use Rattle.perf_base.specs.declared.refusal.Refusal.{Refusal}
use Rattle.perf_base.specs.declared.sys.perf_event_header.{perf_event_header}
use Rattle.perf_records.specs.Answers.{FrameParts, answer_after, record_in, length_after, split_after}
use Rattle.perf_records.specs.Bodies.{body, body_of_type}
use Rattle.perf_records.specs.FrameEnds.{TakesId}
use Rattle.perf_records.specs.Metadata.{id_length, id_of_type}
use Rattle.perf_records.specs.Records as records
use Rattle.perf_records.specs.Records.{RecordValue}
use Rattle.perf_records.specs.Records.{type_of}
use Rattle.perf_records.specs.Sights.{Sight, whole, bad}
use Rattle.perf_records.specs.declared.frame_end.FrameEnd.{FrameEnd}
use Rattle.perf_records.specs.declared.record_type.RecordType.{RecordType}
use Rattle.perf_records.specs.declared.record_type.RecordType.TheVariants as type
use Rattle.perf_records.proofs.Splits.{split_no_room}
use Rattle.perf_base.specs.FieldWords.{all_left}
use Rattle.perf_types.specs.Mmap.{mmap}
use Rattle.perf_types.specs.Numbers.{lost, exit, throttle, aux, itrace_start, lost_samples, bpf_event, aux_output_hw_id}
use Rattle.perf_types.specs.Comm.{comm}
use Rattle.perf_types.specs.declared.numbers.Lost.{Lost}
use Rattle.perf_types.specs.declared.numbers.LostSamples.{LostSamples}
use Rattle.perf_types.specs.Read.{read}
use Rattle.perf_types.specs.Mmap2.{mmap2}
use Rattle.perf_types.specs.SwitchCpuWide.{switch_cpu_wide}
use Rattle.perf_types.specs.Namespaces.{namespaces}
use Rattle.perf_types.specs.KSymbol.{ksymbol}
use Rattle.perf_types.specs.CGroup.{cgroup}
use Rattle.perf_types.specs.TextPoke.{text_poke}
use Rattle.perf_sample_types.specs.Sample.{SampleValue, sample}
use Rattle.perf_flat.specs.Arrays.{filled}
use Rattle.perf_flat.specs.Flat.{numbers_under, kind_code}
use Rattle.perf_flat.specs.FlatBodies.{StatesBody}
use Rattle.perf_flat.specs.declared.frame.FlatFrame.{FlatFrame}
use Rattle.perf_flat.proofs.FrameAnswers.{room_split}
use Rattle.perf_file.specs.declared.owning.Owner.{Owner}
use Rattle.perf_file.specs.declared.owning.Owner.TheVariants as owner
use Rattle.perf_summary.specs.Contents.{numbers_of, numbers_by, numbers_or_none, own_numbers, own_period, lost_in, Reads, AreNumbersBy}

-- ---- the record of a type

value_mapped : {A B : Type 0} (o : Order) (bytes : List ℕ) (f : A → B) (p : Parts A) (s : ℕ) → value o bytes s (map_parts f p) ≡ f (value o bytes s p)
value_mapped o bytes f (done v) s = refl
value_mapped o bytes f (part shape k) s = value_mapped o bytes f (k _) _
value_mapped o bytes f (check t e p) s = value_mapped o bytes f p s

is_value : {A : Type 0} (r : Option ErrorKind) (v w : A) → ◌≡◌ {A = Result A ErrorKind} (elim r [ None ↦ Ok v | Some e ↦ Err e ]) (Ok w) → w ≡ v
is_value None v w e = cc
is_value (Some x) v w e = absurd (cc)

layout_value : {A : Type 0} (o : Order) (p : Parts A) (bytes : List ℕ) (v : A) → layout o p bytes ≡ Ok v → v ≡ value o bytes 0 p
layout_value o p bytes v e = is_value _ (value o bytes 0 p) v e

mapped : {A B : Type 0} (o : Order) (f : A → B) (p : Parts A) (bytes : List ℕ) (v : B) → layout o (map_parts f p) bytes ≡ Ok v → v ≡ f (value o bytes 0 p)
mapped o f p bytes v e = layout_value o (map_parts f p) bytes v e ∙ value_mapped o bytes f p 0

sample_numbers_are : (format : ℕ) (s : SampleValue) → numbers_by (Some type.Sample) (filled (numbers_under format (records.sample_is s))) ≡ numbers_of (records.sample_is s)
unfolding filled
sample_numbers_are format s = refl

lost_numbers_are : (format : ℕ) (r : Lost) → numbers_by (Some type.Lost) (filled (numbers_under format (records.lost_is r))) ≡ numbers_of (records.lost_is r)
unfolding filled
lost_numbers_are format r = refl

lost_samples_are : (format : ℕ) (r : LostSamples) → numbers_by (Some type.LostSamples) (filled (numbers_under format (records.lost_samples_is r))) ≡ numbers_of (records.lost_samples_is r)
unfolding filled
lost_samples_are format r = refl

-- the numbers that are counted are among those of the flat frame
pub numbers_agree : (c : Configuration) (o : Order) (ty : ℕ) (bytes : List ℕ) (format : ℕ) (kind : Option RecordType) (v : RecordValue) →
    layout o (body_of_type c ty kind) bytes ≡ Ok v → numbers_by kind (filled (numbers_under format v)) ≡ numbers_of v
numbers_agree c o ty bytes format (Some type.Sample) v e =
    subst (λ r. numbers_by (Some type.Sample) (filled (numbers_under format r)) ≡ numbers_of r) (sym (mapped o records.sample_is (sample c) bytes v e)) (sample_numbers_are format (value o bytes 0 (sample c)))
numbers_agree c o ty bytes format (Some type.Lost) v e =
    subst (λ r. numbers_by (Some type.Lost) (filled (numbers_under format r)) ≡ numbers_of r) (sym (mapped o records.lost_is lost bytes v e)) (lost_numbers_are format (value o bytes 0 lost))
numbers_agree c o ty bytes format (Some type.LostSamples) v e =
    subst (λ r. numbers_by (Some type.LostSamples) (filled (numbers_under format r)) ≡ numbers_of r) (sym (mapped o records.lost_samples_is lost_samples bytes v e)) (lost_samples_are format (value o bytes 0 lost_samples))
numbers_agree c o ty bytes format (Some type.Mmap) v e = sym (ap numbers_of (mapped o records.mmap_is mmap bytes v e))
numbers_agree c o ty bytes format (Some type.Comm) v e = sym (ap numbers_of (mapped o records.comm_is comm bytes v e))
numbers_agree c o ty bytes format (Some type.Exit) v e = sym (ap numbers_of (mapped o records.exit_is exit bytes v e))
numbers_agree c o ty bytes format (Some type.Throttle) v e = sym (ap numbers_of (mapped o records.throttle_is throttle bytes v e))
numbers_agree c o ty bytes format (Some type.Unthrottle) v e = sym (ap numbers_of (mapped o records.unthrottle_is throttle bytes v e))
numbers_agree c o ty bytes format (Some type.Fork) v e = sym (ap numbers_of (mapped o records.fork_is exit bytes v e))
numbers_agree c o ty bytes format (Some type.Read) v e = sym (ap numbers_of (mapped o records.read_is (read c) bytes v e))
numbers_agree c o ty bytes format (Some type.Mmap2) v e = sym (ap numbers_of (mapped o records.mmap2_is (mmap2 c) bytes v e))
numbers_agree c o ty bytes format (Some type.Aux) v e = sym (ap numbers_of (mapped o records.aux_is aux bytes v e))
numbers_agree c o ty bytes format (Some type.ITraceStart) v e = sym (ap numbers_of (mapped o records.itrace_start_is itrace_start bytes v e))
numbers_agree c o ty bytes format (Some type.Switch) v e = sym (ap numbers_of (layout_value o (done records.switch_is) bytes v e))
numbers_agree c o ty bytes format (Some type.SwitchCpuWide) v e = sym (ap numbers_of (mapped o records.switch_cpu_wide_is (switch_cpu_wide c) bytes v e))
numbers_agree c o ty bytes format (Some type.Namespaces) v e = sym (ap numbers_of (mapped o records.namespaces_is namespaces bytes v e))
numbers_agree c o ty bytes format (Some type.KSymbol) v e = sym (ap numbers_of (mapped o records.ksymbol_is ksymbol bytes v e))
numbers_agree c o ty bytes format (Some type.BpfEvent) v e = sym (ap numbers_of (mapped o records.bpf_event_is bpf_event bytes v e))
numbers_agree c o ty bytes format (Some type.CGroup) v e = sym (ap numbers_of (mapped o records.cgroup_is cgroup bytes v e))
numbers_agree c o ty bytes format (Some type.TextPoke) v e = sym (ap numbers_of (mapped o records.text_poke_is text_poke bytes v e))
numbers_agree c o ty bytes format (Some type.AuxOutputHwId) v e = sym (ap numbers_of (mapped o records.aux_output_hw_id_is aux_output_hw_id bytes v e))
numbers_agree c o ty bytes format None v e = sym (ap numbers_of (mapped o (records.unknown_is ty) all_left bytes v e))

-- ---- the record of a frame

-- a refusal has a code
coded : (e : ErrorKind) → (kind_code e == 0) ≡ false
coded kind.Eof = refl
coded kind.InvalidRecord = refl
coded kind.UnsupportedConfig = refl
coded kind.UnsupportedData = refl
coded kind.External = refl
coded kind.OutOfMemory = refl

-- what a flat frame states of a body
pub body_reads : (c : Configuration) (o : Order) (h : perf_event_header) (frame : List ℕ) (answer : Result RecordValue ErrorKind) (f : FlatFrame) → StatesBody c o h frame answer f → Reads c.read_format answer (f.refusal == 0) f
body_reads c o h frame (Ok r) f says = subst (λ b. Reads c.read_format (Ok r) b f) (sym (ap (λ n. n == 0) says.0.refusal)) (r, refl, says.0.numbers)
body_reads c o h frame (Err e) f says =
    let zero_not : (f.refusal == 0) ≡ false = ap (λ (x : FlatFrame). x.refusal == 0) says.2 ∙ coded (refusal_kind says.0) in
    subst (λ b. Reads c.read_format (Err e) b f) (sym zero_not) refl

-- the answer to a frame is the record in its body
pub answer_body : (c : Configuration) (o : Order) (h : perf_event_header) (bytes : List ℕ) (end : FrameEnd) → 8 ≤ h.size → length bytes ≡ length_after h →
    TakesId o (id_length c h.type_) (id_of_type c h.type_) bytes end → answer_after c o h bytes ≡ layout o (body (under_misc h.misc c) h.type_) end.body.now
answer_body c o h bytes end sized long takes =
    ap (record_in c o h) (room_split c o h bytes sized long takes.room)
    ∙ ap (layout o (body (under_misc h.misc c) h.type_)) (sym takes.body)

-- a frame that has no room for its sample id
pub answer_none : (c : Configuration) (o : Order) (h : perf_event_header) (bytes : List ℕ) → 8 ≤ h.size → length bytes ≡ length_after h → length bytes < id_length c h.type_ → is_ok (answer_after c o h bytes) ≡ false
answer_none c o h bytes sized long little =
    ap (λ s. is_ok (record_in c o h s)) (split_no_room c o h bytes sized (omega (arith, long)) (omega (arith, long, little)))

-- the numbers of the record in it
numbers_answered : (c : Configuration) (o : Order) (h : perf_event_header) (split : Result FrameParts ErrorKind) (r : RecordValue) (format : ℕ) → record_in c o h split ≡ Ok r → numbers_by (type_of h.type_) (filled (numbers_under format r)) ≡ numbers_of r
numbers_answered c o h (Ok parts) r format e = numbers_agree (under_misc h.misc c) o h.type_ parts.body format (type_of h.type_) r e
numbers_answered c o h (Err x) r format e = absurd (cc)

pub numbers_read : (c : Configuration) (o : Order) (h : perf_event_header) (bytes : List ℕ) (f : FlatFrame) → Reads c.read_format (answer_after c o h bytes) true f →
    Some (numbers_by (type_of h.type_) f.numbers) ≡ option_map numbers_of (result_ok (answer_after c o h bytes))
numbers_read c o h bytes f (r, e, n) =
    ap (λ ns. Some (numbers_by (type_of h.type_) ns)) n
    ∙ ap (λ k. Some k) (numbers_answered c o h (split_after c o h bytes) r c.read_format e)
    ∙ sym (ap (λ a. option_map numbers_of (result_ok a)) e)

numbers_refused_by : (a : Result RecordValue ErrorKind) → is_ok a ≡ false → None ≡ option_map numbers_of (result_ok a)
numbers_refused_by (Ok r) e = absurd (cc)
numbers_refused_by (Err x) e = refl

pub numbers_refused : (c : Configuration) (o : Order) (h : perf_event_header) (bytes : List ℕ) → is_ok (answer_after c o h bytes) ≡ false → None ≡ option_map numbers_of (result_ok (answer_after c o h bytes))
numbers_refused c o h bytes e = numbers_refused_by (answer_after c o h bytes) e

-- ---- what is found where a frame begins

pub no_payload : (k : Option Configuration) (o : Order) (who : Owner) (s : Sight) → AreNumbersBy false k o who s None
no_payload k o who s = record { refused = refl; period = refl; lost = refl }

pub no_frame : (b : Bool) (k : Option Configuration) (o : Order) (who : Owner) (h : perf_event_header) (e : Refusal) → AreNumbersBy b k o who (bad h e) None
no_frame true (Some c) o who h e = record { refused = refl; period = refl; lost = refl }
no_frame true None o who h e = record { refused = refl; period = refl; lost = refl }
no_frame false (Some c) o who h e = record { refused = refl; period = refl; lost = refl }
no_frame false None o who h e = record { refused = refl; period = refl; lost = refl }

refused_by : (a : Result RecordValue ErrorKind) → is_none (option_map numbers_of (result_ok a)) ≡ not (is_ok a)
refused_by (Ok r) = refl
refused_by (Err e) = refl

period_read : (a : Result RecordValue ErrorKind) → (numbers_or_none (option_map numbers_of (result_ok a))).period ≡ option_and_then own_period (result_ok a)
period_read (Ok r) = refl
period_read (Err e) = refl

lost_read : (a : Result RecordValue ErrorKind) → (numbers_or_none (option_map numbers_of (result_ok a))).lost ≡ or_zero (option_map lost_in (result_ok a))
lost_read (Ok r) = refl
lost_read (Err e) = refl

pub read_under : (c : Configuration) (o : Order) (who : Owner) (h : perf_event_header) (bytes : List ℕ) (borrowed : Bool) →
    AreNumbersBy true (Some c) o who (whole h bytes borrowed) (option_map numbers_of (result_ok (answer_after c o h bytes)))
read_under c o who h bytes borrowed =
    let a = answer_after c o h bytes in
    record { refused = refused_by a; period = period_read a; lost = lost_read a }

pub read_own : (o : Order) (who : Owner) (h : perf_event_header) (bytes : List ℕ) (borrowed : Bool) → AreNumbersBy true None o who (whole h bytes borrowed) (own_numbers who)
read_own o (owner.Event n) h bytes borrowed = record { refused = refl; period = refl; lost = refl }
read_own o owner.Perf h bytes borrowed = record { refused = refl; period = refl; lost = refl }
read_own o (owner.Unknown id) h bytes borrowed = record { refused = refl; period = refl; lost = refl }
read_own o owner.Short h bytes borrowed = record { refused = refl; period = refl; lost = refl }
