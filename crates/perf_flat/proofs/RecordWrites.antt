-- Records whose lists were passed over.
use Rattle.std.specs.Prelude.{if◌then◌else◌}
use Rattle.std.proofs.Common.{◌≡◌, ℕ, true, false, zero, suc, ◌+◌, ◌*◌, List, [], ◌∷◌, length, Option, Some, None, Ok, Err, refl, sym, ◌∙◌, ap, subst, arith}
use Rattle.perf_base.specs.Configuration.{Configuration}
use Rattle.perf_base.specs.FieldWords.{u32, u64, numbers}
use Rattle.perf_base.specs.Layout.{Parts, Width, part, number, done, map_parts, layout, ◌>>=◌}
use Rattle.perf_base.specs.Order.{Order}
use Rattle.perf_base.specs.Refusals.{refusal_kind}
use Rattle.perf_base.specs.declared.refusal.Refusal.{Refusal}
use Rattle.perf_base.specs.declared.sys.perf_event_header.{perf_event_header}
use Rattle.perf_base.specs.Misc.{build_id_bit}
use Rattle.perf_types.specs.MmapDetail.{DetailValue, inode, build_id, mmap_detail, maj_of, min_of, ino_of, ino_generation_of}
use Rattle.perf_types.specs.Namespaces.{namespaces, namespace_entries}
use Rattle.perf_words.specs.Bits.{has_bit}
use Rattle.perf_flat.specs.BodyReads.{IsDetail}
use Rattle.perf_base.specs.Attribute.{or_zero}
use Rattle.perf_flat.specs.declared.bodies.Detail.{Detail}
use Rattle.perf_records.specs.Records.{RecordValue, namespaces_is}
use Rattle.perf_sample_types.specs.SampleId.{SampleIdValue}
use Rattle.perf_flat.specs.Arrays.{filled, filled_spans}
use Rattle.perf_flat.specs.Flat.{CarriesNumbers, StatesId, HasHeader, read_type, present_of, format_of}
use Rattle.perf_flat.specs.CursorReads.{IsBodyOf, ReadsParts, ReadsFor, SameHead, HoldsRecord, WritesRecord, TakesRecord}
use Rattle.perf_flat.specs.Spans.{HasSpans}
use Rattle.perf_flat.specs.Strings.{HasNumbers}
use Rattle.perf_flat.specs.declared.frame.FlatFrame.{FlatFrame}
use Rattle.perf_flat.specs.declared.frame.Span.{Span}
use Rattle.perf_flat.specs.declared.cursor.BodyCursor.{BodyCursor}
use Rattle.perf_flat.proofs.CursorRuns.{then_reads, all_read, layout_read, layout_refused}
use Rattle.perf_flat.proofs.Spans.{none_after, first_of_one}

-- ---- a whole body

-- the contents were written, if nothing was refused
pub placed : (c : Configuration) (o : Order) (p : Parts RecordValue) (body : List ℕ) (value : RecordValue) (a b : BodyCursor) (old new : FlatFrame) →
    a.bytes.now ≡ body → a.at ≡ 0 → a.refusal ≡ None → ReadsParts o p value a b → (b.refusal ≡ None → HoldsRecord c o body value old new) → WritesRecord c o p body old b.refusal new
unfolding WritesRecord
placed c o p body value a b old new same front fresh reads holds = go b.refusal refl
  where
    go : (r : Option Refusal) → b.refusal ≡ r → WritesRecord c o p body old r new
    go None ok = (value, subst (λ xs. layout o p xs ≡ Ok value) same (layout_read o p value a b front fresh reads ok), holds ok)
    go (Some e) refused = subst (λ xs. layout o p xs ≡ Err (refusal_kind e)) same (layout_refused o p value a b e front fresh reads refused)

-- ---- what is written to a flat frame

-- its header stays
pub still_headed : (h : perf_event_header) (old new : FlatFrame) → SameHead old new → HasHeader h old → HasHeader h new
still_headed h old new head headed = record {
  type_ = head.type_ ∙ headed.type_;
  misc = head.misc ∙ headed.misc;
  size = head.size ∙ headed.size;
}

-- what it states besides its spans, once its contents are written
pub now_carries : (c : Configuration) (own ids : SampleIdValue) (before all : List ℕ) (old new : FlatFrame) → SameHead old new → CarriesNumbers c own before old → StatesId ids new → new.numbers ≡ all → CarriesNumbers c ids all new
now_carries c own ids before all old new head carries states numbers = record {
  read = head.read ∙ carries.read ∙ ap read_type (sym head.type_);
  refusal = head.refusal ∙ carries.refusal;
  reason = head.reason ∙ carries.reason;
  present = head.present ∙ carries.present ∙ ap (present_of c) (sym head.type_);
  read_format = head.read_format ∙ carries.read_format ∙ ap (format_of c) (sym head.type_);
  id = states;
  numbers = numbers;
}

-- what a flat frame has of a sample id stays, if only its numbers and spans are others
same_ids : (own : SampleIdValue) (old : FlatFrame) (words : List ℕ) (places : List Span) → StatesId own old → StatesId own (record old { numbers = words; spans = places })
same_ids own old words places states = record {
  pid = states.pid;
  tid = states.tid;
  time = states.time;
  id = states.id;
  stream_id = states.stream_id;
  cpu = states.cpu;
}

-- what was read of a body from its beginning
pub taken_placed : (c : Configuration) (o : Order) (p : Parts RecordValue) (value : RecordValue) (body numbers words : List ℕ) (spans places : List Span) (end : BodyCursor) (old : FlatFrame) →
    TakesRecord c o p value body numbers spans end → words ≡ filled numbers → places ≡ filled_spans spans → WritesRecord c o p body old end.refusal (record old { numbers = words; spans = places })
taken_placed c o p value body numbers words spans places end old taken are there =
    placed c o p body value taken.start end old (record old { numbers = words; spans = places }) taken.whole taken.front taken.fresh taken.reads (λ ok. record {
      numbers = are ∙ ap filled (taken.words ok);
      spans = λ frame is. subst (λ xs. HasSpans c.read_format o frame xs value) (sym there) (taken.there ok frame (subst (IsBodyOf frame) (sym (taken.reads.bytes ∙ taken.whole)) is));
      ids = λ own states. subst (λ ids. StatesId ids (record old { numbers = words; spans = places })) (sym (taken.ids own)) (same_ids own old words places states);
      head = record { type_ = refl; misc = refl; size = refl; read = refl; refusal = refl; reason = refl; present = refl; read_format = refl };
    })

-- ---- one part after another

pub next_number : {A : Type 0} {o : Order} {w : Width} {k : ℕ → Parts A} {a b d : BodyCursor} {n : ℕ} {v : A} → ReadsParts o (part (number w) done) n a b → ReadsParts o (k n) v b d → ReadsParts o (part (number w) k) v a d
next_number {A} {o} {w} {k} {a} {b} {d} {n} {v} one rest = then_reads (part (number w) done) k one rest

-- ---- MMAP2

pub detail_there : {o : Order} {body : List ℕ} {made : Detail} {a b : BodyCursor} (c : Configuration) → has_bit c.misc build_id_bit ≡ true → ReadsFor o build_id (λ d. IsDetail body d made) a b →
    ReadsFor o (mmap_detail c) (λ d. IsDetail body d made) a b
detail_there {o} {body} {made} {a} {b} c is reads = subst (λ t. ReadsFor o (if t then build_id else inode) (λ d. IsDetail body d made) a b) (sym is) reads

pub detail_absent : {o : Order} {body : List ℕ} {made : Detail} {a b : BodyCursor} (c : Configuration) → has_bit c.misc build_id_bit ≡ false → ReadsFor o inode (λ d. IsDetail body d made) a b →
    ReadsFor o (mmap_detail c) (λ d. IsDetail body d made) a b
detail_absent {o} {body} {made} {a} {b} c is reads = subst (λ t. ReadsFor o (if t then build_id else inode) (λ d. IsDetail body d made) a b) (sym is) reads

-- its numbers, after others
pub detail_words : {pid tid addr len pgoff prot flags : ℕ} {body : List ℕ} {d : DetailValue} {made : Detail} → IsDetail body d made →
    pid ∷ tid ∷ addr ∷ len ∷ pgoff ∷ prot ∷ flags ∷ made.maj ∷ made.min ∷ made.ino ∷ made.ino_generation ∷ []
    ≡ pid ∷ tid ∷ addr ∷ len ∷ pgoff ∷ prot ∷ flags ∷ or_zero (maj_of d) ∷ or_zero (min_of d) ∷ or_zero (ino_of d) ∷ or_zero (ino_generation_of d) ∷ []
detail_words {pid} {tid} {addr} {len} {pgoff} {prot} {flags} {body} {d} {made} is =
    ap (λ n. pid ∷ tid ∷ addr ∷ len ∷ pgoff ∷ prot ∷ flags ∷ n ∷ made.min ∷ made.ino ∷ made.ino_generation ∷ []) is.maj
    ∙ ap (λ n. pid ∷ tid ∷ addr ∷ len ∷ pgoff ∷ prot ∷ flags ∷ or_zero (maj_of d) ∷ n ∷ made.ino ∷ made.ino_generation ∷ []) is.min
    ∙ ap (λ n. pid ∷ tid ∷ addr ∷ len ∷ pgoff ∷ prot ∷ flags ∷ or_zero (maj_of d) ∷ or_zero (min_of d) ∷ n ∷ made.ino_generation ∷ []) is.ino
    ∙ ap (λ n. pid ∷ tid ∷ addr ∷ len ∷ pgoff ∷ prot ∷ flags ∷ or_zero (maj_of d) ∷ or_zero (min_of d) ∷ or_zero (ino_of d) ∷ n ∷ []) is.ino_generation

-- ---- NAMESPACES

-- two for each entry
entries_long : (n : ℕ) (xs : List ℕ) → length xs ≡ n + n → length (namespace_entries xs) ≡ n
entries_long zero [] e = refl
entries_long zero (x ∷ xs) e = absurd (omega arith)
entries_long (suc n) [] e = absurd (omega arith)
entries_long (suc n) (x ∷ []) e = absurd (omega arith)
entries_long (suc n) (x ∷ y ∷ xs) e = ap suc (entries_long n xs (omega arith))

-- the record of these numbers
abbrev pub task_namespaces : (pid tid : ℕ) → List ℕ → RecordValue
task_namespaces pid tid words = namespaces_is (record { pid = pid; tid = tid; namespaces = namespace_entries words })

pub namespaces_read : (o : Order) (pid tid count : ℕ) (words : List ℕ) (a b d e f : BodyCursor) → ReadsParts o u32 pid a b → ReadsParts o u32 tid b d → ReadsParts o u64 count d e → ReadsParts o (numbers (2 * count)) words e f →
    ReadsParts o (map_parts namespaces_is namespaces) (task_namespaces pid tid words) a f
namespaces_read o pid tid count words a b d e f one two three four =
    then_reads u32 (λ pid. u32 >>= λ tid. (u64 >>= λ count. (numbers (2 * count) >>= λ words. done (task_namespaces pid tid words)))) one
    (then_reads u32 (λ tid. u64 >>= λ count. (numbers (2 * count) >>= λ words. done (task_namespaces pid tid words))) two
    (then_reads u64 (λ count. numbers (2 * count) >>= λ words. done (task_namespaces pid tid words)) three
    (then_reads (numbers (2 * count)) (λ words. done (task_namespaces pid tid words)) four all_read)))

-- as many as its count
pub entries_counted : (count : ℕ) (words : List ℕ) → length words ≡ 2 * count → length (namespace_entries words) ≡ count
entries_counted count words many = entries_long count words (omega arith)

-- its list is in the frame
pub entries_there : (c : Configuration) (o : Order) (frame : List ℕ) (s : Span) (pid tid count : ℕ) (words : List ℕ) → length words ≡ 2 * count → HasNumbers o frame s (2 * count) (λ are. are ≡ words) →
    HasSpans c.read_format o frame (filled_spans (s ∷ [])) (task_namespaces pid tid words)
entries_there c o frame s pid tid count words long has =
    let there : HasNumbers o frame s (2 * length (namespace_entries words)) (λ are. namespace_entries are ≡ namespace_entries words) =
    subst (λ n. HasNumbers o frame s (2 * n) (λ are. namespace_entries are ≡ namespace_entries words)) (sym (entries_counted count words long))
    (record { inside = has.inside; many = has.many; there = ap namespace_entries has.there }) in
    (subst (λ x. HasNumbers o frame x (2 * length (namespace_entries words)) (λ are. namespace_entries are ≡ namespace_entries words)) (sym (first_of_one s)) there, none_after (s ∷ []) 1 refl)
