-- A sample that was read in place states what its value is.
use Rattle.std.proofs.Common.{◌≡◌, ℕ, List, [], ◌∷◌, ◌++◌, Option, Some, None, refl, sym, ◌∙◌, ap, subst}
use Rattle.std.specs.Prelude.{option_map}
use Rattle.perf_base.specs.Configuration.{Configuration, under_misc}
use Rattle.perf_base.specs.Layout.{Parts, done, map_parts, layout}
use Rattle.perf_base.specs.Order.{Order}
use Rattle.perf_base.specs.declared.refusal.Refusal.{Refusal}
use Rattle.perf_base.specs.Refusals.{refusal_kind}
use Rattle.perf_base.specs.Run.{Ran, ran, stopped, run_parts}
use Rattle.perf_base.specs.Table.{table}
use Rattle.perf_records.specs.Records.{sample_is}
use Rattle.perf_sample_types.specs.Sample.{FieldValue, SampleValue, number_is, sample, sample_fields, fields_under, moment_fields, count_fields, state_fields, cost_fields, memory_fields, values, branch_stack, registers}
use Rattle.perf_sample_types.specs.SampleGetters.{number_in}
use Rattle.perf_flat.specs.Arrays.{filled, filled_spans}
use Rattle.perf_base.specs.Attribute.{or_zero}
use Rattle.perf_flat.specs.Flat.{StatesId}
use Rattle.perf_flat.specs.CursorReads.{IsBodyOf, left_of, cut_short, run_at, read_to, ReadsParts, SameHead, HoldsRecord, WritesRecord}
use Rattle.perf_flat.specs.SampleContents.{made_numbers, made_spans, made_ids}
use Rattle.perf_flat.specs.SampleReads.{ReadsFields, ReadsCounts, ReadsState, ReadsCosts, ReadsMemory, moment_values, event_values}
use Rattle.perf_flat.specs.Samples.{HasSampleSpans, sample_numbers}
use Rattle.perf_flat.specs.Spans.{HasSpans}
use Rattle.perf_flat.specs.declared.frame.FlatFrame.{FlatFrame}
use Rattle.perf_flat.specs.declared.cursor.BodyCursor.{BodyCursor}
use Rattle.perf_flat.specs.declared.sample.Counts.{Counts}
use Rattle.perf_flat.specs.declared.sample.Event.{Event}
use Rattle.perf_flat.specs.declared.sample.Moment.{Moment}
use Rattle.perf_flat.specs.declared.sample.Sample.{Sample}
use Rattle.perf_flat.proofs.CursorRuns.{then_reads, all_read}
use Rattle.std.specs.Prelude.{take, drop}

-- ---- its fields, one group after another

-- a whole table is a sample
of_table : (o : Order) (c : Configuration) (vs : SampleValue) (a b : BodyCursor) → ReadsParts o (table (fields_under c sample_fields)) vs a b → ReadsParts o (sample c) vs a b
unfolding sample
of_table o c vs a b reads = reads

-- the value of a sample by that of its groups
abbrev pub sample_values : (made : Sample) (o : Order) (c : Configuration) {b d e f g : BodyCursor} → ReadsCounts c o made.counts b d → ReadsState c o made.state d e → ReadsCosts c o made.costs e f → ReadsMemory c o made.memory f g → SampleValue
sample_values made o c counts state costs memory =
    moment_values made.moment ++ (event_values made.event ++ ((counts.values ∷ counts.call_chain ∷ [])
    ++ ((state.raw ∷ state.branches ∷ state.regs_user ∷ state.stack_user ∷ [])
    ++ ((option_map number_is made.costs.weight ∷ option_map number_is made.costs.data_src ∷ option_map number_is made.costs.transaction ∷ costs.regs_intr ∷ [])
    ++ ((option_map number_is made.memory.phys_addr ∷ option_map number_is made.memory.cgroup ∷ option_map number_is made.memory.data_page_size
    ∷ option_map number_is made.memory.code_page_size ∷ memory.aux ∷ []) ++ [])))))

pub sample_read : (o : Order) (c : Configuration) (made : Sample) {a m b d e f g : BodyCursor} → ReadsFields o (fields_under c (take 5 moment_fields)) (moment_values made.moment) a m →
    ReadsFields o (fields_under c (drop 5 moment_fields)) (event_values made.event) m b → (counts : ReadsCounts c o made.counts b d) → (state : ReadsState c o made.state d e) →
    (costs : ReadsCosts c o made.costs e f) → (memory : ReadsMemory c o made.memory f g) → ReadsParts o (map_parts sample_is (sample c)) (sample_is (sample_values made o c counts state costs memory)) a g
sample_read o c made {a} {m} {b} {d} {e} {f} {g} moment event counts state costs memory =
    let Fields : Type 0 = List (Option (Parts FieldValue)) in
    let fields_5 : Fields = fields_under c memory_fields ++ [] in
    let fields_4 : Fields = fields_under c cost_fields ++ fields_5 in
    let fields_3 : Fields = fields_under c state_fields ++ fields_4 in
    let fields_2 : Fields = fields_under c count_fields ++ fields_3 in
    let fields_1 : Fields = fields_under c (drop 5 moment_fields) ++ fields_2 in
    let values_5 : SampleValue = (option_map number_is made.memory.phys_addr ∷ option_map number_is made.memory.cgroup ∷ option_map number_is made.memory.data_page_size
    ∷ option_map number_is made.memory.code_page_size ∷ memory.aux ∷ []) ++ [] in
    let values_4 : SampleValue = (option_map number_is made.costs.weight ∷ option_map number_is made.costs.data_src ∷ option_map number_is made.costs.transaction ∷ costs.regs_intr ∷ []) ++ values_5 in
    let values_3 : SampleValue = (state.raw ∷ state.branches ∷ state.regs_user ∷ state.stack_user ∷ []) ++ values_4 in
    let values_2 : SampleValue = (counts.values ∷ counts.call_chain ∷ []) ++ values_3 in
    let values_1 : SampleValue = event_values made.event ++ values_2 in
    then_reads (sample c) (λ v. done (sample_is v)) (of_table o c (sample_values made o c counts state costs memory) a g
    (moment.chain fields_1 values_1 g (event.chain fields_2 values_2 g (counts.fields.chain fields_3 values_3 g (state.fields.chain fields_4 values_4 g
    (costs.fields.chain fields_5 values_5 g (memory.fields.chain [] [] g all_read))))))) all_read

-- after a refusal nothing that is read counts
refused_reads : {A : Type 0} {o : Order} {p : Parts A} {v : A} {a : BodyCursor} {e : Refusal} → a.refusal ≡ Some e → ReadsParts o p v a a
unfolding run_at read_to
refused_reads {A} {o} {p} {v} {a} {e} refused = record {
  run = ap (λ r. elim r as (λ _. Ran A) [ Some e ↦ stopped (refusal_kind e) [] | None ↦ cut_short (run_parts o p (left_of a)) ]) refused
      ∙ sym (ap (λ r. elim r as (λ _. Ran A) [ Some e ↦ stopped (refusal_kind e) [] | None ↦ ran v (left_of a) ]) refused);
  bytes = refl;
}

-- a sample that was refused in its first three groups
abbrev pub first_values : Moment → Event → (o : Order) (c : Configuration) {made : Counts} {b d : BodyCursor} → ReadsCounts c o made b d → SampleValue
first_values moment event o c counts = moment_values moment ++ (event_values event ++ ((counts.values ∷ counts.call_chain ∷ []) ++ []))

pub sample_stopped : (o : Order) (c : Configuration) (moment : Moment) (event : Event) (made : Counts) {a m b d : BodyCursor} (e : Refusal) → ReadsFields o (fields_under c (take 5 moment_fields)) (moment_values moment) a m →
    ReadsFields o (fields_under c (drop 5 moment_fields)) (event_values event) m b → (counts : ReadsCounts c o made b d) → d.refusal ≡ Some e →
    ReadsParts o (map_parts sample_is (sample c)) (sample_is (first_values moment event o c counts)) a d
sample_stopped o c moment event made {a} {m} {b} {d} e one two three refused =
    let Fields : Type 0 = List (Option (Parts FieldValue)) in
    let fields_3 : Fields = fields_under c state_fields ++ (fields_under c cost_fields ++ (fields_under c memory_fields ++ [])) in
    let fields_2 : Fields = fields_under c count_fields ++ fields_3 in
    let fields_1 : Fields = fields_under c (drop 5 moment_fields) ++ fields_2 in
    let values_2 : SampleValue = (three.values ∷ three.call_chain ∷ []) ++ [] in
    let values_1 : SampleValue = event_values event ++ values_2 in
    then_reads (sample c) (λ v. done (sample_is v)) (of_table o c (first_values moment event o c three) a d
    (one.chain fields_1 values_1 d (two.chain fields_2 values_2 d (three.fields.chain fields_3 [] d (refused_reads refused))))) all_read

-- ---- its numbers

number_back : (n : Option ℕ) → number_in (option_map number_is n) ≡ n
number_back (Some n) = refl
number_back None = refl

zero_back : (n : Option ℕ) → or_zero n ≡ or_zero (number_in (option_map number_is n))
zero_back n = ap or_zero (sym (number_back n))

cons_is : {x y : ℕ} {xs ys : List ℕ} → x ≡ y → xs ≡ ys → x ∷ xs ≡ y ∷ ys
cons_is {x} {y} {xs} {ys} one others = ap (λ n. n ∷ xs) one ∙ ap (λ ns. y ∷ ns) others

-- what a flat frame has of it
pub sample_holds : (o : Order) (c : Configuration) (body : List ℕ) (made : Sample) (old new : FlatFrame) {a m b d e f g : BodyCursor} → a.bytes.now ≡ body →
    ReadsFields o (fields_under c (take 5 moment_fields)) (moment_values made.moment) a m → ReadsFields o (fields_under c (drop 5 moment_fields)) (event_values made.event) m b →
    (counts : ReadsCounts c o made.counts b d) → (state : ReadsState c o made.state d e) → (costs : ReadsCosts c o made.costs e f) → (memory : ReadsMemory c o made.memory f g) →
    new.numbers ≡ filled (made_numbers made) → new.spans ≡ filled_spans (made_spans made) → StatesId (made_ids made) new → SameHead old new → g.refusal ≡ None →
    HoldsRecord c o body (sample_is (sample_values made o c counts state costs memory)) old new
unfolding filled_spans
sample_holds o c body made old new {a} {m} {b} {d} {e} {f} {g} same moment event counts state costs memory numbers spans ids head ok =
    let ok_f = memory.fields.fresh ok in
    let ok_e = costs.fields.fresh ok_f in
    let ok_d = state.fields.fresh ok_e in
    let body_b : b.bytes.now ≡ body = event.bytes ∙ moment.bytes ∙ same in
    let body_d : d.bytes.now ≡ body = counts.fields.bytes ∙ body_b in
    let body_e : e.bytes.now ≡ body = state.fields.bytes ∙ body_d in
    let body_f : f.bytes.now ≡ body = costs.fields.bytes ∙ body_e in
    let counters = counts.counters ok_d in
    let entries = state.entries ok_e in
    let user = state.registers ok_e in
    let intr = costs.registers ok_f in
    let vs : SampleValue = sample_values made o c counts state costs memory in
    let all : made_numbers made ≡ sample_numbers c.read_format vs =
    cons_is (zero_back made.moment.ip) (cons_is (zero_back made.moment.addr) (cons_is (zero_back made.event.period) (cons_is (zero_back made.costs.weight) (cons_is (zero_back made.costs.data_src)
    (cons_is (zero_back made.costs.transaction) (cons_is (zero_back made.memory.phys_addr) (cons_is (zero_back made.memory.cgroup) (cons_is (zero_back made.memory.data_page_size)
    (cons_is (zero_back made.memory.code_page_size) (cons_is (ap or_zero entries.hw_index) (cons_is user.abi (cons_is intr.abi counters.numbers)))))))))))) in
    record {
      numbers = numbers ∙ ap filled all;
      spans = λ frame is.
          let has : HasSampleSpans c.read_format o frame (filled_spans (made_spans made)) vs = record {
            callchain = counts.addresses ok_d frame (subst (IsBodyOf frame) (sym body_b) is);
            lbr = entries.entries frame (subst (IsBodyOf frame) (sym body_d) is);
            values = counters.entries frame (subst (IsBodyOf frame) (sym body_b) is);
            regs_user = user.regs frame (subst (IsBodyOf frame) (sym body_d) is);
            regs_intr = intr.regs frame (subst (IsBodyOf frame) (sym body_e) is);
            raw = state.raw_bytes ok_e frame (subst (IsBodyOf frame) (sym body_d) is);
            stack_user = state.stack ok_e frame (subst (IsBodyOf frame) (sym body_d) is);
            aux = memory.bytes ok frame (subst (IsBodyOf frame) (sym body_f) is);
          } in
          subst (λ xs. HasSpans c.read_format o frame xs (sample_is vs)) (sym spans) has;
      ids = λ own states. ids;
      head = head;
    }

-- ---- under a frame's own misc

pub sample_under : (misc : ℕ) (c : Configuration) → sample (under_misc misc c) ≡ sample c
unfolding sample values branch_stack registers
sample_under misc c = refl

-- the same record under the frame's own misc
pub sample_placed : (misc : ℕ) (c : Configuration) (o : Order) (bytes : List ℕ) (old : FlatFrame) (told : Option Refusal) (new : FlatFrame) → WritesRecord c o (map_parts sample_is (sample c)) bytes old told new →
    WritesRecord (under_misc misc c) o (map_parts sample_is (sample (under_misc misc c))) bytes old told new
unfolding WritesRecord
sample_placed misc c o bytes old told new places = go told places
  where
    same : map_parts sample_is (sample (under_misc misc c)) ≡ map_parts sample_is (sample c)
    same = ap (map_parts sample_is) (sample_under misc c)

    go : (r : Option Refusal) → WritesRecord c o (map_parts sample_is (sample c)) bytes old r new → WritesRecord (under_misc misc c) o (map_parts sample_is (sample (under_misc misc c))) bytes old r new
    go None p = (p.0, ap (λ q. layout o q bytes) same ∙ p.1, record { numbers = p.2.numbers; spans = p.2.spans; ids = p.2.ids; head = p.2.head })
    go (Some e) p = ap (λ q. layout o q bytes) same ∙ p
