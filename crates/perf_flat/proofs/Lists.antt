-- The fields of a sample that depend on the configuration.
use Rattle.std.proofs.Common.{◌≡◌, ℕ, zero, suc, ◌+◌, ◌*◌, ◌/◌, ◌≤◌, ◌<◌, ◌^◌, ◌==◌, Bool, true, false, not, List, [], ◌∷◌, length, drop, Option, Some, None, refl, sym, ◌∙◌, ap, subst, inl, inr, arith, if◌then◌else◌}
use Rattle.std.specs.Prelude.{nat_lt, is_some, SomeIff}
use Rattle.std.specs.Int.RustNames.{bit_and}
use Rattle.std.proofs.lemmas.Bool.{cases_lt, lt-ltb, le-ltb}
use Rattle.std.proofs.lemmas.List.{length-map}
use Rattle.perf_base.specs.Configuration.{Configuration}
use Rattle.perf_base.specs.FieldWords.{u64, u64_if, numbers, require}
use Rattle.perf_base.specs.Layout.{Parts, done, ◌>>=◌, map_parts}
use Rattle.perf_base.specs.Order.{Order}
use Rattle.perf_base.specs.Table.{present_if, slot}
use Rattle.perf_base.specs.declared.error.ErrorKind.{ErrorKind}
use Rattle.perf_base.specs.declared.error.ErrorKind.TheVariants.{UnsupportedConfig, InvalidRecord}
use Rattle.perf_base.specs.declared.refusal.Refusal.TheVariants.{Kept}
use Rattle.perf_words.specs.Bits.{has_bit}
use Rattle.perf_words.specs.Sets.{element_len}
use Rattle.perf_words.proofs.Contained.{contains_bit}
use Rattle.perf_counters.specs.GroupEntry.{block_len, blocks, entry_of}
use Rattle.perf_counters.specs.ReadFormat.{has_time_enabled, has_time_running, has_counter_id, has_lost, has_group, has_known_bits}
use Rattle.perf_counters.specs.ReadGroup.{GroupRead, read_group, group_of, all_entries, only_entry}
use Rattle.perf_counters.specs.ReadValue.{SingleRead, read_value}
use Rattle.perf_sample_types.specs.Branches.{branches_of}
use Rattle.perf_sample_types.specs.Registers.{register_count}
use Rattle.perf_sample_types.specs.Sample.{FieldValue, group_is, branches_are, registers_are, values, branch_stack, registers}
use Rattle.perf_flat.specs.BodyReads.{counter_read}
use Rattle.perf_flat.specs.Arrays.{no_span}
use Rattle.perf_base.specs.Attribute.{or_zero}
use Rattle.perf_flat.specs.CursorReads.{IsBodyOf, ReadsParts, ReadsFor, PassesNumbers}
use Rattle.perf_flat.specs.SampleReads.{IsCounters, IsBranches, IsRegisters, counters_numbers}
use Rattle.perf_flat.specs.Samples.{HasBranches, HasEntries, HasEntriesIf, group_entry_numbers}
use Rattle.perf_flat.specs.Strings.{HasNumbers}
use Rattle.perf_flat.specs.declared.frame.Span.{Span}
use Rattle.perf_flat.specs.declared.cursor.BodyCursor.{BodyCursor}
use Rattle.perf_flat.specs.declared.sample.Branches.{Branches}
use Rattle.perf_flat.specs.declared.sample.Counters.{Counters}
use Rattle.perf_flat.specs.declared.sample.Registers.{Registers}
use Rattle.perf_flat.proofs.Fields.{slot_there, slot_none}
use Rattle.perf_flat.proofs.CursorRuns.{then_reads, all_read, checked, absurd_of}

-- ---- present or absent

pub there_is : {o : Order} {a b : BodyCursor} (is : Option FieldValue → Type 0) (present : Bool) (p : Parts FieldValue) → present ≡ true →
    ReadsFor o p (λ v. is (Some v)) a b → ReadsFor o (slot (present_if present p)) is a b
there_is is present p there read = record { value = Some read.value; reads = slot_there present p there read.reads; holds = read.holds }

pub none_is : {o : Order} {a : BodyCursor} (is : Option FieldValue → Type 0) (present : Bool) (p : Parts FieldValue) → present ≡ false → is None → ReadsFor o (slot (present_if present p)) is a a
none_is is present p absent none = record { value = None; reads = slot_none present p absent; holds = λ ok. none }

-- the same value, in another form
pub mapped_is : {A B : Type 0} {o : Order} {a b : BodyCursor} (f : A → B) (is : B → Type 0) (p : Parts A) → ReadsFor o p (λ v. is (f v)) a b → ReadsFor o (map_parts f p) is a b
mapped_is f is p read = record { value = f read.value; reads = then_reads p (λ v. done (f v)) read.reads all_read; holds = read.holds }

-- ---- registers

pub registers_read : (o : Order) (mask abi count : ℕ) (a b d : BodyCursor) (s : Span) (made : Registers) → count ≡ register_count mask abi → made.abi ≡ abi → made.regs ≡ s →
    ReadsParts o u64 abi a b → PassesNumbers o count b s d → ReadsFor o (registers mask) (λ v. IsRegisters o a.bytes.now (Some v) made) a d
unfolding registers
registers_read o mask abi count a b d s made many kind at one list = record {
  value = registers_are (record { abi = abi; mask = mask; regs = list.value });
  reads = then_reads u64 (λ abi. numbers (register_count mask abi) >>= λ regs. done (registers_are (record { abi = abi; mask = mask; regs = regs }))) one
      (then_reads (numbers (register_count mask abi)) (λ regs. done (registers_are (record { abi = abi; mask = mask; regs = regs }))) (subst (λ n. ReadsParts o (numbers n) list.value b d) many list.reads) all_read);
  holds = λ ok. record {
    abi = kind;
    regs = λ frame is.
        let has = list.holds ok in
        subst (λ n. HasNumbers o frame made.regs n (λ are. are ≡ list.value)) (sym has.0)
        (subst (λ x. HasNumbers o frame x count (λ are. are ≡ list.value)) (sym at) (has.1 frame (subst (IsBodyOf frame) (sym one.bytes) is)));
  };
}

pub no_registers : (o : Order) (body : List ℕ) (made : Registers) → made.abi ≡ 0 → made.regs ≡ no_span → IsRegisters o body None made
no_registers o body made kind at = record { abi = kind; regs = λ frame is. at }

-- ---- branches

branches_long : (n : ℕ) (xs : List ℕ) → length xs ≡ n + n + n → length (branches_of xs) ≡ n
branches_long zero [] e = refl
branches_long zero (x ∷ xs) e = absurd (omega arith)
branches_long (suc n) [] e = absurd (omega arith)
branches_long (suc n) (x ∷ []) e = absurd (omega arith)
branches_long (suc n) (x ∷ y ∷ []) e = absurd (omega arith)
branches_long (suc n) (x ∷ y ∷ z ∷ xs) e = ap suc (branches_long n xs (omega arith))

branches_counted : (count : ℕ) (xs : List ℕ) → length xs ≡ 3 * count → length (branches_of xs) ≡ count
branches_counted count xs e = branches_long count xs (omega arith)

pub branches_read : (o : Order) (c : Configuration) (count : ℕ) (hw : Option ℕ) (a b d e : BodyCursor) (s : Span) (made : Branches) → made.hw_index ≡ hw → made.entries ≡ s →
    ReadsParts o u64 count a b → ReadsParts o (u64_if c.branch_hw_index) hw b d → PassesNumbers o (3 * count) d s e → ReadsFor o (branch_stack c) (λ v. IsBranches o a.bytes.now (Some v) made) a e
unfolding branch_stack
branches_read o c count hw a b d e s made index at one two list = record {
  value = branches_are hw (Some (branches_of list.value));
  reads = then_reads u64 (λ count. u64_if c.branch_hw_index >>= λ hw. (numbers (3 * count) >>= λ words. done (branches_are hw (Some (branches_of words))))) one
      (then_reads (u64_if c.branch_hw_index) (λ hw. numbers (3 * count) >>= λ words. done (branches_are hw (Some (branches_of words)))) two
      (then_reads (numbers (3 * count)) (λ words. done (branches_are hw (Some (branches_of words)))) list.reads all_read));
  holds = λ ok. record {
    hw_index = index;
    entries = λ frame is.
        let has = list.holds ok in
        let there = has.1 frame (subst (IsBodyOf frame) (sym one.bytes ∙ sym two.bytes) is) in
        let words : HasNumbers o frame s (3 * count) (λ are. branches_of are ≡ branches_of list.value) = record { inside = there.inside; many = there.many; there = ap branches_of there.there } in
        branches_there frame list.value s has.0 at words;
  };
}
  where
    branches_there : (frame words : List ℕ) (s : Span) → length words ≡ 3 * count → made.entries ≡ s → HasNumbers o frame s (3 * count) (λ are. branches_of are ≡ branches_of words) →
        HasBranches o frame made.entries (Some (branches_of words))
    branches_there frame words s long at has =
        subst (λ x. HasNumbers o frame x (3 * length (branches_of words)) (λ are. branches_of are ≡ branches_of words)) (sym at)
        (subst (λ n. HasNumbers o frame s (3 * n) (λ are. branches_of are ≡ branches_of words)) (sym (branches_counted count words long)) has)

pub no_branches : (o : Order) (body : List ℕ) (made : Branches) → made.hw_index ≡ None → made.entries ≡ no_span → IsBranches o body None made
no_branches o body made index at = record { hw_index = index; entries = λ frame is. at }

-- ---- counters

-- a check that holds reads nothing
pub holds_read : {o : Order} {a : BodyCursor} {kind : ErrorKind} (t : Bool) → t ≡ true → ReadsParts {A = Unit {0}} o (require t kind) tt a a
holds_read {o} {a} {kind} true is = checked true (Kept kind) refl (λ _. refl) (λ _. refl) (λ other. absurd_of true refl other)
holds_read false is = absurd (cc)

-- the read of these numbers
abbrev single : ℕ → (te tr id lost : Option ℕ) → SingleRead
single value te tr id lost = record { value = value; time_enabled = te; time_running = tr; id = id; lost = lost }

pub single_read : (o : Order) (c : Configuration) (value : ℕ) (te tr id lost : Option ℕ) (a b d e f g h i : BodyCursor) →
    ReadsParts {A = Unit {0}} o (require (not (has_group c.read_format)) UnsupportedConfig) tt a b → ReadsParts {A = Unit {0}} o (require (has_known_bits c.read_format) UnsupportedConfig) tt b d → ReadsParts o u64 value d e →
    ReadsParts o (u64_if (has_time_enabled c.read_format)) te e f → ReadsParts o (u64_if (has_time_running c.read_format)) tr f g → ReadsParts o (u64_if (has_counter_id c.read_format)) id g h → ReadsParts o (u64_if (has_lost c.read_format)) lost h i →
    ReadsParts o (read_value c) (single value te tr id lost) a i
single_read o c value te tr id lost a b d e f g h i alone known one two three four five =
    let r : ℕ = c.read_format in
    let last : ℕ → Option ℕ → Option ℕ → Option ℕ → Parts SingleRead = λ v te tr id. u64_if (has_lost r) >>= λ lost. done (single v te tr id lost) in
    let third : ℕ → Option ℕ → Option ℕ → Parts SingleRead = λ v te tr. u64_if (has_counter_id r) >>= λ id. last v te tr id in
    let second : ℕ → Option ℕ → Parts SingleRead = λ v te. u64_if (has_time_running r) >>= λ tr. third v te tr in
    let first : ℕ → Parts SingleRead = λ v. u64_if (has_time_enabled r) >>= λ te. second v te in
    let all : Parts SingleRead = u64 >>= λ v. first v in
    then_reads (require (not (has_group r)) UnsupportedConfig) (λ _. require (has_known_bits r) UnsupportedConfig >>= λ _. all) alone
    (then_reads (require (has_known_bits r) UnsupportedConfig) (λ _. all) known
    (then_reads u64 (λ v. first v) one (then_reads (u64_if (has_time_enabled r)) (λ te. second value te) two (then_reads (u64_if (has_time_running r)) (λ tr. third value te tr) three
    (then_reads (u64_if (has_counter_id r)) (λ id. last value te tr id) four (then_reads (u64_if (has_lost r)) (λ lost. done (single value te tr id lost)) five all_read))))))

-- the one counter of a sample
pub single_counters : (o : Order) (c : Configuration) (body : List ℕ) (made : Counters) → has_group c.read_format ≡ false → made.count ≡ 1 → made.entries ≡ no_span →
    IsCounters c.read_format o body (Some (group_is (group_of (counter_read made)))) made
single_counters o c body made alone many at = record {
  numbers = ap (λ n. or_zero made.time_enabled ∷ or_zero made.time_running ∷ n ∷ made.value ∷ or_zero made.id ∷ or_zero made.lost ∷ []) many
      ∙ ap (λ (g : Bool). or_zero made.time_enabled ∷ or_zero made.time_running ∷ 1 ∷ group_entry_numbers (if g then None else Some (record { value = made.value; id = made.id; lost = made.lost }))) (sym alone);
  entries = λ frame is. subst (λ g. HasEntriesIf g o frame made.entries (group_of (counter_read made))) (sym alone) at;
}

blocks_long : (n count : ℕ) (xs : List ℕ) → length (blocks n count xs) ≡ count
blocks_long n zero xs = refl
blocks_long n (suc count) xs = ap suc (blocks_long n count (drop n xs))

-- as many entries as were counted
entries_long : (with_id with_lost : Bool) (count : ℕ) (xs : List ℕ) → length xs ≡ count * block_len with_id with_lost → length (all_entries with_id with_lost xs) ≡ count
entries_long with_id with_lost count xs e =
    let n : ℕ = block_len with_id with_lost in
    let many : length xs / n ≡ count = ap (λ m. m / n) e ∙ times count with_id with_lost in
    length-map (blocks n (length xs / n) xs) (entry_of with_id with_lost) ∙ blocks_long n (length xs / n) xs ∙ many
  where
    times : (count : ℕ) (with_id with_lost : Bool) → count * block_len with_id with_lost / block_len with_id with_lost ≡ count
    times count true true = omega arith
    times count true false = omega arith
    times count false true = omega arith
    times count false false = omega arith

-- the group of these numbers
abbrev grouped : Configuration → (te tr : Option ℕ) → List ℕ → GroupRead
grouped c te tr words = record {
  time_enabled = te;
  time_running = tr;
  with_id = has_counter_id c.read_format;
  with_lost = has_lost c.read_format;
  entries = all_entries (has_counter_id c.read_format) (has_lost c.read_format) words;
}

pub group_read : (o : Order) (c : Configuration) (count : ℕ) (te tr : Option ℕ) (a b d e f g h : BodyCursor) (s : Span) (made : Counters) → has_group c.read_format ≡ true →
    counters_numbers made ≡ or_zero te ∷ or_zero tr ∷ count ∷ 0 ∷ 0 ∷ 0 ∷ [] → made.entries ≡ s →
    ReadsParts {A = Unit {0}} o (require (has_known_bits c.read_format) UnsupportedConfig) tt a b → ReadsParts o u64 count b d → ReadsParts o (u64_if (has_time_enabled c.read_format)) te d e →
    ReadsParts o (u64_if (has_time_running c.read_format)) tr e f → ReadsParts {A = Unit {0}} o (require (nat_lt (count * element_len c.read_format) (2 ^ 64)) InvalidRecord) tt f g →
    PassesNumbers o (count * element_len c.read_format) g s h → ReadsFor o (read_group c) (λ group. IsCounters c.read_format o a.bytes.now (Some (group_is group)) made) a h
group_read o c count te tr a b d e f g h s made many numbers_are at known one two three fits list =
    let r : ℕ = c.read_format in
    let last : ℕ → Option ℕ → Option ℕ → Parts GroupRead = λ n te tr. numbers (n * element_len r) >>= λ words. done (grouped c te tr words) in
    let third : ℕ → Option ℕ → Option ℕ → Parts GroupRead = λ n te tr. require (nat_lt (n * element_len r) (2 ^ 64)) InvalidRecord >>= λ _. last n te tr in
    let second : ℕ → Option ℕ → Parts GroupRead = λ n te. u64_if (has_time_running r) >>= λ tr. third n te tr in
    let first : ℕ → Parts GroupRead = λ n. u64_if (has_time_enabled r) >>= λ te. second n te in
    let all : Parts GroupRead = u64 >>= λ n. first n in
    record {
      value = grouped c te tr list.value;
      reads = then_reads (require (has_group r) UnsupportedConfig) (λ _. require (has_known_bits r) UnsupportedConfig >>= λ _. all) (holds_read (has_group r) many)
          (then_reads (require (has_known_bits r) UnsupportedConfig) (λ _. all) known
          (then_reads u64 (λ n. first n) one (then_reads (u64_if (has_time_enabled r)) (λ te. second count te) two (then_reads (u64_if (has_time_running r)) (λ tr. third count te tr) three
          (then_reads (require (nat_lt (count * element_len r) (2 ^ 64)) InvalidRecord) (λ _. last count te tr) fits
          (then_reads (numbers (count * element_len r)) (λ words. done (grouped c te tr words)) list.reads all_read))))));
      holds = λ ok.
          let has = list.holds ok in
          let long : length (all_entries (has_counter_id r) (has_lost r) list.value) ≡ count = entries_long (has_counter_id r) (has_lost r) count list.value has.0 in
          let same = one.bytes ∙ known.bytes in
          let front = fits.bytes ∙ three.bytes ∙ two.bytes ∙ same in
          record {
            numbers = numbers_are ∙ ap (λ n. or_zero te ∷ or_zero tr ∷ n ∷ group_entry_numbers None) (sym long)
                ∙ ap (λ (g : Bool). or_zero te ∷ or_zero tr ∷ length (all_entries (has_counter_id r) (has_lost r) list.value) ∷ group_entry_numbers (if g then None else only_entry (all_entries (has_counter_id r) (has_lost r) list.value))) (sym many);
            entries = λ frame is.
                let there = has.1 frame (subst (IsBodyOf frame) (sym front) is) in
                subst (λ g. HasEntriesIf g o frame made.entries (grouped c te tr list.value)) (sym many)
                (subst (λ x. HasEntries o frame x (grouped c te tr list.value)) (sym at) (group_there frame list.value long there));
          };
    }
  where
    group_there : (frame words : List ℕ) → length (all_entries (has_counter_id c.read_format) (has_lost c.read_format) words) ≡ count → HasNumbers o frame s (count * element_len c.read_format) (λ are. are ≡ words) →
        HasEntries o frame s (grouped c te tr words)
    group_there frame words long has =
        subst (λ n. HasNumbers o frame s (n * element_len c.read_format) (λ are. all_entries (has_counter_id c.read_format) (has_lost c.read_format) are ≡ all_entries (has_counter_id c.read_format) (has_lost c.read_format) words)) (sym long)
        (record { inside = has.inside; many = has.many; there = ap (all_entries (has_counter_id c.read_format) (has_lost c.read_format)) has.there })

-- no counters
pub no_counters : (c : Configuration) (o : Order) (body : List ℕ) (made : Counters) → counters_numbers made ≡ 0 ∷ 0 ∷ 0 ∷ 0 ∷ 0 ∷ 0 ∷ [] → made.entries ≡ no_span → IsCounters c.read_format o body None made
no_counters c o body made numbers at = record { numbers = numbers; entries = λ frame is. at }

-- what is read of counters, by whether they are a group
pub values_alone : (o : Order) (c : Configuration) (a b : BodyCursor) (made : Counters) → has_group c.read_format ≡ false →
    ReadsFor o (read_value c) (λ one. IsCounters c.read_format o a.bytes.now (Some (group_is (group_of one))) made) a b → ReadsFor o (values c) (λ v. IsCounters c.read_format o a.bytes.now (Some v) made) a b
unfolding values
values_alone o c a b made alone read = go (has_group c.read_format) alone
  where
    go : (g : Bool) → g ≡ false → ReadsFor o (if g then map_parts group_is (read_group c) else map_parts (λ one. group_is (group_of one)) (read_value c)) (λ v. IsCounters c.read_format o a.bytes.now (Some v) made) a b
    go true is = absurd (cc)
    go false is = mapped_is (λ one. group_is (group_of one)) (λ v. IsCounters c.read_format o a.bytes.now (Some v) made) (read_value c) read

pub values_grouped : (o : Order) (c : Configuration) (a b : BodyCursor) (made : Counters) → has_group c.read_format ≡ true →
    ReadsFor o (read_group c) (λ group. IsCounters c.read_format o a.bytes.now (Some (group_is group)) made) a b → ReadsFor o (values c) (λ v. IsCounters c.read_format o a.bytes.now (Some v) made) a b
unfolding values
values_grouped o c a b made many read = go (has_group c.read_format) many
  where
    go : (g : Bool) → g ≡ true → ReadsFor o (if g then map_parts group_is (read_group c) else map_parts (λ one. group_is (group_of one)) (read_value c)) (λ v. IsCounters c.read_format o a.bytes.now (Some v) made) a b
    go true is = mapped_is group_is (λ v. IsCounters c.read_format o a.bytes.now (Some v) made) (read_group c) read
    go false is = absurd (cc)

-- a product that has a place in a word
pub some_is : (r : Option ℕ) (m : ℕ) (b : Bool) → b ≡ is_some r → SomeIff r (m < 2 ^ 64) m → b ≡ nat_lt m (2 ^ 64)
some_is (Some n) m b is iff = is ∙ sym (lt-ltb m (2 ^ 64) iff.0)
some_is None m b is iff = elim (cases_lt m (2 ^ 64)) [
  | inl few ↦ absurd (iff few)
  | inr most ↦ is ∙ sym (le-ltb m (2 ^ 64) most)
]

-- an entry has at most three numbers
pub few_numbers : (read_format : ℕ) → element_len read_format ≤ 3
few_numbers read_format = go (has_bit read_format 2) (has_bit read_format 4)
  where
    go : (a b : Bool) → 1 + (if a then 1 else 0) + (if b then 1 else 0) ≤ 3
    go true true = omega arith
    go true false = omega arith
    go false true = omega arith
    go false false = omega arith

-- a number by the flag of a read format
pub format_is : {o : Order} {a b : BodyCursor} {n : Option ℕ} {word format : ℕ} (bit : ℕ) → word ≡ format → ReadsParts o (u64_if (bit_and word (2 ^ bit) == 2 ^ bit)) n a b → ReadsParts o (u64_if (has_bit format bit)) n a b
format_is {o} {a} {b} {n} {word} {format} bit asked read = subst (λ t. ReadsParts o (u64_if t) n a b) (contains_bit word bit ∙ ap (λ w. has_bit w bit) asked) read
