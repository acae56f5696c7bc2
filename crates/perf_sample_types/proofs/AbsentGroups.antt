-- Groups of fields for which the sample type has no flag.
use Rattle.std.proofs.Common.{◌≡◌, ℕ, ◌^◌, ◌<◌, ◌==◌, List, [], ◌∷◌, Bool, true, false, refl, sym, ◌∙◌, ap, zero, suc, arith}
use Rattle.std.specs.Prelude.{Result, Ok, Option, None, option_map}
use Rattle.std.specs.Int.Bits.{and_zero_l}
use Rattle.std.specs.Int.RustNames.{bit_and}
use Rattle.std.proofs.Math.Dec.{eqb-zero-suc}
use Rattle.std.proofs.lemmas.Bool.{eqb-true}
use Rattle.std.proofs.lemmas.Nat.{and_assoc, pow_pos}
use Rattle.perf_base.specs.Configuration.{Configuration}
use Rattle.perf_base.specs.Configured.{configuration_of}
use Rattle.perf_base.specs.Layout.{Parts}
use Rattle.perf_base.specs.Order.{Order}
use Rattle.perf_base.specs.Table.{present_if}
use Rattle.perf_base.specs.Took.{Took}
use Rattle.perf_base.specs.declared.error.ErrorKind.{ErrorKind}
use Rattle.perf_buffers.specs.Buffer.{Source}
use Rattle.perf_reader.specs.Calls.{Call}
use Rattle.perf_reader.specs.TableRuns.{ReadsTable, before}
use Rattle.perf_reader.specs.declared.reader.Reader.{Reader}
use Rattle.perf_reader.proofs.RequestedParts.{Row, fields_give, of_row}
use Rattle.perf_words.specs.Bits.{has_bit}
use Rattle.perf_words.proofs.Contained.{contains_bit}
use Rattle.perf_sample_types.specs.Sample.{has_one, fields_under, state_fields, cost_fields, memory_fields}
use Rattle.perf_sample_types.specs.SampleEmpty.{no_state, no_costs, no_memory}
use Rattle.perf_sample_types.specs.SampleGroups.{state_value, costs_value, memory_value, IsBorrowedState, IsBorrowedMemory}
use Rattle.perf_sample_types.proofs.FlaggedFields.{field_kept_out, flags_after}

-- ---- flags

not_nothing : (n : ℕ) → 0 < n → (0 == n) ≡ false
not_nothing zero some = absurd (omega (arith, some))
not_nothing (suc n) some = eqb-zero-suc n

-- a flag of a mask none of whose flags is set
bit_out : (word type mask bit : ℕ) → word ≡ type → bit_and mask (2 ^ bit) ≡ 2 ^ bit → bit_and word mask ≡ 0 → has_bit type bit ≡ false
bit_out word type mask bit asked inside none =
    let nothing : bit_and word (2 ^ bit) ≡ 0 =
    ap (bit_and word) (sym inside) ∙ sym (and_assoc (2 ^ bit) word mask) ∙ ap (λ n. bit_and n (2 ^ bit)) none ∙ and_zero_l (2 ^ bit) in
    ap (λ w. has_bit w bit) (sym asked) ∙ sym (contains_bit word bit) ∙ ap (λ n. n == 2 ^ bit) nothing ∙ not_nothing (2 ^ bit) (pow_pos bit)

flag_out : (word type mask bit : ℕ) → word ≡ type → bit_and mask (2 ^ bit) ≡ 2 ^ bit → bit_and word mask ≡ 0 → has_one type (bit ∷ []) ≡ false
flag_out word type mask bit asked inside none = rw (bit_out word type mask bit asked inside none) refl

-- either of two flags
flags_out : (word type mask bit other : ℕ) → word ≡ type → bit_and mask (2 ^ bit) ≡ 2 ^ bit → bit_and mask (2 ^ other) ≡ 2 ^ other → bit_and word mask ≡ 0 → has_one type (bit ∷ other ∷ []) ≡ false
flags_out word type mask bit other asked inside outside none = rw (bit_out word type mask bit asked inside none, bit_out word type mask other asked outside none) refl

-- ---- fields

module _ {I E : Type 0} {source : I → Source} {order : E → Order} where
  -- one that is absent, and those after it
  absent_after : {Y A : Type 0} {a c : Reader I E} {outcome : Result Y ErrorKind}
      (view : Y → List (Option A)) (f : Took (List (Option A)) → Took (List (Option A))) (flags : List ℕ) (p : Configuration → Parts A) (fields : Configuration → List (Option (Parts A))) →
      has_one (configuration_of a.config).sample_type flags ≡ false → Call source order (Row (λ r. f (before None r)) fields view) a outcome c →
      Call source order (Row f (λ s. present_if (has_one s.sample_type flags) (p s) ∷ fields s) view) a outcome c
  absent_after view f flags p fields is next =
      flags_after {value = option_map (λ v. v)} {x = None} view f flags false p fields refl is (field_kept_out {value = λ v. v} {borrowed = λ v. Unit {0}} false p refl) (λ kept. next)

  -- ---- groups

  pub absent_state : {a : Reader I E} (word : ℕ) {there : Bool} → word ≡ (configuration_of a.config).sample_type → there ≡ (bit_and word 15360 == 0) → there ≡ true →
      Call source order (ReadsTable (λ c. fields_under c state_fields) state_value IsBorrowedState) a (Ok no_state) a
  absent_state {a} word asked test holds =
      let type : ℕ = (configuration_of a.config).sample_type in
      let none : bit_and word 15360 ≡ 0 = eqb-true (bit_and word 15360) 0 (sym test ∙ holds) in
      of_row _ _ _ (λ t w. (tt, tt)) (
      absent_after _ _ (10 ∷ []) _ _ (flag_out word type 15360 10 asked refl none) (
      absent_after _ _ (11 ∷ []) _ _ (flag_out word type 15360 11 asked refl none) (
      absent_after _ _ (12 ∷ []) _ _ (flag_out word type 15360 12 asked refl none) (
      absent_after _ _ (13 ∷ []) _ _ (flag_out word type 15360 13 asked refl none) (
      fields_give _ _ (λ left m. refl))))))

  pub absent_costs : {a : Reader I E} (word : ℕ) {there : Bool} → word ≡ (configuration_of a.config).sample_type → there ≡ (bit_and word 17219584 == 0) → there ≡ true →
      Call source order (ReadsTable (λ c. fields_under c cost_fields) costs_value (λ _. Unit {0})) a (Ok no_costs) a
  absent_costs {a} word asked test holds =
      let type : ℕ = (configuration_of a.config).sample_type in
      let none : bit_and word 17219584 ≡ 0 = eqb-true (bit_and word 17219584) 0 (sym test ∙ holds) in
      of_row _ _ _ (λ t w. tt) (
      absent_after _ _ (14 ∷ 24 ∷ []) _ _ (flags_out word type 17219584 14 24 asked refl refl none) (
      absent_after _ _ (15 ∷ []) _ _ (flag_out word type 17219584 15 asked refl none) (
      absent_after _ _ (17 ∷ []) _ _ (flag_out word type 17219584 17 asked refl none) (
      absent_after _ _ (18 ∷ []) _ _ (flag_out word type 17219584 18 asked refl none) (
      fields_give _ _ (λ left m. refl))))))

  pub absent_memory : {a : Reader I E} (word : ℕ) {there : Bool} → word ≡ (configuration_of a.config).sample_type → there ≡ (bit_and word 16252928 == 0) → there ≡ true →
      Call source order (ReadsTable (λ c. fields_under c memory_fields) memory_value IsBorrowedMemory) a (Ok no_memory) a
  absent_memory {a} word asked test holds =
      let type : ℕ = (configuration_of a.config).sample_type in
      let none : bit_and word 16252928 ≡ 0 = eqb-true (bit_and word 16252928) 0 (sym test ∙ holds) in
      of_row _ _ _ (λ t w. tt) (
      absent_after _ _ (19 ∷ []) _ _ (flag_out word type 16252928 19 asked refl none) (
      absent_after _ _ (21 ∷ []) _ _ (flag_out word type 16252928 21 asked refl none) (
      absent_after _ _ (22 ∷ []) _ _ (flag_out word type 16252928 22 asked refl none) (
      absent_after _ _ (23 ∷ []) _ _ (flag_out word type 16252928 23 asked refl none) (
      absent_after _ _ (20 ∷ []) _ _ (flag_out word type 16252928 20 asked refl none) (
      fields_give _ _ (λ left m. refl)))))))
