-- The fields of a SAMPLE find their own end, so that bytes may follow them.
use Rattle.std.proofs.Common.{ℕ, zero, suc, true, false, List, [], ◌∷◌, ◌++◌, take}
use Rattle.std.specs.Prelude.{if◌then◌else◌}
use Rattle.perf_base.specs.Configuration.{Configuration}
use Rattle.perf_base.specs.Layout.{map_parts}
use Rattle.perf_base.specs.Splice.{Closed, IsClosed, AllClosed}
use Rattle.perf_base.specs.Table.{present_if}
use Rattle.perf_counters.specs.ReadFormat.{has_group}
use Rattle.perf_counters.specs.ReadGroup.{read_group, group_of}
use Rattle.perf_counters.specs.ReadValue.{read_value}
use Rattle.perf_sample_types.specs.Sample.{Field, FieldValue, group_is, values, branch_stack, registers, plain_field, settings_of, is_present, field_under, fields_under, sample_fields, sample_groups, moment_fields, count_fields, state_fields, cost_fields, memory_fields}
use Rattle.perf_sample_types.proofs.LawFlags.{field_of}

-- ---- each field

abbrev pub AreEnded : List Field → Type 0
AreEnded [] = Unit {0}
AreEnded (g ∷ gs) = ((c : Configuration) → Closed (g.parts c)) × AreEnded gs

values_end : (c : Configuration) → Closed (values c)
unfolding values
values_end c =
    elim (has_group c.read_format) as (λ b. Closed {A = FieldValue} (if b then map_parts group_is (read_group c) else map_parts (λ one. group_is (group_of one)) (read_value c))) [
      | true ↦ (tt, λ count. (tt, λ enabled. (tt, λ running. (tt, λ words. tt))))
      | false ↦ (tt, λ value. (tt, λ enabled. (tt, λ running. (tt, λ id. (tt, λ lost. tt)))))
    ]

branches_end : (c : Configuration) → Closed (branch_stack c)
unfolding branch_stack
branches_end c = (tt, λ count. (tt, λ hw_index. (tt, λ words. tt)))

registers_end : (mask : ℕ) → Closed (registers mask)
unfolding registers
registers_end mask = (tt, λ abi. (tt, λ regs. tt))

word_ends : (c : Configuration) → Closed plain_field
word_ends c = (tt, λ n. tt)

moment_ended : AreEnded moment_fields
moment_ended = (word_ends, (word_ends, (λ c. (tt, λ pid. (tt, λ tid. tt)), (word_ends, (word_ends, (word_ends, (word_ends, (λ c. (tt, λ number. (tt, λ u. tt)), (word_ends, tt)))))))))

count_ended : AreEnded count_fields
count_ended = (values_end, (λ c. (tt, λ count. (tt, λ addresses. tt)), tt))

state_ended : AreEnded state_fields
state_ended = (
  λ c. (tt, λ length. (tt, λ contents. (tt, λ u. tt))),
  (branches_end, (λ c. registers_end c.regs_user, (λ c. (tt, λ size. (tt, λ contents. (tt, λ used. tt))), tt))),
)

cost_ended : AreEnded cost_fields
cost_ended = (word_ends, (word_ends, (word_ends, (λ c. registers_end c.regs_intr, tt))))

memory_ended : AreEnded memory_fields
memory_ended = (word_ends, (word_ends, (word_ends, (word_ends, (λ c. (tt, λ size. (tt, λ contents. tt)), tt)))))

-- ---- all fields

both_ended : (xs ys : List Field) → AreEnded xs → AreEnded ys → AreEnded (xs ++ ys)
both_ended [] ys a b = b
both_ended (x ∷ xs) ys a b = (a.0, both_ended xs ys a.1 b)

abbrev GroupsEnded : List (List Field) → Type 0
GroupsEnded [] = Unit {0}
GroupsEnded (fields ∷ groups) = AreEnded fields × GroupsEnded groups

abbrev in_a_row : List (List Field) → List Field
in_a_row [] = []
in_a_row (fields ∷ groups) = fields ++ in_a_row groups

groups_ended : (groups : List (List Field)) → GroupsEnded groups → AreEnded (in_a_row groups)
groups_ended [] ends = tt
groups_ended (fields ∷ groups) ends = both_ended fields (in_a_row groups) ends.0 (groups_ended groups ends.1)

pub sample_ended : AreEnded sample_fields
sample_ended = groups_ended sample_groups (moment_ended, (count_ended, (state_ended, (cost_ended, (memory_ended, tt)))))

closed_field : (c : Configuration) (g : Field) → ((c : Configuration) → Closed (g.parts c)) → IsClosed (field_under c g)
closed_field c g ends = elim (is_present c g) as (λ b. IsClosed {A = FieldValue} (present_if b (g.parts (settings_of c)))) [ true ↦ ends (settings_of c) | false ↦ tt ]

-- the fields before one
pub front_closed : (fields : List Field) (c : Configuration) (i : ℕ) → AreEnded fields → AllClosed (take i (fields_under c fields))
front_closed fields c zero ends = tt
front_closed [] c (suc i) ends = tt
front_closed (g ∷ gs) c (suc i) ends = (closed_field c g ends.0, front_closed gs c i ends.1)

pub one_closed : (fields : List Field) (i : ℕ) → AreEnded fields → (c : Configuration) → Closed ((field_of fields i).parts c)
one_closed [] i ends c = (tt, λ n. tt)
one_closed (g ∷ gs) zero ends c = ends.0 c
one_closed (g ∷ gs) (suc i) ends c = one_closed gs i ends.1 c
