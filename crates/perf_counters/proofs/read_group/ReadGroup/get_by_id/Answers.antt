use Rattle.std.proofs.Common.{◌≡◌, ℕ, Bool, true, false, List, Option, Some, None, option_map}
use Rattle.std.proofs.Common.{refl, sym, ◌∙◌, arith, rules, tests}
use Rattle.std.proofs.lemmas.Iterator.Consumers.{YieldsList-from_first}
use Rattle.std.proofs.lemmas.Iterator.Search.{find_from_yields_List}
use Rattle.perf_counters.specs.GroupEntry.{is_number, entry_with_id, entries_of}
use Rattle.perf_counters.specs.GroupIter.{entries_left}
use Rattle.perf_counters.proofs.Blocks.{none_with_id}
use Rattle.perf_counters.proofs.read_group.ReadGroup.get_by_id.Goals as goal

as_it_is : {A : Type 0} (o : Option A) → o ≡ option_map (λ x. x) o
as_it_is None = refl
as_it_is (Some x) = refl

none_without_ids : (i l : Bool) (id count : ℕ) (words : List ℕ) → i ≡ false →
    None ≡ entry_with_id id (entries_of i l count words)
none_without_ids false l id count words is = sym (none_with_id l id count words)
none_without_ids true l id count words is = absurd (grind (arith, is))

pub returns-then-not-self-clause-first : goal.returns-then-not-self-clause-first
returns-then-not-self-clause-first c =
    let g = c.args.self.now in
    none_without_ids g.with_id g.with_lost c.args.id _ _ c.if-not-self.true

pub returns-clause-first : goal.returns-clause-first
returns-clause-first c =
    let s = c.entries.result in
    let all = YieldsList-from_first (λ x. x) entries_left {s = s} _ c.entries.ensures in
    as_it_is c.find.result
    ∙ find_from_yields_List {s = s} (λ e. is_number c.args.id e.id) c.find.new.self _ c.find.result
    c.find.ensures.ran all (λ x b q k. search (rules, tests))
