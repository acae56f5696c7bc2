-- What a `CowSlice` is: a list, and whether it is borrowed.
use Rattle.std.specs.Prelude.{Bool, true, false, List, [], ◌∷◌}
use Rattle.perf_base.specs.declared.cow.CowSlice.{CowSlice}
use Rattle.perf_base.specs.declared.cow.CowSlice.TheVariants as cow

-- its items, borrowed or owned
abbrev pub cow_items : {T : Type 0} → CowSlice T → List T
cow_items (cow.Borrowed items) = items.now
cow_items (cow.Owned items) = items.items

-- whether the items are borrowed
abbrev pub is_borrowed : {T : Type 0} → CowSlice T → Bool
is_borrowed (cow.Borrowed items) = true
is_borrowed (cow.Owned items) = false

-- its form, as that of a value with one list
abbrev pub cow_form : {T : Type 0} → CowSlice T → List Bool
cow_form items = is_borrowed items ∷ []
