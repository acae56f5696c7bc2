-- Lists that are not needed any more.
use Rattle.std.specs.Global.{Vec}
use Rattle.std.specs.Prelude.{◌≡◌, Option, Some, None, [], vec_capacity}
use Rattle.perf_base.specs.declared.cow.CowSlice.{CowSlice}
use Rattle.perf_base.specs.declared.cow.CowSlice.TheVariants as cow

-- the memory of a list that may be absent: the list itself if it is owned, and otherwise none
abbrev pub IsSpareOf : {T : Type 0} → Option (CowSlice T) → Vec T → Type 0
IsSpareOf (Some (cow.Owned items)) spare = spare ≡ items
IsSpareOf (Some (cow.Borrowed items)) spare = (spare.items ≡ []) × (vec_capacity spare ≡ 0)
IsSpareOf None spare = (spare.items ≡ []) × (vec_capacity spare ≡ 0)
