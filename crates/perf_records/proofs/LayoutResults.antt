-- What was read by places is the value of the layout, with as many reads.
use Rattle.std.proofs.Common.{◌≡◌, ℕ, ◌+◌, List, length, drop}
use Rattle.std.specs.Prelude.{Option, None, Some, Result, Ok, Err}
use Rattle.perf_base.specs.Layout.{Parts, spots, first_refusal, ending, value, layout}
use Rattle.perf_base.specs.Order.{Order}
use Rattle.perf_base.specs.LayoutReads.{layout_reads}
use Rattle.perf_base.specs.Run.{Ran, ran, stopped, left_at, by_places}
use Rattle.perf_base.specs.Took.{took, quit, with_reads, took_by_places}
use Rattle.perf_base.specs.declared.error.ErrorKind.{ErrorKind}

-- the layout, by its first fault
abbrev laid : {A : Type 0} → Option ErrorKind → A → Result A ErrorKind
laid f v = elim f [ None ↦ Ok v | Some e ↦ Err e ]

-- the run by places, by its first fault
abbrev placed : {A : Type 0} → Option ErrorKind → A → (there back : List ℕ) → Ran A
placed f v there back = elim f [ None ↦ ran v there | Some e ↦ stopped e back ]

-- what a value means for both
ran_of : {A : Type 0} (f : Option ErrorKind) (v w : A) (there back left : List ℕ) (k m : ℕ) → with_reads (placed f v there back) k ≡ took w left m →
    (laid f v ≡ Ok w) × (w ≡ v) × (placed f v there back ≡ ran w left) × (m ≡ k)
ran_of None v w there back left k m h = (cc, cc, cc, cc)
ran_of (Some e) v w there back left k m h = absurd (cc)

-- what a refusal means for both
stopped_of : {A : Type 0} (f : Option ErrorKind) (v : A) (e : ErrorKind) (there back left : List ℕ) (k m : ℕ) → with_reads (placed f v there back) k ≡ quit e left m →
    (laid f v ≡ Err e) × (placed f v there back ≡ stopped e left) × (m ≡ k)
stopped_of None v e there back left k m h = absurd (cc)
stopped_of (Some e') v e there back left k m h = (cc, cc, cc)

pub took_result : {A : Type 0} (o : Order) (p : Parts A) (body left : List ℕ) (n m : ℕ) (v : A) → took_by_places o p body n ≡ took v left m →
    (layout o p body ≡ Ok v) × (v ≡ value o body 0 p) × (m ≡ n + layout_reads o p body)
unfolding took_by_places
took_result o p body left n m v h =
    let s = ran_of (first_refusal (length body) (spots o body 0 p)) (value o body 0 p) v (drop (ending o body 0 p) body) (left_at body (spots o body 0 p)) left (n + layout_reads o p body) m h in
    (s.0, s.1, s.3)

pub quit_result : {A : Type 0} (o : Order) (p : Parts A) (body left : List ℕ) (n m : ℕ) (e : ErrorKind) → took_by_places o p body n ≡ quit e left m →
    (layout o p body ≡ Err e) × (m ≡ n + layout_reads o p body)
unfolding took_by_places
quit_result o p body left n m e h =
    let s = stopped_of (first_refusal (length body) (spots o body 0 p)) (value o body 0 p) e (drop (ending o body 0 p) body) (left_at body (spots o body 0 p)) left (n + layout_reads o p body) m h in
    (s.0, s.2)

-- ---- by places alone

pub took_ran : {A : Type 0} (o : Order) (p : Parts A) (body left : List ℕ) (n m : ℕ) (v : A) → took_by_places o p body n ≡ took v left m →
    (by_places o p body ≡ ran v left) × (m ≡ n + layout_reads o p body)
unfolding took_by_places by_places
took_ran o p body left n m v h =
    let s = ran_of (first_refusal (length body) (spots o body 0 p)) (value o body 0 p) v (drop (ending o body 0 p) body) (left_at body (spots o body 0 p)) left (n + layout_reads o p body) m h in
    (s.2, s.3)

pub quit_stopped : {A : Type 0} (o : Order) (p : Parts A) (body left : List ℕ) (n m : ℕ) (e : ErrorKind) → took_by_places o p body n ≡ quit e left m →
    (by_places o p body ≡ stopped e left) × (m ≡ n + layout_reads o p body)
unfolding took_by_places by_places
quit_stopped o p body left n m e h =
    let s = stopped_of (first_refusal (length body) (spots o body 0 p)) (value o body 0 p) e (drop (ending o body 0 p) body) (left_at body (spots o body 0 p)) left (n + layout_reads o p body) m h in
    (s.1, s.2)
