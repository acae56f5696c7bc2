-- Bytes that are taken at once, and contain several numbers.
use Rattle.std.specs.Prelude.{ℕ, ◌+◌, ◌≤◌, ◌≡◌, Ok, Err, List, length, take, drop, IsTrue}
use Rattle.perf_reader.specs.Reading.{Transition, of_layout}

-- The next n bytes, which count as that many reads. No layout can refuse them: they are present.
abbrev pub ReadsAtOnce : (n reads : ℕ) → Transition (List ℕ)
ReadsAtOnce n reads old (Ok bytes) new =
    (n ≤ length old.source.left) × (bytes ≡ take n old.source.left)
    × (new.source.left ≡ drop n old.source.left) × (new.reads ≡ old.reads + reads)
ReadsAtOnce n reads old (Err e) new = IsTrue (of_layout e) → ⊥

-- The next n bytes, which were read where they are shown, in that many reads. No layout can refuse
-- them: they are present.
abbrev pub PassesOver : (n reads : ℕ) → Transition (Unit {0})
PassesOver n reads old (Ok x) new =
    (n ≤ length old.source.left) × (new.source.left ≡ drop n old.source.left)
    × (new.reads ≡ old.reads + reads)
PassesOver n reads old (Err e) new = IsTrue (of_layout e) → ⊥
