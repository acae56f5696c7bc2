-- How what a thread did grows by one frame. Private contracts use this form.
use Rattle.std.specs.Prelude.{◌≡◌, ℕ, ◌+◌, ◌%◌, ◌^◌, ◌==◌, cond, Option, Some, None, option_map, if◌then◌else◌}
use Rattle.std.specs.BTreeMap.{BTreeMap, get}
use Rattle.perf_history.specs.declared.names.Name.TheVariants.{Swapper}
use Rattle.perf_summary.specs.Threads.{id_cmp, is_same, is_sample, is_exit, plain_thread}
use Rattle.perf_summary.specs.declared.facts.Fact.{Fact}
use Rattle.perf_summary.specs.declared.threads.Thread.{Thread}

-- a thread before its first frame
abbrev pub no_thread : Thread
no_thread = record { name = Swapper; start = None; end = None; samples = 0 }

-- a thread, or one before its first frame
abbrev pub or_none : Option Thread → Thread
or_none (Some t) = t
or_none None = no_thread

-- a time, if it is known
abbrev pub known : ℕ → Option ℕ
known time = if time == 0 then None else Some time

-- the first of two times
abbrev pub or_first : (before : Option ℕ) → (time : ℕ) → Option ℕ
or_first (Some t) time = Some t
or_first None time = known time

-- the last of two times
abbrev pub or_last : (before : Option ℕ) → (time : ℕ) → Option ℕ
or_last before time = if time == 0 then before else Some time

-- a thread with one more frame
abbrev pub grown : Thread → Fact → Thread
grown t x = record {
  name = x.name;
  start = or_first t.start x.time;
  end = if is_exit x then or_last t.end x.time else t.end;
  samples = (t.samples + cond (is_sample x) 1 0) % 2 ^ 64;
}

-- a frame was added to threads
abbrev pub Adds : Fact → (old new : BTreeMap (ℕ × ℕ) Thread) → Type 0
Adds x old new = (who : ℕ × ℕ) → get id_cmp new who ≡ (if is_same x.who who then Some (grown (or_none (get id_cmp old who)) x) else get id_cmp old who)

-- the thread with these ids, if there is one, its name known by its bytes alone
abbrev pub plain_at : BTreeMap (ℕ × ℕ) Thread → (who : ℕ × ℕ) → Option Thread
plain_at threads who = option_map plain_thread (get id_cmp threads who)

-- the same of a frame that may be about no thread, with names that are known by their bytes alone
abbrev pub AddsPlain : Option Fact → (old new : BTreeMap (ℕ × ℕ) Thread) → Type 0
AddsPlain (Some x) old new = (who : ℕ × ℕ) → plain_at new who ≡ (if is_same x.who who then Some (grown (or_none (plain_at old who)) x) else plain_at old who)
AddsPlain None old new = (who : ℕ × ℕ) → plain_at new who ≡ plain_at old who
