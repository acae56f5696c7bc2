-- What each thread of a recording did.
use Rattle.std.specs.Prelude.{◌≡◌, ℕ, ◌&&◌, ◌==◌, Bool, true, false, List, [], ◌∷◌, map, count_by, nat_lt, Option, Some, None, option_map}
use Rattle.std.specs.List.{filter}
use Rattle.std.specs.List.Sorted.{IsStrictlySortedBy}
use Rattle.std.specs.Map.{keys_of, lookup}
use Rattle.std.specs.Ordering.{nat_cmp, ordering_then}
use Rattle.std.specs.declared.cmp.Ordering.{Ordering}
use Rattle.perf_file.specs.Entries.{IsInOrder, entries_of}
use Rattle.perf_sections.specs.Opened.{File}
use Rattle.perf_file.specs.declared.entries.Entry.{Entry}
use Rattle.perf_walk.specs.Plain.{plain_name}
use Rattle.perf_summary.specs.Facts.{facts}
use Rattle.perf_summary.specs.declared.facts.Fact.{Fact}
use Rattle.perf_summary.specs.declared.subjects.Kind.{Kind}
use Rattle.perf_summary.specs.declared.subjects.Kind.TheVariants as kind
use Rattle.perf_summary.specs.declared.threads.Thread.{Thread}

-- ---- the frames of a thread

-- whether a thread is this one: its process and its own id are the same
abbrev pub is_same : (a b : ℕ × ℕ) → Bool
is_same a b = a.0 == b.0 && a.1 == b.1

-- those about a thread
abbrev pub of_thread : (who : ℕ × ℕ) → List Fact → List Fact
of_thread who xs = filter (λ (x : Fact). is_same x.who who) xs

-- whether a frame is a sample
abbrev pub is_sample_kind : Kind → Bool
is_sample_kind kind.Sample = true
is_sample_kind kind.Exit = false
is_sample_kind kind.Other = false

-- whether it is the end of its thread
abbrev pub is_exit_kind : Kind → Bool
is_exit_kind kind.Sample = false
is_exit_kind kind.Exit = true
is_exit_kind kind.Other = false

-- the same of frames
abbrev pub is_sample : Fact → Bool
is_sample x = is_sample_kind x.kind

abbrev pub is_exit : Fact → Bool
is_exit x = is_exit_kind x.kind

-- when frames happened, of those of which this is known
abbrev pub times_of : List Fact → List ℕ
times_of xs = filter (nat_lt 0) (map (λ (x : Fact). x.time) xs)

-- ---- what a thread did

-- the first of a list
abbrev pub first_of : {A : Type 0} → List A → Option A
first_of [] = None
first_of (x ∷ xs) = Some x

-- the last of a list
abbrev pub last_of : {A : Type 0} → List A → Option A
last_of [] = None
last_of (x ∷ xs) = elim (last_of xs) [ Some y ↦ Some y | None ↦ Some x ]

-- What a thread did, by its frames, of which this one is the last: its name by then, the first time that
-- is known, the time of its last EXIT, and how many samples were taken in it.
abbrev pub thread_by : List Fact → (last : Fact) → Thread
thread_by xs last = record {
  name = last.name;
  start = first_of (times_of xs);
  end = last_of (times_of (filter is_exit xs));
  samples = count_by is_sample xs;
}

-- what a thread did, if a frame is about it
abbrev pub thread_of : List Fact → (who : ℕ × ℕ) → Option Thread
thread_of xs who = option_map (thread_by (of_thread who xs)) (last_of (of_thread who xs))

-- ---- all threads

-- the order of threads: by process, and then by their own ids
abbrev pub id_cmp : (a b : ℕ × ℕ) → Ordering
id_cmp a b = ordering_then (nat_cmp a.0 b.0) (nat_cmp a.1 b.1)

-- a thread, whose name is known by its bytes alone
abbrev pub plain_thread : Thread → Thread
plain_thread t = record t { name = plain_name t.name }

-- threads, each under its ids, whose names are known by their bytes alone
abbrev pub plain_threads : List ((ℕ × ℕ) × Thread) → List ((ℕ × ℕ) × Thread)
plain_threads threads = map (λ (e : (ℕ × ℕ) × Thread). (e.0, plain_thread e.1)) threads

-- These are all threads of which frames state something, each once and in their order.
pub record AreThreadsBy (xs : List Fact) (threads : List ((ℕ × ℕ) × Thread)) : Type 0 where
  pub ordered : IsStrictlySortedBy id_cmp (keys_of threads)
  pub each : (who : ℕ × ℕ) → lookup (is_same who) threads ≡ thread_of xs who

-- these are the threads of a file: those of its frames in order of time
abbrev pub AreThreadsOf : File → List ((ℕ × ℕ) × Thread) → Type 0
AreThreadsOf f threads = (entries : List Entry) × IsInOrder (entries_of f) entries × AreThreadsBy (facts f entries []) threads
