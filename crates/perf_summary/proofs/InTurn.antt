-- The threads of the frames of entries, one entry after another.
use Rattle.std.proofs.Common.{◌≡◌, ℕ, suc, ◌+◌, ◌%◌, ◌^◌, ◌<◌, ◌≤◌, Bool, true, false, cond, List, [], ◌∷◌, ◌++◌, length, drop, get_or, refl, sym, ◌∙◌, ap, subst, drop-cons, append-nil, append_assoc, arith}
use Rattle.std.specs.Prelude.{Option, Some, None, option_map, count_by}
use Rattle.std.specs.BTreeMap.{BTreeMap, IsEmpty, IsOrdered, is_at}
use Rattle.std.specs.List.{cons_option, filter}
use Rattle.std.specs.List.Sorted.{IsStrictlySortedBy}
use Rattle.std.specs.Map.{keys_of, lookup}
use Rattle.std.proofs.lemmas.List.Sums.{count_by-le-length}
use Rattle.perf_sections.specs.Opened.{File}
use Rattle.perf_file.specs.declared.entries.Entry.{Entry}
use Rattle.perf_history.specs.declared.changes.Change.{Change}
use Rattle.perf_history.specs.declared.histories.History.{History}
use Rattle.perf_walk.specs.Moments.{known_after}
use Rattle.perf_walk.specs.Plain.{IsPast}
use Rattle.perf_summary.specs.Facts.{facts, fact_at}
use Rattle.perf_summary.specs.ThreadSteps.{AddsPlain, grown, or_none, plain_at}
use Rattle.perf_summary.specs.Threads.{AreThreadsBy, id_cmp, is_same, is_sample, last_of, of_thread, plain_thread, plain_threads, thread_by, thread_of}
use Rattle.perf_summary.specs.declared.facts.Fact.{Fact}
use Rattle.perf_summary.specs.declared.threads.Thread.{Thread}
use Rattle.perf_summary.proofs.Growing.{thread_more, wrapped}
use Rattle.perf_summary.proofs.Same.{same_id}

-- ---- so far

-- threads have what these facts state
abbrev pub HasFacts : List Fact → BTreeMap (ℕ × ℕ) Thread → Type 0
HasFacts done threads = (who : ℕ × ℕ) → plain_at threads who ≡ option_map wrapped (thread_of done who)

-- some facts are stated, and these entries are left of all
pub record AreSoFar (f : File) (entries left : List Entry) (known : List Change) (threads : BTreeMap (ℕ × ℕ) Thread) : Type 0 where
  pub done : List Fact
  pub all : done ++ facts f left known ≡ facts f entries []
  pub has : HasFacts done threads

pub start : (f : File) (entries : List Entry) (threads : BTreeMap (ℕ × ℕ) Thread) → IsEmpty threads → AreSoFar f entries (drop 0 entries) [] threads
start f entries threads none = record { done = []; all = refl; has = λ who. ap (λ es. option_map plain_thread (lookup (is_at (id_cmp who)) es)) none }

-- ---- one more

abbrev if_there : List Fact → Option Fact → List Fact
if_there done (Some x) = done ++ x ∷ []
if_there done None = done

grown_if : (done : List Fact) (x : Option Fact) (old new : BTreeMap (ℕ × ℕ) Thread) → HasFacts done old → AddsPlain x old new → HasFacts (if_there done x) new
grown_if done (Some x) old new has adds = λ who.
    adds who ∙ ap (λ o. cond (is_same x.who who) (Some (grown (or_none o) x)) o) (has who) ∙ sym (thread_more done x who)
grown_if done None old new has adds = λ who. adds who ∙ has who

there_if : (done : List Fact) (x : Option Fact) (rest : List Fact) → if_there done x ++ rest ≡ done ++ cons_option x rest
there_if done (Some x) rest = append_assoc done (x ∷ []) rest
there_if done None rest = refl

pub one_more : (f : File) (entries : List Entry) (i : ℕ) (d : Entry) (known : List Change) (old new : BTreeMap (ℕ × ℕ) Thread) → i < length entries
    → AreSoFar f entries (drop i entries) known old → AddsPlain (fact_at f (get_or entries i d) known) old new
    → AreSoFar f entries (drop (i + 1) entries) (known_after f (get_or entries i d) known) new
one_more f entries i d known old new below so adds =
    let e : Entry = get_or entries i d in
    let x : Option Fact = fact_at f e known in
    let next : suc i ≡ i + 1 = omega arith in
    let split : drop i entries ≡ e ∷ drop (i + 1) entries = drop-cons entries i d below ∙ ap (λ n. e ∷ drop n entries) next in
    record {
      done = if_there so.done x;
      all =
          there_if so.done x (facts f (drop (i + 1) entries) (known_after f e known))
          ∙ ap (λ es. so.done ++ facts f es known) (sym split) ∙ so.all;
      has = grown_if so.done x old new so.has adds;
    }

-- the same of another view of the same file
pub moved : (f g : File) (entries : List Entry) (i : ℕ) (d : Entry) (known : List Change) (old new : BTreeMap (ℕ × ℕ) Thread) (history : History) → g ≡ f → i < length entries
    → AreSoFar f entries (drop i entries) known old → IsPast history (known_after g (get_or entries i d) known) × AddsPlain (fact_at g (get_or entries i d) known) old new
    → (next : List Change) × IsPast history next × AreSoFar f entries (drop (i + 1) entries) next new
moved f g entries i d known old new history same below so gone =
    let e : Entry = get_or entries i d in (
      known_after f e known,
      subst (λ (x : File). IsPast history (known_after x e known)) same gone.0,
      one_more f entries i d known old new below so (subst (λ (x : File). AddsPlain (fact_at x e known) old new) same gone.1),
    )

-- ---- all

cons_below : (x : Option Fact) (rest : List Fact) (n : ℕ) → length rest ≤ n → length (cons_option x rest) ≤ suc n
cons_below (Some x) rest n below = omega (arith, below)
cons_below None rest n below = omega (arith, below)

facts_below : (f : File) (entries : List Entry) (known : List Change) → length (facts f entries known) ≤ length entries
facts_below f [] known = omega arith
facts_below f (e ∷ es) known =
    cons_below (fact_at f e known) (facts f es (known_after f e known)) (length es) (facts_below f es (known_after f e known))

chosen_below : (b : Bool) (x : Fact) (rest : List Fact) (n : ℕ) → length rest ≤ n → length (cond b (x ∷ rest) rest) ≤ suc n
chosen_below true x rest n below = omega (arith, below)
chosen_below false x rest n below = omega (arith, below)

filter_below : (p : Fact → Bool) (xs : List Fact) → length (filter p xs) ≤ length xs
filter_below p [] = omega arith
filter_below p (x ∷ xs) = chosen_below (p x) x (filter p xs) (length xs) (filter_below p xs)

-- fewer samples than 2^64 are counted as they are
exact : (xs : List Fact) (who : ℕ × ℕ) → length xs < 2 ^ 64 → option_map wrapped (thread_of xs who) ≡ thread_of xs who
exact xs who small = go (last_of mine) where
  mine : List Fact
  mine = of_thread who xs

  go : (o : Option Fact) → option_map wrapped (option_map (thread_by mine) o) ≡ option_map (thread_by mine) o
  go None = refl
  go (Some x) =
      let few : count_by is_sample mine % 2 ^ 64 ≡ count_by is_sample mine =
      omega (arith, small, count_by-le-length is_sample mine, filter_below (λ (x : Fact). is_same x.who who) xs) in
      ap (λ n. Some (record { name = x.name; start = (thread_by mine x).start; end = (thread_by mine x).end; samples = n })) few

keys_plain : (es : List ((ℕ × ℕ) × Thread)) → keys_of (plain_threads es) ≡ keys_of es
keys_plain [] = refl
keys_plain (e ∷ es) = ap (λ ks. e.0 ∷ ks) (keys_plain es)

lookup_plain : (es : List ((ℕ × ℕ) × Thread)) (who : ℕ × ℕ) → lookup (is_same who) (plain_threads es) ≡ option_map plain_thread (lookup (is_at (id_cmp who)) es)
lookup_plain [] who = refl
lookup_plain (e ∷ es) who =
    ap (λ o. cond (is_same who e.0) (Some (plain_thread e.1)) o) (lookup_plain es who)
    ∙ ap (λ b. cond b (Some (plain_thread e.1)) (option_map plain_thread (lookup (is_at (id_cmp who)) es))) (sym (same_id who e.0))
    ∙ go (is_at (id_cmp who) e.0) where
      go : (b : Bool) → cond b (Some (plain_thread e.1)) (option_map plain_thread (lookup (is_at (id_cmp who)) es))
          ≡ option_map plain_thread (cond b (Some e.1) (lookup (is_at (id_cmp who)) es))
      go true = refl
      go false = refl

pub all_threads : (f : File) (entries left : List Entry) (known : List Change) (threads : BTreeMap (ℕ × ℕ) Thread) → left ≡ [] → length entries < 2 ^ 64 → IsOrdered id_cmp threads
    → AreSoFar f entries left known threads → AreThreadsBy (facts f entries []) (plain_threads threads.entries)
all_threads f entries left known threads none small ordered so =
    let whole : so.done ≡ facts f entries [] = sym (append-nil so.done) ∙ ap (λ es. so.done ++ facts f es known) (sym none) ∙ so.all in
    record {
      ordered = subst (λ ks. IsStrictlySortedBy id_cmp ks) (sym (keys_plain threads.entries)) ordered;
      each = λ who.
          lookup_plain threads.entries who ∙ so.has who
          ∙ ap (λ xs. option_map wrapped (thread_of xs who)) whole
          ∙ exact (facts f entries []) who (omega (arith, small, facts_below f entries []));
    }
