-- What a thread did, with one more frame.
use Rattle.std.proofs.Common.{◌≡◌, ℕ, zero, suc, ◌+◌, ◌%◌, ◌^◌, ◌==◌, nat_lt, Bool, true, false, cond, List, [], ◌∷◌, ◌++◌, map, refl, sym, ap, subst, ◌∙◌, append-nil, arith}
use Rattle.std.specs.Prelude.{Option, Some, None, option_map, count_by, sum_by, if◌then◌else◌}
use Rattle.std.specs.List.{filter}
use Rattle.std.proofs.lemmas.List.{map-append}
use Rattle.std.proofs.lemmas.Bool.{lt-ltb, ne_eqb}
use Rattle.std.proofs.lemmas.List.Elements.{filter-append}
use Rattle.std.proofs.lemmas.List.Sums.{sum_by-append}
use Rattle.perf_summary.specs.ThreadSteps.{grown, or_none, or_first, or_last, known}
use Rattle.perf_summary.specs.Threads.{is_same, of_thread, is_sample, is_exit, times_of, first_of, last_of, thread_by, thread_of}
use Rattle.perf_summary.specs.declared.facts.Fact.{Fact}
use Rattle.perf_summary.specs.declared.threads.Thread.{Thread}

-- ---- lists

last_more : {A : Type 0} (xs : List A) (y : A) → last_of (xs ++ y ∷ []) ≡ Some y
last_more [] y = refl
last_more (x ∷ xs) y = ap (λ o. elim o [ Some z ↦ Some z | None ↦ Some x ]) (last_more xs y)

abbrev or_else : {A : Type 0} → Option A → Option A → Option A
or_else (Some x) o = Some x
or_else None o = o

first_more : {A : Type 0} (xs ys : List A) → first_of (xs ++ ys) ≡ or_else (first_of xs) (first_of ys)
first_more [] ys = refl
first_more (x ∷ xs) ys = refl

count_more : (xs : List Fact) (x : Fact) → count_by is_sample (xs ++ x ∷ []) ≡ count_by is_sample xs + cond (is_sample x) 1 0
count_more xs x =
    let one : sum_by (λ y. cond (is_sample y) 1 0) (x ∷ []) ≡ cond (is_sample x) 1 0 = omega arith in
    sum_by-append (λ y. cond (is_sample y) 1 0) xs (x ∷ []) ∙ ap (λ n. count_by is_sample xs + n) one

-- ---- times

times_more : (xs ys : List Fact) → times_of (xs ++ ys) ≡ times_of xs ++ times_of ys
times_more xs ys =
    ap (filter (nat_lt 0)) (map-append (λ (x : Fact). x.time) xs ys)
    ∙ filter-append (nat_lt 0) (map (λ (x : Fact). x.time) xs) (map (λ (x : Fact). x.time) ys)

-- the times of one frame
one_time : (x : Fact) → times_of (x ∷ []) ≡ (if x.time == 0 then [] else x.time ∷ [])
one_time x = go x.time where
  go : (t : ℕ) → filter (nat_lt 0) (t ∷ []) ≡ (if t == 0 then [] else t ∷ [])
  go zero = refl
  go (suc t) =
      let later : nat_lt 0 (suc t) ≡ true = lt-ltb 0 (suc t) (omega arith) in
      let none : (suc t == 0) ≡ false = ne_eqb (suc t) 0 (λ e. omega (arith, e)) in
      rw (later, none) refl

first_known : (t : ℕ) → first_of (if t == 0 then [] else t ∷ []) ≡ known t
first_known t = go (t == 0) where
  go : (b : Bool) → first_of (if b then [] else t ∷ []) ≡ (if b then None else Some t)
  go true = refl
  go false = refl

start_more : (xs : List Fact) (x : Fact) → first_of (times_of (xs ++ x ∷ [])) ≡ or_first (first_of (times_of xs)) x.time
start_more xs x =
    ap first_of (times_more xs (x ∷ []) ∙ ap (λ ts. times_of xs ++ ts) (one_time x))
    ∙ first_more (times_of xs) (if x.time == 0 then [] else x.time ∷ [])
    ∙ go (first_of (times_of xs)) where
      go : (o : Option ℕ) → or_else o (first_of (if x.time == 0 then [] else x.time ∷ [])) ≡ or_first o x.time
      go (Some t) = refl
      go None = first_known x.time

last_time : (ts : List ℕ) (t : ℕ) → last_of (ts ++ (if t == 0 then [] else t ∷ [])) ≡ or_last (last_of ts) t
last_time ts t = go (t == 0) where
  go : (b : Bool) → last_of (ts ++ (if b then [] else t ∷ [])) ≡ (if b then last_of ts else Some t)
  go true = ap last_of (append-nil ts)
  go false = last_more ts t

end_more : (xs : List Fact) (x : Fact) → last_of (times_of (filter is_exit (xs ++ x ∷ []))) ≡ (if is_exit x then or_last (last_of (times_of (filter is_exit xs))) x.time else last_of (times_of (filter is_exit xs)))
end_more xs x =
    ap (λ ys. last_of (times_of ys)) (filter-append is_exit xs (x ∷ []))
    ∙ ap last_of (times_more (filter is_exit xs) (filter is_exit (x ∷ []))) ∙ go (is_exit x) where
      go : (b : Bool) → last_of (times_of (filter is_exit xs) ++ times_of (if b then x ∷ [] else [])) ≡ (if b then or_last (last_of (times_of (filter is_exit xs))) x.time else last_of (times_of (filter is_exit xs)))
      go true = ap (λ ts. last_of (times_of (filter is_exit xs) ++ ts)) (one_time x) ∙ last_time (times_of (filter is_exit xs)) x.time
      go false = ap last_of (append-nil (times_of (filter is_exit xs)))

-- ---- threads

-- a thread whose samples are counted modulo 2^64
abbrev pub wrapped : Thread → Thread
wrapped t = record t { samples = t.samples % 2 ^ 64 }

-- what is known of a thread by its frames so far, or by none
record HasState (xs : List Fact) (t : Thread) : Type 0 where
  start : t.start ≡ first_of (times_of xs)
  end : t.end ≡ last_of (times_of (filter is_exit xs))
  samples : t.samples ≡ count_by is_sample xs % 2 ^ 64

last_there : {A : Type 0} (x : A) (xs : List A) → (y : A) × (last_of (x ∷ xs) ≡ Some y)
last_there {A} x xs = go (last_of xs) where
  go : (o : Option A) → (y : A) × (elim o [ Some z ↦ Some z | None ↦ Some x ] ≡ Some y)
  go (Some z) = (z, refl)
  go None = (x, refl)

has_state : (xs : List Fact) → HasState xs (or_none (option_map wrapped (option_map (thread_by xs) (last_of xs))))
has_state [] = record { start = refl; end = refl; samples = refl }
has_state (x ∷ xs) =
    let last = last_there x xs in
    subst (λ (o : Option Fact). HasState (x ∷ xs) (or_none (option_map wrapped (option_map (thread_by (x ∷ xs)) o)))) (sym last.1) (record { start = refl; end = refl; samples = refl })

grown_by : (xs : List Fact) (x : Fact) (t : Thread) → HasState xs t → wrapped (thread_by (xs ++ x ∷ []) x) ≡ grown t x
grown_by xs x t has =
    let start : first_of (times_of (xs ++ x ∷ [])) ≡ or_first t.start x.time = start_more xs x ∙ ap (λ o. or_first o x.time) (sym has.start) in
    let end : last_of (times_of (filter is_exit (xs ++ x ∷ []))) ≡ (if is_exit x then or_last t.end x.time else t.end) =
    end_more xs x ∙ ap (λ o. if is_exit x then or_last o x.time else o) (sym has.end) in
    let sum : (count_by is_sample xs + cond (is_sample x) 1 0) % 2 ^ 64 ≡ (count_by is_sample xs % 2 ^ 64 + cond (is_sample x) 1 0) % 2 ^ 64 = omega arith in
    let samples : count_by is_sample (xs ++ x ∷ []) % 2 ^ 64 ≡ (t.samples + cond (is_sample x) 1 0) % 2 ^ 64 =
    ap (λ n. n % 2 ^ 64) (count_more xs x) ∙ sum ∙ ap (λ n. (n + cond (is_sample x) 1 0) % 2 ^ 64) (sym has.samples) in
    rw (start, end, samples) refl

pub thread_more : (xs : List Fact) (x : Fact) (who : ℕ × ℕ)
    → option_map wrapped (thread_of (xs ++ x ∷ []) who) ≡ (if is_same x.who who then Some (grown (or_none (option_map wrapped (thread_of xs who))) x) else option_map wrapped (thread_of xs who))
thread_more xs x who =
    ap (λ ys. option_map wrapped (option_map (thread_by ys) (last_of ys))) (filter-append (λ (y : Fact). is_same y.who who) xs (x ∷ [])) ∙ go (is_same x.who who) where
      mine : List Fact
      mine = of_thread who xs

      go : (b : Bool) → option_map wrapped (option_map (thread_by (mine ++ (if b then x ∷ [] else []))) (last_of (mine ++ (if b then x ∷ [] else []))))
          ≡ (if b then Some (grown (or_none (option_map wrapped (thread_of xs who))) x) else option_map wrapped (thread_of xs who))
      go true =
          ap (λ o. option_map wrapped (option_map (thread_by (mine ++ x ∷ [])) o)) (last_more mine x)
          ∙ ap Some (grown_by mine x (or_none (option_map wrapped (thread_of xs who))) (has_state mine))
      go false = ap (λ ys. option_map wrapped (option_map (thread_by ys) (last_of ys))) (append-nil mine)
