-- Counts of frames, one frame after another.
use Rattle.std.proofs.Common.{◌≡◌, ℕ, zero, suc, ◌+◌, ◌%◌, ◌≤◌, ◌<◌, ◌^◌, ◌==◌, Bool, true, false, List, [], ◌∷◌, ◌++◌, length, map, get_or, Option, Some, None, refl, sym, ap, ◌∙◌, add-zero, append-nil, length-append, cond, arith}
use Rattle.std.specs.Prelude.{min, max, sum_by, count_by, nat_lt, nat_le, is_some, if◌then◌else◌}
use Rattle.std.specs.List.{filter, reduce}
use Rattle.std.proofs.Math.Dec.{eqb-suc-zero}
use Rattle.std.proofs.Math.Nat.{mod-add-mod, mod-eq_of_lt}
use Rattle.std.proofs.lemmas.Bool.{lt-ltb}
use Rattle.std.proofs.lemmas.List.{length-replicate, get_or-replicate, map-append}
use Rattle.std.proofs.lemmas.List.Elements.{filter-append}
use Rattle.std.proofs.lemmas.List.Sums.{sum_by_push, fold-append, count_by-le-length}
use Rattle.perf_base.specs.Attribute.{or_zero}
use Rattle.perf_summary.specs.Counts.{is_number, of_event, is_sample, is_refused, sample_times, event_count, type_count, other_count, AreCounts}
use Rattle.perf_summary.specs.CountSteps.{one_if, plus, picked, joined, with_sample, with_others, with_frame, no_count, IsNew, AddsFrame}
use Rattle.perf_summary.specs.declared.contents.Contents.{Contents}
use Rattle.perf_summary.specs.declared.counts.Counts.{Counts}
use Rattle.perf_summary.specs.declared.counts.EventCount.{EventCount}

-- ---- of an event

abbrev made : (samples period : ℕ) (first last : Option ℕ) (lost refused : ℕ) → EventCount
made s p f l o r = record { samples = s; period = p; first = f; last = l; lost = o; refused = r }

made_same : (a b : EventCount) → a.samples ≡ b.samples → a.period ≡ b.period → a.first ≡ b.first → a.last ≡ b.last → a.lost ≡ b.lost → a.refused ≡ b.refused → a ≡ b
made_same a b s p f l o r =
    ap (λ v. made v a.period a.first a.last a.lost a.refused) s
    ∙ ap (λ v. made b.samples v a.first a.last a.lost a.refused) p
    ∙ ap (λ v. made b.samples b.period v a.last a.lost a.refused) f
    ∙ ap (λ v. made b.samples b.period b.first v a.lost a.refused) l
    ∙ ap (λ v. made b.samples b.period b.first b.last v a.refused) o
    ∙ ap (λ v. made b.samples b.period b.first b.last b.lost v) r

-- the counts, each modulo 2^64
abbrev tally : List Contents → EventCount
tally xs = record (event_count xs) {
  samples = count_by is_sample xs % 2 ^ 64;
  refused = count_by is_refused xs % 2 ^ 64;
}

-- a sum with one more number
sum_more : (h : Contents → ℕ) (xs : List Contents) (x : Contents) → sum_by h (xs ++ x ∷ []) % 2 ^ 64 ≡ plus (sum_by h xs % 2 ^ 64) (h x)
sum_more h xs x = ap (λ n. n % 2 ^ 64) (sum_by_push h xs x) ∙ sym (mod-add-mod (sum_by h xs) (2 ^ 64) (h x))

-- and one with nothing more
sum_same : (h : Contents → ℕ) (xs : List Contents) (x : Contents) → h x ≡ 0 → sum_by h (xs ++ x ∷ []) % 2 ^ 64 ≡ sum_by h xs % 2 ^ 64
sum_same h xs x none = ap (λ n. n % 2 ^ 64) (sum_by_push h xs x ∙ ap (λ n. sum_by h xs + n) none ∙ add-zero (sum_by h xs))

reduce_more : (f : ℕ → ℕ → ℕ) (ts : List ℕ) (t : ℕ) → reduce f (ts ++ t ∷ []) ≡ Some (picked f (reduce f ts) t)
reduce_more f [] t = refl
reduce_more f (u ∷ ts) t = ap (λ n. Some n) (fold-append f u ts (t ∷ []))

-- the times with one more sample
times_more : (xs : List Contents) (x : Contents) → is_sample x ≡ true → sample_times (xs ++ x ∷ []) ≡ sample_times xs ++ filter (nat_lt 0) (x.time ∷ [])
times_more xs x is =
    ap (λ ys. filter (nat_lt 0) (map (λ (y : Contents). y.time) ys)) (filter-append is_sample xs (x ∷ []) ∙ ap (λ b. filter is_sample xs ++ cond b (x ∷ []) []) is)
    ∙ ap (filter (nat_lt 0)) (map-append (λ (y : Contents). y.time) (filter is_sample xs) (x ∷ []))
    ∙ filter-append (nat_lt 0) (map (λ (y : Contents). y.time) (filter is_sample xs)) (x.time ∷ [])

times_same : (xs : List Contents) (x : Contents) → is_sample x ≡ false → sample_times (xs ++ x ∷ []) ≡ sample_times xs
times_same xs x is =
    ap (λ ys. filter (nat_lt 0) (map (λ (y : Contents). y.time) ys)) (filter-append is_sample xs (x ∷ []) ∙ ap (λ b. filter is_sample xs ++ cond b (x ∷ []) []) is ∙ append-nil (filter is_sample xs))

time_joined : (f : ℕ → ℕ → ℕ) (ts : List ℕ) (t : ℕ) → reduce f (ts ++ filter (nat_lt 0) (t ∷ [])) ≡ joined f (reduce f ts) t
time_joined f ts zero = ap (reduce f) (append-nil ts)
time_joined f ts (suc t) =
    let a : nat_lt 0 (suc t) ≡ true = lt-ltb 0 (suc t) (omega arith) in
    let b : (suc t == 0) ≡ false = eqb-suc-zero t in
    rw (a, b) (reduce_more f ts (suc t))

joined_more : (f : ℕ → ℕ → ℕ) (xs : List Contents) (x : Contents) → is_sample x ≡ true → reduce f (sample_times (xs ++ x ∷ [])) ≡ joined f (reduce f (sample_times xs)) x.time
joined_more f xs x is = ap (reduce f) (times_more xs x is) ∙ time_joined f (sample_times xs) x.time

-- one more frame, which has this period
tally_by : (xs : List Contents) (x : Contents) (period : Option ℕ) → x.period ≡ period → tally (xs ++ x ∷ []) ≡ with_others (with_sample (tally xs) period x.time) x.lost x.is_refused
tally_by xs x (Some period) has =
    let is : is_sample x ≡ true = ap is_some has in
    made_same (tally (xs ++ x ∷ [])) (with_others (with_sample (tally xs) (Some period) x.time) x.lost x.is_refused)
    (sum_more (λ y. cond (is_sample y) 1 0) xs x ∙ ap (λ b. plus (count_by is_sample xs % 2 ^ 64) (cond b 1 0)) is)
    (sum_more (λ y. or_zero y.period) xs x ∙ ap (λ o. plus (sum_by (λ (y : Contents). or_zero y.period) xs % 2 ^ 64) (or_zero o)) has)
    (joined_more min xs x is)
    (joined_more max xs x is)
    (sum_more (λ y. y.lost) xs x)
    (sum_more (λ y. cond (is_refused y) 1 0) xs x)
tally_by xs x None has =
    let is : is_sample x ≡ false = ap is_some has in
    made_same (tally (xs ++ x ∷ [])) (with_others (with_sample (tally xs) None x.time) x.lost x.is_refused)
    (sum_same (λ y. cond (is_sample y) 1 0) xs x (ap (λ b. cond b 1 0) is))
    (sum_same (λ y. or_zero y.period) xs x (ap or_zero has))
    (ap (reduce min) (times_same xs x is))
    (ap (reduce max) (times_same xs x is))
    (sum_more (λ y. y.lost) xs x)
    (sum_more (λ y. cond (is_refused y) 1 0) xs x)

tally_more : (xs : List Contents) (x : Contents) → tally (xs ++ x ∷ []) ≡ with_frame (tally xs) x
tally_more xs x = tally_by xs x x.period refl

-- that of an event
tally_of_event : (n : ℕ) (xs : List Contents) (x : Contents) → tally (of_event n (xs ++ x ∷ [])) ≡ (if is_number x.event n then with_frame (tally (of_event n xs)) x else tally (of_event n xs))
tally_of_event n xs x =
    let b : Bool = is_number x.event n in
    ap tally (filter-append (λ (y : Contents). is_number y.event n) xs (x ∷ [])) ∙ by_event b
  where
    by_event : (b : Bool) → tally (of_event n xs ++ cond b (x ∷ []) []) ≡ (if b then with_frame (tally (of_event n xs)) x else tally (of_event n xs))
    by_event true = tally_more (of_event n xs) x
    by_event false = ap tally (append-nil (of_event n xs))

-- ---- of all

-- the frames that were counted so far
pub record IsTallied (number : ℕ) (xs : List Contents) (c : Counts) : Type 0 where
  pub frames : c.frames ≡ length xs % 2 ^ 64
  pub refused : c.refused ≡ count_by is_refused xs % 2 ^ 64
  pub event_number : length c.events.items ≡ number
  pub events : (n : ℕ) (d : EventCount) → n < number → get_or c.events.items n d ≡ tally (of_event n xs)
  pub type_number : length c.types.items ≡ 128
  pub types : (ty : ℕ) (d : ℕ) → ty < 128 → get_or c.types.items ty d ≡ type_count ty xs % 2 ^ 64
  pub other_types : c.other_types ≡ other_count xs % 2 ^ 64

pub tallied_none : (number : ℕ) (c : Counts) → IsNew number c → IsTallied number [] c
tallied_none number c new = record {
  frames = new.frames;
  refused = new.refused;
  event_number = ap length new.events ∙ length-replicate number no_count;
  events = λ n d low. ap (λ (cs : List EventCount). get_or cs n d) new.events ∙ get_or-replicate number n no_count d low;
  type_number = ap length new.types;
  types = λ ty d low. ap (λ (ns : List ℕ). get_or ns ty d) new.types ∙ get_or-replicate 128 ty 0 d low;
  other_types = new.other_types;
}

-- an item that was changed, or not
changed_item : {A : Type 0} (b : Bool) (change : A → A) (x y : A) → x ≡ y → (if b then change x else x) ≡ (if b then change y else y)
changed_item b change x y is = ap (λ z. if b then change z else z) is

type_by : (b : Bool) (n : ℕ) → plus (n % 2 ^ 64) (cond b 1 0) ≡ (if b then plus (n % 2 ^ 64) 1 else n % 2 ^ 64)
type_by true n = refl
type_by false n = mod-add-mod n (2 ^ 64) 0 ∙ ap (λ m. m % 2 ^ 64) (add-zero n)

-- and one more
pub tallied_more : (number : ℕ) (xs : List Contents) (x : Contents) (c d : Counts) → IsTallied number xs c → AddsFrame x c d → IsTallied number (xs ++ x ∷ []) d
tallied_more number xs x c d so_far adds = record {
  frames = adds.frames ∙ ap (λ n. plus n 1) so_far.frames ∙ mod-add-mod (length xs) (2 ^ 64) 1 ∙ ap (λ n. n % 2 ^ 64) (sym (length-append xs (x ∷ [])));
  refused = adds.refused ∙ ap (λ n. plus n (one_if x.is_refused)) so_far.refused ∙ sym (sum_more (λ y. cond (is_refused y) 1 0) xs x);
  event_number = adds.events.same ∙ so_far.event_number;
  events = λ n e low.
      adds.events.items n e (omega (arith, low, so_far.event_number))
      ∙ changed_item (is_number x.event n) (λ k. with_frame k x) (get_or c.events.items n e) (tally (of_event n xs)) (so_far.events n e low)
      ∙ sym (tally_of_event n xs x);
  type_number = adds.types.same ∙ so_far.type_number;
  types = λ ty e low.
      adds.types.items ty e (omega (arith, low, so_far.type_number))
      ∙ changed_item (x.type_ == ty) (λ k. plus k 1) (get_or c.types.items ty e) (type_count ty xs % 2 ^ 64) (so_far.types ty e low)
      ∙ sym (type_by (x.type_ == ty) (type_count ty xs))
      ∙ sym (sum_more (λ (y : Contents). cond (y.type_ == ty) 1 0) xs x);
  other_types =
      adds.other_types ∙ ap (λ n. plus n (one_if (nat_le 128 x.type_))) so_far.other_types
      ∙ sym (sum_more (λ (y : Contents). cond (nat_le 128 y.type_) 1 0) xs x);
}

few_left : (p : Contents → Bool) (xs : List Contents) → length (filter p xs) ≤ length xs
few_left p [] = omega arith
few_left p (x ∷ xs) = few_by (p x) (few_left p xs)
  where
    few_by : (b : Bool) → length (filter p xs) ≤ length xs → length (cond b (x ∷ filter p xs) (filter p xs)) ≤ suc (length xs)
    few_by true few = omega (arith, few)
    few_by false few = omega (arith, few)

-- of fewer than 2^64 frames nothing is lost
tally_whole : (xs : List Contents) → length xs < 2 ^ 64 → tally xs ≡ event_count xs
tally_whole xs small =
    let samples : count_by is_sample xs % 2 ^ 64 ≡ count_by is_sample xs = mod-eq_of_lt (omega (arith, small, count_by-le-length is_sample xs)) in
    let refused : count_by is_refused xs % 2 ^ 64 ≡ count_by is_refused xs = mod-eq_of_lt (omega (arith, small, count_by-le-length is_refused xs)) in
    made_same (tally xs) (event_count xs) samples refl refl refl refl refused

pub tallied_all : (number : ℕ) (xs : List Contents) (c : Counts) → length xs < 2 ^ 64 → IsTallied number xs c → AreCounts number xs c
tallied_all number xs c small all = record {
  frames = all.frames ∙ mod-eq_of_lt small;
  refused = all.refused ∙ mod-eq_of_lt (omega (arith, small, count_by-le-length is_refused xs));
  event_number = all.event_number;
  events = λ n d low. all.events n d low ∙ tally_whole (of_event n xs) (omega (arith, small, few_left (λ (x : Contents). is_number x.event n) xs));
  type_number = all.type_number;
  types = λ ty d low. all.types ty d low ∙ mod-eq_of_lt (omega (arith, small, count_by-le-length (λ (x : Contents). x.type_ == ty) xs));
  other_types = all.other_types ∙ mod-eq_of_lt (omega (arith, small, count_by-le-length (λ (x : Contents). nat_le 128 x.type_) xs));
}
