-- Parts that are read one after another from the places of a body.
use Rattle.std.proofs.Common.{◌≡◌, ℕ, zero, suc, ◌+◌, ◌-◌, ◌*◌, ◌≤◌, ◌<◌, ◌^◌, Bool, true, false, List, [], length, take, drop, Option, Some, None, Ok, Err, refl, sym, ◌∙◌, ap, subst, inl, inr, arith}
use Rattle.std.proofs.lemmas.Bool.{cases_lt}
use Rattle.std.proofs.lemmas.List.{length-drop, length-take, length-take-le, drop-drop, take_all}
use Rattle.perf_base.specs.Layout.{Shape, Width, w8, bytes_in, number_of, ShapeValue, shape_value, size, Parts, done, part, check, number, optional, words, ◌>>=◌, layout, words_of}
use Rattle.perf_base.specs.Order.{Order}
use Rattle.perf_base.specs.Refusals.{refusal_kind}
use Rattle.perf_base.specs.Run.{Ran, ran, stopped, run_parts, one, answer}
use Rattle.perf_base.specs.declared.error.ErrorKind.{ErrorKind}
use Rattle.perf_base.specs.declared.error.ErrorKind.TheVariants.{Eof}
use Rattle.perf_base.specs.declared.refusal.Refusal.{Refusal}
use Rattle.perf_base.specs.declared.refusal.Refusal.TheVariants as why
use Rattle.perf_base.proofs.Algebra.{then_ok}
use Rattle.perf_base.proofs.Bridge.{run_yes, run_no}
use Rattle.perf_base.proofs.Tables.{layout_is_run}
use Rattle.perf_flat.specs.Arrays.{low_u32, span}
use Rattle.perf_flat.specs.CursorReads.{IsBodyOf, left_of, refusal_after, cut_short, run_at, read_to, ReadsParts, PassesNumbers}
use Rattle.perf_flat.specs.Strings.{HasBytes}
use Rattle.perf_flat.specs.declared.frame.Span.{Span}
use Rattle.perf_flat.specs.declared.cursor.BodyCursor.{BodyCursor}
use Rattle.perf_flat.proofs.Spans.{stands_there}
use Rattle.perf_flat.proofs.TrimmedBytes.{taken_stands}

-- ---- one after another

-- parts that are refused, whatever comes after them
pub then_stops : {A B : Type 0} (o : Order) (p : Parts A) (f : A → Parts B) (bytes : List ℕ) (e : ErrorKind) (left : List ℕ) →
    run_parts o p bytes ≡ stopped e left → run_parts o (p >>= f) bytes ≡ stopped e left
then_stops o (done x) f bytes e left is = absurd (cc)
then_stops o (check true k p) f bytes e left is = then_stops o p f bytes e left is
then_stops o (check false k p) f bytes e left is = cc
then_stops o (part shape k) f bytes e left is =
    let n : ℕ = size shape (length bytes) in
    elim (cases_lt (length bytes) n) [
      | inl short ↦
          let one = sym (run_no o shape k bytes short) ∙ is in
          let two = run_no o shape (λ a. k a >>= f) bytes short in
          cc
      | inr fits ↦
          run_yes o shape (λ a. k a >>= f) bytes n refl fits
          ∙ then_stops o (k (shape_value o shape (take n bytes))) f (drop n bytes) e left (sym (run_yes o shape k bytes n refl fits) ∙ is)
    ]

-- parts, and then others that depend on their value
pub then_read : {A B : Type 0} (o : Order) (p : Parts A) (f : A → Parts B) (a b c : BodyCursor) (v : A) (w : B) →
    run_at o p a ≡ read_to v b → run_at o (f v) b ≡ read_to w c → run_at o (p >>= f) a ≡ read_to w c
unfolding run_at read_to
then_read {A} {B} o p f a b c v w first next = both a.refusal b.refusal (read_to w c) first next
  where
    ended : (s : Option Refusal) (end : Ran B) (r : Ran A) → run_parts o p (left_of a) ≡ r →
        cut_short r ≡ elim s [ Some e ↦ stopped (refusal_kind e) [] | None ↦ ran v (left_of b) ] →
        elim s as (λ _. Ran B) [ Some e ↦ stopped (refusal_kind e) [] | None ↦ cut_short (run_parts o (f v) (left_of b)) ] ≡ end →
        cut_short (run_parts o (p >>= f) (left_of a)) ≡ end
    ended None end (ran x left) is one two =
        let same : x ≡ v = cc in
        let same' : left ≡ left_of b = cc in
        ap cut_short (then_ok o p f (left_of a) x left is ∙ ap (λ y. run_parts o (f y) left) same ∙ ap (run_parts o (f v)) same') ∙ two
    ended None end (stopped e left) is one two = absurd (cc)
    ended (Some k) end (ran x left) is one two = absurd (cc)
    ended (Some k) end (stopped e left) is one two =
        let same : e ≡ refusal_kind k = cc in
        ap cut_short (then_stops o p f (left_of a) e left is) ∙ ap (λ y. stopped y []) same ∙ two

    both : (r s : Option Refusal) (end : Ran B) →
        elim r as (λ _. Ran A) [ Some e ↦ stopped (refusal_kind e) [] | None ↦ cut_short (run_parts o p (left_of a)) ]
        ≡ elim s [ Some e ↦ stopped (refusal_kind e) [] | None ↦ ran v (left_of b) ] →
        elim s as (λ _. Ran B) [ Some e ↦ stopped (refusal_kind e) [] | None ↦ cut_short (run_parts o (f v) (left_of b)) ] ≡ end →
        elim r as (λ _. Ran B) [ Some e ↦ stopped (refusal_kind e) [] | None ↦ cut_short (run_parts o (p >>= f) (left_of a)) ] ≡ end
    both (Some e) None end one two = absurd (cc)
    both (Some e) (Some k) end one two =
        let same : refusal_kind e ≡ refusal_kind k = cc in
        ap (λ y. stopped y []) same ∙ two
    both None s end one two = ended s end (run_parts o p (left_of a)) refl one two

-- nothing is left to read
pub done_read : {A : Type 0} (o : Order) (v : A) (a : BodyCursor) → run_at o (done v) a ≡ read_to v a
unfolding run_at read_to
done_read {A} o v a = go a.refusal
  where
    go : (r : Option Refusal) →
        elim r as (λ _. Ran A) [ Some e ↦ stopped (refusal_kind e) [] | None ↦ ran v (left_of a) ]
        ≡ elim r [ Some e ↦ stopped (refusal_kind e) [] | None ↦ ran v (left_of a) ]
    go r = refl

-- the same, as calls one after another read them
pub then_reads : {A B : Type 0} {o : Order} {a b c : BodyCursor} {v : A} {w : B} (p : Parts A) (f : A → Parts B) → ReadsParts o p v a b → ReadsParts o (f v) w b c → ReadsParts o (p >>= f) w a c
then_reads {A} {B} {o} {a} {b} {c} {v} {w} p f first next = record {
  run = then_read o p f a b c v w first.run next.run;
  bytes = next.bytes ∙ first.bytes;
}

pub all_read : {A : Type 0} {o : Order} {a : BodyCursor} {v : A} → ReadsParts o (done v) v a a
all_read {A} {o} {a} {v} = record { run = done_read o v a; bytes = refl }

-- nothing follows from a test that is false
pub refused_there : {P : Type 0} (b : Bool) → b ≡ false → b ≡ true → P
refused_there true is other = absurd (cc)
refused_there false is other = absurd (cc)

pub absurd_of : {P : Type 0} (b : Bool) → b ≡ true → b ≡ false → P
absurd_of true is other = absurd (cc)
absurd_of false is other = absurd (cc)

-- a check
pub checked : {o : Order} {a b : BodyCursor} (holds : Bool) (told : Refusal) → b.bytes.now ≡ a.bytes.now → (holds ≡ true → b.at ≡ a.at) → (holds ≡ true → b.refusal ≡ a.refusal) →
    (holds ≡ false → b.refusal ≡ refusal_after a.refusal told) → ReadsParts {A = Unit {0}} o (check holds (refusal_kind told) (done tt)) tt a b
unfolding run_at read_to
checked {o} {a} {b} true told same at kept fails =
    let stays : b.refusal ≡ a.refusal = kept refl in
    let left : left_of a ≡ left_of b = sym (ap (λ n. drop n b.bytes.now) (at refl) ∙ ap (drop a.at) same) in
    record {
      run = ap (λ xs. elim a.refusal as (λ _. Ran (Unit {0})) [ Some e ↦ stopped (refusal_kind e) [] | None ↦ ran tt xs ]) left
          ∙ ap (λ r. elim r as (λ _. Ran (Unit {0})) [ Some e ↦ stopped (refusal_kind e) [] | None ↦ ran tt (left_of b) ]) (sym stays);
      bytes = same;
    }
checked {o} {a} {b} false told same at kept fails = record { run = go a.refusal ∙ sym (ap (λ r. elim r as (λ _. Ran (Unit {0})) [ Some e ↦ stopped (refusal_kind e) [] | None ↦ ran tt (left_of b) ]) (fails refl)); bytes = same }
  where
    go : (r : Option Refusal) →
        elim r as (λ _. Ran (Unit {0})) [ Some e ↦ stopped (refusal_kind e) [] | None ↦ stopped (refusal_kind told) [] ]
        ≡ elim (refusal_after r told) as (λ _. Ran (Unit {0})) [ Some e ↦ stopped (refusal_kind e) [] | None ↦ ran tt (left_of b) ]
    go (Some e) = refl
    go None = refl

-- nothing was refused before, if nothing is after
pub still_fresh : {A : Type 0} {o : Order} {p : Parts A} {v : A} {a b : BodyCursor} → ReadsParts o p v a b → b.refusal ≡ None → a.refusal ≡ None
unfolding run_at read_to
still_fresh {A} {o} {p} {v} {a} {b} reads ok = go a.refusal (reads.run ∙ ap (λ r. elim r as (λ _. Ran A) [ Some e ↦ stopped (refusal_kind e) [] | None ↦ ran v (left_of b) ]) ok)
  where
    go : (r : Option Refusal) → elim r as (λ _. Ran A) [ Some e ↦ stopped (refusal_kind e) [] | None ↦ cut_short (run_parts o p (left_of a)) ] ≡ ran v (left_of b) → r ≡ None
    go (Some e) is = absurd (cc)
    go None is = refl

-- a check that did not refuse
pub refuses_not : {o : Order} {t : Bool} {kind : ErrorKind} {a b : BodyCursor} → ReadsParts {A = Unit {0}} o (check t kind (done tt)) tt a b → b.refusal ≡ None → t ≡ true
unfolding run_at read_to
refuses_not {o} {t} {kind} {a} {b} reads ok =
    go t (sym (ap (λ r. elim r as (λ _. Ran (Unit {0})) [ Some e ↦ stopped (refusal_kind e) [] | None ↦ cut_short (run_parts o (check t kind (done tt)) (left_of a)) ]) (still_fresh reads ok))
    ∙ reads.run ∙ ap (λ r. elim r as (λ _. Ran (Unit {0})) [ Some e ↦ stopped (refusal_kind e) [] | None ↦ ran tt (left_of b) ]) ok)
  where
    go : (t : Bool) → cut_short (run_parts {A = Unit {0}} o (check t kind (done tt)) (left_of a)) ≡ ran tt (left_of b) → t ≡ true
    go true is = refl
    go false is = absurd (cc)

-- an optional number that is present
pub optional_there : {o : Order} {a b : BodyCursor} {n : ℕ} (present : Bool) → present ≡ true → ReadsParts o (part (number w8) done) n a b → ReadsParts o (part (optional present w8) done) (Some n) a b
unfolding run_at read_to one
optional_there {o} {a} {b} {n} true is reads = record {
  run = if_there a.refusal b.refusal reads.run;
  bytes = reads.bytes;
}
  where
    lacked : (s : Option Refusal) → stopped Eof [] ≡ elim s as (λ _. Ran ℕ) [ Some e ↦ stopped (refusal_kind e) [] | None ↦ ran n (left_of b) ] →
        stopped Eof [] ≡ elim s as (λ _. Ran (Option ℕ)) [ Some e ↦ stopped (refusal_kind e) [] | None ↦ ran (Some n) (left_of b) ]
    lacked (Some k) is = let same : Eof ≡ refusal_kind k = cc in ap (λ y. stopped y []) same
    lacked None is = absurd (cc)

    had : (s : Option Refusal) → ran (o.eight (take 8 (left_of a))) (drop 8 (left_of a)) ≡ elim s as (λ _. Ran ℕ) [ Some e ↦ stopped (refusal_kind e) [] | None ↦ ran n (left_of b) ] →
        ran (Some (o.eight (take 8 (left_of a)))) (drop 8 (left_of a)) ≡ elim s as (λ _. Ran (Option ℕ)) [ Some e ↦ stopped (refusal_kind e) [] | None ↦ ran (Some n) (left_of b) ]
    had (Some k) is = absurd (cc)
    had None is =
        let same : o.eight (take 8 (left_of a)) ≡ n = cc in
        let left : drop 8 (left_of a) ≡ left_of b = cc in
        ap (λ x. ran (Some x) (drop 8 (left_of a))) same ∙ ap (ran (Some n)) left

    if_there : (r s : Option Refusal) →
        elim r as (λ _. Ran ℕ) [ Some e ↦ stopped (refusal_kind e) [] | None ↦ cut_short (run_parts o (part (number w8) done) (left_of a)) ]
        ≡ elim s as (λ _. Ran ℕ) [ Some e ↦ stopped (refusal_kind e) [] | None ↦ ran n (left_of b) ] →
        elim r as (λ _. Ran (Option ℕ)) [ Some e ↦ stopped (refusal_kind e) [] | None ↦ cut_short (run_parts o (part (optional true w8) done) (left_of a)) ]
        ≡ elim s as (λ _. Ran (Option ℕ)) [ Some e ↦ stopped (refusal_kind e) [] | None ↦ ran (Some n) (left_of b) ]
    if_there (Some e) (Some k) is = let same : refusal_kind e ≡ refusal_kind k = cc in ap (λ y. stopped y []) same
    if_there (Some e) None is = absurd (cc)
    if_there None s is = elim (cases_lt (length (left_of a)) 8) [
      | inl short ↦ ap cut_short (run_no o (optional true w8) done (left_of a) short) ∙ lacked s (sym (ap cut_short (run_no o (number w8) done (left_of a) short)) ∙ is)
      | inr fits ↦ ap cut_short (run_yes o (optional true w8) done (left_of a) 8 refl fits) ∙ had s (sym (ap cut_short (run_yes o (number w8) done (left_of a) 8 refl fits)) ∙ is)
    ]
optional_there {o} {a} {b} {n} false is reads = absurd (cc)

-- ---- one part

-- it fits
pub part_fits : (o : Order) (shape : Shape) (n : ℕ) (a b : BodyCursor) → size shape (length (left_of a)) ≡ n → n ≤ length (left_of a) →
    b.refusal ≡ a.refusal → b.bytes.now ≡ a.bytes.now → b.at ≡ a.at + n → ReadsParts o (part shape done) (shape_value o shape (take n (left_of a))) a b
unfolding run_at read_to
part_fits o shape n a b sized fits stays same at =
    let v : ShapeValue shape = shape_value o shape (take n (left_of a)) in
    let after : drop n (left_of a) ≡ left_of b =
    drop-drop n a.at a.bytes.now ∙ sym (ap (λ m. drop m b.bytes.now) at ∙ ap (drop (a.at + n)) same) in
    let is : run_parts o (part shape done) (left_of a) ≡ ran v (left_of b) = run_yes o shape done (left_of a) n sized fits ∙ ap (ran v) after in
    record {
      run = ap (λ r. elim a.refusal as (λ _. Ran (ShapeValue shape)) [ Some e ↦ stopped (refusal_kind e) [] | None ↦ cut_short r ]) is
          ∙ ap (λ r. elim r as (λ _. Ran (ShapeValue shape)) [ Some e ↦ stopped (refusal_kind e) [] | None ↦ ran v (left_of b) ]) (sym stays);
      bytes = same;
    }

-- it does not fit
pub part_lacks : (o : Order) (shape : Shape) (a b : BodyCursor) (v : ShapeValue shape) → length (left_of a) < size shape (length (left_of a)) →
    b.refusal ≡ refusal_after a.refusal why.Eof → b.bytes.now ≡ a.bytes.now → ReadsParts o (part shape done) v a b
unfolding run_at read_to
part_lacks o shape a b v short refuses same = record {
  run = ap (λ r. elim a.refusal as (λ _. Ran (ShapeValue shape)) [ Some e ↦ stopped (refusal_kind e) [] | None ↦ cut_short r ]) (run_no o shape done (left_of a) short)
      ∙ go a.refusal ∙ sym (ap (λ r. elim r as (λ _. Ran (ShapeValue shape)) [ Some e ↦ stopped (refusal_kind e) [] | None ↦ ran v (left_of b) ]) refuses);
  bytes = same;
}
  where
    go : (r : Option Refusal) →
        elim r as (λ _. Ran (ShapeValue shape)) [ Some e ↦ stopped (refusal_kind e) [] | None ↦ stopped (refusal_kind why.Eof) [] ]
        ≡ elim (refusal_after r why.Eof) as (λ _. Ran (ShapeValue shape)) [ Some e ↦ stopped (refusal_kind e) [] | None ↦ ran v (left_of b) ]
    go (Some e) = refl
    go None = refl

-- an optional number that is absent
pub optional_absent : {o : Order} {a : BodyCursor} (present : Bool) → present ≡ false → ReadsParts o (part (optional present w8) done) None a a
optional_absent true is = absurd (cc)
optional_absent {o} {a} false is = part_fits o (optional false w8) 0 a a refl (omega arith) refl refl (omega arith)

-- ---- bytes that were passed over

-- how a call passes over n bytes
pub record Passed (n : ℕ) (a : BodyCursor) (s : Span) (b : BodyCursor) : Type 0 where
  pub bytes : b.bytes.now ≡ a.bytes.now
  pub short : length a.bytes.now < a.at + n → b.refusal ≡ refusal_after a.refusal why.Eof
  pub fits : a.at + n ≤ length a.bytes.now → (b.refusal ≡ a.refusal) × (b.at ≡ a.at + n) × (s ≡ span (low_u32 (8 + a.at)) (low_u32 n))

pub refusal_stays : (r : Option Refusal) (e : Refusal) → refusal_after r e ≡ None → ⊥
refusal_stays (Some k) e fresh = absurd (cc)
refusal_stays None e fresh = absurd (cc)

-- they are in each frame of the body
pub passed_there : (n : ℕ) (a b : BodyCursor) (s : Span) → a.at ≤ length a.bytes.now → Passed n a s b → b.refusal ≡ None → (frame : List ℕ) → IsBodyOf frame a.bytes.now →
    HasBytes frame s (take n (left_of a))
passed_there n a b s within passed ok frame is = elim (cases_lt (length a.bytes.now) (a.at + n)) [
  | inl short ↦ absurd (refusal_stays a.refusal why.Eof (sym (passed.short short) ∙ ok))
  | inr fits ↦
      let bytes : List ℕ = take n (left_of a) in
      let left : length (left_of a) ≡ length a.bytes.now - a.at = length-drop a.at a.bytes.now in
      let long : length bytes ≡ n = length-take-le n (left_of a) (omega arith) in
      let has = stands_there frame a.bytes.now is a.at bytes (taken_stands a.bytes.now a.at n fits) in
      let there : span (low_u32 (8 + a.at)) (low_u32 (length bytes)) ≡ s = ap (λ m. span (low_u32 (8 + a.at)) (low_u32 m)) long ∙ sym (passed.fits fits).2 in
      subst (λ x. HasBytes frame x bytes) there has
]

-- a part of as many bytes
pub passed_part : (o : Order) (shape : Shape) (n : ℕ) (a b : BodyCursor) (s : Span) → size shape (length (left_of a)) ≡ n → a.at ≤ length a.bytes.now → Passed n a s b →
    ReadsParts o (part shape done) (shape_value o shape (take n (left_of a))) a b
passed_part o shape n a b s sized within passed =
    let left : length (left_of a) ≡ length a.bytes.now - a.at = length-drop a.at a.bytes.now in
    elim (cases_lt (length a.bytes.now) (a.at + n)) [
      | inl short ↦ part_lacks o shape a b _ (subst (λ m. length (left_of a) < m) (sym sized) (omega arith)) (passed.short short) passed.bytes
      | inr fits ↦ let f = passed.fits fits in part_fits o shape n a b sized (omega arith) f.0 passed.bytes f.1
    ]

-- they fit
pub passed_fits : (n : ℕ) (a b : BodyCursor) (s : Span) → Passed n a s b → b.refusal ≡ None → n ≤ length (left_of a)
passed_fits n a b s passed ok = elim (cases_lt (length a.bytes.now) (a.at + n)) [
  | inl short ↦ absurd (refusal_stays a.refusal why.Eof (sym (passed.short short) ∙ ok))
  | inr fits ↦ omega (arith, fits, length-drop a.at a.bytes.now)
]

-- a body is no longer than its frame
body_fits : (frame body : List ℕ) → IsBodyOf frame body → length body ≤ length frame
body_fits frame body is =
    let k : ℕ = is.count in
    let front = ap length is.is ∙ length-take k (drop 8 frame) in
    omega (arith, front, length-drop 8 frame)

-- so many numbers
words_long : (o : Order) (n : ℕ) (xs : List ℕ) → length (words_of o n xs) ≡ n
words_long o zero xs = refl
words_long o (suc n) xs = ap suc (words_long o n (drop 8 xs))

-- numbers of eight bytes
pub passed_numbers : (o : Order) (n : ℕ) (a b : BodyCursor) (s : Span) → a.at ≤ length a.bytes.now → Passed (8 * n) a s b → PassesNumbers o n a s b
passed_numbers o n a b s within passed =
    let bytes : List ℕ = take (8 * n) (left_of a) in record {
      value = words_of o n bytes;
      reads = passed_part o (words n) (8 * n) a b s refl within passed;
      holds = λ ok. (
        words_long o n bytes,
        λ frame is.
            let has = passed_there (8 * n) a b s within passed ok frame is in
            record { inside = has.inside; many = passed_many n a b s within passed ok frame is; there = ap (words_of o n) has.there },
      );
    }
  where
    passed_many : (n : ℕ) (a b : BodyCursor) (s : Span) → a.at ≤ length a.bytes.now → Passed (8 * n) a s b → b.refusal ≡ None → (frame : List ℕ) → IsBodyOf frame a.bytes.now → s.len ≡ 8 * n
    passed_many n a b s within passed ok frame is = elim (cases_lt (length a.bytes.now) (a.at + 8 * n)) [
      | inl short ↦ absurd (refusal_stays a.refusal why.Eof (sym (passed.short short) ∙ ok))
      | inr fits ↦
          let front : length a.bytes.now ≤ length frame = body_fits frame a.bytes.now is in
          let less : length frame < 2 ^ 32 = is.short in
          let small : low_u32 (8 * n) ≡ 8 * n = omega arith in
          ap (λ (x : Span). x.len) (passed.fits fits).2 ∙ small
    ]

-- more than there can be
pub lacks_numbers : (o : Order) (n : ℕ) (a b : BodyCursor) (s : Span) → length a.bytes.now < 8 * n → b.refusal ≡ refusal_after a.refusal why.Eof → b.bytes.now ≡ a.bytes.now → PassesNumbers o n a s b
lacks_numbers o n a b s many refuses same = record {
  value = [];
  reads = part_lacks o (words n) a b [] (omega (arith, length-drop a.at a.bytes.now)) refuses same;
  holds = λ ok. absurd (refusal_stays a.refusal why.Eof (sym refuses ∙ ok));
}

-- ---- from the beginning

answer_cut : {A : Type 0} (r : Ran A) → answer (cut_short r) ≡ answer r
answer_cut (ran v left) = refl
answer_cut (stopped e left) = refl

-- what was read of a body is its layout
pub layout_read : {A : Type 0} (o : Order) (p : Parts A) (v : A) (a b : BodyCursor) → a.at ≡ 0 → a.refusal ≡ None → ReadsParts o p v a b → b.refusal ≡ None → layout o p a.bytes.now ≡ Ok v
unfolding run_at read_to
layout_read {A} o p v a b front fresh reads ok =
    let run : cut_short (run_parts o p (left_of a)) ≡ ran v (left_of b) =
    sym (ap (λ r. elim r as (λ _. Ran A) [ Some e ↦ stopped (refusal_kind e) [] | None ↦ cut_short (run_parts o p (left_of a)) ]) fresh) ∙ reads.run
    ∙ ap (λ r. elim r as (λ _. Ran A) [ Some e ↦ stopped (refusal_kind e) [] | None ↦ ran v (left_of b) ]) ok in
    layout_is_run o p a.bytes.now ∙ ap (λ n. answer (run_parts o p (drop n a.bytes.now))) (sym front) ∙ sym (answer_cut (run_parts o p (left_of a))) ∙ ap answer run

pub layout_refused : {A : Type 0} (o : Order) (p : Parts A) (v : A) (a b : BodyCursor) (e : Refusal) → a.at ≡ 0 → a.refusal ≡ None → ReadsParts o p v a b → b.refusal ≡ Some e → layout o p a.bytes.now ≡ Err (refusal_kind e)
unfolding run_at read_to
layout_refused {A} o p v a b e front fresh reads refused =
    let run : cut_short (run_parts o p (left_of a)) ≡ stopped (refusal_kind e) [] =
    sym (ap (λ r. elim r as (λ _. Ran A) [ Some e ↦ stopped (refusal_kind e) [] | None ↦ cut_short (run_parts o p (left_of a)) ]) fresh) ∙ reads.run
    ∙ ap (λ r. elim r as (λ _. Ran A) [ Some e ↦ stopped (refusal_kind e) [] | None ↦ ran v (left_of b) ]) refused in
    layout_is_run o p a.bytes.now ∙ ap (λ n. answer (run_parts o p (drop n a.bytes.now))) (sym front) ∙ sym (answer_cut (run_parts o p (left_of a))) ∙ ap answer run

-- ---- one number

-- all bytes that are left
pub shown_all : (a : BodyCursor) → a.at ≤ length a.bytes.now → take (length a.bytes.now - a.at) (drop a.at a.bytes.now) ≡ left_of a
shown_all a within = take_all (length a.bytes.now - a.at) (left_of a) (omega (arith, length-drop a.at a.bytes.now))

pub number_fits : (o : Order) (w : Width) (a b : BodyCursor) (word : List ℕ) (v : ℕ) → a.at ≤ length a.bytes.now → word ≡ take (bytes_in w) (take (length a.bytes.now - a.at) (drop a.at a.bytes.now)) →
    bytes_in w ≤ length (take (length a.bytes.now - a.at) (drop a.at a.bytes.now)) → v ≡ number_of o w word → b.refusal ≡ a.refusal → b.bytes.now ≡ a.bytes.now → b.at ≡ a.at + bytes_in w →
    ReadsParts o (part (number w) done) v a b
number_fits o w a b word v within is fits made stays same at =
    let all = shown_all a within in
    let enough : bytes_in w ≤ length (left_of a) = subst (λ xs. bytes_in w ≤ length xs) all fits in
    let value : number_of o w (take (bytes_in w) (left_of a)) ≡ v = sym (made ∙ ap (number_of o w) (is ∙ ap (take (bytes_in w)) all)) in
    subst (λ x. ReadsParts o (part (number w) done) x a b) value (part_fits o (number w) (bytes_in w) a b refl enough stays same at)

pub number_lacks : (o : Order) (w : Width) (a b : BodyCursor) (v : ℕ) → a.at ≤ length a.bytes.now → length (take (length a.bytes.now - a.at) (drop a.at a.bytes.now)) < bytes_in w →
    b.refusal ≡ refusal_after a.refusal why.Eof → b.bytes.now ≡ a.bytes.now → ReadsParts o (part (number w) done) v a b
number_lacks o w a b v within short refuses same =
    part_lacks o (number w) a b v (subst (λ xs. length xs < bytes_in w) (shown_all a within) short) refuses same
