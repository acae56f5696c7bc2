-- Numbers of eight bytes that are read in a row are a list of the layout.
use Rattle.std.proofs.Common.{◌≡◌, ℕ, zero, suc, ◌+◌, ◌-◌, ◌*◌, ◌/◌, ◌≤◌, ◌<◌, List, [], ◌∷◌, ◌++◌, length, take, drop, refl, sym, ◌∙◌, ap, inl, inr, arith, length-drop, Ok, Err}
use Rattle.std.proofs.lemmas.Bool.{cases_lt}
use Rattle.std.proofs.lemmas.List.{drop-drop, take_at, drop_at, length-take-le}
use Rattle.std.proofs.Math.Seq.{take-add}
use Rattle.std.specs.Prelude.{None, Some}
use Rattle.perf_base.specs.Layout.{Shape, number, words, w8, ShapeValue, shape_value, words_of, size}
use Rattle.perf_base.specs.Configured.{endian_of}
use Rattle.perf_base.specs.Order.{Order}
use Rattle.perf_base.specs.LayoutReads.{part_reads}
use Rattle.perf_base.specs.Took.{Took, took, quit, one_took}
use Rattle.perf_base.specs.declared.config.ParseConfig.{ParseConfig}
use Rattle.perf_base.specs.declared.error.ErrorKind.{ErrorKind}
use Rattle.perf_base.specs.declared.error.ErrorKind.TheVariants.{Eof, OutOfMemory}
use Rattle.perf_base.proofs.Took.{took_yes, took_no}
use Rattle.perf_buffers.specs.Buffer.{Source}
use Rattle.perf_reader.specs.Calls.{Call}
use Rattle.perf_reader.specs.ReaderState.{ReaderState}
use Rattle.perf_reader.specs.Reading.{ReadsOne, CallInvariant}
use Rattle.perf_reader.specs.declared.reader.Reader.{Reader}

-- what follows from a part that was read, and from one that was not
record Stood (o : Order) (shape : Shape) (bytes : List ℕ) (n : ℕ) (v : ShapeValue shape) (left : List ℕ) (m : ℕ) : Type 0 where
  fits : size shape (length bytes) ≤ length bytes
  value_is : v ≡ shape_value o shape (take (size shape (length bytes)) bytes)
  left_is : left ≡ drop (size shape (length bytes)) bytes
  reads_are : m ≡ n + part_reads shape (size shape (length bytes))

stood : (o : Order) (shape : Shape) (bytes : List ℕ) (n : ℕ) (v : ShapeValue shape) (left : List ℕ) (m : ℕ) → one_took o shape bytes n ≡ took v left m → Stood o shape bytes n v left m
stood o shape bytes n v left m e = elim (cases_lt (length bytes) (size shape (length bytes))) [
  | inl short ↦ absurd (cc (took_no o shape bytes n short))
  | inr fits ↦
      let both : took (shape_value o shape (take (size shape (length bytes)) bytes)) (drop (size shape (length bytes)) bytes) (n + part_reads shape (size shape (length bytes))) ≡ took v left m = sym (took_yes o shape bytes n fits) ∙ e in
      record { fits = fits; value_is = cc; left_is = cc; reads_are = cc }
]

-- of a number
record Fell (bytes : List ℕ) (n : ℕ) (e : ErrorKind) (left : List ℕ) (m : ℕ) : Type 0 where
  short : length bytes < 8
  kind_is : e ≡ Eof
  left_is : left ≡ []
  reads_are : m ≡ n + 1

fell : (o : Order) (bytes : List ℕ) (n : ℕ) (e : ErrorKind) (left : List ℕ) (m : ℕ) → one_took o (number w8) bytes n ≡ quit e left m → Fell bytes n e left m
fell o bytes n e left m h = elim (cases_lt (length bytes) 8) [
  | inr fits ↦ absurd (cc (took_yes o (number w8) bytes n fits))
  | inl short ↦
      let both : ◌≡◌ {A = Took ℕ} (quit Eof [] (n + 1)) (quit e left m) = sym (took_no o (number w8) bytes n short) ∙ h in
      record { short = short; kind_is = cc; left_is = cc; reads_are = cc }
]

-- the numbers of some bytes are those of their beginning, and then the last one
words_take : (o : Order) (k : ℕ) (bytes : List ℕ) → 8 * k ≤ length bytes → words_of o k (take (8 * k) bytes) ≡ words_of o k bytes
words_take o zero bytes fits = refl
words_take o (suc k) bytes fits =
    let m : 8 * suc k ≡ 8 + 8 * k = omega arith in
    let at : length (take 8 bytes) ≡ 8 = length-take-le 8 bytes (omega (arith, fits)) in
    let n : length (drop 8 bytes) ≡ length bytes - 8 = length-drop 8 bytes in
    let split : take (8 * suc k) bytes ≡ take 8 bytes ++ take (8 * k) (drop 8 bytes) = ap (λ i. take i bytes) m ∙ take-add 8 (8 * k) bytes in
    let first : take 8 (take (8 * suc k) bytes) ≡ take 8 bytes = ap (take 8) split ∙ take_at (take 8 bytes) (take (8 * k) (drop 8 bytes)) 8 at in
    let others : drop 8 (take (8 * suc k) bytes) ≡ take (8 * k) (drop 8 bytes) = ap (drop 8) split ∙ drop_at (take 8 bytes) (take (8 * k) (drop 8 bytes)) 8 at in
    let again : words_of o k (drop 8 (take (8 * suc k) bytes)) ≡ words_of o k (drop 8 bytes) = ap (words_of o k) others ∙ words_take o k (drop 8 bytes) (omega (arith, fits, n)) in
    ap (λ (b : List ℕ). o.eight b ∷ words_of o k (drop 8 (take (8 * suc k) bytes))) first ∙ ap (λ (ys : List ℕ). o.eight (take 8 bytes) ∷ ys) again

words_last : (o : Order) (k : ℕ) (bytes : List ℕ) → words_of o (suc k) bytes ≡ words_of o k bytes ++ o.eight (take 8 (drop (8 * k) bytes)) ∷ []
words_last o zero bytes = refl
words_last o (suc k) bytes =
    let m : 8 + 8 * k ≡ 8 * suc k = omega arith in
    let after : drop (8 * k) (drop 8 bytes) ≡ drop (8 * suc k) bytes = drop-drop (8 * k) 8 bytes ∙ ap (λ i. drop i bytes) m in
    ap (λ (ys : List ℕ). o.eight (take 8 bytes) ∷ ys) (words_last o k (drop 8 bytes) ∙ ap (λ (b : List ℕ). words_of o k (drop 8 bytes) ++ o.eight (take 8 b) ∷ []) after)

words_join : (o : Order) (k j : ℕ) (bytes : List ℕ) → words_of o (k + j) bytes ≡ words_of o k bytes ++ words_of o j (drop (8 * k) bytes)
words_join o zero j bytes =
    let m : zero + j ≡ j = omega arith in
    let n : 8 * zero ≡ 0 = omega arith in
    ap (λ i. words_of o i bytes) m ∙ sym (ap (λ i. words_of o j (drop i bytes)) n)
words_join o (suc k) j bytes =
    let m : 8 + 8 * k ≡ 8 * suc k = omega arith in
    let n : suc k + j ≡ suc (k + j) = omega arith in
    let after : drop (8 * k) (drop 8 bytes) ≡ drop (8 * suc k) bytes = drop-drop (8 * k) 8 bytes ∙ ap (λ i. drop i bytes) m in
    ap (λ i. words_of o i bytes) n ∙ ap (λ (ys : List ℕ). o.eight (take 8 bytes) ∷ ys) (words_join o k j (drop 8 bytes) ∙ ap (λ (b : List ℕ). words_of o k (drop 8 bytes) ++ words_of o j b) after)

words_none : (o : Order) (bytes : List ℕ) (n : ℕ) → one_took o (words 0) bytes n ≡ took [] bytes n
words_none o bytes n = took_yes o (words 0) bytes n (omega arith) ∙ ap (took [] bytes) (omega arith)

words_more : (o : Order) (k : ℕ) (a b c ys : List ℕ) (x n m i : ℕ) → one_took o (words k) a n ≡ took ys b m → one_took o (number w8) b m ≡ took x c i → one_took o (words (suc k)) a n ≡ took (ys ++ x ∷ []) c i
words_more o k a b c ys x n m i p q =
    let s = stood o (words k) a n ys b m p in
    let t = stood o (number w8) b m x c i q in
    let l : length b ≡ length a - 8 * k = ap length s.left_is ∙ length-drop (8 * k) a in
    let fits : 8 * suc k ≤ length a = omega (arith, s.fits, t.fits, l) in
    let e : 8 * k + 8 ≡ 8 * suc k = omega arith in
    let value : words_of o (suc k) (take (8 * suc k) a) ≡ ys ++ x ∷ [] =
    words_take o (suc k) a fits ∙ words_last o k a
    ∙ ap (λ (zs : List ℕ). zs ++ o.eight (take 8 (drop (8 * k) a)) ∷ []) (sym (words_take o k a s.fits) ∙ sym s.value_is)
    ∙ ap (λ (w : List ℕ). ys ++ o.eight (take 8 w) ∷ []) (sym s.left_is)
    ∙ ap (λ (w : ℕ). ys ++ w ∷ []) (sym t.value_is) in
    let after : drop (8 * suc k) a ≡ c = ap (λ i. drop i a) (sym e) ∙ sym (drop-drop 8 (8 * k) a) ∙ ap (drop 8) (sym s.left_is) ∙ sym t.left_is in
    let count : n + suc k ≡ i = omega (arith, s.reads_are, t.reads_are) in
    took_yes o (words (suc k)) a n fits ∙ rw (value, after, count) refl

-- the same of several at once
words_further : (o : Order) (k j : ℕ) (a b c ys zs : List ℕ) (n m i : ℕ) → one_took o (words k) a n ≡ took ys b m → one_took o (words j) b m ≡ took zs c i → one_took o (words (k + j)) a n ≡ took (ys ++ zs) c i
words_further o k j a b c ys zs n m i p q =
    let s = stood o (words k) a n ys b m p in
    let t = stood o (words j) b m zs c i q in
    let l : length b ≡ length a - 8 * k = ap length s.left_is ∙ length-drop (8 * k) a in
    let fits : 8 * (k + j) ≤ length a = omega (arith, s.fits, t.fits, l) in
    let e : 8 * k + 8 * j ≡ 8 * (k + j) = omega arith in
    let value : words_of o (k + j) (take (8 * (k + j)) a) ≡ ys ++ zs =
    words_take o (k + j) a fits ∙ words_join o k j a
    ∙ ap (λ (us : List ℕ). us ++ words_of o j (drop (8 * k) a)) (sym (words_take o k a s.fits) ∙ sym s.value_is)
    ∙ ap (λ (w : List ℕ). ys ++ words_of o j w) (sym s.left_is)
    ∙ ap (λ (us : List ℕ). ys ++ us) (sym (words_take o j b t.fits) ∙ sym t.value_is) in
    let after : drop (8 * (k + j)) a ≡ c = ap (λ i. drop i a) (sym e ∙ omega arith) ∙ sym (drop-drop (8 * j) (8 * k) a) ∙ ap (drop (8 * j)) (sym s.left_is) ∙ sym t.left_is in
    let count : n + (k + j) ≡ i = omega (arith, s.reads_are, t.reads_are) in
    took_yes o (words (k + j)) a n fits ∙ rw (value, after, count) refl

words_stop : (o : Order) (k all : ℕ) (a b c ys : List ℕ) (n m i : ℕ) (e : ErrorKind) → k < all → one_took o (words k) a n ≡ took ys b m → one_took o (number w8) b m ≡ quit e c i → one_took o (words all) a n ≡ quit e c i
words_stop o k all a b c ys n m i e more p q =
    let s = stood o (words k) a n ys b m p in
    let t = fell o b m e c i q in
    let l : length b ≡ length a - 8 * k = ap length s.left_is ∙ length-drop (8 * k) a in
    let short : length a < 8 * all = omega (arith, more, s.fits, t.short, l) in
    let count : n + (length a / 8 + 1) ≡ i = omega (arith, s.fits, t.short, l, s.reads_are, t.reads_are) in
    took_no o (words all) a n short ∙ rw (t.kind_is, t.left_is, count) refl

-- of several
record FellShort (j : ℕ) (bytes : List ℕ) (n : ℕ) (e : ErrorKind) (left : List ℕ) (m : ℕ) : Type 0 where
  short : length bytes < 8 * j
  kind_is : e ≡ Eof
  left_is : left ≡ []
  reads_are : m ≡ n + (length bytes / 8 + 1)

fell_short : (o : Order) (j : ℕ) (bytes : List ℕ) (n : ℕ) (e : ErrorKind) (left : List ℕ) (m : ℕ) → one_took o (words j) bytes n ≡ quit e left m → FellShort j bytes n e left m
fell_short o j bytes n e left m h = elim (cases_lt (length bytes) (8 * j)) [
  | inr fits ↦ absurd (cc (took_yes o (words j) bytes n fits))
  | inl short ↦
      let both : ◌≡◌ {A = Took (List ℕ)} (quit Eof [] (n + (length bytes / 8 + 1))) (quit e left m) = sym (took_no o (words j) bytes n short) ∙ h in
      record { short = short; kind_is = cc; left_is = cc; reads_are = cc }
]

words_cease : (o : Order) (k j all : ℕ) (a b c ys : List ℕ) (n m i : ℕ) (e : ErrorKind) → k + j ≤ all → one_took o (words k) a n ≡ took ys b m → one_took o (words j) b m ≡ quit e c i → one_took o (words all) a n ≡ quit e c i
words_cease o k j all a b c ys n m i e more p q =
    let s = stood o (words k) a n ys b m p in
    let t = fell_short o j b m e c i q in
    let l : length b ≡ length a - 8 * k = ap length s.left_is ∙ length-drop (8 * k) a in
    let short : length a < 8 * all = omega (arith, more, s.fits, t.short, l) in
    let count : n + (length a / 8 + 1) ≡ i = omega (arith, s.fits, t.short, l, s.reads_are, t.reads_are) in
    took_no o (words all) a n short ∙ rw (t.kind_is, t.left_is, count) refl

-- ---- calls

-- k numbers were read, one call after another
module _ {I E : Type 0} (source : I → Source) (order : E → Order) where
  abbrev pub InRow : ℕ → Reader I E → List ℕ → Reader I E → Type 0
  InRow k old ys new = Call {X = List ℕ} source order (ReadsOne (words k) (λ ys. ys)) old (Ok ys) new

  -- none
  pub row_none : (r : Reader I E) → InRow 0 r [] r
  row_none r = record {
    config = refl;
    whole = refl;
    told = λ t. t;
    answer = λ t. words_none (order (endian_of r.config)) (source r.input).left r.reads;
    keeps = λ start h. h;
  }

  pub row_cast : (k j : ℕ) (a b : Reader I E) (ys zs : List ℕ) → k ≡ j → ys ≡ zs → InRow k a ys b → InRow j a zs b
  row_cast k j a b ys zs e f p = record {
    config = p.config;
    whole = p.whole;
    told = p.told;
    answer = λ t. ap (λ i. one_took (order (endian_of a.config)) (words i) (source a.input).left a.reads) (sym e) ∙ p.answer t ∙ ap (λ (l : List ℕ). took l (source b.input).left b.reads) f;
    keeps = p.keeps;
  }

  -- those that one call read
  pub row_seen : {X : Type 0} (view : X → List ℕ) (k : ℕ) (a b : Reader I E) (x : X) → Call {X = X} source order (ReadsOne (words k) view) a (Ok x) b → InRow k a (view x) b
  row_seen view k a b x p = record {
    config = p.config;
    whole = p.whole;
    told = p.told;
    answer = p.answer;
    keeps = p.keeps;
  }

  -- one more
  pub row_more : (k : ℕ) (a b c : Reader I E) (ys : List ℕ) (x : ℕ) → InRow k a ys b → Call {X = ℕ} source order (ReadsOne (number w8) (λ n. n)) b (Ok x) c → InRow (suc k) a (ys ++ x ∷ []) c
  row_more k a b c ys x p q = record {
    config = q.config ∙ p.config;
    whole = q.whole ∙ p.whole;
    told = λ t. q.told (p.told t);
    answer = λ t.
        let o : Order = order (endian_of a.config) in
        let same : one_took o (number w8) (source b.input).left b.reads ≡ took x (source c.input).left c.reads =
        ap (λ (k : ParseConfig E). one_took (order (endian_of k)) (number w8) (source b.input).left b.reads) (sym p.config) ∙ q.answer (p.told t) in
        words_more o k (source a.input).left (source b.input).left (source c.input).left ys x a.reads b.reads c.reads (p.answer t) same;
    keeps = λ start h. q.keeps start (p.keeps start h);
  }

  -- several more at once
  pub row_further : (k j : ℕ) (a b c : Reader I E) (ys zs : List ℕ) → InRow k a ys b → InRow j b zs c → InRow (k + j) a (ys ++ zs) c
  row_further k j a b c ys zs p q = record {
    config = q.config ∙ p.config;
    whole = q.whole ∙ p.whole;
    told = λ t. q.told (p.told t);
    answer = λ t.
        let o : Order = order (endian_of a.config) in
        let same : one_took o (words j) (source b.input).left b.reads ≡ took zs (source c.input).left c.reads =
        ap (λ (k : ParseConfig E). one_took (order (endian_of k)) (words j) (source b.input).left b.reads) (sym p.config) ∙ q.answer (p.told t) in
        words_further o k j (source a.input).left (source b.input).left (source c.input).left ys zs a.reads b.reads c.reads (p.answer t) same;
    keeps = λ start h. q.keeps start (p.keeps start h);
  }

  -- several further ones were refused, so all of them are
  pub row_ceases : {X Y : Type 0} (view : X → List ℕ) (show : Y → List ℕ) (k j all : ℕ) (a b c : Reader I E) (ys : List ℕ) (e : ErrorKind) → k + j ≤ all → InRow k a ys b → Call {X = Y} source order (ReadsOne (words j) show) b (Err e) c →
      Call {X = X} source order (ReadsOne (words all) view) a (Err e) c
  row_ceases view show k j all a b c ys e more p q = record {
    config = q.config ∙ p.config;
    whole = q.whole ∙ p.whole;
    told = λ t. q.told (p.told t);
    answer = λ t kind.
        let o : Order = order (endian_of a.config) in
        let same : one_took o (words j) (source b.input).left b.reads ≡ quit e (source c.input).left c.reads =
        ap (λ (k : ParseConfig E). one_took (order (endian_of k)) (words j) (source b.input).left b.reads) (sym p.config) ∙ q.answer (p.told t) kind in
        words_cease o k j all (source a.input).left (source b.input).left (source c.input).left ys a.reads b.reads c.reads e more (p.answer t) same;
    keeps = λ start h. q.keeps start (p.keeps start h);
  }

  -- a further one was refused, so all of them are
  pub row_stops : {X : Type 0} (view : X → List ℕ) (k all : ℕ) (a b c : Reader I E) (ys : List ℕ) (e : ErrorKind) → k < all → InRow k a ys b → Call {X = ℕ} source order (ReadsOne (number w8) (λ n. n)) b (Err e) c →
      Call {X = X} source order (ReadsOne (words all) view) a (Err e) c
  row_stops view k all a b c ys e more p q = record {
    config = q.config ∙ p.config;
    whole = q.whole ∙ p.whole;
    told = λ t. q.told (p.told t);
    answer = λ t kind.
        let o : Order = order (endian_of a.config) in
        let same : one_took o (number w8) (source b.input).left b.reads ≡ quit e (source c.input).left c.reads =
        ap (λ (k : ParseConfig E). one_took (order (endian_of k)) (number w8) (source b.input).left b.reads) (sym p.config) ∙ q.answer (p.told t) kind in
        words_stop o k all (source a.input).left (source b.input).left (source c.input).left ys a.reads b.reads c.reads e more (p.answer t) same;
    keeps = λ start h. q.keeps start (p.keeps start h);
  }

  starved : (start m : ReaderState) → CallInvariant start None m → CallInvariant start (Some OutOfMemory) m
  starved start m h = record {
    buffer = (h.buffer.0, h.buffer.1, h.buffer.2, h.buffer.3);
    fault = λ x. cc;
    cost = λ t. let c = h.cost t in (c.0, omega (arith, c.1));
    place = h.place;
  }

  -- there was no memory for them
  pub row_starves : {X : Type 0} (view : X → List ℕ) (k all : ℕ) (a b : Reader I E) (ys : List ℕ) → InRow k a ys b → Call {X = X} source order (ReadsOne (words all) view) a (Err OutOfMemory) b
  row_starves view k all a b ys p = record {
    config = p.config;
    whole = p.whole;
    told = p.told;
    answer = λ t kind. cc;
    keeps = λ start h. starved start _ (p.keeps start h);
  }

  -- all of them were read
  pub row_gives : {X : Type 0} (view : X → List ℕ) (all : ℕ) (a b : Reader I E) (x : X) → InRow all a (view x) b → Call {X = X} source order (ReadsOne (words all) view) a (Ok x) b
  row_gives view all a b x p = record {
    config = p.config;
    whole = p.whole;
    told = p.told;
    answer = p.answer;
    keeps = p.keeps;
  }
