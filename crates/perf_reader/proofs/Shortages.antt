-- Numbers that are read one after another from an input that has fewer.
use Rattle.std.proofs.Common.{◌≡◌, inl, inr, ℕ, ◌+◌, ◌*◌, ◌<◌, ◌≤◌, Bool, false, true, Option, List, length, take, [], ◌∙◌, ap, sym, subst, arith}
use Rattle.std.proofs.lemmas.Bool.{cases_lt, false≢true, ltb-true}
use Rattle.std.proofs.lemmas.Bool.Decides.{leb_tells}
use Rattle.std.specs.Prelude.{Ok, Err, None, Some, IsTrue, nat_le, option_map}
use Rattle.std.specs.Option.{option_eq}
use mathlib.Core.Bool.{beq}
use Rattle.perf_base.specs.Configured.{endian_of}
use Rattle.perf_base.specs.Layout.{number, words, w8, words_of}
use Rattle.perf_base.specs.Order.{Order}
use Rattle.perf_base.specs.Took.{took}
use Rattle.perf_base.specs.declared.error.ErrorKind.{ErrorKind}
use Rattle.perf_base.specs.declared.error.ErrorKind.TheVariants.{Eof}
use Rattle.perf_base.proofs.Took.{took_yes, took_no}
use Rattle.perf_buffers.specs.Buffer.{Source}
use Rattle.perf_buffers.specs.Room.{falls_short}
use Rattle.perf_reader.specs.AtOnce.{PassesOver}
use Rattle.perf_reader.specs.Calls.{Call}
use Rattle.perf_reader.specs.ReaderState.{ReaderState}
use Rattle.perf_reader.specs.Reading.{ReadsOne, CallInvariant}
use Rattle.perf_reader.specs.declared.reader.Reader.{Reader}
use Rattle.perf_reader.proofs.InRow.{InRow, row_none, row_stops}

-- an input that does not report fewer bytes does not fall short of them
pub not_short : {P : Type 0} (hint : Option ℕ) (n m : ℕ) (outcome : Option Bool) → outcome ≡ option_map (nat_le n) hint → false ≡ option_eq beq outcome (Some false) → m ≡ n →
    falls_short hint m ≡ true → P
not_short None n m outcome is fits same short = absurd (false≢true short)
not_short (Some left) n m outcome is fits same short = elim (leb_tells n left) [
  | inl fits_all ↦ absurd (omega (arith, ltb-true left m short, fits_all.1, same))
  | inr fewer ↦ absurd (false≢true (fits ∙ ap (λ (s : Option Bool). option_eq beq s (Some false)) (is ∙ ap Some fewer.0)))
]

lacking : (start m : ReaderState) → CallInvariant start None m → CallInvariant start (Some Eof) m
lacking start m h = record {
  buffer = (h.buffer.0, h.buffer.1, h.buffer.2, h.buffer.3);
  fault = λ x. cc;
  cost = λ t. let c = h.cost t in (c.0, omega (arith, c.1));
  place = h.place;
}

module _ {I E : Type 0} (source : I → Source) (order : E → Order) where
  -- numbers whose bytes are there, and were passed over
  row_passed : (k n : ℕ) (a b : Reader I E) (x : Unit {0}) → n ≡ k → Call {X = Unit {0}} source order (PassesOver (8 * k) n) a (Ok x) b →
      InRow source order k a (words_of (order (endian_of a.config)) k (take (8 * k) (source a.input).left)) b
  row_passed k n a b x count p = record {
    config = p.config;
    whole = p.whole;
    told = p.told;
    answer = λ t.
        let o : Order = order (endian_of a.config) in
        let ys : List ℕ = words_of o k (take (8 * k) (source a.input).left) in
        let m = p.answer t in
        let reads : b.reads ≡ a.reads + k = m.2 ∙ ap (λ i. a.reads + i) count in
        took_yes o (words k) (source a.input).left a.reads m.0
        ∙ ap (λ xs. took ys xs (a.reads + k)) (sym m.1) ∙ ap (took ys (source b.input).left) (sym reads);
    keeps = p.keeps;
  }

  -- the row that begins with them, and the one that begins with none
  pub row_begins : (k n : ℕ) (a b mid : Reader I E) (x : Unit {0}) → mid ≡ b → n ≡ k → Call {X = Unit {0}} source order (PassesOver (8 * k) n) a (Ok x) b → (m : ℕ) × (ys : List ℕ) × InRow source order m a ys mid
  row_begins k n a b mid x same count p =
      let ys : List ℕ = words_of (order (endian_of a.config)) k (take (8 * k) (source a.input).left) in
      (k, ys, subst (λ r. InRow source order k a ys r) (sym same) (row_passed k n a b x count p))

  pub row_waits : (a mid : Reader I E) → mid ≡ a → (m : ℕ) × (ys : List ℕ) × InRow source order m a ys mid
  row_waits a mid same = (0, [], subst (λ r. InRow source order 0 a [] r) (sym same) (row_none source order a))

  -- fewer numbers were read than the input has too few bytes for
  within : (k all : ℕ) (a b : Reader I E) (ys : List ℕ) → IsTrue (source a.input).told → length (source a.input).left < 8 * all → InRow source order k a ys b → k < all
  within k all a b ys t short p = elim (cases_lt (length (source a.input).left) (8 * k)) [
    | inl missing ↦ absurd (cc (took_no (order (endian_of a.config)) (words k) (source a.input).left a.reads missing, p.answer t))
    | inr fits ↦ omega (arith, fits, short)
  ]

  -- the input has too few bytes for all numbers, and a further one was refused
  pub row_breaks : (k all : ℕ) (a b c : Reader I E) (ys : List ℕ) (e : ErrorKind) → (IsTrue (source a.input).told → length (source a.input).left < 8 * all) →
      InRow source order k a ys b → Call {X = ℕ} source order (ReadsOne (number w8) (λ n. n)) b (Err e) c →
      Call {X = List ℕ} source order (ReadsOne (words all) (λ ys. ys)) a (Err e) c
  row_breaks k all a b c ys e short p q = record {
    config = q.config ∙ p.config;
    whole = q.whole ∙ p.whole;
    told = λ t. q.told (p.told t);
    answer = λ t kind. (row_stops source order (λ ys. ys) k all a b c ys e (within k all a b ys t (short t) p) p q).answer t kind;
    keeps = λ start h. q.keeps start (p.keeps start h);
  }

  -- not all of them can have been read, if the input's bytes are known
  pub row_lacks : (k all : ℕ) (a b : Reader I E) (ys : List ℕ) → all ≤ k →
      (IsTrue (source a.input).told → length (source a.input).left < 8 * all) →
      InRow source order k a ys b →
      Call {X = List ℕ} source order (ReadsOne (words all) (λ ys. ys)) a (Err Eof) b
  row_lacks k all a b ys more short p = record {
    config = p.config;
    whole = p.whole;
    told = p.told;
    answer = λ t kind. let fewer : k < all = within k all a b ys t (short t) p in absurd (omega (arith, more, fewer));
    keeps = λ start h. lacking start _ (p.keeps start h);
  }
