-- A part that is read, from what the buffer returned.
use Rattle.std.proofs.Common.{◌≡◌, ℕ, zero, suc, ◌+◌, ◌≤◌, ◌<◌, List, [], length, take, drop, refl, sym, ◌∙◌, ap, inl, inr, arith, Bool, true, false}
use Rattle.std.specs.Prelude.{Some, None, IsTrue}
use Rattle.std.proofs.lemmas.List.{take_all, drop_all}
use Rattle.std.proofs.lemmas.Bool.{cases_lt}
use Rattle.perf_base.specs.declared.error.ErrorKind.{ErrorKind}
use Rattle.perf_base.specs.declared.error.ErrorKind.TheVariants.{Eof, InvalidRecord, UnsupportedConfig, UnsupportedData, External, OutOfMemory}
use Rattle.perf_buffers.specs.Buffer.{Source}
use Rattle.perf_buffers.specs.Taking.{Takes, FailsToTake, FailsToKeep, FailsInRest}
use Rattle.perf_reader.specs.Reading.{of_layout}
use Rattle.perf_base.specs.Order.{Order}
use Rattle.perf_base.specs.Layout.{number, byte_string, rest, padding, optional, Width, w1, w2, w4, w8, bytes_in, number_of}
use Rattle.perf_base.specs.LayoutReads.{one_if_any, part_reads}
use Rattle.perf_base.specs.Took.{took, quit, one_took}
use Rattle.perf_base.proofs.Took.{took_yes, took_no, then_take}

-- a read of some bytes is one
pub any : (n : ℕ) → 0 < n → one_if_any n ≡ 1
any zero h = omega arith
any (suc n) h = refl

-- bytes that are present, and bytes that are missing
pub run_there : (o : Order) (k : ℕ) (bytes : List ℕ) (n : ℕ) → 0 < k → k ≤ length bytes → one_took o (byte_string k) bytes n ≡ took (take k bytes) (drop k bytes) (n + 1)
run_there o k bytes n some h = took_yes o (byte_string k) bytes n h ∙ ap (λ i. took (take k bytes) (drop k bytes) (n + i)) (any k some)

pub run_short : (o : Order) (k : ℕ) (bytes : List ℕ) (n : ℕ) → length bytes < k → one_took o (byte_string k) bytes n ≡ quit Eof [] (n + 1)
run_short o k bytes n h = took_no o (byte_string k) bytes n h

pub array_short : (o : Order) (k : ℕ) (old new : Source) (e : ErrorKind) (n m : ℕ) → FailsToTake old k e new → m ≡ n + 1 → IsTrue (of_layout e) → one_took o (byte_string k) old.left n ≡ quit e new.left m
array_short o k old new Eof n m p q kind = rw (p.1, q) (run_short o k old.left n p.0)
array_short o k old new InvalidRecord n m p q kind = absurd p
array_short o k old new UnsupportedConfig n m p q kind = absurd p
array_short o k old new UnsupportedData n m p q kind = absurd p
array_short o k old new External n m p q kind = cc
array_short o k old new OutOfMemory n m p q kind = absurd p

-- the same of bytes that are kept, for which an allocation may fail
pub kept_short : (o : Order) (k : ℕ) (old new : Source) (e : ErrorKind) (n m : ℕ) → FailsToKeep old k e new → m ≡ n + 1 → IsTrue (of_layout e) → one_took o (byte_string k) old.left n ≡ quit e new.left m
kept_short o k old new Eof n m p q kind = rw (p.1, q) (run_short o k old.left n p.0)
kept_short o k old new InvalidRecord n m p q kind = absurd p
kept_short o k old new UnsupportedConfig n m p q kind = absurd p
kept_short o k old new UnsupportedData n m p q kind = absurd p
kept_short o k old new External n m p q kind = cc
kept_short o k old new OutOfMemory n m p q kind = cc

pub run_none : (o : Order) (bytes : List ℕ) (n : ℕ) → one_took o (byte_string 0) bytes n ≡ took [] bytes n
run_none o bytes n = took_yes o (byte_string 0) bytes n (omega arith) ∙ ap (took [] bytes) (omega arith)

-- a number is made of its bytes
width_some : (w : Width) → part_reads (byte_string (bytes_in w)) (bytes_in w) ≡ 1
width_some w1 = refl
width_some w2 = refl
width_some w4 = refl
width_some w8 = refl

pub number_run : (o : Order) (w : Width) (bytes : List ℕ) (n : ℕ) → one_took o (number w) bytes n ≡ then_take (λ xs left m. took (number_of o w xs) left m) (one_took o (byte_string (bytes_in w)) bytes n)
number_run o w bytes n = elim (cases_lt (length bytes) (bytes_in w)) [
  | inl short ↦ took_no o (number w) bytes n short ∙ sym (ap (then_take (λ xs left m. took (number_of o w xs) left m)) (took_no o (byte_string (bytes_in w)) bytes n short))
  | inr fits ↦
      took_yes o (number w) bytes n fits
      ∙ ap (λ i. took (number_of o w (take (bytes_in w) bytes)) (drop (bytes_in w) bytes) (n + i)) (sym (width_some w))
      ∙ sym (ap (then_take (λ xs left m. took (number_of o w xs) left m)) (took_yes o (byte_string (bytes_in w)) bytes n fits))
]

-- all that is left
pub rest_taken : (o : Order) (old new : Source) (xs : List ℕ) (n m : ℕ) → xs ≡ old.left → new.left ≡ [] → m ≡ n + one_if_any (length xs) → one_took o rest old.left n ≡ took xs new.left m
rest_taken o old new xs n m p q r =
    took_yes o rest old.left n (omega arith)
    ∙ rw (take_all (length old.left) old.left (omega arith), drop_all (length old.left) old.left (omega arith), r, q, p) refl

pub rest_refused : (o : Order) (old new : Source) (e : ErrorKind) (n m : ℕ) → FailsInRest old e new → IsTrue (of_layout e) → one_took o rest old.left n ≡ quit e new.left m
rest_refused o old new Eof n m p kind = absurd p
rest_refused o old new InvalidRecord n m p kind = absurd p
rest_refused o old new UnsupportedConfig n m p kind = absurd p
rest_refused o old new UnsupportedData n m p kind = absurd p
rest_refused o old new External n m p kind = cc
rest_refused o old new OutOfMemory n m p kind = cc

-- a number that is present, or absent
pub option_there : (o : Order) (w : Width) (b : Bool) (bytes : List ℕ) (n : ℕ) → b ≡ true → one_took o (optional b w) bytes n ≡ then_take (λ x left m. took (Some x) left m) (one_took o (number w) bytes n)
option_there o w false bytes n h = cc
option_there o w true bytes n h = elim (cases_lt (length bytes) (bytes_in w)) [
  | inl short ↦ took_no o (optional true w) bytes n short ∙ sym (ap (then_take (λ x left m. took (Some x) left m)) (took_no o (number w) bytes n short))
  | inr fits ↦
      took_yes o (optional true w) bytes n fits
      ∙ ap (λ i. took (Some (number_of o w (take (bytes_in w) bytes))) (drop (bytes_in w) bytes) (n + i)) (width_some w)
      ∙ sym (ap (then_take (λ x left m. took (Some x) left m)) (took_yes o (number w) bytes n fits))
]

pub option_absent : (o : Order) (w : Width) (b : Bool) (bytes : List ℕ) (n : ℕ) → b ≡ false → one_took o (optional b w) bytes n ≡ took None bytes n
option_absent o w true bytes n h = cc
option_absent o w false bytes n h = took_yes o (optional false w) bytes n (omega arith) ∙ ap (took None bytes) (omega arith)

pub ruleset optionals = (option_there, option_absent)

-- padding
pub padding_run : (o : Order) (k : ℕ) (bytes : List ℕ) (n : ℕ) → one_took o (padding k) bytes n ≡ then_take (λ xs left m. took tt left m) (one_took o (byte_string k) bytes n)
padding_run o k bytes n = elim (cases_lt (length bytes) k) [
  | inl short ↦ took_no o (padding k) bytes n short ∙ sym (ap (then_take (λ xs left m. took tt left m)) (took_no o (byte_string k) bytes n short))
  | inr fits ↦ took_yes o (padding k) bytes n fits ∙ sym (ap (then_take (λ xs left m. took tt left m)) (took_yes o (byte_string k) bytes n fits))
]

pub padding_none : (o : Order) (k : ℕ) (bytes : List ℕ) (n : ℕ) → k ≡ 0 → one_took o (padding k) bytes n ≡ took tt bytes n
padding_none o zero bytes n h = took_yes o (padding 0) bytes n (omega arith) ∙ ap (took tt bytes) (omega arith)
padding_none o (suc k) bytes n h = cc

pub padding_there : (o : Order) (k : ℕ) (old new : Source) (n m : ℕ) → 0 < k → Takes old k new → m ≡ n + 1 → one_took o (padding k) old.left n ≡ took tt new.left m
padding_there o k old new n m some p q = rw (p.1, q) (padding_run o k old.left n ∙ ap (then_take (λ xs left m. took tt left m)) (run_there o k old.left n some p.0))

pub padding_short : (o : Order) (k : ℕ) (old new : Source) (e : ErrorKind) (n m : ℕ) → FailsToTake old k e new → m ≡ n + 1 → IsTrue (of_layout e) → one_took o (padding k) old.left n ≡ quit e new.left m
padding_short o k old new e n m p q kind = padding_run o k old.left n ∙ ap (then_take (λ xs left m. took tt left m)) (array_short o k old new e n m p q kind)
