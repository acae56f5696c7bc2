-- Several values parsed in order.
use Rattle.std.specs.Prelude.{Option, Some, None, Result, Ok, Err, ◌≡◌, ◌⊎◌, IsTrue}
use Rattle.std.specs.Prelude.{ℕ, ◌<◌, ◌≤◌, List, [], ◌∷◌, length}
use Rattle.perf_base.specs.Refusals.{kind_if_refused}
use Rattle.perf_base.specs.declared.error.ErrorKind.{ErrorKind}
use Rattle.perf_base.specs.declared.error.ErrorKind.TheVariants.{OutOfMemory}
use Rattle.perf_reader.specs.ReaderState.{ReaderState}
use Rattle.perf_reader.specs.Reading.{Transition}
use Rattle.perf_parser.specs.Calls.{BasicInvariant, Counts}

-- What a type states of its parse: what it returns, and what it counts.
module _ {T : Type 0} (parses : Transition T) (counts : Counts) where
  -- One call of its parse, under the configuration and the order of the state before.
  pub record Step (old : ReaderState) (outcome : Result T ErrorKind) (new : ReaderState) : Type 0 where
    pub answer : IsTrue old.source.told → parses old outcome new
    pub counted : counts old (kind_if_refused outcome) new
    pub follows : BasicInvariant old new
    pub settings : new.settings ≡ old.settings
    pub order : new.order ≡ old.order

  -- the values were parsed one after another
  abbrev pub ParsesInTurn : ReaderState → List T → ReaderState → Type 0
  ParsesInTurn old [] new = new ≡ old
  ParsesInTurn old (x ∷ xs) new = (mid : ReaderState) × Step old (Ok x) mid × ParsesInTurn mid xs new

  -- Fewer than n values were parsed, and the next one was refused; or there was no memory for one
  -- of those that were.
  abbrev pub StopsShort : ReaderState → ℕ → ErrorKind → ReaderState → Type 0
  StopsShort old n e new =
      ((xs : List T) × (mid : ReaderState) × (length xs < n) × ParsesInTurn old xs mid
      × Step mid (Err e) new)
      ⊎ ((xs : List T) × (length xs ≤ n) × ParsesInTurn old xs new × (e ≡ OutOfMemory))

-- the same result, under `Some`
abbrev pub AsOption : {T R : Type 0} → (Result T R → Type 0) → Result (Option T) R → Type 0
AsOption P (Ok (Some x)) = P (Ok x)
AsOption P (Ok None) = ⊥
AsOption P (Err e) = P (Err e)
