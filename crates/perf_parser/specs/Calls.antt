-- A call of a parser, in one clause: what it returns, what it counts, and what every call keeps.
use Rattle.std.specs.Prelude.{Option, None, Result, ◌≡◌, ◌≤◌, length, IsTrue, ⊤}
use Rattle.perf_base.specs.Order.{Order}
use Rattle.perf_base.specs.Refusals.{kind_if_refused}
use Rattle.perf_base.specs.declared.error.ErrorKind.{ErrorKind}
use Rattle.perf_buffers.specs.Buffer.{Source}
use Rattle.perf_reader.specs.ReaderState.{ReaderState}
use Rattle.perf_reader.specs.Reading.{Transition, CallInvariant, last_of}
use Rattle.perf_parser.specs.ReaderState.{parser_buffer, parser_config, parser_state}
use Rattle.perf_parser.specs.declared.parser.Parser.{Parser}

-- What holds between two moments of a parser, whatever was parsed.
pub record BasicInvariant (start new : ReaderState) : Type 0 where
  -- a buffer stays whole, and its bytes stay known
  pub whole : new.source.whole ≡ start.source.whole
  pub told : IsTrue start.source.told → IsTrue new.source.told
  -- one that cannot fault never can again
  pub can_fault : IsTrue new.source.can_fault → IsTrue start.source.can_fault
  -- what is left is an end of what was left
  pub place : IsTrue start.source.told → (length new.source.left ≤ length start.source.left)
      × (new.source.left ≡ last_of (length new.source.left) start.source.left)

-- What a type counts: faults, and elementary reads.
abbrev pub Counts : Type 1
Counts = ReaderState → Option ErrorKind → ReaderState → Type 0

-- A type of this library counts each fault that it returns and no other, returns one only over a
-- buffer that can fault, and makes at most as many reads as it takes bytes, and one more if it is
-- refused. What of this was kept since any moment before is kept.
abbrev pub KeepsInvariant : Counts
KeepsInvariant old e new = (start : ReaderState) → CallInvariant start None old → CallInvariant start e new

module _ {B E X : Type 0} (source : B → Source) (order : E → Order)
    (transition : Transition X) (counts : Counts) where
  -- one call: the parser before it, its result, and the parser after it
  pub record CallAs (old : Parser B E) (outcome : Result X ErrorKind) (new : Parser B E) : Type 0 where
    -- the configuration stays
    pub config : parser_config new ≡ parser_config old
    -- a buffer stays whole, and its bytes stay known
    pub whole : (source (parser_buffer new)).whole ≡ (source (parser_buffer old)).whole
    pub told : IsTrue (source (parser_buffer old)).told → IsTrue (source (parser_buffer new)).told
    -- the result, if the bytes of the buffer are known
    pub answer : IsTrue (source (parser_buffer old)).told →
        transition (parser_state source order old) outcome (parser_state source order new)
    -- faults and reads
    pub counted : counts (parser_state source order old) (kind_if_refused outcome) (parser_state source order new)
    -- whatever moment it followed before the call, it follows after it
    pub follows : (start : ReaderState) → BasicInvariant start (parser_state source order old) →
        BasicInvariant start (parser_state source order new)

-- a call of this library
abbrev pub Call : {B E X : Type 0} → (B → Source) → (E → Order) → Transition X →
    Parser B E → Result X ErrorKind → Parser B E → Type 0
Call source order transition old outcome new = CallAs source order transition KeepsInvariant old outcome new

-- a call of which only what every call keeps is stated
abbrev pub CallOnly : {B E X : Type 0} → (B → Source) → (E → Order) →
    Parser B E → Result X ErrorKind → Parser B E → Type 0
CallOnly source order old outcome new =
    CallAs source order (λ old outcome new. ⊤) (λ old e new. ⊤) old outcome new
