-- What a copy is. A form lists for each list of a value, in the order of its fields, whether it is
-- borrowed.
use Rattle.std.specs.Prelude.{◌≡◌, Bool, true, false, List, [], ◌∷◌, map, Result, IsOk, IfOk, IfErr}
use Rattle.perf_base.specs.Errors.{kind_of}
use Rattle.perf_base.specs.declared.error.ErrorKind.TheVariants.{OutOfMemory}
use Rattle.perf_base.specs.declared.error.ParseError.{ParseError}

-- every list of a form is borrowed (true) or owned (false)
abbrev pub AllAre : Bool → List Bool → Type 0
AllAre borrowed [] = Unit {0}
AllAre borrowed (form ∷ forms) = (form ≡ borrowed) × AllAre borrowed forms

-- the form of the same lists, all owned
abbrev pub owned_form : List Bool → List Bool
owned_form forms = map (λ borrowed. false) forms

-- A copy has the given value and form. It fails only if out of memory, and never if it needs no
-- memory.
pub record IsCopy {B V : Type 0} (value_of : B → V) (form_of : B → List Bool) (value : V)
    (form : List Bool) (NeedsNone : Type 0) (answer : Result B ParseError) : Type 0 where
  pub same : IfOk answer (λ copy. value_of copy ≡ value)
  pub form_is : IfOk answer (λ copy. form_of copy ≡ form)
  pub refused : IfErr answer (λ e. kind_of e ≡ OutOfMemory)
  pub no_memory : NeedsNone → IsOk answer

-- A copy in the form of the given lists. It needs no memory if all of them are borrowed.
abbrev pub KeepsForm : {B V : Type 0} → (B → V) → (B → List Bool) → V → List Bool →
    Result B ParseError → Type 0
KeepsForm value_of form_of value form answer =
    IsCopy value_of form_of value form (AllAre true form) answer

-- A clone is a copy of the same value in the same form.
abbrev pub IsClone : {B V : Type 0} → (B → V) → (B → List Bool) → B → Result B ParseError → Type 0
IsClone value_of form_of from answer =
    KeepsForm value_of form_of (value_of from) (form_of from) answer

-- An owned copy borrows nothing. It needs no memory if all lists are owned already.
abbrev pub IsOwnedCopy : {B V : Type 0} → (B → V) → (B → List Bool) → B → Result B ParseError →
    Type 0
IsOwnedCopy value_of form_of from answer =
    IsCopy value_of form_of (value_of from) (owned_form (form_of from))
    (AllAre false (form_of from)) answer
