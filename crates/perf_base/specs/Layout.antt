-- A layout, as perf_event_open(2) writes one: which parts follow one another in the bytes of a
-- value, and where. A part has a size, and its offset is the sum of the sizes before it. The value
-- is made of the slices at those offsets, and a refusal has the kind of the first part that fails.
-- Nothing here reads step by step.
use Rattle.std.specs.Prelude.{ℕ, zero, suc, ◌+◌, ◌-◌, ◌*◌, Bool, true, false, List, [], ◌∷◌, length}
use Rattle.std.specs.Prelude.{take, drop, get_or, Option, Some, None, Result, Ok, Err, nat_le}
use Rattle.perf_base.specs.Order.{Order}
use Rattle.perf_base.specs.declared.error.ErrorKind.{ErrorKind}
use Rattle.perf_base.specs.declared.error.ErrorKind.TheVariants.{Eof}

-- ---- shapes

-- the width of a number
pub data Width : Type 0 where
  w1 w2 w4 w8 : Width

-- its number of bytes
abbrev pub bytes_in : Width → ℕ
bytes_in w1 = 1
bytes_in w2 = 2
bytes_in w4 = 4
bytes_in w8 = 8

-- The bytes that a part takes.
pub data Shape : Type 0 where
  -- one number
  number : Width → Shape
  -- an optional number
  optional : Bool → Width → Shape
  -- k bytes
  byte_string : ℕ → Shape
  -- k numbers of eight bytes
  words : ℕ → Shape
  -- k bytes without a meaning
  padding : ℕ → Shape
  -- all remaining bytes
  rest : Shape

-- the type of the value of a part
abbrev pub ShapeValue : Shape → Type 0
ShapeValue (number w) = ℕ
ShapeValue (optional b w) = Option ℕ
ShapeValue (byte_string k) = List ℕ
ShapeValue (words k) = List ℕ
ShapeValue (padding k) = Unit {0}
ShapeValue rest = List ℕ

-- the number that an order makes of bytes; one byte is the same number in every order
abbrev pub number_of : Order → Width → List ℕ → ℕ
number_of o w1 bytes = get_or bytes 0 0
number_of o w2 bytes = o.two bytes
number_of o w4 bytes = o.four bytes
number_of o w8 bytes = o.eight bytes

-- k numbers of eight bytes
abbrev pub words_of : Order → ℕ → List ℕ → List ℕ
words_of o zero bytes = []
words_of o (suc k) bytes = o.eight (take 8 bytes) ∷ words_of o k (drop 8 bytes)

-- the value of a part, from its bytes
abbrev pub shape_value : Order → (shape : Shape) → List ℕ → ShapeValue shape
shape_value o (number w) bytes = number_of o w bytes
shape_value o (optional true w) bytes = Some (number_of o w bytes)
shape_value o (optional false w) bytes = None
shape_value o (byte_string k) bytes = bytes
shape_value o (words k) bytes = words_of o k bytes
shape_value o (padding k) bytes = tt
shape_value o rest bytes = bytes

-- the size of a part, with `left` bytes between its offset and the end
abbrev pub size : Shape → ℕ → ℕ
size (number w) left = bytes_in w
size (optional true w) left = bytes_in w
size (optional false w) left = 0
size (byte_string k) left = k
size (words k) left = 8 * k
size (padding k) left = k
size rest left = left

-- ---- parts

-- The parts of a value of A. What follows a part may depend on its value. A check takes no bytes,
-- and refuses with its kind if it is false.
pub data Parts (A : Type 0) : Type 0 where
  done : A → Parts A
  part : (shape : Shape) → (ShapeValue shape → Parts A) → Parts A
  check : Bool → ErrorKind → Parts A → Parts A

infixl 10 ◌>>=◌
-- parts, and then those that depend on their value
abbrev pub ◌>>=◌ : {A B : Type 0} → Parts A → (A → Parts B) → Parts B
(done v) >>= f = f v
(part shape k) >>= f = part shape (λ a. k a >>= f)
(check t e p) >>= f = check t e (p >>= f)

infixl 10 ◌>>◌
-- parts, and then others that do not depend on their value
abbrev pub ◌>>◌ : {A B : Type 0} → Parts A → Parts B → Parts B
p >> q = p >>= λ _. q

-- the same parts, with f applied to their value
abbrev pub map_parts : {A B : Type 0} → (A → B) → Parts A → Parts B
map_parts f p = p >>= λ v. done (f v)

-- ---- offsets

-- n bytes from offset s
abbrev pub slice : List ℕ → ℕ → ℕ → List ℕ
slice body s n = take n (drop s body)

-- a part at its offset, or a check
pub data Spot : Type 0 where
  takes : (place size : ℕ) → Shape → Spot
  holds : (place : ℕ) → Bool → ErrorKind → Spot

-- The parts from offset s on, each at the sum of the sizes before it.
abbrev pub spots : {A : Type 0} → Order → List ℕ → ℕ → Parts A → List Spot
spots o body s (done v) = []
spots o body s (part shape k) =
    let n = size shape (length body - s) in
    takes s n shape ∷ spots o body (s + n) (k (shape_value o shape (slice body s n)))
spots o body s (check t e p) = holds s t e ∷ spots o body s p

-- the offset after them
abbrev pub ending : {A : Type 0} → Order → List ℕ → ℕ → Parts A → ℕ
ending o body s (done v) = s
ending o body s (part shape k) =
    let n = size shape (length body - s) in
    ending o body (s + n) (k (shape_value o shape (slice body s n)))
ending o body s (check t e p) = ending o body s p

-- the value made of the slices at the offsets
abbrev pub value : {A : Type 0} → Order → List ℕ → ℕ → Parts A → A
value o body s (done v) = v
value o body s (part shape k) =
    let n = size shape (length body - s) in
    value o body (s + n) (k (shape_value o shape (slice body s n)))
value o body s (check t e p) = value o body s p

-- ---- success and refusal

-- A part succeeds if its offset plus its size is at most the body's length, and a check if it is
-- true.
abbrev pub stands : ℕ → Spot → Bool
stands len (takes s n shape) = nat_le (s + n) len
stands len (holds s t e) = t

-- why a failing one is refused: too few bytes, or the kind of the check
abbrev pub spot_kind : Spot → ErrorKind
spot_kind (takes s n shape) = Eof
spot_kind (holds s t e) = e

-- the kind of the first that fails
abbrev pub first_refusal : ℕ → List Spot → Option ErrorKind
first_refusal len [] = None
first_refusal len (x ∷ xs) = elim (stands len x) [ true ↦ first_refusal len xs | false ↦ Some (spot_kind x) ]

-- ---- the layout

-- The value, if every part succeeds; otherwise the kind of the first that fails.
abbrev pub layout_at : {A : Type 0} → Order → List ℕ → ℕ → Parts A → Result A ErrorKind
layout_at o body s p =
    elim (first_refusal (length body) (spots o body s p)) [ None ↦ Ok (value o body s p) | Some e ↦ Err e ]

-- The same from the body's first byte on. Bytes after the last part do not matter.
abbrev pub layout : {A : Type 0} → Order → Parts A → List ℕ → Result A ErrorKind
layout o p body = layout_at o body 0 p
