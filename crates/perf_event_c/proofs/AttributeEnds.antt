-- What was read by an order was read by the order of its number: an attribute, and the event of a frame.
use Rattle.std.proofs.Common.{◌≡◌, ℕ, Bool, true, false, List, Option, refl, sym, subst}
use Rattle.std.specs.Prelude.{Result, Ok, Err}
use Rattle.perf_base.specs.Attribute.{attribute}
use Rattle.perf_base.specs.Dynamic.{order_of}
use Rattle.perf_base.specs.Header.{header_of}
use Rattle.perf_base.specs.Layout.{layout}
use Rattle.perf_base.specs.declared.endian.Dynamic.{Dynamic}
use Rattle.perf_base.specs.declared.error.ErrorKind.{ErrorKind}
use Rattle.perf_base.specs.declared.sys.perf_event_attr.{perf_event_attr}
use Rattle.perf_flat.specs.Flat.{kind_code}
use Rattle.perf_flat.specs.FlatConfigs.{flat_config_of}
use Rattle.perf_flat.specs.Identifiers.{has_whole, carries_identifier, first_rest}
use Rattle.perf_flat.specs.declared.config.FlatConfig.{FlatConfig}
use Rattle.perf_records.specs.FrameNumbers.{IsIdentifierRead}
use Rattle.perf_event_c.specs.Ends.{ReadsAttribute}

-- the configuration that it gives, and its size
pub attribute_read : (p o : Dynamic) (bytes : List ℕ) (a : perf_event_attr) (read old : FlatConfig) (size was : ℕ) → p ≡ o → layout (order_of p) attribute bytes ≡ Ok a → read ≡ flat_config_of a p → size ≡ a.size → ReadsAttribute o (layout (order_of o) attribute bytes) 0 old read was size
attribute_read p o bytes a read old size was same found given taken =
    subst (λ (k : Dynamic). ReadsAttribute k (layout (order_of k) attribute bytes) 0 old read was size) same
    (subst (λ (r : Result perf_event_attr ErrorKind). ReadsAttribute p r 0 old read was size) (sym found) (refl, given, taken))

-- the kind of its refusal
pub attribute_refused : (p o : Dynamic) (bytes : List ℕ) (e : ErrorKind) (code : ℕ) (old : FlatConfig) (was : ℕ) → p ≡ o → layout (order_of p) attribute bytes ≡ Err e → code ≡ kind_code e → ReadsAttribute o (layout (order_of o) attribute bytes) code old old was was
attribute_refused p o bytes e code old was same found told =
    subst (λ (k : Dynamic). ReadsAttribute k (layout (order_of k) attribute bytes) code old old was was) same
    (subst (λ (r : Result perf_event_attr ErrorKind). ReadsAttribute p r code old old was was) (sym found) (told, refl, refl))

-- the number of a frame's event is that of a full reading
abbrev IsReadBy : Dynamic → (with_all : Bool) → List ℕ → Option ℕ → Type 0
IsReadBy d with_all bytes found = has_whole (order_of d) bytes ≡ true → carries_identifier with_all (header_of (order_of d) bytes).type_ ≡ true
    → IsIdentifierRead (order_of d) (header_of (order_of d) bytes) (first_rest (order_of d) bytes) found

pub identifier_read : (p o : Dynamic) (with_all : Bool) (bytes : List ℕ) (found answer : Option ℕ) → p ≡ o → found ≡ answer → IsReadBy p with_all bytes found → IsReadBy o with_all bytes answer
identifier_read p o with_all bytes found answer same is read = subst (λ (d : Dynamic). IsReadBy d with_all bytes answer) same (subst (λ (r : Option ℕ). IsReadBy p with_all bytes r) is read)

-- what is not both true and false
pub not_both : {P : Type 0} (b : Bool) → b ≡ true → b ≡ false → P
not_both {P} b is not = cc
