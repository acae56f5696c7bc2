-- What a flat frame states, by the type that was read.
use Rattle.std.proofs.Common.{◌≡◌, ℕ, suc, ◌+◌, List, [], length, true, refl, sym, ◌∙◌, ap, subst, arith}
use Rattle.std.specs.Prelude.{Option, Some, None, Result, Ok, Err, nat_le}
use Rattle.std.proofs.lemmas.Bool.{le-leb}
use Rattle.perf_base.specs.Configuration.{Configuration, under_misc}
use Rattle.perf_base.specs.Header.{header_of}
use Rattle.perf_base.specs.Layout.{Parts, map_parts, value}
use Rattle.perf_base.specs.Order.{Order}
use Rattle.perf_base.specs.declared.error.ErrorKind.{ErrorKind}
use Rattle.perf_flat.specs.Flat.{IsFlat, StatesAnswer, StatesRecord, read_type}
use Rattle.perf_flat.specs.Arrays.{no_span}
use Rattle.perf_flat.specs.Strings.{HasBytes, HasStrings, if_there, span_at}
use Rattle.perf_flat.specs.declared.frame.FlatFrame.{FlatFrame}
use Rattle.perf_flat.specs.declared.frame.Span.{Span}
use Rattle.perf_records.specs.Answers.{FrameParts, answer_of_frame, split_of_frame}
use Rattle.perf_records.specs.Bodies.{body}
use Rattle.perf_records.specs.Records.{RecordValue}
use Rattle.perf_sample_types.specs.SampleId.{SampleIdValue}
use Rattle.perf_history.specs.declared.changes.Change.{Change}
use Rattle.perf_walk.specs.Changes.{change_in, change_if, change_of, or_empty}
use Rattle.perf_walk.specs.Contents.{HasContents}
use Rattle.perf_walk.specs.Parts.{bytes_at}
use Rattle.perf_walk.specs.Samples.{sample_if, sample_of}
use Rattle.perf_walk.proofs.Values.{mapped_value, answer_value, read_is, kind_of, body_kind, IsOther, no_change, no_sample}

-- a flat frame of an answer that is a record states that record
pub states_record : (c : Configuration) (o : Order) (frame : List ℕ) (split : Result FrameParts ErrorKind) (a : Result RecordValue ErrorKind) (v : RecordValue) (f : FlatFrame) → a ≡ Ok v
    → StatesAnswer c o frame split a f → (ids : SampleIdValue) × StatesRecord c o frame ids v f
states_record c o frame (Ok parts) (Ok w) v f e states =
    let same : w ≡ v = cc in
    (parts.metadata.sample_id, subst (λ (x : RecordValue). StatesRecord c o frame parts.metadata.sample_id x f) same states)
states_record c o frame (Err k) (Ok w) v f e states = absurd states
states_record c o frame (Ok parts) (Err k) v f e states = absurd (cc)
states_record c o frame (Err j) (Err k) v f e states = absurd (cc)

-- the same of the bytes of a frame
pub flat_record : (c : Configuration) (o : Order) (frame : List ℕ) (v : RecordValue) (f : FlatFrame) → IsFlat c o frame f → answer_of_frame c o frame ≡ Ok v
    → (ids : SampleIdValue) × StatesRecord c o frame ids v f
flat_record c o frame v f is e = states_record c o frame (split_of_frame c o frame) (answer_of_frame c o frame) v f e is.answer

-- a flat frame of a refusal has no type
refused_read : (c : Configuration) (o : Order) (frame : List ℕ) (split : Result FrameParts ErrorKind) (a : Result RecordValue ErrorKind) (k : ErrorKind) (f : FlatFrame) → a ≡ Err k
    → StatesAnswer c o frame split a f → f.read ≡ 0
refused_read c o frame (Ok parts) (Ok w) k f e states = absurd (cc)
refused_read c o frame (Err j) (Ok w) k f e states = absurd states
refused_read c o frame (Ok parts) (Err j) k f e states = ap (λ (g : FlatFrame). g.read) states.is
refused_read c o frame (Err i) (Err j) k f e states = ap (λ (g : FlatFrame). g.read) states.is

-- the type that was read of a record
record_read : (c : Configuration) (o : Order) (frame : List ℕ) (v : RecordValue) (f : FlatFrame) → IsFlat c o frame f → answer_of_frame c o frame ≡ Ok v → f.read ≡ read_type (header_of o frame).type_
record_read c o frame v f is e = (flat_record c o frame v f is e).1.0.read ∙ ap read_type is.header.type_

-- a frame of a type that has a table
pub of_type : {A : Type 0} (n : ℕ) (made : A → RecordValue) (parts : Configuration → Parts A) → ((c : Configuration) → body c (suc n) ≡ map_parts made (parts c))
    → (c : Configuration) (o : Order) (frame : List ℕ) (f : FlatFrame) → IsFlat c o frame f → f.read ≡ suc n → (r : A) × (answer_of_frame c o frame ≡ Ok (made r))
of_type {A} n made parts table c o frame f is read = go (answer_of_frame c o frame) refl where
  go : (a : Result RecordValue ErrorKind) → answer_of_frame c o frame ≡ a → (r : A) × (answer_of_frame c o frame ≡ Ok (made r))
  go (Err k) e = let none = refused_read c o frame (split_of_frame c o frame) (answer_of_frame c o frame) k f e is.answer in absurd (cc)
  go (Ok v) e =
      let h = header_of o frame in
      let type : h.type_ ≡ suc n = read_is h.type_ n (sym (record_read c o frame v f is e) ∙ read) in
      let under : Configuration = under_misc h.misc c in
      let found = answer_value c o frame v e in
      let is_made : v ≡ made (value o found.0 0 (parts under)) =
      found.1 ∙ ap (λ ty. value o found.0 0 (body under ty)) type ∙ ap (value o found.0 0) (table under) ∙ mapped_value o found.0 0 made (parts under) in
      (value o found.0 0 (parts under), e ∙ ap Ok is_made)

-- the type that was read is that of the record
kind_read : (c : Configuration) (o : Order) (frame : List ℕ) (v : RecordValue) (f : FlatFrame) → IsFlat c o frame f → answer_of_frame c o frame ≡ Ok v → f.read ≡ kind_of v
kind_read c o frame v f is e =
    let h = header_of o frame in
    let found = answer_value c o frame v e in
    record_read c o frame v f is e ∙ sym (body_kind (under_misc h.misc c) o found.0 h.type_) ∙ ap kind_of (sym found.1)

-- a frame of another type states nothing
pub of_other_type : (c : Configuration) (o : Order) (frame : List ℕ) (f : FlatFrame) → IsFlat c o frame f → IsOther f.read → change_of c o frame ≡ None
of_other_type c o frame f is other = go (answer_of_frame c o frame) refl where
  go : (a : Result RecordValue ErrorKind) → answer_of_frame c o frame ≡ a → change_of c o frame ≡ None
  go (Err k) e = ap (change_if (header_of o frame).misc) e
  go (Ok v) e = ap (change_if (header_of o frame).misc) e ∙ no_change (header_of o frame).misc v (subst IsOther (kind_read c o frame v f is e) other)

-- and is no sample
pub of_no_sample : (c : Configuration) (o : Order) (frame : List ℕ) (f : FlatFrame) → IsFlat c o frame f → (f.read ≡ 9 → ⊥) → sample_of c o frame ≡ None
of_no_sample c o frame f is other = go (answer_of_frame c o frame) refl where
  go : (a : Result RecordValue ErrorKind) → answer_of_frame c o frame ≡ a → sample_of c o frame ≡ None
  go (Err k) e = ap sample_if e
  go (Ok v) e = ap sample_if e ∙ no_sample v (λ nine. other (kind_read c o frame v f is e ∙ nine))

-- the bytes at a span
pub bytes_here : (frame : List ℕ) (s : Span) (bytes : List ℕ) → HasBytes frame s bytes → bytes_at frame s ≡ bytes
bytes_here frame s bytes has =
    let a : nat_le (s.at + s.len) (length frame) ≡ true = le-leb (s.at + s.len) (length frame) has.inside in
    rw a has.there

-- none are at a span of no bytes
pub nothing_here : (frame : List ℕ) → bytes_at frame no_span ≡ []
nothing_here frame = let a : nat_le (0 + 0) (length frame) ≡ true = le-leb (0 + 0) (length frame) (omega arith) in rw a refl

-- a byte string that may be absent
pub string_here : (frame : List ℕ) (spans : List Span) (n : ℕ) (string : Option (List ℕ)) → HasStrings frame spans n (if_there string) → bytes_at frame (span_at spans n) ≡ or_empty string
string_here frame spans n (Some bytes) has = bytes_here frame (span_at spans n) bytes has.0
string_here frame spans n None has = ap (bytes_at frame) (has n (omega arith)) ∙ nothing_here frame

-- what is made of the record of a type is what the frame states
pub stated_change : {A : Type 0} (n : ℕ) (made : A → RecordValue) (parts : Configuration → Parts A) → ((c : Configuration) → body c (suc n) ≡ map_parts made (parts c))
    → ((c : Configuration) (o : Order) (frame : List ℕ) (ids : SampleIdValue) (r : A) (f : FlatFrame) → StatesRecord c o frame ids (made r) f → HasContents frame f (made r))
    → (change : (misc : ℕ) → A → Change) → ((misc : ℕ) (r : A) → change_in misc (made r) ≡ Some (change misc r))
    → (c : Configuration) (o : Order) (frame : List ℕ) (f : FlatFrame) → IsFlat c o frame f → f.read ≡ suc n → (x : Change) → ((r : A) → HasContents frame f (made r) → x ≡ change f.misc r)
    → Some x ≡ change_of c o frame
stated_change n made parts table contents change says c o frame f is read x same =
    let found = of_type n made parts table c o frame f is read in
    let stated = flat_record c o frame (made found.0) f is found.1 in
    let h = header_of o frame in
    ap Some (same found.0 (contents c o frame stated.0 found.0 f stated.1) ∙ ap (λ m. change m found.0) is.header.misc)
    ∙ sym (ap (change_if h.misc) found.1 ∙ says h.misc found.0)
