-- The groups of a sample's fields, one field after another.
use Rattle.std.proofs.Common.{◌≡◌, ℕ, ◌==◌, ◌^◌, Bool, List, [], ◌∷◌, ◌++◌, Option, refl, sym, ◌∙◌, subst}
use Rattle.std.specs.Int.RustNames.{bit_and}
use Rattle.perf_base.specs.Layout.{Parts, done, ◌>>=◌}
use Rattle.perf_base.specs.Order.{Order}
use Rattle.perf_base.specs.Table.{present_if, slot, table}
use Rattle.perf_sample_types.specs.Sample.{FieldValue, SampleValue, plain_field, has_one}
use Rattle.perf_sample_types.proofs.FlaggedFields.{flag_asked}
use Rattle.perf_flat.specs.CursorReads.{ReadsParts, ReadsFor}
use Rattle.perf_flat.specs.SampleReads.{ReadsFields}
use Rattle.perf_flat.specs.declared.cursor.BodyCursor.{BodyCursor}
use Rattle.perf_flat.proofs.CursorRuns.{then_reads, all_read, still_fresh}

-- no field is left
pub none_left : {o : Order} {a : BodyCursor} → ReadsFields o [] [] a a
none_left = record { chain = λ others rest end reads. reads; bytes = refl; fresh = λ ok. ok }

-- a field, and then those after it
pub next_field : {o : Order} {field : Option (Parts FieldValue)} {fields : List (Option (Parts FieldValue))} {v : Option FieldValue} {vs : SampleValue} {a b d : BodyCursor} →
    ReadsParts o (slot field) v a b → ReadsFields o fields vs b d → ReadsFields o (field ∷ fields) (v ∷ vs) a d
next_field {o} {field} {fields} {v} {vs} {a} {b} {d} first next = record {
  chain = λ others rest end reads.
      then_reads (slot field) (λ v. table (fields ++ others) >>= λ vs. done (v ∷ vs)) first
      (then_reads (table (fields ++ others)) (λ vs. done (v ∷ vs)) (next.chain others rest end reads) all_read);
  bytes = next.bytes ∙ first.bytes;
  fresh = λ ok. still_fresh first (next.fresh ok);
}

-- a field of one flag
pub flag_field : {o : Order} {v : Option FieldValue} {a b : BodyCursor} (bit : ℕ) {word type : ℕ} → word ≡ type →
    ReadsParts o (slot (present_if (bit_and word (2 ^ bit) == 2 ^ bit) plain_field)) v a b → ReadsParts o (slot (present_if (has_one type (bit ∷ [])) plain_field)) v a b
flag_field {o} {v} {a} {b} bit asked reads = subst (λ t. ReadsParts o (slot (present_if t plain_field)) v a b) (sym (flag_asked bit asked)) reads

-- a field by its test
pub tested : {o : Order} {is : Option FieldValue → Type 0} {a b : BodyCursor} {t u : Bool} (p : Parts FieldValue) → t ≡ u → ReadsFor o (slot (present_if t p)) is a b → ReadsFor o (slot (present_if u p)) is a b
tested {o} {is} {a} {b} p same reads = subst (λ t. ReadsFor o (slot (present_if t p)) is a b) same reads
