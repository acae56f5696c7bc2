-- Fields that are present by flags of the sample type, as calls one after another read them.
use Rattle.std.proofs.Common.{◌≡◌, ℕ, ◌^◌, ◌==◌, List, [], ◌∷◌, Bool, true, false, refl, sym, ◌∙◌, ap}
use Rattle.std.specs.Prelude.{Result, Ok, Err, Option, Some, None, option_map, IfSome}
use Rattle.std.specs.Int.RustNames.{bit_and}
use Rattle.perf_base.specs.Configuration.{Configuration}
use Rattle.perf_base.specs.Configured.{configuration_of}
use Rattle.perf_base.specs.Layout.{Parts}
use Rattle.perf_base.specs.Order.{Order}
use Rattle.perf_base.specs.Table.{present_if}
use Rattle.perf_base.specs.Took.{Took, took, quit}
use Rattle.perf_base.proofs.Took.{then_take}
use Rattle.perf_base.specs.declared.error.ErrorKind.{ErrorKind}
use Rattle.perf_buffers.specs.Buffer.{Source}
use Rattle.perf_reader.specs.Calls.{Call}
use Rattle.perf_reader.specs.ReaderState.{ReaderState, state_of}
use Rattle.perf_reader.specs.TableRuns.{ReadsBorrowed, ReadsField, before}
use Rattle.perf_reader.specs.declared.reader.Reader.{Reader}
use Rattle.perf_reader.proofs.RequestedParts.{Row, field_after, field_stops}
use Rattle.perf_reader.proofs.TableRuns.{field_there, field_absent}
use Rattle.perf_words.specs.Bits.{has_bit}
use Rattle.perf_words.proofs.Contained.{contains_bit}
use Rattle.perf_sample_types.specs.Sample.{has_one}
use Rattle.perf_sample_types.proofs.Flags.{only_flag}

-- a set has the flag if the sample type that it represents has its bit
pub flag_asked : (bit : ℕ) {word type : ℕ} → word ≡ type → has_one type (bit ∷ []) ≡ (bit_and word (2 ^ bit) == 2 ^ bit)
flag_asked bit {word} {type} asked = only_flag (has_bit type bit) ∙ sym (contains_bit word bit ∙ ap (λ w. has_bit w bit) asked)

module _ {I E : Type 0} {source : I → Source} {order : E → Order} where
  -- ---- one field

  -- it is absent
  pub field_kept_out : {X A : Type 0} {value : X → A} {borrowed : X → Type 0} {a : Reader I E} (present : Bool) (p : Configuration → Parts A) → present ≡ false →
      Call {X = Option X} source order (ReadsField (λ s. present_if present (p s)) (option_map value) (λ x. IfSome x borrowed)) a (Ok None) a
  field_kept_out {a = a} present p absent =
      let old : ReaderState = state_of source order a in record {
        config = refl;
        whole = refl;
        told = λ h. h;
        answer = λ h. (field_absent old.order present (p old.settings) old.source.left old.reads absent, λ w. tt);
        keeps = λ start k. k;
      }

  -- it is present, and was read
  pub field_read : {X A : Type 0} {value : X → A} {borrowed : X → Type 0} {a b : Reader I E} {x : X} (present : Bool) (p : Configuration → Parts A) → present ≡ true →
      Call source order (ReadsBorrowed p value borrowed) a (Ok x) b →
      Call {X = Option X} source order (ReadsField (λ s. present_if present (p s)) (option_map value) (λ x. IfSome x borrowed)) a (Ok (Some x)) b
  field_read {a = a} present p there first =
      let old : ReaderState = state_of source order a in record {
        config = first.config;
        whole = first.whole;
        told = first.told;
        answer = λ h.
            (field_there old.order present (p old.settings) old.source.left old.reads there ∙ ap (then_take (λ v left m. took (Some v) left m)) (first.answer h).0, (first.answer h).1);
        keeps = first.keeps;
      }

  -- it is present, and was refused
  pub field_refused : {X A : Type 0} {value : X → A} {borrowed : X → Type 0} {a b : Reader I E} {e : ErrorKind} (present : Bool) (p : Configuration → Parts A) → present ≡ true →
      Call source order (ReadsBorrowed p value borrowed) a (Err e) b →
      Call {X = Option X} source order (ReadsField (λ s. present_if present (p s)) (option_map value) (λ x. IfSome x borrowed)) a (Err e) b
  field_refused {a = a} present p there first =
      let old : ReaderState = state_of source order a in record {
        config = first.config;
        whole = first.whole;
        told = first.told;
        answer = λ h.
            ((λ kind. field_there old.order present (p old.settings) old.source.left old.reads there ∙ ap (then_take (λ v left m. took (Some v) left m)) ((first.answer h).0 kind)), λ w. tt);
        keeps = first.keeps;
      }

  -- ---- fields one after another

  -- one that was read, present or absent; the sample type stays for those after it
  pub flags_after : {X Y A : Type 0} {value : X → Option A} {borrowed : X → Type 0} {a b c : Reader I E} {x : X} {outcome : Result Y ErrorKind} {type : ℕ}
      (view : Y → List (Option A)) (f : Took (List (Option A)) → Took (List (Option A))) (flags : List ℕ) (present : Bool) (p : Configuration → Parts A) (fields : Configuration → List (Option (Parts A))) →
      (configuration_of a.config).sample_type ≡ type → has_one type flags ≡ present → Call source order (ReadsField (λ s. present_if present (p s)) value borrowed) a (Ok x) b →
      ((configuration_of b.config).sample_type ≡ type → Call source order (Row (λ r. f (before (value x) r)) fields view) b outcome c) →
      Call source order (Row f (λ s. present_if (has_one s.sample_type flags) (p s) ∷ fields s) view) a outcome c
  flags_after view f flags present p fields kept is first next =
      field_after view f (λ s. has_one s.sample_type flags) present p fields (ap (λ t. has_one t flags) kept ∙ is) first
      (next (ap (λ k. (configuration_of k).sample_type) first.config ∙ kept))

  -- one that was refused
  pub flags_stop : {X Y A : Type 0} {value : X → Option A} {borrowed : X → Type 0} {a b : Reader I E} {e : ErrorKind} {type : ℕ}
      (view : Y → List (Option A)) (f : Took (List (Option A)) → Took (List (Option A))) (flags : List ℕ) (present : Bool) (p : Configuration → Parts A) (fields : Configuration → List (Option (Parts A))) →
      ((left : List ℕ) (m : ℕ) → f (quit e left m) ≡ quit e left m) → (configuration_of a.config).sample_type ≡ type → has_one type flags ≡ present →
      Call source order (ReadsField (λ s. present_if present (p s)) value borrowed) a (Err e) b → Call source order (Row f (λ s. present_if (has_one s.sample_type flags) (p s) ∷ fields s) view) a (Err e) b
  flags_stop view f flags present p fields quits kept is first =
      field_stops view f (λ s. has_one s.sample_type flags) present p fields quits (ap (λ t. has_one t flags) kept ∙ is) first

  -- a field of one flag
  pub flag_after : {X Y A : Type 0} {value : X → Option A} {borrowed : X → Type 0} {a b c : Reader I E} {x : X} {outcome : Result Y ErrorKind} {word type : ℕ}
      (view : Y → List (Option A)) (f : Took (List (Option A)) → Took (List (Option A))) (bit : ℕ) (p : Configuration → Parts A) (fields : Configuration → List (Option (Parts A))) →
      (configuration_of a.config).sample_type ≡ type → word ≡ type → Call source order (ReadsField (λ s. present_if (bit_and word (2 ^ bit) == 2 ^ bit) (p s)) value borrowed) a (Ok x) b →
      ((configuration_of b.config).sample_type ≡ type → Call source order (Row (λ r. f (before (value x) r)) fields view) b outcome c) →
      Call source order (Row f (λ s. present_if (has_one s.sample_type (bit ∷ [])) (p s) ∷ fields s) view) a outcome c
  flag_after {word = word} view f bit p fields kept asked first next =
      flags_after view f (bit ∷ []) (bit_and word (2 ^ bit) == 2 ^ bit) p fields kept (flag_asked bit asked) first next

  pub flag_stops : {X Y A : Type 0} {value : X → Option A} {borrowed : X → Type 0} {a b : Reader I E} {e : ErrorKind} {word type : ℕ}
      (view : Y → List (Option A)) (f : Took (List (Option A)) → Took (List (Option A))) (bit : ℕ) (p : Configuration → Parts A) (fields : Configuration → List (Option (Parts A))) →
      ((left : List ℕ) (m : ℕ) → f (quit e left m) ≡ quit e left m) → (configuration_of a.config).sample_type ≡ type → word ≡ type →
      Call source order (ReadsField (λ s. present_if (bit_and word (2 ^ bit) == 2 ^ bit) (p s)) value borrowed) a (Err e) b →
      Call source order (Row f (λ s. present_if (has_one s.sample_type (bit ∷ [])) (p s) ∷ fields s) view) a (Err e) b
  flag_stops {word = word} view f bit p fields quits kept asked first =
      flags_stop view f (bit ∷ []) (bit_and word (2 ^ bit) == 2 ^ bit) p fields quits kept (flag_asked bit asked) first
