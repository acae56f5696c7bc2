-- Parts that a configuration asks for, and checks, as calls one after another find them.
use Rattle.std.proofs.Common.{◌≡◌, ℕ, List, [], ◌∷◌, Bool, true, refl, sym, ◌∙◌, ap, subst}
use Rattle.std.specs.Prelude.{Result, Ok, Err, Option, IsTrue, IfOk}
use Rattle.perf_base.specs.Configuration.{Configuration}
use Rattle.perf_base.specs.Configured.{configuration_of, endian_of}
use Rattle.perf_base.specs.Layout.{Parts, Width, done, part, check, optional, words}
use Rattle.perf_base.specs.Order.{Order}
use Rattle.perf_base.specs.Table.{present_if}
use Rattle.perf_base.specs.Took.{Took, took, quit, take_parts, took_by_places}
use Rattle.perf_base.specs.declared.error.ErrorKind.{ErrorKind}
use Rattle.perf_base.proofs.Took.{places_took, then_take}
use Rattle.perf_buffers.specs.Buffer.{Source}
use Rattle.perf_reader.specs.Calls.{Call}
use Rattle.perf_reader.specs.ReaderState.{ReaderState, state_of}
use Rattle.perf_reader.specs.Reading.{Transition, AnswersRun, Reads, ReadsOne}
use Rattle.perf_reader.specs.TableRuns.{ReadsBorrowed, ReadsField, ReadsTable, before, field_took, table_took}
use Rattle.perf_reader.specs.declared.reader.Reader.{Reader}
use Rattle.perf_reader.proofs.After.{call_after, call_stops}
use Rattle.perf_reader.proofs.TableRuns.{places_table}

-- the fields of a table, if f does what is left to do with their values; it is opened only when a proof asks for it
unfoldable pub Row : {X A : Type 0} → (Took (List (Option A)) → Took (List (Option A))) → (Configuration → List (Option (Parts A))) → (X → List (Option A)) → Transition X
Row f fields view old outcome new = AnswersRun view (f (table_took old.order (fields old.settings) old.source.left old.reads)) outcome new

module _ {I E : Type 0} {source : I → Source} {order : E → Order} where
  -- a check that holds, and the parts after it
  pub check_holds : {Y B : Type 0} {show : Y → B} {a c : Reader I E} {outcome : Result Y ErrorKind} (t : Configuration → Bool) (e : ErrorKind) (k : Configuration → Parts B) →
      t (configuration_of a.config) ≡ true → Call source order (Reads k show) a outcome c → Call source order (Reads (λ s. check (t s) e (k s)) show) a outcome c
  check_holds {Y} {B} {show} {a} {c} {outcome} t e k holds next =
      let old : ReaderState = state_of source order a in record {
        config = next.config;
        whole = next.whole;
        told = next.told;
        answer = λ h.
            let same : took_by_places old.order (k old.settings) old.source.left old.reads ≡ took_by_places old.order (check (t old.settings) e (k old.settings)) old.source.left old.reads =
            places_took old.order (k old.settings) old.source.left old.reads
            ∙ sym (ap (λ b. take_parts old.order (check b e (k old.settings)) old.source.left old.reads) holds)
            ∙ sym (places_took old.order (check (t old.settings) e (k old.settings)) old.source.left old.reads) in
            subst (λ r. AnswersRun show r outcome (state_of source order c)) same (next.answer h);
        keeps = next.keeps;
      }

  -- a number that is present, or absent
  pub option_after : {Y B : Type 0} {show : Y → B} {a b c : Reader I E} {x : Option ℕ} {outcome : Result Y ErrorKind} (w : Width) (t : Configuration → Bool) (present : Bool) (k : Configuration → Option ℕ → Parts B) →
      t (configuration_of a.config) ≡ present → Call {X = Option ℕ} source order (ReadsOne (optional present w) (λ o. o)) a (Ok x) b → Call source order (Reads (λ s. k s x) show) b outcome c →
      Call source order (Reads (λ s. part (optional (t s) w) (k s)) show) a outcome c
  option_after {Y} {B} {show} {a} {b} {c} {x} {outcome} w t present k same first next =
      call_after {X = Option ℕ} {view = λ o. o} {show = show} {x = x} (λ s. part (optional (t s) w) done) k (record {
        config = first.config;
        whole = first.whole;
        told = first.told;
        answer = λ h.
            let old : ReaderState = state_of source order a in
            places_took old.order (part (optional (t old.settings) w) done) old.source.left old.reads
            ∙ ap (λ i. take_parts old.order (part (optional i w) done) old.source.left old.reads) same
            ∙ ap (then_take (λ v left m. took v left m)) (first.answer h);
        keeps = first.keeps;
      }) next

  -- a given count of numbers
  pub words_after : {X Y B : Type 0} {view : X → List ℕ} {show : Y → B} {a b c : Reader I E} {x : X} {outcome : Result Y ErrorKind} (count : Configuration → ℕ) (n : ℕ) (k : Configuration → List ℕ → Parts B) →
      count (configuration_of a.config) ≡ n → Call source order (ReadsOne (words n) view) a (Ok x) b → Call source order (Reads (λ s. k s (view x)) show) b outcome c →
      Call source order (Reads (λ s. part (words (count s)) (k s)) show) a outcome c
  words_after {X} {Y} {B} {view} {show} {a} {b} {c} {x} {outcome} count n k same first next =
      call_after {view = view} {show = show} {x = x} (λ s. part (words (count s)) done) k (record {
        config = first.config;
        whole = first.whole;
        told = first.told;
        answer = λ h.
            let old : ReaderState = state_of source order a in
            places_took old.order (part (words (count old.settings)) done) old.source.left old.reads
            ∙ ap (λ i. take_parts old.order (part (words i) done) old.source.left old.reads) same
            ∙ ap (then_take (λ v left m. took v left m)) (first.answer h);
        keeps = first.keeps;
      }) next

  pub words_stop : {X Y B : Type 0} {view : X → List ℕ} {show : Y → B} {a b : Reader I E} {e : ErrorKind} (count : Configuration → ℕ) (n : ℕ) (k : Configuration → List ℕ → Parts B) →
      count (configuration_of a.config) ≡ n → Call source order (ReadsOne (words n) view) a (Err e) b →
      Call source order (Reads (λ s. part (words (count s)) (k s)) show) a (Err e) b
  words_stop {X} {Y} {B} {view} {show} {a} {b} {e} count n k same first =
      call_stops {view = view} {show = show} (λ s. part (words (count s)) done) k (record {
        config = first.config;
        whole = first.whole;
        told = first.told;
        answer = λ h kind.
            let old : ReaderState = state_of source order a in
            places_took old.order (part (words (count old.settings)) done) old.source.left old.reads
            ∙ ap (λ i. take_parts old.order (part (words i) done) old.source.left old.reads) same
            ∙ ap (then_take (λ v left m. took v left m)) (first.answer h kind);
        keeps = first.keeps;
      })

  -- a value that the configuration gives
  pub call_gives : {Y B : Type 0} {show : Y → B} {a : Reader I E} {y : Y} (v : Configuration → B) → v (configuration_of a.config) ≡ show y → Call source order (Reads (λ s. done (v s)) show) a (Ok y) a
  call_gives {Y} {B} {show} {a} {y} v same =
      let old : ReaderState = state_of source order a in record {
        config = refl;
        whole = refl;
        told = λ t. t;
        answer = λ t. places_took old.order (done (v old.settings)) old.source.left old.reads ∙ ap (λ i. took i old.source.left old.reads) same;
        keeps = λ start k. k;
      }

  -- a call that copies nothing out of a whole buffer, and may take memory
  pub transient : {Y B : Type 0} {a b : Reader I E} {outcome : Result Y ErrorKind} (p : Configuration → Parts B) (show : Y → B) (borrowed : Y → Type 0) →
      (IsTrue (source a.input).told → IsTrue (source a.input).whole → IfOk outcome borrowed) → Call source order (Reads p show) a outcome b →
      Call source order (ReadsBorrowed p show borrowed) a outcome b
  transient {Y} {B} {a} {b} {outcome} p show borrowed lends call = record {
    config = call.config;
    whole = call.whole;
    told = call.told;
    answer = λ t. (call.answer t, lends t);
    keeps = call.keeps;
  }

  -- ---- fields of a table

  -- one that was read, present or absent
  pub field_after : {X Y A : Type 0} {value : X → Option A} {borrowed : X → Type 0} {a b c : Reader I E} {x : X} {outcome : Result Y ErrorKind}
      (view : Y → List (Option A)) (f : Took (List (Option A)) → Took (List (Option A))) (t : Configuration → Bool) (present : Bool) (p : Configuration → Parts A) (fields : Configuration → List (Option (Parts A))) →
      t (configuration_of a.config) ≡ present → Call source order (ReadsField (λ s. present_if present (p s)) value borrowed) a (Ok x) b →
      Call source order (Row (λ r. f (before (value x) r)) fields view) b outcome c → Call source order (Row f (λ s. present_if (t s) (p s) ∷ fields s) view) a outcome c
  unfolding Row
  field_after {X} {Y} {A} {value} {borrowed} {a} {b} {c} {x} {outcome} view f t present p fields same first next =
      let old : ReaderState = state_of source order a in
      let mid : ReaderState = state_of source order b in record {
        config = next.config ∙ first.config;
        whole = next.whole ∙ first.whole;
        told = λ h. next.told (first.told h);
        answer = λ h.
            let read : field_took old.order (present_if (t old.settings) (p old.settings)) old.source.left old.reads ≡ took (value x) mid.source.left mid.reads =
            ap (λ i. field_took old.order (present_if i (p old.settings)) old.source.left old.reads) same ∙ (first.answer h).0 in
            let row : f (table_took old.order (present_if (t old.settings) (p old.settings) ∷ fields old.settings) old.source.left old.reads) ≡ f (before (value x) (table_took old.order (fields old.settings) mid.source.left mid.reads)) =
            ap (λ r. f (elim r as (λ r. Took (List (Option A))) [ took v left m ↦ before v (table_took old.order (fields old.settings) left m) | quit e left m ↦ quit e left m ])) read in
            let kept : f (before (value x) (table_took mid.order (fields mid.settings) mid.source.left mid.reads)) ≡ f (before (value x) (table_took old.order (fields old.settings) mid.source.left mid.reads)) =
            ap (λ k. f (before (value x) (table_took (order (endian_of k)) (fields (configuration_of k)) mid.source.left mid.reads))) first.config in
            subst (λ r. AnswersRun view r outcome (state_of source order c)) (kept ∙ sym row) (next.answer (first.told h));
        keeps = λ start k. next.keeps start (first.keeps start k);
      }

  -- one that was refused
  pub field_stops : {X Y A : Type 0} {value : X → Option A} {borrowed : X → Type 0} {a b : Reader I E} {e : ErrorKind}
      (view : Y → List (Option A)) (f : Took (List (Option A)) → Took (List (Option A))) (t : Configuration → Bool) (present : Bool) (p : Configuration → Parts A) (fields : Configuration → List (Option (Parts A))) →
      ((left : List ℕ) (m : ℕ) → f (quit e left m) ≡ quit e left m) → t (configuration_of a.config) ≡ present →
      Call source order (ReadsField (λ s. present_if present (p s)) value borrowed) a (Err e) b → Call source order (Row f (λ s. present_if (t s) (p s) ∷ fields s) view) a (Err e) b
  unfolding Row
  field_stops {X} {Y} {A} {value} {borrowed} {a} {b} {e} view f t present p fields quits same first =
      let old : ReaderState = state_of source order a in
      let new : ReaderState = state_of source order b in record {
        config = first.config;
        whole = first.whole;
        told = first.told;
        answer = λ h kind.
            let read : field_took old.order (present_if (t old.settings) (p old.settings)) old.source.left old.reads ≡ quit e new.source.left new.reads =
            ap (λ i. field_took old.order (present_if i (p old.settings)) old.source.left old.reads) same ∙ (first.answer h).0 kind in
            ap (λ r. f (elim r as (λ r. Took (List (Option A))) [ took v left m ↦ before v (table_took old.order (fields old.settings) left m) | quit e left m ↦ quit e left m ])) read
            ∙ quits new.source.left new.reads;
        keeps = first.keeps;
      }

  -- all were read
  pub fields_give : {Y A : Type 0} {a : Reader I E} {y : Y} (view : Y → List (Option A)) (f : Took (List (Option A)) → Took (List (Option A))) →
      ((left : List ℕ) (m : ℕ) → f (took [] left m) ≡ took (view y) left m) → Call source order (Row f (λ _. []) view) a (Ok y) a
  unfolding Row
  fields_give {Y} {A} {a} {y} view f gives = record {
    config = refl;
    whole = refl;
    told = λ t. t;
    answer = λ t. let old : ReaderState = state_of source order a in gives old.source.left old.reads;
    keeps = λ start k. k;
  }

  -- a table of these fields
  pub of_row : {Y A : Type 0} {a b : Reader I E} {outcome : Result Y ErrorKind} (fields : Configuration → List (Option (Parts A))) (view : Y → List (Option A)) (borrowed : Y → Type 0) →
      (IsTrue (source a.input).told → IsTrue (source a.input).whole → IfOk outcome borrowed) → Call source order (Row (λ r. r) fields view) a outcome b →
      Call source order (ReadsTable fields view borrowed) a outcome b
  unfolding Row
  of_row {Y} {A} {a} {b} {outcome} fields view borrowed lends row =
      let old : ReaderState = state_of source order a in
      let new : ReaderState = state_of source order b in record {
        config = row.config;
        whole = row.whole;
        told = row.told;
        answer = λ t. (subst (λ r. AnswersRun view r outcome new) (sym (places_table old.order (fields old.settings) old.source.left old.reads)) (row.answer t), lends t);
        keeps = row.keeps;
      }
