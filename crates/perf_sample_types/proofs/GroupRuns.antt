-- Groups of a sample's fields, as calls one after another read them.
use Rattle.std.proofs.Common.{◌≡◌, ℕ, List, [], ◌∷◌, refl, sym, ◌∙◌, ap, subst}
use Rattle.std.specs.Prelude.{Result, Ok, Err, Option, IsTrue, IfOk}
use Rattle.perf_base.specs.Configuration.{Configuration}
use Rattle.perf_base.specs.Configured.{configuration_of, endian_of}
use Rattle.perf_base.specs.Layout.{Parts}
use Rattle.perf_base.specs.Order.{Order}
use Rattle.perf_base.specs.Took.{Took, took, quit}
use Rattle.perf_base.specs.declared.error.ErrorKind.{ErrorKind}
use Rattle.perf_buffers.specs.Buffer.{Source}
use Rattle.perf_reader.specs.Calls.{Call}
use Rattle.perf_reader.specs.ReaderState.{ReaderState, state_of}
use Rattle.perf_reader.specs.Reading.{Transition, AnswersRun}
use Rattle.perf_reader.specs.TableRuns.{ReadsBorrowed, ReadsTable, ahead, groups_took, table_by_places}
use Rattle.perf_reader.specs.declared.reader.Reader.{Reader}
use Rattle.perf_sample_types.specs.Sample.{SampleValue, sample, sample_groups, groups_under}
use Rattle.perf_sample_types.proofs.SampleTable.{places_sample}

-- The groups of a table, where f does the rest with their values. It is opened only when a proof
-- asks for it.
unfoldable pub Groups : {X A : Type 0} → (Took (List (Option A)) → Took (List (Option A))) → (Configuration → List (List (Option (Parts A)))) → (X → List (Option A)) → Transition X
Groups f groups view old outcome new = AnswersRun view (f (groups_took old.order (groups old.settings) old.source.left old.reads)) outcome new

module _ {I E : Type 0} {source : I → Source} {order : E → Order} where
  -- one that was read
  pub group_after : {X Y A : Type 0} {value : X → List (Option A)} {borrowed : X → Type 0} {a b c : Reader I E} {x : X} {outcome : Result Y ErrorKind}
      (view : Y → List (Option A)) (f : Took (List (Option A)) → Took (List (Option A))) (fields : Configuration → List (Option (Parts A))) (groups : Configuration → List (List (Option (Parts A)))) →
      Call source order (ReadsTable fields value borrowed) a (Ok x) b → Call source order (Groups (λ r. f (ahead (value x) r)) groups view) b outcome c →
      Call source order (Groups f (λ s. fields s ∷ groups s) view) a outcome c
  unfolding Groups
  group_after {X} {Y} {A} {value} {borrowed} {a} {b} {c} {x} {outcome} view f fields groups first next =
      let old : ReaderState = state_of source order a in
      let mid : ReaderState = state_of source order b in record {
        config = next.config ∙ first.config;
        whole = next.whole ∙ first.whole;
        told = λ h. next.told (first.told h);
        answer = λ h.
            let read : table_by_places old.order (fields old.settings) old.source.left old.reads ≡ took (value x) mid.source.left mid.reads = (first.answer h).0 in
            let row : f (groups_took old.order (fields old.settings ∷ groups old.settings) old.source.left old.reads) ≡ f (ahead (value x) (groups_took old.order (groups old.settings) mid.source.left mid.reads)) =
            ap (λ r. f (elim r as (λ r. Took (List (Option A))) [ took vs left m ↦ ahead vs (groups_took old.order (groups old.settings) left m) | quit e left m ↦ quit e left m ])) read in
            let kept : f (ahead (value x) (groups_took mid.order (groups mid.settings) mid.source.left mid.reads)) ≡ f (ahead (value x) (groups_took old.order (groups old.settings) mid.source.left mid.reads)) =
            ap (λ k. f (ahead (value x) (groups_took (order (endian_of k)) (groups (configuration_of k)) mid.source.left mid.reads))) first.config in
            subst (λ r. AnswersRun view r outcome (state_of source order c)) (kept ∙ sym row) (next.answer (first.told h));
        keeps = λ start k. next.keeps start (first.keeps start k);
      }

  -- one that was refused
  pub group_stops : {X Y A : Type 0} {value : X → List (Option A)} {borrowed : X → Type 0} {a b : Reader I E} {e : ErrorKind}
      (view : Y → List (Option A)) (f : Took (List (Option A)) → Took (List (Option A))) (fields : Configuration → List (Option (Parts A))) (groups : Configuration → List (List (Option (Parts A)))) →
      ((left : List ℕ) (m : ℕ) → f (quit e left m) ≡ quit e left m) → Call source order (ReadsTable fields value borrowed) a (Err e) b →
      Call source order (Groups f (λ s. fields s ∷ groups s) view) a (Err e) b
  unfolding Groups
  group_stops {X} {Y} {A} {value} {borrowed} {a} {b} {e} view f fields groups quits first =
      let old : ReaderState = state_of source order a in
      let new : ReaderState = state_of source order b in record {
        config = first.config;
        whole = first.whole;
        told = first.told;
        answer = λ h kind.
            let read : table_by_places old.order (fields old.settings) old.source.left old.reads ≡ quit e new.source.left new.reads = (first.answer h).0 kind in
            ap (λ r. f (elim r as (λ r. Took (List (Option A))) [ took vs left m ↦ ahead vs (groups_took old.order (groups old.settings) left m) | quit e left m ↦ quit e left m ])) read
            ∙ quits new.source.left new.reads;
        keeps = first.keeps;
      }

  -- all were read
  pub groups_give : {Y A : Type 0} {a : Reader I E} {y : Y} (view : Y → List (Option A)) (f : Took (List (Option A)) → Took (List (Option A))) →
      ((left : List ℕ) (m : ℕ) → f (took [] left m) ≡ took (view y) left m) → Call source order (Groups f (λ _. []) view) a (Ok y) a
  unfolding Groups
  groups_give {Y} {A} {a} {y} view f gives = record {
    config = refl;
    whole = refl;
    told = λ t. t;
    answer = λ t. let old : ReaderState = state_of source order a in gives old.source.left old.reads;
    keeps = λ start k. k;
  }

  -- a sample is its groups
  pub of_groups : {Y : Type 0} {a b : Reader I E} {outcome : Result Y ErrorKind} (view : Y → SampleValue) (borrowed : Y → Type 0) →
      (IsTrue (source a.input).told → IsTrue (source a.input).whole → IfOk outcome borrowed) → Call source order (Groups (λ r. r) (λ s. groups_under s sample_groups) view) a outcome b →
      Call source order (ReadsBorrowed sample view borrowed) a outcome b
  unfolding Groups
  of_groups {Y} {a} {b} {outcome} view borrowed lends row =
      let old : ReaderState = state_of source order a in
      let new : ReaderState = state_of source order b in record {
        config = row.config;
        whole = row.whole;
        told = row.told;
        answer = λ t. (subst (λ r. AnswersRun view r outcome new) (sym (places_sample old.order old.settings old.source.left old.reads)) (row.answer t), lends t);
        keeps = row.keeps;
      }
