-- The two groups in which a sample id is read make up its fields.
use Rattle.std.proofs.Common.{◌≡◌, ℕ, refl}
use Rattle.std.specs.Prelude.{Result, Ok, Err}
use Rattle.perf_base.specs.Layout.{◌>>=◌}
use Rattle.perf_base.specs.Order.{Order}
use Rattle.perf_base.specs.declared.error.ErrorKind.{ErrorKind}
use Rattle.perf_buffers.specs.Buffer.{Source}
use Rattle.perf_reader.proofs.After.{call_after, call_stops}
use Rattle.perf_reader.specs.Calls.{Call}
use Rattle.perf_reader.specs.Reading.{Reads, ReadsPlain}
use Rattle.perf_reader.specs.declared.reader.Reader.{Reader}
use Rattle.perf_sample_types.specs.SampleId.{SampleIdValue, sample_id_fields}
use Rattle.perf_sample_types.specs.SampleIdFields.{origin, after_origin}
use Rattle.perf_sample_types.specs.declared.sample_id.Origin.{Origin}

groups_are_it : (t : ℕ) → (origin t >>= after_origin t) ≡ sample_id_fields t
groups_are_it t = refl

module _ {I E : Type 0} {source : I → Source} {order : E → Order} where
  -- the second group was read after the first
  pub origin_read : {a b c : Reader I E} {o : Origin} {outcome : Result SampleIdValue ErrorKind} (t : ℕ) →
      Call source order (ReadsPlain (λ _. origin t) (λ o. o)) a (Ok o) b →
      Call source order (ReadsPlain (λ _. after_origin t o) (λ s. s)) b outcome c →
      Call source order (ReadsPlain (λ _. sample_id_fields t) (λ s. s)) a outcome c
  origin_read {a} {b} {c} {o} {outcome} t first next =
      let plain : Call {X = Origin} source order (Reads (λ _. origin t) (λ o. o)) a (Ok o) b = record {
        config = first.config;
        whole = first.whole;
        told = first.told;
        answer = λ h. (first.answer h).0;
        keeps = first.keeps;
      } in
      let all : Call {X = SampleIdValue} source order (Reads (λ _. sample_id_fields t) (λ s. s)) a outcome c =
      call_after (λ _. origin t) (λ _. after_origin t) plain (record {
        config = next.config;
        whole = next.whole;
        told = next.told;
        answer = λ h. (next.answer h).0;
        keeps = next.keeps;
      }) in record {
        config = all.config;
        whole = all.whole;
        told = all.told;
        answer = λ h. (all.answer h, (next.answer (first.told h)).1);
        keeps = all.keeps;
      }

  -- the first was refused
  pub origin_stops : {a b : Reader I E} {e : ErrorKind} (t : ℕ) →
      Call source order (ReadsPlain (λ _. origin t) (λ o. o)) a (Err e) b →
      Call source order (ReadsPlain (λ _. sample_id_fields t) (λ s. s)) a (Err e) b
  origin_stops {a} {b} {e} t first =
      let plain : Call {X = Origin} source order (Reads (λ _. origin t) (λ o. o)) a (Err e) b = record {
        config = first.config;
        whole = first.whole;
        told = first.told;
        answer = λ h. (first.answer h).0;
        keeps = first.keeps;
      } in
      let all : Call {X = SampleIdValue} source order (Reads (λ _. sample_id_fields t) (λ s. s)) a (Err e) b =
      call_stops (λ _. origin t) (λ _. after_origin t) plain in record {
        config = all.config;
        whole = all.whole;
        told = all.told;
        answer = λ h. (all.answer h, (first.answer h).1);
        keeps = all.keeps;
      }
