use Rattle.std.proofs.Common.{◌≡◌, Err, sym, subst}
use Rattle.std.specs.Prelude.{IsTrue}
use Rattle.perf_base.specs.Cow.{cow_items}
use Rattle.perf_base.specs.Layout.{number, byte_string, padding, w4}
use Rattle.perf_reader.proofs.After.{came_up, part_after, call_none, padded}
use Rattle.perf_reader.proofs.RequestedParts.{transient}
use Rattle.perf_sample_types.proofs.ReadParts.{part_refused}
use Rattle.perf_sample_types.specs.SampleParts.{raw_value}
use Rattle.perf_sample_types.specs.Sample.{raw_padding}
use Rattle.perf_sample_types.proofs.sample_parts.RawDataReadField.read_field.Goals as goal

pub returns-in_err-len : goal.returns-in_err-len
returns-in_err-len g c =
    let up : c.from_residual.result ≡ Err c.in_err-len.field-0.0 = came_up _ _ c.from_residual.ensures in
    let e = c.in_err-len.ensures in rw up (record {
      memory = λ lasts lists. e.memory;
      call = transient _ _ _ (λ _ _. tt) (part_refused (number w4) (λ n. n) _ e.call);
    })

pub returns-in_err-bytes : goal.returns-in_err-bytes
returns-in_err-bytes g c =
    let up : c.from_residual-in_err-bytes.result ≡ Err c.in_err-bytes.field-0.0 = came_up _ _ c.from_residual-in_err-bytes.ensures in
    let e = c.in_err-bytes.ensures in rw up (record {
      memory = λ lasts lists. e.whole_memory (subst (λ b. IsTrue b) (sym c.in_ok-len.ensures.call.whole) lasts.1);
      call = transient _ _ _ (λ _ _. tt) (part_after (number w4) (λ n. n) _ c.in_ok-len.ensures.call (part_refused (byte_string _) cow_items _ e.call));
    })

pub returns-in_err-skip : goal.returns-in_err-skip
returns-in_err-skip g c =
    let up : c.from_residual-in_err-skip.result ≡ Err c.in_err-skip.field-0.0 = came_up _ _ c.from_residual-in_err-skip.ensures in
    let e = c.in_err-skip.ensures in rw up (record {
      memory = λ lasts lists. e.memory;
      call = transient _ _ _ (λ _ _. tt) (part_after (number w4) (λ n. n) _ c.in_ok-len.ensures.call (part_after (byte_string _) cow_items _ c.in_ok-bytes.ensures.call (part_refused (padding (raw_padding _)) (λ _. tt) _ (padded _ _ c.raw_padding.ensures e.call))));
    })

pub returns : goal.returns
returns g c =
    record {
      memory = λ lasts lists. tt;
      call = transient _ _ _ (λ told whole. c.in_ok-bytes.ensures.whole (subst (λ b. IsTrue b) (sym c.in_ok-len.ensures.call.whole) whole)) (part_after (number w4) (λ n. n) _ c.in_ok-len.ensures.call (part_after (byte_string _) cow_items _ c.in_ok-bytes.ensures.call (part_after (padding (raw_padding _)) (λ _. tt) _ (padded _ _ c.raw_padding.ensures c.in_ok-skip.ensures.call) (call_none {show = raw_value}))));
    }
