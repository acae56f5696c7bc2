use Rattle.std.proofs.Common.{◌≡◌, Err, sym, subst}
use Rattle.std.specs.Prelude.{IsTrue}
use Rattle.perf_base.specs.Cow.{cow_items}
use Rattle.perf_base.specs.Layout.{number, byte_string, w8}
use Rattle.perf_reader.proofs.After.{came_up, part_after, call_none}
use Rattle.perf_reader.proofs.RequestedParts.{transient}
use Rattle.perf_sample_types.proofs.ReadParts.{part_refused}
use Rattle.perf_sample_types.specs.SampleParts.{aux_area_value}
use Rattle.perf_sample_types.proofs.sample_parts.AuxBytesReadField.read_field.Goals as goal

pub returns-in_err-size : goal.returns-in_err-size
returns-in_err-size g c =
    let up : c.from_residual.result ≡ Err c.in_err-size.field-0.0 = came_up _ _ c.from_residual.ensures in
    let e = c.in_err-size.ensures in rw up (record {
      memory = λ lasts lists. e.memory;
      call = transient _ _ _ (λ _ _. tt) (part_refused (number w8) (λ n. n) _ e.call);
    })

pub returns-in_err-bytes : goal.returns-in_err-bytes
returns-in_err-bytes g c =
    let up : c.from_residual-in_err-bytes.result ≡ Err c.in_err-bytes.field-0.0 = came_up _ _ c.from_residual-in_err-bytes.ensures in
    let e = c.in_err-bytes.ensures in rw up (record {
      memory = λ lasts lists. e.whole_memory (subst (λ b. IsTrue b) (sym c.in_ok-size.ensures.call.whole) lasts.1);
      call = transient _ _ _ (λ _ _. tt) (part_after (number w8) (λ n. n) _ c.in_ok-size.ensures.call (part_refused (byte_string _) cow_items _ e.call));
    })

pub returns : goal.returns
returns g c =
    record {
      memory = λ lasts lists. tt;
      call = transient _ _ _ (λ told whole. c.in_ok-bytes.ensures.whole (subst (λ b. IsTrue b) (sym c.in_ok-size.ensures.call.whole) whole)) (part_after (number w8) (λ n. n) _ c.in_ok-size.ensures.call (part_after (byte_string _) cow_items _ c.in_ok-bytes.ensures.call (call_none {show = aux_area_value})));
    }
