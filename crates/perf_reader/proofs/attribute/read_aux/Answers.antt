use Rattle.std.proofs.Common.{◌≡◌, Err}
use Rattle.std.specs.Prelude.{nat_le, if◌then◌else◌}
use Rattle.perf_base.specs.Layout.{optional, padding, w2, w4}
use Rattle.perf_reader.proofs.After.{came_up, part_after, call_none, padded}
use Rattle.perf_reader.proofs.Fields.{part_stops}
use Rattle.perf_reader.proofs.attribute.read_aux.Goals as goal

pub returns-in_err-aux_watermark : goal.returns-in_err-aux_watermark
returns-in_err-aux_watermark g c =
    let up : c.from_residual.result ≡ Err c.in_err-aux_watermark.field-0.0 = came_up _ _ c.from_residual.ensures in
    let e = c.in_err-aux_watermark.ensures in record {
      memory = rw up e.memory;
      call = rw up (
          part_stops (optional (nat_le 112 c.args.size) w4) (λ n. n) _ _ e.call);
    }

pub returns-in_err-sample_max_stack : goal.returns-in_err-sample_max_stack
returns-in_err-sample_max_stack g c =
    let up : c.from_residual-in_err-sample_max_stack.result ≡ Err c.in_err-sample_max_stack.field-0.0 = came_up _ _ c.from_residual-in_err-sample_max_stack.ensures in
    let e = c.in_err-sample_max_stack.ensures in record {
      memory = rw up e.memory;
      call = rw up (
          part_after (optional (nat_le 112 c.args.size) w4) (λ n. n) _ c.in_ok-aux_watermark.ensures.call (
          part_stops (optional (nat_le 112 c.args.size) w2) (λ n. n) _ _ e.call));
    }

pub returns-in_err-skip : goal.returns-in_err-skip
returns-in_err-skip g c =
    let up : c.from_residual-in_err-skip.result ≡ Err c.in_err-skip.field-0.0 = came_up _ _ c.from_residual-in_err-skip.ensures in
    let e = c.in_err-skip.ensures in record {
      memory = rw up e.memory;
      call = rw up (
          part_after (optional (nat_le 112 c.args.size) w4) (λ n. n) _ c.in_ok-aux_watermark.ensures.call (
          part_after (optional (nat_le 112 c.args.size) w2) (λ n. n) _ c.in_ok-sample_max_stack.ensures.call (
          part_stops (padding (if nat_le 112 c.args.size then 2 else 0)) (λ _. tt) _ _ (padded c.len_to_skip.result _ c.len_to_skip.ensures e.call))));
    }

pub returns-in_err-aux_sample_size : goal.returns-in_err-aux_sample_size
returns-in_err-aux_sample_size g c =
    let up : c.from_residual-in_err-aux_sample_size.result ≡ Err c.in_err-aux_sample_size.field-0.0 = came_up _ _ c.from_residual-in_err-aux_sample_size.ensures in
    let e = c.in_err-aux_sample_size.ensures in record {
      memory = rw up e.memory;
      call = rw up (
          part_after (optional (nat_le 112 c.args.size) w4) (λ n. n) _ c.in_ok-aux_watermark.ensures.call (
          part_after (optional (nat_le 112 c.args.size) w2) (λ n. n) _ c.in_ok-sample_max_stack.ensures.call (
          part_after (padding (if nat_le 112 c.args.size then 2 else 0)) (λ _. tt) _ (padded c.len_to_skip.result _ c.len_to_skip.ensures c.in_ok-skip.ensures.call) (
          part_stops (optional (nat_le 120 c.args.size) w4) (λ n. n) _ _ e.call))));
    }

pub returns-in_err-skip-2 : goal.returns-in_err-skip-2
returns-in_err-skip-2 g c =
    let up : c.from_residual-in_err-skip-2.result ≡ Err c.in_err-skip-2.field-0.0 = came_up _ _ c.from_residual-in_err-skip-2.ensures in
    let e = c.in_err-skip-2.ensures in record {
      memory = rw up e.memory;
      call = rw up (
          part_after (optional (nat_le 112 c.args.size) w4) (λ n. n) _ c.in_ok-aux_watermark.ensures.call (
          part_after (optional (nat_le 112 c.args.size) w2) (λ n. n) _ c.in_ok-sample_max_stack.ensures.call (
          part_after (padding (if nat_le 112 c.args.size then 2 else 0)) (λ _. tt) _ (padded c.len_to_skip.result _ c.len_to_skip.ensures c.in_ok-skip.ensures.call) (
          part_after (optional (nat_le 120 c.args.size) w4) (λ n. n) _ c.in_ok-aux_sample_size.ensures.call (
          part_stops (padding (if nat_le 120 c.args.size then 4 else 0)) (λ _. tt) _ _ (padded c.len_to_skip-2.result _ c.len_to_skip-2.ensures e.call))))));
    }

pub returns : goal.returns
returns g c =
    record {
      memory = tt;
      call =
          part_after (optional (nat_le 112 c.args.size) w4) (λ n. n) _ c.in_ok-aux_watermark.ensures.call (
          part_after (optional (nat_le 112 c.args.size) w2) (λ n. n) _ c.in_ok-sample_max_stack.ensures.call (
          part_after (padding (if nat_le 112 c.args.size then 2 else 0)) (λ _. tt) _ (padded c.len_to_skip.result _ c.len_to_skip.ensures c.in_ok-skip.ensures.call) (
          part_after (optional (nat_le 120 c.args.size) w4) (λ n. n) _ c.in_ok-aux_sample_size.ensures.call (
          part_after (padding (if nat_le 120 c.args.size then 4 else 0)) (λ _. tt) _ (padded c.len_to_skip-2.result _ c.len_to_skip-2.ensures c.in_ok-skip-2.ensures.call) (
          rw (c.unwrap_or.ensures, c.unwrap_or-2.ensures, c.unwrap_or-3.ensures) (call_none {show = λ v. v}))))));
    }
