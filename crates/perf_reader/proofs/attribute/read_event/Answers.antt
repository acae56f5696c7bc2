use Rattle.std.proofs.Common.{◌≡◌, Err}
use Rattle.perf_base.specs.Layout.{number, w8}
use Rattle.perf_reader.proofs.After.{came_up, part_after, call_none}
use Rattle.perf_reader.proofs.Fields.{part_stops}
use Rattle.perf_reader.proofs.attribute.read_event.Goals as goal

pub returns-in_err-read_u64 : goal.returns-in_err-read_u64
returns-in_err-read_u64 g c =
    let up : c.from_residual.result ≡ Err c.in_err-read_u64.field-0.0 = came_up _ _ c.from_residual.ensures in
    let e = c.in_err-read_u64.ensures in record {
      memory = rw up e.memory;
      call = rw up (
          part_stops (number w8) (λ n. n) _ _ e.call);
    }

pub returns-in_err-read_u64-2 : goal.returns-in_err-read_u64-2
returns-in_err-read_u64-2 g c =
    let up : c.from_residual-in_err-read_u64-2.result ≡ Err c.in_err-read_u64-2.field-0.0 = came_up _ _ c.from_residual-in_err-read_u64-2.ensures in
    let e = c.in_err-read_u64-2.ensures in record {
      memory = rw up e.memory;
      call = rw up (
          part_after (number w8) (λ n. n) _ c.in_ok-read_u64.ensures.call (
          part_stops (number w8) (λ n. n) _ _ e.call));
    }

pub returns-in_err-read_u64-3 : goal.returns-in_err-read_u64-3
returns-in_err-read_u64-3 g c =
    let up : c.from_residual-in_err-read_u64-3.result ≡ Err c.in_err-read_u64-3.field-0.0 = came_up _ _ c.from_residual-in_err-read_u64-3.ensures in
    let e = c.in_err-read_u64-3.ensures in record {
      memory = rw up e.memory;
      call = rw up (
          part_after (number w8) (λ n. n) _ c.in_ok-read_u64.ensures.call (
          part_after (number w8) (λ n. n) _ c.in_ok-read_u64-2.ensures.call (
          part_stops (number w8) (λ n. n) _ _ e.call)));
    }

pub returns-in_err-read_u64-4 : goal.returns-in_err-read_u64-4
returns-in_err-read_u64-4 g c =
    let up : c.from_residual-in_err-read_u64-4.result ≡ Err c.in_err-read_u64-4.field-0.0 = came_up _ _ c.from_residual-in_err-read_u64-4.ensures in
    let e = c.in_err-read_u64-4.ensures in record {
      memory = rw up e.memory;
      call = rw up (
          part_after (number w8) (λ n. n) _ c.in_ok-read_u64.ensures.call (
          part_after (number w8) (λ n. n) _ c.in_ok-read_u64-2.ensures.call (
          part_after (number w8) (λ n. n) _ c.in_ok-read_u64-3.ensures.call (
          part_stops (number w8) (λ n. n) _ _ e.call))));
    }

pub returns-in_err-read_u64-5 : goal.returns-in_err-read_u64-5
returns-in_err-read_u64-5 g c =
    let up : c.from_residual-in_err-read_u64-5.result ≡ Err c.in_err-read_u64-5.field-0.0 = came_up _ _ c.from_residual-in_err-read_u64-5.ensures in
    let e = c.in_err-read_u64-5.ensures in record {
      memory = rw up e.memory;
      call = rw up (
          part_after (number w8) (λ n. n) _ c.in_ok-read_u64.ensures.call (
          part_after (number w8) (λ n. n) _ c.in_ok-read_u64-2.ensures.call (
          part_after (number w8) (λ n. n) _ c.in_ok-read_u64-3.ensures.call (
          part_after (number w8) (λ n. n) _ c.in_ok-read_u64-4.ensures.call (
          part_stops (number w8) (λ n. n) _ _ e.call)))));
    }

pub returns : goal.returns
returns g c =
    record {
      memory = tt;
      call =
          part_after (number w8) (λ n. n) _ c.in_ok-read_u64.ensures.call (
          part_after (number w8) (λ n. n) _ c.in_ok-read_u64-2.ensures.call (
          part_after (number w8) (λ n. n) _ c.in_ok-read_u64-3.ensures.call (
          part_after (number w8) (λ n. n) _ c.in_ok-read_u64-4.ensures.call (
          part_after (number w8) (λ n. n) _ c.in_ok-read_u64-5.ensures.call (
          call_none {show = λ v. v})))));
    }
