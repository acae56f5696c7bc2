use Rattle.std.proofs.Common.{◌≡◌, Err}
use Rattle.std.specs.Prelude.{nat_le}
use Rattle.perf_base.specs.Layout.{number, optional, w4, w8}
use Rattle.perf_reader.proofs.After.{came_up, part_after, call_none}
use Rattle.perf_reader.proofs.Fields.{part_stops}
use Rattle.perf_reader.proofs.attribute.read_wakeup.Goals as goal

pub returns-in_err-read_u32 : goal.returns-in_err-read_u32
returns-in_err-read_u32 g c =
    let up : c.from_residual.result ≡ Err c.in_err-read_u32.field-0.0 = came_up _ _ c.from_residual.ensures in
    let e = c.in_err-read_u32.ensures in record {
      memory = rw up e.memory;
      call = rw up (
          part_stops (number w4) (λ n. n) _ _ e.call);
    }

pub returns-in_err-read_u32-2 : goal.returns-in_err-read_u32-2
returns-in_err-read_u32-2 g c =
    let up : c.from_residual-in_err-read_u32-2.result ≡ Err c.in_err-read_u32-2.field-0.0 = came_up _ _ c.from_residual-in_err-read_u32-2.ensures in
    let e = c.in_err-read_u32-2.ensures in record {
      memory = rw up e.memory;
      call = rw up (
          part_after (number w4) (λ n. n) _ c.in_ok-read_u32.ensures.call (
          part_stops (number w4) (λ n. n) _ _ e.call));
    }

pub returns-in_err-read_u64 : goal.returns-in_err-read_u64
returns-in_err-read_u64 g c =
    let up : c.from_residual-in_err-read_u64.result ≡ Err c.in_err-read_u64.field-0.0 = came_up _ _ c.from_residual-in_err-read_u64.ensures in
    let e = c.in_err-read_u64.ensures in record {
      memory = rw up e.memory;
      call = rw up (
          part_after (number w4) (λ n. n) _ c.in_ok-read_u32.ensures.call (
          part_after (number w4) (λ n. n) _ c.in_ok-read_u32-2.ensures.call (
          part_stops (number w8) (λ n. n) _ _ e.call)));
    }

pub returns-in_err-read_u64_if : goal.returns-in_err-read_u64_if
returns-in_err-read_u64_if g c =
    let up : c.from_residual-in_err-read_u64_if.result ≡ Err c.in_err-read_u64_if.field-0.0 = came_up _ _ c.from_residual-in_err-read_u64_if.ensures in
    let e = c.in_err-read_u64_if.ensures in record {
      memory = rw up e.memory;
      call = rw up (
          part_after (number w4) (λ n. n) _ c.in_ok-read_u32.ensures.call (
          part_after (number w4) (λ n. n) _ c.in_ok-read_u32-2.ensures.call (
          part_after (number w8) (λ n. n) _ c.in_ok-read_u64.ensures.call (
          part_stops (optional (nat_le 72 c.args.size) w8) (λ n. n) _ _ e.call))));
    }

pub returns-in_err-read_u64_if-2 : goal.returns-in_err-read_u64_if-2
returns-in_err-read_u64_if-2 g c =
    let up : c.from_residual-in_err-read_u64_if-2.result ≡ Err c.in_err-read_u64_if-2.field-0.0 = came_up _ _ c.from_residual-in_err-read_u64_if-2.ensures in
    let e = c.in_err-read_u64_if-2.ensures in record {
      memory = rw up e.memory;
      call = rw up (
          part_after (number w4) (λ n. n) _ c.in_ok-read_u32.ensures.call (
          part_after (number w4) (λ n. n) _ c.in_ok-read_u32-2.ensures.call (
          part_after (number w8) (λ n. n) _ c.in_ok-read_u64.ensures.call (
          part_after (optional (nat_le 72 c.args.size) w8) (λ n. n) _ c.in_ok-read_u64_if.ensures.call (
          part_stops (optional (nat_le 80 c.args.size) w8) (λ n. n) _ _ e.call)))));
    }

pub returns : goal.returns
returns g c =
    record {
      memory = tt;
      call =
          part_after (number w4) (λ n. n) _ c.in_ok-read_u32.ensures.call (
          part_after (number w4) (λ n. n) _ c.in_ok-read_u32-2.ensures.call (
          part_after (number w8) (λ n. n) _ c.in_ok-read_u64.ensures.call (
          part_after (optional (nat_le 72 c.args.size) w8) (λ n. n) _ c.in_ok-read_u64_if.ensures.call (
          part_after (optional (nat_le 80 c.args.size) w8) (λ n. n) _ c.in_ok-read_u64_if-2.ensures.call (
          rw (c.unwrap_or.ensures, c.unwrap_or-2.ensures) (call_none {show = λ v. v}))))));
    }
