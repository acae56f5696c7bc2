use Rattle.std.proofs.Common.{◌≡◌, Err}
use Rattle.perf_base.specs.Header.{header}
use Rattle.perf_base.specs.Layout.{number, w2, w4}
use Rattle.perf_reader.proofs.After.{came_up, part_after, call_none, plain}
use Rattle.perf_reader.proofs.Fields.{part_stops}
use Rattle.perf_reader.proofs.reader.Reader.read_header_by_number.Goals as goal

pub returns-in_err-read_u32 : goal.returns-in_err-read_u32
returns-in_err-read_u32 g c =
    let up : c.from_residual.result ≡ Err c.in_err-read_u32.field-0.0 = came_up _ _ c.from_residual.ensures in
    let e = c.in_err-read_u32.ensures in record {
      call = rw up (plain (λ _. header) (λ v. v) (λ _. e.memory) (part_stops (number w4) (λ n. n) _ _ e.call));
    }

pub returns-in_err-read_u16 : goal.returns-in_err-read_u16
returns-in_err-read_u16 g c =
    let up : c.from_residual-in_err-read_u16.result ≡ Err c.in_err-read_u16.field-0.0 = came_up _ _ c.from_residual-in_err-read_u16.ensures in
    let e = c.in_err-read_u16.ensures in record {
      call = rw up (plain (λ _. header) (λ v. v) (λ _. e.memory) (
          part_after (number w4) (λ n. n) _ c.in_ok-read_u32.ensures.call (
          part_stops (number w2) (λ n. n) _ _ e.call)));
    }

pub returns-in_err-read_u16-2 : goal.returns-in_err-read_u16-2
returns-in_err-read_u16-2 g c =
    let up : c.from_residual-in_err-read_u16-2.result ≡ Err c.in_err-read_u16-2.field-0.0 = came_up _ _ c.from_residual-in_err-read_u16-2.ensures in
    let e = c.in_err-read_u16-2.ensures in record {
      call = rw up (plain (λ _. header) (λ v. v) (λ _. e.memory) (
          part_after (number w4) (λ n. n) _ c.in_ok-read_u32.ensures.call (
          part_after (number w2) (λ n. n) _ c.in_ok-read_u16.ensures.call (
          part_stops (number w2) (λ n. n) _ _ e.call))));
    }

pub returns : goal.returns
returns g c = record {
  call = plain (λ _. header) (λ v. v) (λ _. tt) (
      part_after (number w4) (λ n. n) _ c.in_ok-read_u32.ensures.call (
      part_after (number w2) (λ n. n) _ c.in_ok-read_u16.ensures.call (
      part_after (number w2) (λ n. n) _ c.in_ok-read_u16-2.ensures.call (
      call_none {show = λ v. v}))));
}
