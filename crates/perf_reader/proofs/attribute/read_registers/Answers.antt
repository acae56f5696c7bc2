use Rattle.std.proofs.Common.{◌≡◌, ◌∙◌, ap, Err}
use Rattle.std.specs.Prelude.{nat_le}
use Rattle.std.proofs.lemmas.Int.{of_z-to_z}
use Rattle.std.specs.Int.{w32, cast_unsigned}
use Rattle.perf_base.specs.Layout.{optional, w4, w8}
use Rattle.perf_base.specs.Attribute.{or_zero}
use Rattle.perf_reader.proofs.After.{came_up, part_after, call_none}
use Rattle.perf_reader.proofs.Fields.{part_stops}
use Rattle.perf_reader.proofs.attribute.read_registers.Goals as goal

pub returns-in_err-read_u64_if : goal.returns-in_err-read_u64_if
returns-in_err-read_u64_if g c =
    let up : c.from_residual.result ≡ Err c.in_err-read_u64_if.field-0.0 = came_up _ _ c.from_residual.ensures in
    let e = c.in_err-read_u64_if.ensures in record {
      memory = rw up e.memory;
      call = rw up (
          part_stops (optional (nat_le 96 c.args.size) w8) (λ n. n) _ _ e.call);
    }

pub returns-in_err-read_u32_if : goal.returns-in_err-read_u32_if
returns-in_err-read_u32_if g c =
    let up : c.from_residual-in_err-read_u32_if.result ≡ Err c.in_err-read_u32_if.field-0.0 = came_up _ _ c.from_residual-in_err-read_u32_if.ensures in
    let e = c.in_err-read_u32_if.ensures in record {
      memory = rw up e.memory;
      call = rw up (
          part_after (optional (nat_le 96 c.args.size) w8) (λ n. n) _ c.in_ok-read_u64_if.ensures.call (
          part_stops (optional (nat_le 96 c.args.size) w4) (λ n. n) _ _ e.call));
    }

pub returns-in_err-read_u32_if-2 : goal.returns-in_err-read_u32_if-2
returns-in_err-read_u32_if-2 g c =
    let up : c.from_residual-in_err-read_u32_if-2.result ≡ Err c.in_err-read_u32_if-2.field-0.0 = came_up _ _ c.from_residual-in_err-read_u32_if-2.ensures in
    let e = c.in_err-read_u32_if-2.ensures in record {
      memory = rw up e.memory;
      call = rw up (
          part_after (optional (nat_le 96 c.args.size) w8) (λ n. n) _ c.in_ok-read_u64_if.ensures.call (
          part_after (optional (nat_le 96 c.args.size) w4) (λ n. n) _ c.in_ok-read_u32_if.ensures.call (
          part_stops (optional (nat_le 96 c.args.size) w4) (λ n. n) _ _ e.call)));
    }

pub returns-in_err-read_u64_if-2 : goal.returns-in_err-read_u64_if-2
returns-in_err-read_u64_if-2 g c =
    let up : c.from_residual-in_err-read_u64_if-2.result ≡ Err c.in_err-read_u64_if-2.field-0.0 = came_up _ _ c.from_residual-in_err-read_u64_if-2.ensures in
    let e = c.in_err-read_u64_if-2.ensures in record {
      memory = rw up e.memory;
      call = rw up (
          part_after (optional (nat_le 96 c.args.size) w8) (λ n. n) _ c.in_ok-read_u64_if.ensures.call (
          part_after (optional (nat_le 96 c.args.size) w4) (λ n. n) _ c.in_ok-read_u32_if.ensures.call (
          part_after (optional (nat_le 96 c.args.size) w4) (λ n. n) _ c.in_ok-read_u32_if-2.ensures.call (
          part_stops (optional (nat_le 104 c.args.size) w8) (λ n. n) _ _ e.call))));
    }

pub returns : goal.returns
returns g c =
    let clock : cast_unsigned w32 c.cast_signed.result ≡ or_zero c.in_ok-read_u32_if-2.field-0 = ap (cast_unsigned w32) c.cast_signed.ensures ∙ of_z-to_z w32 c.unwrap_or-3.result c.unwrap_or-3.type_inv ∙ c.unwrap_or-3.ensures in
    record {
      memory = tt;
      call =
          part_after (optional (nat_le 96 c.args.size) w8) (λ n. n) _ c.in_ok-read_u64_if.ensures.call (
          part_after (optional (nat_le 96 c.args.size) w4) (λ n. n) _ c.in_ok-read_u32_if.ensures.call (
          part_after (optional (nat_le 96 c.args.size) w4) (λ n. n) _ c.in_ok-read_u32_if-2.ensures.call (
          part_after (optional (nat_le 104 c.args.size) w8) (λ n. n) _ c.in_ok-read_u64_if-2.ensures.call (
          rw (clock, c.unwrap_or.ensures, c.unwrap_or-2.ensures, c.unwrap_or-4.ensures) (call_none {show = λ v. v})))));
    }
