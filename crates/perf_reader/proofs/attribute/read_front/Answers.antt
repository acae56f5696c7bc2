use Rattle.std.proofs.Common.{◌≡◌, ◌∙◌, sym, Err}
use Rattle.perf_base.specs.Layout.{number, w4}
use Rattle.perf_reader.proofs.After.{came_up, part_after, call_none}
use Rattle.perf_reader.proofs.Fields.{part_stops, check_holds, check_fails}
use Rattle.perf_reader.proofs.attribute.read_front.Goals as goal

pub returns-in_err-type_ : goal.returns-in_err-type_
returns-in_err-type_ g c =
    let up : c.from_residual.result ≡ Err c.in_err-type_.field-0.0 = came_up _ _ c.from_residual.ensures in
    let e = c.in_err-type_.ensures in record {
      memory = rw up e.memory;
      call = rw up (part_stops (number w4) (λ n. n) _ _ e.call);
    }

pub returns-in_err-size : goal.returns-in_err-size
returns-in_err-size g c =
    let up : c.from_residual-in_err-size.result ≡ Err c.in_err-size.field-0.0 = came_up _ _ c.from_residual-in_err-size.ensures in
    let e = c.in_err-size.ensures in record {
      memory = rw up e.memory;
      call = rw up (
          part_after (number w4) (λ n. n) _ c.in_ok-type_.ensures.call (
          part_stops (number w4) (λ n. n) _ _ e.call));
    }

pub returns-then-not-is_attribute_size-clause-call : goal.returns-then-not-is_attribute_size-clause-call
returns-then-not-is_attribute_size-clause-call g c =
    part_after (number w4) (λ n. n) _ c.in_ok-type_.ensures.call (
    part_after (number w4) (λ n. n) _ c.in_ok-size.ensures.call (
    check_fails _ _ (sym c.is_attribute_size.ensures ∙ c.if-not-is_attribute_size.true)))

pub returns : goal.returns
returns g c = record {
  memory = tt;
  call =
      part_after (number w4) (λ n. n) _ c.in_ok-type_.ensures.call (
      part_after (number w4) (λ n. n) _ c.in_ok-size.ensures.call (
      check_holds _ _ _ (sym c.is_attribute_size.ensures ∙ c.if-not-is_attribute_size.false) (call_none {show = λ v. v})));
}
