use Rattle.std.proofs.Common.{◌≡◌, Err}
use Rattle.perf_reader.proofs.After.{came_up}
use Rattle.perf_reader.proofs.Attributes.{front_stops, event_stops, wakeup_stops, registers_stop, aux_stops, last_stops, tail_stops}
use Rattle.perf_reader.proofs.Attributes.{front_read, event_read, wakeup_read, registers_read, aux_read, last_read, tail_read}
use Rattle.perf_reader.proofs.attribute.read_groups.Goals as goal

pub returns-in_err-front : goal.returns-in_err-front
returns-in_err-front g c =
    let up : c.from_residual.result ≡ Err c.in_err-front.field-0.0 = came_up _ _ c.from_residual.ensures in
    let e = c.in_err-front.ensures in record {
      memory = rw up e.memory;
      call = rw up (
          front_stops c.in_err-front.ensures.call);
    }

pub returns-in_err-event : goal.returns-in_err-event
returns-in_err-event g c =
    let f = c.in_ok-front.front in
    let up : c.from_residual-in_err-event.result ≡ Err c.in_err-event.field-0.0 = came_up _ _ c.from_residual-in_err-event.ensures in
    let e = c.in_err-event.ensures in record {
      memory = rw up e.memory;
      call = rw up (
          front_read f c.in_ok-front.ensures.call (
          event_stops f c.in_err-event.ensures.call));
    }

pub returns-in_err-wakeup : goal.returns-in_err-wakeup
returns-in_err-wakeup g c =
    let f = c.in_ok-front.front in
    let v = c.in_ok-event.event in
    let up : c.from_residual-in_err-wakeup.result ≡ Err c.in_err-wakeup.field-0.0 = came_up _ _ c.from_residual-in_err-wakeup.ensures in
    let e = c.in_err-wakeup.ensures in record {
      memory = rw up e.memory;
      call = rw up (
          front_read f c.in_ok-front.ensures.call (
          event_read f v c.in_ok-event.ensures.call (
          wakeup_stops f v c.in_err-wakeup.ensures.call)));
    }

pub returns-in_err-registers : goal.returns-in_err-registers
returns-in_err-registers g c =
    let f = c.in_ok-front.front in
    let v = c.in_ok-event.event in
    let w = c.in_ok-wakeup.wakeup in
    let up : c.from_residual-in_err-registers.result ≡ Err c.in_err-registers.field-0.0 = came_up _ _ c.from_residual-in_err-registers.ensures in
    let e = c.in_err-registers.ensures in record {
      memory = rw up e.memory;
      call = rw up (
          front_read f c.in_ok-front.ensures.call (
          event_read f v c.in_ok-event.ensures.call (
          wakeup_read f v w c.in_ok-wakeup.ensures.call (
          registers_stop f v w c.in_err-registers.ensures.call))));
    }

pub returns-in_err-aux : goal.returns-in_err-aux
returns-in_err-aux g c =
    let f = c.in_ok-front.front in
    let v = c.in_ok-event.event in
    let w = c.in_ok-wakeup.wakeup in
    let r = c.in_ok-registers.registers in
    let up : c.from_residual-in_err-aux.result ≡ Err c.in_err-aux.field-0.0 = came_up _ _ c.from_residual-in_err-aux.ensures in
    let e = c.in_err-aux.ensures in record {
      memory = rw up e.memory;
      call = rw up (
          front_read f c.in_ok-front.ensures.call (
          event_read f v c.in_ok-event.ensures.call (
          wakeup_read f v w c.in_ok-wakeup.ensures.call (
          registers_read f v w r c.in_ok-registers.ensures.call (
          aux_stops f v w r c.in_err-aux.ensures.call)))));
    }

pub returns-in_err-last : goal.returns-in_err-last
returns-in_err-last g c =
    let f = c.in_ok-front.front in
    let v = c.in_ok-event.event in
    let w = c.in_ok-wakeup.wakeup in
    let r = c.in_ok-registers.registers in
    let x = c.in_ok-aux.aux in
    let up : c.from_residual-in_err-last.result ≡ Err c.in_err-last.field-0.0 = came_up _ _ c.from_residual-in_err-last.ensures in
    let e = c.in_err-last.ensures in record {
      memory = rw up e.memory;
      call = rw up (
          front_read f c.in_ok-front.ensures.call (
          event_read f v c.in_ok-event.ensures.call (
          wakeup_read f v w c.in_ok-wakeup.ensures.call (
          registers_read f v w r c.in_ok-registers.ensures.call (
          aux_read f v w r x c.in_ok-aux.ensures.call (
          last_stops f v w r x c.in_err-last.ensures.call))))));
    }

pub returns-in_err-read_zero_tail : goal.returns-in_err-read_zero_tail
returns-in_err-read_zero_tail g c =
    let f = c.in_ok-front.front in
    let v = c.in_ok-event.event in
    let w = c.in_ok-wakeup.wakeup in
    let r = c.in_ok-registers.registers in
    let x = c.in_ok-aux.aux in
    let y = c.in_ok-last.last in
    let up : c.from_residual-in_err-read_zero_tail.result ≡ Err c.in_err-read_zero_tail.field-0.0 = came_up _ _ c.from_residual-in_err-read_zero_tail.ensures in
    let e = c.in_err-read_zero_tail.ensures in record {
      memory = rw up e.memory;
      call = rw up (
          front_read f c.in_ok-front.ensures.call (
          event_read f v c.in_ok-event.ensures.call (
          wakeup_read f v w c.in_ok-wakeup.ensures.call (
          registers_read f v w r c.in_ok-registers.ensures.call (
          aux_read f v w r x c.in_ok-aux.ensures.call (
          last_read f v w r x y c.in_ok-last.ensures.call (
          tail_stops f v w r x y _ c.saturating_sub.ensures c.in_err-read_zero_tail.ensures.call)))))));
    }

pub returns : goal.returns
returns g c =
    let f = c.in_ok-front.front in
    let v = c.in_ok-event.event in
    let w = c.in_ok-wakeup.wakeup in
    let r = c.in_ok-registers.registers in
    let x = c.in_ok-aux.aux in
    let y = c.in_ok-last.last in record {
      memory = tt;
      call = rw c.assemble.ensures (
          front_read f c.in_ok-front.ensures.call (
          event_read f v c.in_ok-event.ensures.call (
          wakeup_read f v w c.in_ok-wakeup.ensures.call (
          registers_read f v w r c.in_ok-registers.ensures.call (
          aux_read f v w r x c.in_ok-aux.ensures.call (
          last_read f v w r x y c.in_ok-last.ensures.call (
          tail_read f v w r x y _ c.saturating_sub.ensures c.in_ok-read_zero_tail.ensures.call)))))));
    }
