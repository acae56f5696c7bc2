use Rattle.std.proofs.Common.{length, nat_eq, nat_le, refl, ap, sym, subst, arith}
use Rattle.std.proofs.lemmas.Bool.{eq-eqb, eqb-true, le-leb, leb-true}
use Rattle.perf_base.specs.Configuration.{Configuration}
use Rattle.perf_base.specs.Configured.{configuration_of}
use Rattle.perf_base.specs.Dynamic.{order_of}
use Rattle.perf_base.specs.Order.{Order}
use Rattle.perf_flat.specs.Flat.{IsFlat, first_frame}
use Rattle.perf_flat.specs.FlatConfigs.{is_valid}
use Rattle.perf_outlines.specs.CallerConfigs.{order_of_config}
use Rattle.perf_event_c.proofs.AttributeEnds.{not_both}
use Rattle.perf_event_c.proofs.read.ped_read.Goals as goal

pub returns-in_default-clause-other : goal.returns-in_default-clause-other
returns-in_default-clause-other c = λ bad. (refl, refl)

pub returns-in_default-clause-done : goal.returns-in_default-clause-done
returns-in_default-clause-done c = λ known. not_both (is_valid c.args.config.now) known c.in_default.ensures

pub returns-in_default-clause-cut : goal.returns-in_default-clause-cut
returns-in_default-clause-cut c = λ known. not_both (is_valid c.args.config.now) known c.in_default.ensures

pub returns-in_default-clause-frame : goal.returns-in_default-clause-frame
returns-in_default-clause-frame c = λ known. not_both (is_valid c.args.config.now) known c.in_default.ensures

pub returns-then-read_into-clause-other : goal.returns-then-read_into-clause-other
returns-then-read_into-clause-other c = λ bad. not_both (is_valid c.args.config.now) c.in-Some.ensures.known bad

pub returns-then-read_into-clause-done : goal.returns-then-read_into-clause-done
returns-then-read_into-clause-done c = λ known none. let fits = leb-true 8 (length c.args.bytes.now) (sym c.if-read_into.ensures.header) in absurd (omega (arith, fits, none))

pub returns-then-read_into-clause-cut : goal.returns-then-read_into-clause-cut
returns-then-read_into-clause-cut c = λ known some few. let fits = leb-true 8 (length c.args.bytes.now) (sym c.if-read_into.ensures.header) in absurd (omega (arith, fits, few))

pub returns-then-read_into-clause-frame : goal.returns-then-read_into-clause-frame
returns-then-read_into-clause-frame c = λ known fits.
    let means = c.in-Some.ensures in
    let settings = c.in-Some.settings in
    let bytes = c.args.bytes.now in
    let new = c.read_into.new.frame in (
      refl,
      subst (λ (k : Configuration). IsFlat k (order_of_config c.args.config.now) (first_frame (order_of_config c.args.config.now) bytes) new) means.fields
          (subst (λ (o : Order). IsFlat (configuration_of settings) o (first_frame o bytes) new) (ap order_of means.order)
          (c.read_into.ensures.read c.if-read_into.true)),
    )

pub returns-then-is_empty-clause-other : goal.returns-then-is_empty-clause-other
returns-then-is_empty-clause-other c = λ bad. not_both (is_valid c.args.config.now) c.in-Some.ensures.known bad

pub returns-then-is_empty-clause-done : goal.returns-then-is_empty-clause-done
returns-then-is_empty-clause-done c = λ known none. (refl, c.read_into.ensures.unread c.if-read_into.false)

pub returns-then-is_empty-clause-cut : goal.returns-then-is_empty-clause-cut
returns-then-is_empty-clause-cut c = λ known some few. let none = eqb-true (length c.args.bytes.now) 0 (sym c.if-is_empty.ensures) in absurd (omega (arith, some, none))

pub returns-then-is_empty-clause-frame : goal.returns-then-is_empty-clause-frame
returns-then-is_empty-clause-frame c = λ known fits. not_both (nat_le 8 (length c.args.bytes.now)) (le-leb 8 (length c.args.bytes.now) fits) (sym c.if-read_into.ensures.header)

pub returns-else-is_empty-clause-other : goal.returns-else-is_empty-clause-other
returns-else-is_empty-clause-other c = λ bad. not_both (is_valid c.args.config.now) c.in-Some.ensures.known bad

pub returns-else-is_empty-clause-done : goal.returns-else-is_empty-clause-done
returns-else-is_empty-clause-done c = λ known none. not_both (nat_eq (length c.args.bytes.now) 0) (eq-eqb (length c.args.bytes.now) 0 none) (sym c.if-is_empty.ensures)

pub returns-else-is_empty-clause-cut : goal.returns-else-is_empty-clause-cut
returns-else-is_empty-clause-cut c = λ known some few. (refl, c.read_into.ensures.unread c.if-read_into.false)

pub returns-else-is_empty-clause-frame : goal.returns-else-is_empty-clause-frame
returns-else-is_empty-clause-frame c = λ known fits. not_both (nat_le 8 (length c.args.bytes.now)) (le-leb 8 (length c.args.bytes.now) fits) (sym c.if-read_into.ensures.header)
