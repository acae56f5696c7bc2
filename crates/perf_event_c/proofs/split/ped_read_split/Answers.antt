use Rattle.std.proofs.Common.{ap, subst}
use Rattle.perf_base.specs.Configuration.{Configuration}
use Rattle.perf_base.specs.Configured.{configuration_of}
use Rattle.perf_base.specs.Dynamic.{order_of}
use Rattle.perf_base.specs.Order.{Order}
use Rattle.perf_outlines.specs.CallerConfigs.{order_of_config}
use Rattle.perf_event_c.specs.Ends.{ReadsSplit}
use Rattle.perf_event_c.proofs.split.ped_read_split.Goals as goal

pub returns-clause-frame : goal.returns-clause-frame
returns-clause-frame c = λ known.
    let means = c.in-Some.ensures in
    let settings = c.in-Some.settings in
    let read = c.read_split in
    let first = c.args.first.now in
    let second = c.args.second.now in
    subst (λ (k : Configuration). ReadsSplit k (order_of_config c.args.config.now) first second c.args.scratch.now read.new.scratch c.args.frame.now read.new.frame read.result) means.fields
    (subst (λ (o : Order). ReadsSplit (configuration_of settings) o first second c.args.scratch.now read.new.scratch c.args.frame.now read.new.frame read.result) (ap order_of means.order)
    (record {
      how = read.ensures.how;
      at = read.ensures.at;
      read = read.ensures.read;
      unread = read.ensures.unread;
      place = read.ensures.place;
      scratch = read.ensures.scratch;
    }))
