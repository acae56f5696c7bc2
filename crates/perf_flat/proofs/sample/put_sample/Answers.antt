use Rattle.std.proofs.Common.{◌≡◌, Option, Some, None, sym, subst, ◌∙◌}
use Rattle.perf_base.specs.Configured.{configuration_of}
use Rattle.perf_base.specs.Layout.{map_parts}
use Rattle.perf_base.specs.declared.refusal.Refusal.{Refusal}
use Rattle.perf_records.specs.Records.{sample_is}
use Rattle.perf_sample_types.specs.Sample.{sample}
use Rattle.perf_flat.specs.CursorReads.{WritesRecord}
use Rattle.perf_flat.specs.declared.sample.Sample.{Sample}
use Rattle.perf_flat.proofs.RecordWrites.{placed}
use Rattle.perf_flat.proofs.Samples.{first_values, sample_read, sample_stopped, sample_holds, sample_values}
use Rattle.perf_flat.proofs.sample.put_sample.Goals as goal

-- what is refused is not fresh
refused_not : {r : Option Refusal} {e : Refusal} → r ≡ Some e → r ≡ None → ⊥
refused_not {r} {e} refused fresh = let no = sym refused ∙ fresh in absurd (cc)

pub returns-in-Some : goal.returns-in-Some
returns-in-Some g c =
    let settings = configuration_of c.args.config.now in
    let order = g.E.Endian.order c.args.order.now in
    let start = c.new-cursor in
    let flags = c.sample_type-flags.ensures in
    let moment = c.moment-moment.ensures settings flags in
    let event = c.event-event.ensures settings flags in
    let counts = c.counts-counts.ensures settings flags c.read_format.ensures in
    let refused = sym c.refusal.ensures ∙ c.in-Some.is in
    let reads = sample_stopped order settings c.moment-moment.result c.event-event.result c.counts-counts.result c.in-Some.refusal moment event counts refused in
    let end = c.counts-counts.new.self in
    let old = c.args.frame.now in
    subst (λ told. WritesRecord settings order (map_parts sample_is (sample settings)) c.args.body.now old told old) refused
    (placed settings order (map_parts sample_is (sample settings)) c.args.body.now (sample_is (first_values c.moment-moment.result c.event-event.result order settings counts)) start.result end old old
    start.ensures.bytes start.ensures.at start.ensures.refusal reads (λ ok. absurd (refused_not refused ok)))

pub returns-in-Some-refusal : goal.returns-in-Some-refusal
returns-in-Some-refusal g c =
    let settings = configuration_of c.args.config.now in
    let order = g.E.Endian.order c.args.order.now in
    let start = c.new-cursor in
    let flags = c.sample_type-flags.ensures in
    let moment = c.moment-moment.ensures settings flags in
    let event = c.event-event.ensures settings flags in
    let counts = c.counts-counts.ensures settings flags c.read_format.ensures in
    let state = c.state.ensures settings flags c.branch_hw_index-hw_index.ensures c.regs_user.ensures in
    let costs = c.costs.ensures settings flags c.regs_intr.ensures in
    let memory = c.memory.ensures settings flags in
    let made : Sample = record { moment = c.moment-moment.result; event = c.event-event.result; counts = c.counts-counts.result; state = c.state.result; costs = c.costs.result; memory = c.memory.result } in
    let reads = sample_read order settings made moment event counts state costs memory in
    let end = c.memory.new.self in
    let refused = sym c.refusal-2.ensures ∙ c.in-Some-refusal.is in
    let old = c.args.frame.now in
    subst (λ told. WritesRecord settings order (map_parts sample_is (sample settings)) c.args.body.now old told old) refused
    (placed settings order (map_parts sample_is (sample settings)) c.args.body.now (sample_is (sample_values made order settings counts state costs memory)) start.result end old old
    start.ensures.bytes start.ensures.at start.ensures.refusal reads (λ ok. absurd (refused_not refused ok)))

pub returns-in-None : goal.returns-in-None
returns-in-None g c =
    let settings = configuration_of c.args.config.now in
    let order = g.E.Endian.order c.args.order.now in
    let start = c.new-cursor in
    let flags = c.sample_type-flags.ensures in
    let moment = c.moment-moment.ensures settings flags in
    let event = c.event-event.ensures settings flags in
    let counts = c.counts-counts.ensures settings flags c.read_format.ensures in
    let state = c.state.ensures settings flags c.branch_hw_index-hw_index.ensures c.regs_user.ensures in
    let costs = c.costs.ensures settings flags c.regs_intr.ensures in
    let memory = c.memory.ensures settings flags in
    let made : Sample = record { moment = c.moment-moment.result; event = c.event-event.result; counts = c.counts-counts.result; state = c.state.result; costs = c.costs.result; memory = c.memory.result } in
    let reads = sample_read order settings made moment event counts state costs memory in
    let end = c.memory.new.self in
    let put = c.put in
    let old = c.args.frame.now in
    subst (λ told. WritesRecord settings order (map_parts sample_is (sample settings)) c.args.body.now old told put.new.frame) (sym c.refusal-2.ensures ∙ c.in-None.is)
    (placed settings order (map_parts sample_is (sample settings)) c.args.body.now (sample_is (sample_values made order settings counts state costs memory)) start.result end old put.new.frame
    start.ensures.bytes start.ensures.at start.ensures.refusal reads
    (sample_holds order settings c.args.body.now made old put.new.frame start.ensures.bytes moment event counts state costs memory put.ensures.numbers put.ensures.spans put.ensures.ids put.ensures.head))
