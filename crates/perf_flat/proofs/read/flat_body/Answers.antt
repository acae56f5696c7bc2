use Rattle.std.proofs.Common.{◌<◌, ◌^◌, Some, None, length, arith, subst}
use Rattle.perf_base.specs.Configured.{configuration_of, endian_of}
use Rattle.perf_sample_types.specs.SampleId.{SampleIdValue}
use Rattle.perf_flat.specs.Flat.{CarriesNumbers}
use Rattle.perf_flat.proofs.FlatBodies.{body_placed, body_refused}
use Rattle.perf_flat.proofs.read.flat_body.Goals as goal

pub returns-in-None : goal.returns-in-None
returns-in-None g c =
    let settings = configuration_of c.args.config.now in
    let order = g.E.Endian.order (endian_of c.args.config.now) in
    let h = c.args.header in
    let bytes = c.args.body.now in
    let head = c.put_head in
    let put = c.put_record in
    let short : length bytes < 2 ^ 16 = omega (arith, c.requires, head.ensures.size) in
    let places = c.in-None.ensures in
    let carries = subst (λ (own : SampleIdValue). CarriesNumbers settings own head.new.frame.numbers head.new.frame) c.default.ensures head.ensures.numbers in
    body_placed settings order h bytes head.new.frame.numbers head.new.frame put.new.frame c.present_alone-frame.result short places head.ensures.header carries c.present_alone-frame.ensures

pub returns-in-Some : goal.returns-in-Some
returns-in-Some g c =
    let settings = configuration_of c.args.config.now in
    let order = g.E.Endian.order (endian_of c.args.config.now) in
    let h = c.args.header in
    let bytes = c.args.body.now in
    let head = c.put_head in
    let put = c.put_record in
    let places = c.in-Some.ensures in
    body_refused settings order h bytes c.in-Some.refusal head.new.frame put.new.frame c.refuse_frame.new.frame places c.refuse_frame.ensures
