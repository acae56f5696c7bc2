use Rattle.std.proofs.Common.{◌≡◌, true, refl, ap, ◌∙◌}
use Rattle.perf_base.specs.Configured.{configuration_of, endian_of}
use Rattle.perf_base.specs.Dynamic.{order_of}
use Rattle.perf_base.specs.Refusals.{refusal_kind}
use Rattle.perf_base.specs.declared.config.ParseConfig.{ParseConfig}
use Rattle.perf_base.specs.declared.endian.Dynamic.{Dynamic}
use Rattle.perf_reader.proofs.Calls.{keeps_none}
use Rattle.perf_records.specs.Shown.{slice_state}
use Rattle.perf_file.proofs.AttributeLaws.{attr_read, attr_stops}
use Rattle.perf_file.proofs.attributes.read_attribute.Goals as goal

pub returns-in-Ok : goal.returns-in-Ok
returns-in-Ok c =
    let reader = c.new-reader.result in
    let new = c.read.new.reader in
    let o = order_of c.args.order in
    let p = order_of (endian_of reader.config) in
    let same : p ≡ o = ap (λ (k : ParseConfig Dynamic). order_of (endian_of k)) c.new-reader.ensures.config ∙ ap order_of c.with_endian-plain.ensures.endian in
    let answer = c.in-Ok.ensures.call.answer refl in
    (attr_read o p c.args.bytes.now reader.input.now new.input.now reader.reads new.reads c.in-Ok.attr same (ap (λ b. b.now) c.new-reader.ensures.input) answer.0).0

pub returns : goal.returns
returns c =
    let reader = c.new-reader.result in
    let new = c.read.new.reader in
    let o = order_of c.args.order in
    let p = order_of (endian_of reader.config) in
    let same : p ≡ o = ap (λ (k : ParseConfig Dynamic). order_of (endian_of k)) c.new-reader.ensures.config ∙ ap order_of c.with_endian-plain.ensures.endian in
    let call = c.in-Err.ensures.call in
    let answer = call.answer refl in
    let old = slice_state (configuration_of reader.config) p reader.input.now true reader.reads in
    attr_stops o p c.args.bytes.now reader.input.now new.input.now reader.reads new.reads (refusal_kind c.in-Err.refusal) same (ap (λ b. b.now) c.new-reader.ensures.input) answer.0 answer.1
    (call.keeps old (keeps_none old)).fault
