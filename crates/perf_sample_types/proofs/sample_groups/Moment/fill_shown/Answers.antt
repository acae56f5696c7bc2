use Rattle.std.proofs.Common.{◌≡◌, ◌≤◌, length, take, List, ℕ, sym, ◌∙◌, ap, arith, rules, subst, Ok}
use Rattle.std.specs.Prelude.{IsTrue}
use Rattle.perf_base.specs.Configuration.{Configuration}
use Rattle.perf_base.specs.Configured.{configuration_of}
use Rattle.perf_reader.specs.AtOnce.{PassesOver}
use Rattle.perf_reader.specs.Calls.{Call}
use Rattle.perf_words.specs.SetBits.{sample_flags_bits}
use Rattle.perf_sample_types.specs.Sample.{fields_under, moment_fields}
use Rattle.perf_sample_types.specs.SampleGroups.{moment_value}
use Rattle.perf_sample_types.specs.SampleRows.{TakesFields}
use Rattle.perf_sample_types.proofs.RowFields.{front_length, row_call}
use Rattle.perf_sample_types.proofs.sample_groups.Moment.fill_shown.Goals as goal

pub into_taken-len-requires : goal.into_taken-len-requires
into_taken-len-requires g c =
    let source = g.I.Input.source in
    let settings : Configuration = configuration_of c.args.reader.now.config in
    let shown : List ℕ = c.shown_bytes-front.result.now in
    let asked : settings.sample_type ≡ sample_flags_bits c.sample_type.result = sym (c.sample_type.ensures ∙ ap (λ k. (configuration_of k).sample_type) c.config.ensures) in
    let takes = c.in-Some.ensures settings asked in
    let row = front_length c.new-row.result c.take_fields.new.row takes.0 in
    let long : length c.new-row.result.left.now ≡ length shown = ap length c.new-row.ensures.left in
    omega (arith, row.0, long)

pub pass-requires : goal.pass-requires
pass-requires g c =
    let source = g.I.Input.source in
    let settings : Configuration = configuration_of c.args.reader.now.config in
    let shown : List ℕ = c.shown_bytes-front.result.now in
    let asked : settings.sample_type ≡ sample_flags_bits c.sample_type.result = sym (c.sample_type.ensures ∙ ap (λ k. (configuration_of k).sample_type) c.config.ensures) in
    let takes = c.in-Some.ensures settings asked in
    let row = front_length c.new-row.result c.take_fields.new.row takes.0 in
    let long : length c.new-row.result.left.now ≡ length shown = ap length c.new-row.ensures.left in
    let shows = subst (λ i. IsTrue (source i).told → (length shown ≤ length (source i).left) × (shown ≡ take (length shown) (source i).left)) c.input.ensures c.shown_bytes-front.ensures in
    let len = c.into_taken-len.ensures.len in
    let reads = c.into_taken-len.ensures.reads in
    let has : IsTrue (source c.args.reader.now.input).told → c.into_taken-len.result.0 ≤ length (source c.args.reader.now.input).left = λ told. omega (arith, (shows told).0, len) in
    let few : c.into_taken-len.result.1 ≤ c.into_taken-len.result.0 = omega (arith, row.1, row.0, long, len, reads, c.new-row.ensures.reads) in
    search (rules, has, few)

pub returns-clause-shown : goal.returns-clause-shown
returns-clause-shown g c is =
    let source = g.I.Input.source in
    let settings : Configuration = configuration_of c.args.reader.now.config in
    let shown : List ℕ = c.shown_bytes-front.result.now in
    let asked : settings.sample_type ≡ sample_flags_bits c.sample_type.result = sym (c.sample_type.ensures ∙ ap (λ k. (configuration_of k).sample_type) c.config.ensures) in
    let takes = c.in-Some.ensures settings asked in
    let row = front_length c.new-row.result c.take_fields.new.row takes.0 in
    let long : length c.new-row.result.left.now ≡ length shown = ap length c.new-row.ensures.left in
    let shows = subst (λ i. IsTrue (source i).told → (length shown ≤ length (source i).left) × (shown ≡ take (length shown) (source i).left)) c.input.ensures c.shown_bytes-front.ensures in
    let fields = subst (λ e. TakesFields (g.E.Endian.order e) (fields_under settings moment_fields) (moment_value c.take_fields.new.self) c.new-row.result c.take_fields.new.row) c.endian.ensures takes in
    let call = subst (λ k. Call {X = Unit {0}} source g.E.Endian.order (PassesOver c.into_taken-len.result.0 k) c.args.reader.now (Ok tt) c.pass.new.self) c.into_taken-len.ensures.reads c.in_ok-pass.ensures.call in
    row_call {source = source} {order = g.E.Endian.order} {a = c.args.reader.now} {b = c.pass.new.self} (λ s. fields_under s moment_fields) moment_value shown c.new-row.result c.take_fields.new.row c.into_taken-len.result.0 shows c.new-row.ensures.left c.new-row.ensures.reads c.into_taken-len.ensures.len fields
    call
