use Rattle.std.proofs.Common.{◌≡◌, true, sym, ◌∙◌, ap, arith}
use Rattle.perf_base.specs.Configured.{configuration_of}
use Rattle.perf_base.specs.declared.config.ParseConfig.{ParseConfig}
use Rattle.perf_sample_types.proofs.SampleIds.{id_read}
use Rattle.perf_words.specs.SetBits.{sample_flags_bits}
use Rattle.perf_sample_types.proofs.sample_id.SampleIdReadFrom.read.Goals as goal

pub returns : goal.returns
returns g c =
    let settings = configuration_of c.args.reader.now.config in
    let all : settings.sample_id_all ≡ true = ap (λ (k : ParseConfig g.row.E.Denot). (configuration_of k).sample_id_all) (sym c.config-config.ensures) ∙ sym c.sample_id_all.ensures ∙ grind (arith, c.if-not-sample_id_all.false) in
    let type_is : sample_flags_bits c.sample_type-sample_type.result ≡ settings.sample_type = c.sample_type-sample_type.ensures ∙ ap (λ (k : ParseConfig g.row.E.Denot). (configuration_of k).sample_type) c.config-config.ensures in
    record { call = id_read (sample_flags_bits c.sample_type-sample_type.result) all type_is c.read_fields.ensures.call }
