use Rattle.perf_base.specs.Configured.{configuration_of}
use Rattle.perf_sample_types.proofs.SampleLaws.{sample_cut}
use Rattle.perf_sample_types.proofs.laws.cut_law.Goals as goal

pub returns : goal.returns
returns g c = sample_cut (configuration_of c.args.config.now) c.args.body.now c.args.f c.requires
