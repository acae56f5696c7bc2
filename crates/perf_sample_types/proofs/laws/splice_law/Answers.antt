use Rattle.perf_base.specs.Configured.{configuration_of}
use Rattle.perf_sample_types.proofs.SampleLaws.{sample_splice}
use Rattle.perf_sample_types.proofs.laws.splice_law.Goals as goal

pub returns : goal.returns
returns g c = sample_splice (configuration_of c.args.config.now) c.args.body.now c.args.w.now c.args.f c.requires
