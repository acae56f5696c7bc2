use Rattle.perf_file.specs.Views.{view}
use Rattle.perf_file.proofs.Joined.{are_the_data}
use Rattle.perf_file.proofs.opening.Recording.frames.Goals as goal

pub returns-clause-joined : goal.returns-clause-joined
returns-clause-joined c = are_the_data (view c.args.self.now)
