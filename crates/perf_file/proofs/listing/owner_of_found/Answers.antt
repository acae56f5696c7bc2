use Rattle.perf_file.specs.Views.{view}
use Rattle.perf_file.proofs.listing.owner_of_found.Goals as goal

pub returns : goal.returns
returns c = c.owner_of_found.ensures (view c.args.recording.now) c.finder.ensures
