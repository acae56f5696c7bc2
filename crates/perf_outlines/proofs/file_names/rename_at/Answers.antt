use Rattle.std.proofs.Common.{get_or, refl}
use Rattle.std.proofs.Math.Seq.{map-set_same}
use Rattle.perf_outlines.specs.FlatNames.{nameless}
use Rattle.perf_outlines.specs.declared.file_events.FlatEvent.{FlatEvent}
use Rattle.perf_outlines.proofs.NameLaws.{zero_event}
use Rattle.perf_outlines.proofs.file_names.rename_at.Goals as goal

pub returns-clause-same : goal.returns-clause-same
returns-clause-same c =
    let e : FlatEvent = get_or c.args.all.now c.args.index zero_event in
    map-set_same nameless c.args.all.now c.args.index (record e { name = c.args.name }) zero_event refl
