use Rattle.std.proofs.Math.Seq.{map-set_same}
use Rattle.perf_sections.specs.Opened.{event_view}
use Rattle.perf_file.proofs.piped.rename_at.Goals as goal

pub returns-clause-same : goal.returns-clause-same
returns-clause-same c =
    map-set_same event_view c.args.events.now c.args.index c.rename.new.self c.index-events-index.result
    (λ i. record { attribute = c.rename.ensures.attr i; ids = (c.rename.ensures.ids i).items })
