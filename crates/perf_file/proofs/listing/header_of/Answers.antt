use Rattle.std.proofs.Common.{ap, sym, ◌∙◌}
use Rattle.std.specs.Prelude.{Result}
use Rattle.perf_records.specs.Sights.{sight_of}
use Rattle.perf_records.specs.declared.frame.Frame.{Frame}
use Rattle.perf_records.specs.declared.frame_handler.BadFrame.{BadFrame}
use Rattle.perf_file.specs.Pieces.{header_seen}
use Rattle.perf_file.proofs.listing.header_of.Goals as goal

pub returns-in-Ok : goal.returns-in-Ok
returns-in-Ok c = c.header.ensures ∙ ap (λ (f : Result Frame BadFrame). header_seen (sight_of f)) (sym c.in-Ok.is)

pub returns-in-Err : goal.returns-in-Err
returns-in-Err c = c.header-in-Err.ensures ∙ ap (λ (f : Result Frame BadFrame). header_seen (sight_of f)) (sym c.in-Err.is)
