use Rattle.std.proofs.Common.{string_bytes}
use Rattle.perf_file.specs.Pieces.{pieces}
use Rattle.perf_file.specs.Views.{view}
use Rattle.perf_data_text.proofs.InTurn.{IsUnderWay}
use Rattle.perf_data_text.proofs.dump.text_of_dump.Given as goal

abbrev pub invariant-loop-found : goal.invariant-loop-found
invariant-loop-found l =
    IsUnderWay (view l.recording) (pieces (view l.found-iterator.recording.now) l.found-iterator.left.now)
    l.lines.count l.lines.refused (string_bytes l.lines.text)
