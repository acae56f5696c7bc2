use Rattle.std.proofs.Common.{take, string_bytes}
use Rattle.perf_file.specs.Views.{view}
use Rattle.perf_data_text.specs.DumpText.{pieces_at}
use Rattle.perf_data_text.proofs.InTurn.{IsMade}
use Rattle.perf_data_text.proofs.dump.text_of_entries.Given as goal

abbrev pub invariant-loop-entry : goal.invariant-loop-entry
invariant-loop-entry l =
    IsMade (view l.recording) (pieces_at (view l.recording) (take l.entry-index l.entries))
    l.lines.count l.lines.refused (string_bytes l.lines.text)
