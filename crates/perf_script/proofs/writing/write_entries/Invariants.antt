use Rattle.std.proofs.Common.{[], drop}
use Rattle.perf_file.specs.Views.{view}
use Rattle.perf_walk.specs.Moments.{moments}
use Rattle.perf_script.specs.ScriptText.{Choice, any_refused, text_from}
use Rattle.perf_script.specs.UnderWay.{AreChosen}
use Rattle.perf_script.specs.Writing.{IsWriting}
use Rattle.perf_script.proofs.writing.write_entries.Given as goal

abbrev pub invariant-loop-entry : goal.invariant-loop-entry
invariant-loop-entry g l =
    (all : Choice) → AreChosen (view l.recording) all l.events
    → IsWriting (view l.recording) all (drop l.entry-index l.entries) (any_refused (view l.recording) (moments (view l.recording) l.entries []))
    (text_from (view l.recording) all [] (moments (view l.recording) l.entries [])) (g.W.Write.contents l.initial.writer) (g.W.Write.contents l.writer) l.made
