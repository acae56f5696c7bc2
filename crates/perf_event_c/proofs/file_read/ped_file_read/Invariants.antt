use Rattle.std.proofs.Common.{◌≡◌, Ok, drop}
use Rattle.perf_file.specs.Forms.{opened}
use Rattle.perf_sections.specs.Opened.{File}
use Rattle.perf_outlines.specs.PipeOutlines.{form_outline}
use Rattle.perf_outlines.specs.declared.summary.Outline.{Outline}
use Rattle.perf_outlines.specs.EntryReads.{States, ReadsEntries}
use Rattle.perf_outlines.specs.Files.{flat_file}
use Rattle.perf_event_c.proofs.file_read.ped_file_read.Given as goal

abbrev pub invariant-loop-index : goal.invariant-loop-index
invariant-loop-index l = ((o : Outline) (f : File) → form_outline l.bytes ≡ Ok o → opened l.bytes ≡ Ok f → l.file ≡ flat_file o → States f l.bytes l.all → ReadsEntries f l.entries l.index l.initial.frames l.frames)
    × (drop l.index l.frames ≡ drop l.index l.initial.frames)
