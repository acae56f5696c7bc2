use Rattle.std.proofs.Common.{◌≡◌, Bool, true, Ok, Err, Result, ap, sym, ◌∙◌}
use Rattle.std.specs.Prelude.{if◌then◌else◌}
use Rattle.std.specs.List.{list_any}
use Rattle.perf_file.specs.NoteViews.{note_of, notes_left}
use Rattle.perf_file.specs.Pipes.{is_compressed, all_frames}
use Rattle.perf_sections.specs.declared.error.OpenError.{OpenError}
use Rattle.perf_sections.specs.declared.error.OpenError.TheVariants as errors
use Rattle.perf_outlines.proofs.PipeCounts.{any_first}
use Rattle.perf_outlines.proofs.pipe_outline.check_frames.Goals as goal

pub returns-then-is_compressed : goal.returns-then-is_compressed
returns-then-is_compressed c =
    let any : list_any is_compressed (all_frames c.args.order c.args.frames.now) ≡ true =
    sym c.loop-note.invariant ∙ ap (list_any is_compressed) c.in-Some.ensures.steps ∙ any_first (note_of c.in-Some.note) (notes_left c.next.new.self) (sym c.if-is_compressed.ensures) in
    sym (ap (λ (b : Bool). the_result b) any)
  where
    the_result : Bool → Result (Unit {0}) OpenError
    the_result b = if b then Err errors.Compressed else Ok tt
