use Rattle.std.proofs.Common.{◌∙◌, refl, sym, subst}
use Rattle.perf_file.specs.Entries.{entries_of, IsInOrder}
use Rattle.perf_file.specs.Forms.{event_name}
use Rattle.perf_sections.specs.Opened.{File}
use Rattle.perf_file.specs.Views.{view}
use Rattle.perf_script.specs.ScriptText.{choice_by}
use Rattle.perf_script.proofs.Naming.{chosen_by, any_is}
use Rattle.perf_script.proofs.Parts.{refused_open, script_ended}
use Rattle.perf_script.proofs.run.write_script.Goals as goal

pub returns-in-Err : goal.returns-in-Err
returns-in-Err g c = refused_open c.args.style c.args.filter c.args.bytes.now _ _ c.in-Err.error c.in-Err.ensures.exact refl

pub returns-then-not-any_counts : goal.returns-then-not-any_counts
returns-then-not-any_counts g c =
    let r = c.in-Ok.recording in
    let f : File = view r in
    let w = c.args.filter in
    let naming = event_name c.args.bytes.now f in
    let events = c.in_ok-events.events in
    let chosen = chosen_by c.args.style w r naming events c.in-Ok.ensures.named c.in_ok-events.ensures.events c.in_ok-events.ensures.filter c.in_ok-events.ensures.style in
    ((f, c.in-Ok.ensures.exact, sym (any_is f (choice_by c.args.style w naming f.events) events chosen) ∙ sym c.any_counts.ensures ∙ c.if-not-any_counts.true), refl)

pub returns : goal.returns
returns g c =
    let r = c.in-Ok.recording in
    let f : File = view r in
    let w = c.args.filter in
    let naming = event_name c.args.bytes.now f in
    let events = c.in_ok-events.events in
    let chosen = chosen_by c.args.style w r naming events c.in-Ok.ensures.named c.in_ok-events.ensures.events c.in_ok-events.ensures.filter c.in_ok-events.ensures.style in
    let any = sym (any_is f (choice_by c.args.style w naming f.events) events chosen) ∙ sym c.any_counts.ensures ∙ c.if-not-any_counts.false in
    let order : IsInOrder (entries_of f) c.deref.result.now = subst (IsInOrder (entries_of f)) (sym c.deref.ensures.value) c.in_ok-entries.ensures in
    rw c.script_result.ensures (script_ended c.args.style w c.args.bytes.now f c.deref.result.now c.write_entries-ended.result _ _ c.in-Ok.ensures.exact any order (c.write_entries-ended.ensures (choice_by c.args.style w naming f.events) chosen))
