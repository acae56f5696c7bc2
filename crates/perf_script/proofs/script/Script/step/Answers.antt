use Rattle.std.proofs.Common.{◌≡◌, sym, ◌∙◌, ap, subst, refl}
use Rattle.std.specs.Prelude.{Option, Ok}
use Rattle.std.proofs.lemmas.Result.{on_ok_weaker}
use Rattle.perf_sections.specs.Opened.{File}
use Rattle.perf_file.specs.Views.{view}
use Rattle.perf_walk.specs.Moments.{moment_at, known_after}
use Rattle.perf_walk.specs.Plain.{IsPast}
use Rattle.perf_walk.specs.Steps.{Finds, Steps}
use Rattle.perf_walk.specs.declared.walk.Found.{Found}
use Rattle.perf_walk.specs.declared.walk.Walk.{Walk}
use Rattle.perf_script.proofs.InTurn.{moment_found, none_found, known_some}
use Rattle.perf_script.proofs.Ways.{way_some, way_none}
use Rattle.perf_script.proofs.script.Script.step.Goals as goal

pub returns-in-Some : goal.returns-in-Some
returns-in-Some c = λ f all left any whole events way.
    let old = c.args.self.now in
    let e = c.args.entry.now in
    let walk : Walk = c.step.new.self in
    let steps = subst (λ (g : File). Steps g e way.known (Ok c.in_ok-next.next) walk) way.recording (c.in_ok-next.ensures.steps way.known way.past) in
    let finds = subst (λ (o : Option Found). Finds f (moment_at f e way.known) o walk.frame) c.in-Some.is steps.0 in
    let here = moment_found f e way.known c.in-Some.found walk.frame finds in
    let past = subst (IsPast walk.history) (known_some f e way.known here.moment here.is) steps.1 in
    let recording : view walk.recording.now ≡ f = ap view c.in_ok-next.ensures.recording ∙ way.recording in
    on_ok_weaker c.push.result (λ pushes. way_some f all e left any whole old (record old { walk = walk }) c.push.new.self way here.moment here.is refl refl
    (ap (λ (w : Walk). view w.recording.now) c.push.ensures.walk ∙ recording)
    (subst (λ (w : Walk). IsPast w.history (known_after f e way.known)) (sym c.push.ensures.walk) steps.1) pushes)
    (c.push.ensures.pushes f all here.moment way.older recording events here.frame past way.counted)

pub returns-in-None : goal.returns-in-None
returns-in-None c = λ f all left any whole events way.
    let old = c.args.self.now in
    let e = c.args.entry.now in
    let walk : Walk = c.step.new.self in
    let steps = subst (λ (g : File). Steps g e way.known (Ok c.in_ok-next.next) walk) way.recording (c.in_ok-next.ensures.steps way.known way.past) in
    let finds = subst (λ (o : Option Found). Finds f (moment_at f e way.known) o walk.frame) c.in-None.is steps.0 in
    let recording : view walk.recording.now ≡ f = ap view c.in_ok-next.ensures.recording ∙ way.recording in
    way_none f all e left any whole old (record old { walk = walk }) way (none_found f e way.known walk.frame finds) refl refl way.counted recording steps.1
