use Rattle.std.proofs.Common.{◌≡◌, ℕ, List, ◌++◌, map, sym, ◌∙◌, ap, subst}
use Rattle.std.proofs.lemmas.Result.{on_ok_weaker}
use Rattle.perf_base.specs.Dynamic.{order_of}
use Rattle.perf_base.specs.Order.{Order}
use Rattle.perf_base.specs.declared.endian.Dynamic.{Dynamic}
use Rattle.perf_sections.specs.Opened.{File}
use Rattle.perf_file.specs.Views.{view}
use Rattle.perf_flat.specs.declared.frame.FlatFrame.{FlatFrame}
use Rattle.perf_history.specs.declared.changes.Change.{Change}
use Rattle.perf_history.specs.declared.histories.History.{History}
use Rattle.perf_walk.specs.Plain.{IsPast}
use Rattle.perf_script.specs.FlatLines.{line_by, named_by}
use Rattle.perf_script.specs.Labels.{EventLabel, label_at, label_view}
use Rattle.perf_script.specs.SideBand.{line_at}
use Rattle.perf_script.specs.declared.fields.Style.{Style}
use Rattle.perf_script.specs.declared.labels.Label.{Label}
use Rattle.perf_script.proofs.SideLines.{line_same}
use Rattle.perf_script.proofs.script.push_record.Goals as goal

pub returns : goal.returns
returns c = λ f all m is events frame past.
    let walk = c.args.walk.now in
    let flat : FlatFrame = walk.frame in
    let old : List ℕ = c.args.text.now.items in
    let known = subst (λ (h : History). IsPast h m.known) (sym c.history.ensures) past in
    let changes : List Change = known.0 in
    let order : c.order.result ≡ f.order = c.order.ensures ∙ ap (λ b. (view b).order) c.recording.ensures ∙ ap (λ (g : File). g.order) is in
    let o : Order = order_of f.order in
    let bytes : List ℕ = c.args.found.now.bytes.now in
    let of_event : ℕ = c.heading_of-of_event.result.fields in
    let chosen = c.args.events.now.style.fields in
    let label : of_event ≡ (label_at all.labels m.event).fields =
    ap (λ (l : EventLabel). l.fields) c.heading_of-of_event.ensures
    ∙ ap (λ (ls : List Label). (label_at (map label_view ls) c.args.found.now.event).fields) c.deref.ensures.value
    ∙ ap (λ (ls : List EventLabel). (label_at ls c.args.found.now.event).fields) events.labelled.labels
    ∙ ap (λ n. (label_at all.labels n).fields) frame.event in
    on_ok_weaker c.push_side.result (λ e.
    e ∙ ap (λ (g : FlatFrame). old ++ line_by chosen of_event changes (order_of c.order.result) bytes g (named_by g.read g.numbers g.tid)) c.frame.ensures
    ∙ ap (λ (d : Dynamic). old ++ line_by chosen of_event changes (order_of d) bytes flat (named_by flat.read flat.numbers flat.tid)) order
    ∙ ap (λ b. old ++ line_by chosen of_event changes o b flat (named_by flat.read flat.numbers flat.tid)) frame.bytes
    ∙ ap (λ t. old ++ t) (line_same chosen of_event changes m.config o m.frame flat frame.states)
    ∙ ap (λ cs. old ++ line_at chosen of_event cs m.config o m.frame) known.2
    ∙ ap (λ n. old ++ line_at chosen n m.known m.config o m.frame) label
    ∙ ap (λ (s : Style). old ++ line_at s.fields (label_at all.labels m.event).fields m.known m.config o m.frame) events.style)
    (c.push_side.ensures changes known.1)
