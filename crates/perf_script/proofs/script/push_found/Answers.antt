use Rattle.std.proofs.Common.{◌≡◌, ℕ, List, ◌++◌, sym, ap, subst, ◌∙◌}
use Rattle.std.proofs.lemmas.Result.{on_ok_weaker}
use Rattle.perf_base.specs.Dynamic.{order_of}
use Rattle.perf_base.specs.declared.endian.Dynamic.{Dynamic}
use Rattle.perf_sections.specs.Opened.{File, table_of}
use Rattle.perf_file.specs.Views.{view}
use Rattle.perf_flat.specs.Flat.{IsFlat}
use Rattle.perf_flat.specs.declared.frame.FlatFrame.{FlatFrame}
use Rattle.perf_history.specs.declared.histories.History.{History}
use Rattle.perf_walk.specs.Plain.{IsPast}
use Rattle.perf_walk.specs.Samples.{sample_of, sample_view}
use Rattle.perf_walk.specs.declared.filtering.Filter.{Filter}
use Rattle.perf_script.specs.Counted.{IsCounted}
use Rattle.perf_script.specs.ScriptText.{sample_at, is_hidden, shown_text}
use Rattle.perf_script.specs.UnderWay.{shown_by}
use Rattle.perf_script.specs.declared.fields.Style.{Style}
use Rattle.perf_script.specs.declared.readings.Counters.{Counters}
use Rattle.perf_script.specs.declared.script.State.{State}
use Rattle.perf_script.proofs.Found.{none_read, none_text, some_of, found_read, found_text, IsFound}
use Rattle.perf_script.proofs.script.push_found.Goals as goal

pub returns-in_default : goal.returns-in_default
returns-in_default c = λ f all m older is events frame past counted.
    let flat : FlatFrame = c.frame-frame.result.now in
    let text : List ℕ = c.args.text.now.items in
    let states = subst (λ (g : FlatFrame). IsFlat m.config (order_of f.order) m.frame g) (sym c.frame-frame.ensures) frame.states in
    let none = c.in_default.ensures m.config (order_of f.order) m.frame states in
    on_ok_weaker c.push_record_if.result (λ e. (
      subst (IsCounted c.args.state.now.known) (sym (none_read f older m flat.misc none)) counted,
      e ∙ ap (λ t. text ++ t) (sym (none_text f all older m flat.misc none)),
    )) (c.push_record_if.ensures f all m is events frame past)

pub returns : goal.returns
returns c = λ f all m older is events frame past counted.
    let flat : FlatFrame = c.frame-frame.result.now in
    let walk = c.args.walk.now in
    let old : List ℕ = c.args.text.now.items in
    let x = c.in-Some.sample in
    let states = subst (λ (g : FlatFrame). IsFlat m.config (order_of f.order) m.frame g) (sym c.frame-frame.ensures) frame.states in
    let some = some_of flat.misc (sample_at f m) x (c.in-Some.ensures m.config (order_of f.order) m.frame states) in
    let order : c.order.result ≡ f.order = c.order.ensures ∙ ap (λ b. (view b).order) c.recording.ensures ∙ ap (λ (g : File). g.order) is in
    let there = ap (λ bytes. sample_of m.config (order_of c.order.result) bytes) frame.bytes ∙ ap (λ (d : Dynamic). sample_of m.config (order_of d) m.frame) order ∙ some.1 in
    let read =
    subst (λ (d : Dynamic). IsFlat m.config (order_of d) c.args.found.now.bytes.now flat) (sym order) (subst (λ bytes. IsFlat m.config (order_of f.order) bytes flat) (sym frame.bytes) states) in
    let state : State = c.find_parts.new.state in
    let found : IsFound f m flat state x = record { sample = some.0; states = states; is = some.1; view = some.2; parts = c.in_ok-find_parts.ensures.parts m.config some.0 read there } in
    let seen : x ≡ sample_view walk.frame.misc some.0 = some.2 ∙ ap (λ (g : FlatFrame). sample_view g.misc some.0) c.frame-frame.ensures in
    let hides =
    c.is_hidden-hidden.ensures f m some.0 c.args.found.now frame past some.1 seen ∙ ap (λ (w : Filter). is_hidden f w m some.0) events.filter in
    let known = subst (λ (h : History). IsPast h m.known) (sym c.history-history.ensures) past in
    let kept = subst (λ (k : Counters). IsCounted k older) (sym c.in_ok-find_parts.ensures.known) counted in
    on_ok_weaker c.push_parts.result (λ pair. (
      subst (IsCounted c.push_parts.new.state.known) (found_read f older m flat state x found) pair.0,
      pair.1
          ∙ ap (λ (s : Style). old ++ shown_text all.labels (table_of f.events) older state.readings.items c.args.found.now.event known.0 (shown_by state s.fields flat.present c.is_hidden-hidden.result x)) events.style
          ∙ ap (λ t. old ++ t)
          (found_text f all older m flat state x c.is_hidden-hidden.result c.args.found.now.event known.0 found hides frame.event known.2),
    )) (c.push_parts.ensures f all.labels known.0 older events.labelled known.1 kept)
