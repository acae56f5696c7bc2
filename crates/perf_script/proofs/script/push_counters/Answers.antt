use Rattle.std.proofs.Common.{◌≡◌, ℕ, ◌+◌, ◌++◌, List, [], drop, refl, sym, ◌∙◌, ap, subst, append-nil, arith}
use Rattle.std.proofs.lemmas.List.{drop_all}
use Rattle.perf_sections.specs.Opened.{table_of}
use Rattle.perf_script.specs.Counted.{IsCounted}
use Rattle.perf_script.specs.Counters.{counters_text, read_after}
use Rattle.perf_script.specs.SampleText.{Shown}
use Rattle.perf_script.specs.Seen.{shown_in}
use Rattle.perf_script.specs.declared.readings.Reading.{Reading}
use Rattle.perf_script.proofs.Found.{drop_next, counters_more, counter_same}
use Rattle.perf_script.proofs.script.push_counters.Goals as goal

pub loop-reading-init : goal.loop-reading-init
loop-reading-init c = λ f all changes older events history counted. (older, counted, refl, refl)

pub loop-reading-preserved : goal.loop-reading-preserved
loop-reading-preserved c = λ f all changes older events history counted.
    let readings : List Reading = c.args.readings.now in
    let i : ℕ = c.loop-reading.reading-index in
    let s : Shown = shown_in c.args.shown.now in
    let before = c.loop-reading.invariant f all changes older events history counted in
    let now : List Reading = before.0 in
    let old : List ℕ = c.loop-reading.text.items in
    let read = c.in_ok-far.ensures now before.1 in
    let cons = drop_next readings i _ (omega (arith, c.loop-reading-test.true)) in (
      _,
      read.1,
      ap (read_after now) (sym cons) ∙ before.2,
      counters_more all (table_of f.events) changes s now (drop i readings) (drop (i + 1) readings) _ old _ _ cons before.3
          (c.in_ok-push_counter.ensures changes history ∙ ap (λ t. old ++ t) (counter_same f all c.args.events.now changes s now _ _ events read.0)),
    )

pub returns : goal.returns
returns c = λ f all changes older events history counted.
    let readings : List Reading = c.args.readings.now in
    let i : ℕ = c.loop-reading.reading-index in
    let s : Shown = shown_in c.args.shown.now in
    let done = c.loop-reading.invariant f all changes older events history counted in
    let end : drop i readings ≡ [] = drop_all i readings (omega (arith, c.loop-reading-test.false)) in
    let text : List ℕ = c.loop-reading.text.items in (
      subst (IsCounted c.loop-reading.known) (ap (read_after done.0) (sym end) ∙ done.2) done.1,
      sym (append-nil text) ∙ ap (λ rs. text ++ counters_text all (table_of f.events) changes s done.0 rs) (sym end) ∙ done.3,
    )
