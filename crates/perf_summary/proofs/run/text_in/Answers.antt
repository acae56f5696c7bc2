use Rattle.std.proofs.Common.{sym, ap, ◌∙◌}
use Rattle.std.proofs.lemmas.Result.{IfOk-weaker}
use Rattle.perf_file.specs.Views.{view}
use Rattle.perf_summary.specs.Threads.{plain_threads}
use Rattle.perf_summary.specs.Shown.{text_in}
use Rattle.perf_summary.proofs.run.text_in.Goals as goal

pub returns-in-Text-clause-text : goal.returns-in-Text-clause-text
returns-in-Text-clause-text c = λ naming named.
    let r = c.args.recording.now in
    let threads = plain_threads c.in_ok-threads.threads.entries in
    IfOk-weaker c.text_of_summary.result _ _
    (λ made e. (threads, c.in_ok-threads.ensures, e ∙ ap (λ form. text_in form (view r) r.bytes.now naming threads) (sym c.in-Text.is)))
    (c.text_of_summary.ensures.text naming named)

pub returns-clause-text : goal.returns-clause-text
returns-clause-text c = λ naming named.
    let r = c.args.recording.now in
    let threads = plain_threads c.in_ok-threads.threads.entries in
    IfOk-weaker c.json_of_summary.result _ _
    (λ made e. (threads, c.in_ok-threads.ensures, e ∙ ap (λ form. text_in form (view r) r.bytes.now naming threads) (sym c.in-Json.is)))
    (c.json_of_summary.ensures.text naming named)
