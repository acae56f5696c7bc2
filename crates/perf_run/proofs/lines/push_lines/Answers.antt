use Rattle.std.proofs.Common.{◌≡◌, ◌+◌, ◌++◌, ℕ, List, [], ◌∷◌, string_bytes, arith, sym, ap, ◌∙◌, append_assoc, take}
use Rattle.perf_parser.specs.Runs.{seen_answer}
use Rattle.perf_parser.specs.Runs.{seen_answers}
use Rattle.perf_lines.specs.Text.{line, with_line_feed}
use Rattle.perf_run.specs.Text.{lines_from}
use Rattle.perf_run.proofs.Numbered.{lines_more}
use Rattle.perf_run.proofs.lines.push_lines.Goals as goal

pub loop-header-preserved : goal.loop-header-preserved
loop-header-preserved c = λ fits.
    let before = c.loop-header.invariant fits in
    let i : ℕ = c.loop-header.header-index in
    let here = c.loop-header-item.result in
    let next : c.saturating_add-index.result ≡ c.args.first + (i + 1) = omega (arith, c.saturating_add-index.ensures) in
    let so_far : List ℕ = lines_from c.args.first (seen_answers (take i c.args.frames.now)) in
    let this : List ℕ = line c.loop-header.index here.0 (seen_answer here.1) in
    let grown : string_bytes c.push_str.new.self ≡ string_bytes c.loop-header.text ++ with_line_feed this =
    c.in_ok-push_str.ensures.bytes ∙ ap (λ text. text ++ (10 ∷ [])) c.in_ok-push_line.ensures ∙ append_assoc (string_bytes c.loop-header.text) this (10 ∷ []) in (
      next,
      grown ∙ ap (λ text. text ++ with_line_feed this) before.1 ∙ append_assoc (string_bytes c.args.text.now) so_far (with_line_feed this)
          ∙ ap (λ rest. string_bytes c.args.text.now ++ rest)
          (ap (λ k. so_far ++ with_line_feed (line k here.0 (seen_answer here.1))) before.0
          ∙ sym (lines_more c.args.first i c.args.frames.now here (omega (arith, c.loop-header-test.true)) c.loop-header-item.is)),
    )
