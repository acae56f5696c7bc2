use Rattle.std.proofs.Common.{◌++◌, ◌∙◌, codes, string_bytes, ap, append_assoc}
use Rattle.std.proofs.lemmas.Result.{on_ok_weaker}
use Rattle.perf_lines.proofs.Spaced.{pushed}
use Rattle.perf_run.proofs.lines.push_end.Goals as goal

pub returns : goal.returns
returns c =
    let old = string_bytes c.args.text.now in
    on_ok_weaker c.push_str-3.result
    (λ last. last
    ∙ ap (λ s. s ++ codes "\n")
    (c.in_ok-push_str-2.ensures.bytes ∙ ap (λ s. s ++ c.args.how.now) c.in_ok-push_str.ensures.bytes ∙ append_assoc old (codes "end ") c.args.how.now)
    ∙ append_assoc old (codes "end " ++ c.args.how.now) (codes "\n"))
    (pushed c.push_str-3.result (string_bytes c.push_str-3.new.self) (string_bytes c.push_str-2.new.self) (codes "\n") c.push_str-3.ensures.bytes)
