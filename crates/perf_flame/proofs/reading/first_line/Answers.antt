use Rattle.std.proofs.Common.{◌+◌, sym, ap, ◌∙◌, take, drop, length, arith}
use Rattle.std.proofs.lemmas.List.{take_all, drop_all, take_rest}
use Rattle.std.specs.List.{position_or_len}
use Rattle.perf_flame.proofs.Feeds.{is_feed, at_feed, no_feed}
use Rattle.perf_flame.proofs.reading.first_line.Goals as goal

pub returns-in-Some-clause-first : goal.returns-in-Some-clause-first
returns-in-Some-clause-first c = ap (λ n. take n c.args.text.now) (at_feed c.args.text.now c.in-Some.end c.in-Some.ensures).0

pub returns-in-Some-clause-rest : goal.returns-in-Some-clause-rest
returns-in-Some-clause-rest c =
    let text = c.args.text.now in
    take_rest text (c.in-Some.end + 1) ∙ ap (λ n. drop (n + 1) text) (at_feed text c.in-Some.end c.in-Some.ensures).0

pub returns-in-None-clause-first : goal.returns-in-None-clause-first
returns-in-None-clause-first c = sym (take_all (position_or_len is_feed c.args.text.now) c.args.text.now (no_feed c.args.text.now c.in-None.ensures))

pub returns-in-None-clause-rest : goal.returns-in-None-clause-rest
returns-in-None-clause-rest c =
    let text = c.args.text.now in
    take_rest text (length text) ∙ drop_all (length text) text (omega arith)
    ∙ sym (drop_all (position_or_len is_feed text + 1) text (omega (arith, no_feed text c.in-None.ensures)))
