use Rattle.std.proofs.Common.{sym, ◌∙◌, ap, reverse}
use Rattle.std.proofs.lemmas.List.{reverse-reverse}
use Rattle.perf_counters.specs.GroupIter.{entries_left}
use Rattle.perf_counters.proofs.Nth.{nth-first, nth-last}
use Rattle.perf_counters.proofs.group_laws.entry_call.Goals as goal

pub returns-in-Nth-clause-answer : goal.returns-in-Nth-clause-answer
returns-in-Nth-clause-answer c =
    let ran = c.nth.ensures.ran in
    let is = nth-first entries_left c.args.entries.now c.in-Nth.place _ c.nth.new.self ran in
    rw c.in-Nth.is is.answered

pub returns-in-Nth-clause-left : goal.returns-in-Nth-clause-left
returns-in-Nth-clause-left c =
    let ran = c.nth.ensures.ran in
    let is = nth-first entries_left c.args.entries.now c.in-Nth.place _ c.nth.new.self ran in
    rw c.in-Nth.is is.left

pub returns-in-NthBack-clause-answer : goal.returns-in-NthBack-clause-answer
returns-in-NthBack-clause-answer c =
    let ran = c.nth_back.ensures.ran in
    let place = c.in-NthBack.place in
    let is = nth-last entries_left c.args.entries.now place _ c.nth_back.new.self ran in
    rw c.in-NthBack.is is.answered

pub returns-in-NthBack-clause-left : goal.returns-in-NthBack-clause-left
returns-in-NthBack-clause-left c =
    let ran = c.nth_back.ensures.ran in
    let place = c.in-NthBack.place in
    let after = c.nth_back.new.self in
    let is = nth-last entries_left c.args.entries.now place _ after ran in
    rw c.in-NthBack.is (sym (reverse-reverse (entries_left after)) ∙ ap reverse is.left)
