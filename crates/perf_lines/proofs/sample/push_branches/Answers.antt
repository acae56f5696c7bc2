use Rattle.std.proofs.Common.{codes, string_bytes}
use Rattle.perf_lines.specs.SampleText.{branch_item}
use Rattle.perf_lines.proofs.Spaced.{listed_taken}
use Rattle.perf_lines.proofs.sample.push_branches.Goals as goal

pub returns : goal.returns
returns c =
    let found = c.in-Some-split_first in
    rw c.in-Some.is (listed_taken branch_item (string_bytes c.args.text.now) (codes " lbr=") (string_bytes c.push_str.new.self) (string_bytes c.push_branch.new.text) (string_bytes c.loop-branch.text) found.first.now c.loop-branch.branch-index found.rest.now c.in-Some.branches.now
    c.in_ok-push_str.ensures.bytes c.in_ok-push_branch.ensures c.loop-branch.invariant c.loop-branch-test.false found.ensures.cases.0)
