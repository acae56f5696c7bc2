use Rattle.std.proofs.Common.{string_bytes}
use Rattle.perf_lines.specs.Text.{namespace_item}
use Rattle.perf_lines.proofs.Spaced.{listed_taken}
use Rattle.perf_lines.proofs.records.push_entries.Goals as goal

pub returns : goal.returns
returns c =
    listed_taken namespace_item (string_bytes c.args.text.now) c.args.before.now (string_bytes c.push_str.new.self) (string_bytes c.push_entry.new.text) (string_bytes c.loop-entry.text) c.in-Some.first.now c.loop-entry.entry-index c.in-Some.rest.now c.args.entries.now
    c.in_ok-push_str.ensures.bytes c.in_ok-push_entry.ensures c.loop-entry.invariant c.loop-entry-test.false c.in-Some.ensures.cases.0
