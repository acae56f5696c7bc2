use Rattle.std.proofs.Common.{◌∙◌, ◌∷◌, string_bytes, sym, ap}
use Rattle.perf_counters.specs.ReadGroup.{group_read}
use Rattle.perf_counters.specs.GroupIter.{entries_left}
use Rattle.perf_lines.specs.SampleText.{counter_item}
use Rattle.perf_lines.proofs.Spaced.{listed_to_end}
use Rattle.perf_lines.proofs.sample.push_counters.Goals as goal

pub returns : goal.returns
returns c =
    listed_to_end counter_item (string_bytes c.args.text.now) c.args.before.now (string_bytes c.push_str.new.self) (string_bytes c.push_counter.new.text) (string_bytes c.loop-entry.text) c.in-Some.first (entries_left c.loop-entry.entry-iterator) (entries_left c.into_iter-entry-iterator.result) (group_read c.args.group.now).entries
    c.in_ok-push_str.ensures.bytes c.in_ok-push_counter.ensures c.loop-entry.invariant c.in-None.ensures.steps.0
    (sym c.entries-entries.ensures ∙ c.in-Some.ensures.steps ∙ ap (λ it. c.in-Some.first ∷ entries_left it) (sym c.into_iter-entry-iterator.ensures.into_iter_gives))
