use Rattle.std.proofs.Common.{◌≡◌, ◌<◌, ◌≤◌, ◌+◌, ◌-◌, ◌*◌, ◌/◌, ℕ, Bool, List, length, take, drop}
use Rattle.std.proofs.Common.{slice_get, Some, None, sym, arith}
use Rattle.perf_base.specs.Cow.{cow_items}
use Rattle.perf_counters.specs.GroupEntry.{block_len, entry_of}
use Rattle.perf_counters.specs.ReadGroup.{all_entries}
use Rattle.perf_counters.specs.declared.group_entry.GroupEntry.{GroupEntry}
use Rattle.perf_counters.proofs.Blocks.{entry_at, no_entry_at}
use Rattle.perf_counters.proofs.read_group.ReadGroup.get.Goals as goal

module _ (i l : Bool) (n k : ℕ) (words xs : List ℕ) (is : n ≡ block_len i l) (same : xs ≡ words)
  where
    found : (e : GroupEntry) → k < length xs / n →
        e ≡ entry_of i l (take (k * n + n - k * n) (drop (k * n) xs)) →
        Some e ≡ slice_get (all_entries i l words) k
    found e within made =
        let size : k * n + n - k * n ≡ n = omega arith in
        let count = length words / block_len i l in
        rw (made, size, is, same) (sym (entry_at i l count k words (rw (is, same) at within)))

    past : length xs / n ≤ k → None ≡ slice_get (all_entries i l words) k
    past beyond =
        let count = length words / block_len i l in
        sym (no_entry_at i l count k words (rw (is, same) at beyond))

pub returns-then-index-words : goal.returns-then-index-words
returns-then-index-words c =
    let g = c.args.self.now in
    let is = c.block_len-block_len.ensures in
    let same = c.as_slice-words.ensures in
    past g.with_id g.with_lost _ c.args.index (cow_items g.words) _ is same c.if-index-words.true

pub returns : goal.returns
returns c =
    let g = c.args.self.now in
    let is = c.block_len-block_len.ensures in
    let same = c.as_slice-words.ensures in
    let made = c.of_block.ensures in
    let within = c.if-index-words.false in
    found g.with_id g.with_lost _ c.args.index (cow_items g.words) _ is same _ within made
