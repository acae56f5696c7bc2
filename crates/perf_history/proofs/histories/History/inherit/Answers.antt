use Rattle.std.proofs.Common.{◌∙◌, sym}
use Rattle.std.proofs.lemmas.Result.{on_ok_weaker}
use Rattle.perf_history.proofs.Recording.{copied, not_copied}
use Rattle.perf_history.proofs.histories.History.inherit.Goals as goal

pub returns-then-copies_memory-clause-ok : goal.returns-then-copies_memory-clause-ok
returns-then-copies_memory-clause-ok c =
    on_ok_weaker c.copy_memory.result (copied c.args.fork c.args.self.now c.copy_memory.new.self (sym c.copies_memory.ensures ∙ c.if-copies_memory.true)) c.copy_memory.ensures.ok

pub returns-else-copies_memory-clause-ok : goal.returns-else-copies_memory-clause-ok
returns-else-copies_memory-clause-ok c =
    not_copied c.args.fork c.args.self.now (sym c.copies_memory.ensures ∙ c.if-copies_memory.false)
