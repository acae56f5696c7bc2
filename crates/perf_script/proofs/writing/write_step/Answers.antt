use Rattle.std.proofs.Common.{◌∷◌}
use Rattle.perf_script.proofs.Parts.{writing_ended}
use Rattle.perf_script.proofs.writing.write_step.Goals as goal

pub returns-in-Ok : goal.returns-in-Ok
returns-in-Ok g c = λ f all left any whole start events h.
    c.write_if_long.ensures f all left any whole start (record {
      written = h.written;
      rest = h.rest;
      appends = h.appends;
      parts = h.parts;
      under = c.in-Ok.ensures f all left any h.rest events h.under;
    })

pub returns-in-Err : goal.returns-in-Err
returns-in-Err g c = λ f all left any whole start events h.
    writing_ended f all (c.args.entry.now ∷ left) any whole start (g.W.Write.contents c.args.writer.now) c.args.made.now h
