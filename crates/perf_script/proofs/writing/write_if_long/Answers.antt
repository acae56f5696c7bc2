use Rattle.std.proofs.Common.{refl}
use Rattle.perf_script.proofs.Parts.{writing_done}
use Rattle.perf_script.proofs.writing.write_if_long.Goals as goal

pub returns : goal.returns
returns g c = λ f all left any whole start h.
    writing_done c.write_part.result f all left any whole start (g.W.Write.contents c.args.writer.now) (g.W.Write.contents c.write_part.new.writer) c.args.made.now (record c.args.made.now { text = c.write_part.new.text }) h
    refl refl refl c.write_part.ensures.kept c.write_part.ensures.whole c.write_part.ensures.part
