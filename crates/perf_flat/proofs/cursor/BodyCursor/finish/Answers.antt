use Rattle.perf_flat.proofs.RecordWrites.{taken_placed}
use Rattle.perf_flat.proofs.cursor.BodyCursor.finish.Goals as goal

pub returns : goal.returns
returns c = λ settings o p value body taken.
    taken_placed settings o p value body _ c.put_numbers.new.all _ c.put_spans.new.all c.args.self.now c.args.frame.now taken c.put_numbers.ensures c.put_spans.ensures
