use Rattle.std.proofs.Common.{◌<◌, ◌^◌, length, string_bytes, arith}
use Rattle.perf_file.specs.Pieces.{pieces, piece_of}
use Rattle.perf_file.specs.Views.{view}
use Rattle.perf_data_text.proofs.InTurn.{way_more}
use Rattle.perf_data_text.proofs.dump.text_of_dump.Goals as goal

pub loop-found-preserved : goal.loop-found-preserved
loop-found-preserved c =
    let f = view c.args.recording.now in
    let small : length f.frames < 2 ^ 64 = omega (arith, c.args.recording.now.inside) in
    way_more f (pieces (view c.loop-found.found-iterator.recording.now) c.loop-found.found-iterator.left.now)
    (pieces (view c.next.new.self.recording.now) c.next.new.self.left.now) (piece_of c.in-Some.found)
    c.loop-found.lines.count c.push.new.self.count c.loop-found.lines.refused c.push.new.self.refused
    (string_bytes c.loop-found.lines.text) (string_bytes c.push.new.self.text) small c.loop-found.invariant
    c.in-Some.ensures.steps c.in_ok-push.ensures.count c.in_ok-push.ensures.refused c.in_ok-push.ensures.text
