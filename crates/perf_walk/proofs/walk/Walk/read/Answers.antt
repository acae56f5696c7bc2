use Rattle.std.proofs.Common.{ap, ◌∙◌, length}
use Rattle.std.proofs.lemmas.Bool.{le-leb}
use Rattle.perf_base.specs.Configured.{configuration_of, endian_of}
use Rattle.perf_base.specs.Dynamic.{order_of}
use Rattle.perf_file.specs.Views.{view}
use Rattle.perf_walk.proofs.Walked.{frame_read}
use Rattle.perf_walk.proofs.walk.Walk.read.Goals as goal

pub returns-clause-found : goal.returns-clause-found
returns-clause-found c =
    let config = c.in_ok-config.config.now in
    let left = c.in_ok-bytes.bytes.now in
    let there = c.read_into.ensures.header ∙ le-leb 8 (length left) c.in_ok-bytes.ensures.long in
    frame_read (view c.args.self.now.recording.now) c.args.entry.now (configuration_of config) (order_of (endian_of config)) left c.first_frame.result.now c.read_into.new.frame
    c.in_ok-config.ensures.value c.in_ok-bytes.ensures.value (ap order_of c.in_ok-config.ensures.order) (c.read_into.ensures.read there) c.first_frame.ensures
