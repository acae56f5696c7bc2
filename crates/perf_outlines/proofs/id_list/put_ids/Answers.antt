use Rattle.std.proofs.Common.{◌+◌, ◌-◌, ◌*◌, ◌/◌, ◌<◌, ◌++◌, List, take, drop, length, ap, ◌∙◌, arith}
use Rattle.std.proofs.lemmas.Grind.{take-set_at}
use Rattle.perf_base.specs.Dynamic.{order_of}
use Rattle.perf_base.specs.Layout.{words_of}
use Rattle.perf_sections.specs.IdTables.{ids_of}
use Rattle.perf_sections.specs.declared.ids.IdOfEvent.{IdOfEvent}
use Rattle.perf_outlines.proofs.IdFilling.{ids_more}
use Rattle.perf_sections.proofs.Tables.{pair}
use Rattle.perf_outlines.proofs.id_list.put_ids.Goals as goal

pub loop-index-preserved : goal.loop-index-preserved
loop-index-preserved c =
    let o = order_of c.args.order in
    let bytes = c.args.bytes.now in
    let s = c.args.section in
    let i = c.loop-index.index in
    let ids = c.loop-index.ids in
    let n = c.number_at-id.result in
    let room : c.args.start + i < length ids = omega (arith, c.loop-index.auto.ids, c.requires.room, c.loop-index-test.true) in
    ap (λ (front : List IdOfEvent). front ++ ids_of c.args.event (words_of o (s.size / 8 - (i + 1)) (drop (s.start + 8 * (i + 1)) bytes))) (take-set_at ids (c.args.start + i) (c.args.start + (i + 1)) (pair n c.args.event) (omega arith) room)
    ∙ ids_more o bytes c.args.event (take (c.args.start + i) ids) s.start (s.size / 8) i n c.loop-index-test.true c.number_at-id.ensures
    ∙ c.loop-index.invariant
