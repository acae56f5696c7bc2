use Rattle.std.proofs.Common.{◌+◌, ◌<◌, ◌^◌, Some, None, length, arith, ap, subst, sym, ◌∙◌}
use Rattle.perf_base.specs.Configured.{configuration_of, endian_of}
use Rattle.perf_base.specs.declared.refusal.Refusal.TheVariants.{NoRoomForId}
use Rattle.perf_base.specs.declared.sys.perf_event_header.{perf_event_header}
use Rattle.perf_buffers.specs.Buffer.{chunk_bytes}
use Rattle.perf_records.specs.Answers.{parts_of}
use Rattle.perf_records.specs.Metadata.{id_length, id_of_type}
use Rattle.perf_sample_types.specs.SampleId.{SampleIdValue}
use Rattle.perf_flat.specs.Flat.{CarriesNumbers, IsFlatAfter, refused_frame}
use Rattle.perf_records.specs.FrameEnds.{TakesId}
use Rattle.perf_flat.proofs.FrameAnswers.{room_split, end_placed, list_placed, list_refused, list_lacks}
use Rattle.perf_flat.proofs.read.flat_frame.Goals as goal

pub returns-in-None : goal.returns-in-None
returns-in-None g c =
    let f = c.args.whole in
    let settings = configuration_of c.args.config.now in
    let order = g.E.Endian.order (endian_of c.args.config.now) in
    let long = ap length c.rest.ensures in
    let room = ap (λ (k : perf_event_header). id_length settings k.type_) c.header-header.ensures in
    list_lacks settings order f.header (chunk_bytes f.rest) c.refuse_frame.new.frame f.sized f.whole (omega (arith, c.in-None.ensures, long, room, f.whole))
    (c.refuse_frame.ensures ∙ ap (λ h. refused_frame h NoRoomForId) c.header-header.ensures)

pub returns : goal.returns
returns g c =
    let f = c.args.whole in
    let k = c.header-header.result in
    let settings = configuration_of c.args.config.now in
    let order = g.E.Endian.order (endian_of c.args.config.now) in
    let bytes = chunk_bytes f.rest in
    let end = c.in-Some.end in
    let takes : TakesId order (id_length settings k.type_) (id_of_type settings k.type_) bytes end =
    subst (λ xs. TakesId order (id_length settings k.type_) (id_of_type settings k.type_) xs end) c.rest.ensures c.in-Some.ensures in
    let sized = ap (λ (h : perf_event_header). h.size) c.header-header.ensures in
    let split = room_split settings order k bytes (omega (arith, sized, f.sized)) (omega (arith, sized, f.whole)) takes.room in
    let put = c.put_record in
    let e = c.in-Some-put_record.refusal in
    let refused = c.in-Some-put_record.ensures in
    let places = end_placed settings order bytes end k c.put_head.new.frame (Some e) put.new.frame takes refused in
    subst (λ h. IsFlatAfter settings order h bytes c.refuse_frame-in-Some-put_record.new.frame) c.header-header.ensures
    (list_refused settings order k bytes (parts_of settings order k bytes) e c.put_head.new.frame put.new.frame _ (omega (arith, sized, f.sized)) (omega (arith, sized, f.whole)) split places takes.room
    c.refuse_frame-in-Some-put_record.ensures)

pub returns-in-None-put_record : goal.returns-in-None-put_record
returns-in-None-put_record g c =
    let f = c.args.whole in
    let k = c.header-header.result in
    let settings = configuration_of c.args.config.now in
    let order = g.E.Endian.order (endian_of c.args.config.now) in
    let bytes = chunk_bytes f.rest in
    let end = c.in-Some.end in
    let takes : TakesId order (id_length settings k.type_) (id_of_type settings k.type_) bytes end =
    subst (λ xs. TakesId order (id_length settings k.type_) (id_of_type settings k.type_) xs end) c.rest.ensures c.in-Some.ensures in
    let sized = ap (λ (h : perf_event_header). h.size) c.header-header.ensures in
    let split = room_split settings order k bytes (omega (arith, sized, f.sized)) (omega (arith, sized, f.whole)) takes.room in
    let head = c.put_head in
    let put = c.put_record in
    let accepted = c.in-None-put_record.ensures in
    let places = end_placed settings order bytes end k head.new.frame None put.new.frame takes accepted in
    let carries = subst (λ (own : SampleIdValue). CarriesNumbers settings own head.new.frame.numbers head.new.frame) takes.id head.ensures.numbers in
    let short : length bytes + 8 < 2 ^ 32 = omega (arith, f.whole, f.sized, head.ensures.size, sized) in
    subst (λ h. IsFlatAfter settings order h bytes put.new.frame) c.header-header.ensures
    (list_placed settings order k bytes (parts_of settings order k bytes) head.new.frame.numbers head.new.frame put.new.frame short split places head.ensures.header carries)
