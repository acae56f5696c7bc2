use Rattle.std.proofs.Common.{◌≡◌, List, [], ◌∷◌, option_map, sym, ap}
use Rattle.perf_base.specs.Order.{Order}
use Rattle.perf_words.specs.SetBits.{sample_flags_bits}
use Rattle.perf_sample_types.specs.Sample.{Field, SampleValue, number_is, plain_field, task, cpu, at_flag, fields_under}
use Rattle.perf_sample_types.specs.SampleParts.{task_value, cpu_value}
use Rattle.perf_sample_types.specs.declared.sample_groups.Moment.{Moment}
use Rattle.perf_sample_types.proofs.RowFields.{flag_in_row, row_ends}
use Rattle.perf_sample_types.proofs.sample_groups.Moment.take_fields.Goals as goal

pub take_flagged-requires : goal.take_flagged-requires
take_flagged-requires g c = ap (λ (m : Moment). m.identifier) c.requires

pub take_flagged-requires-2 : goal.take_flagged-requires-2
take_flagged-requires-2 g c = ap (λ (m : Moment). m.ip) c.requires

pub take_flagged-requires-3 : goal.take_flagged-requires-3
take_flagged-requires-3 g c = ap (λ (m : Moment). m.task) c.requires

pub take_flagged-requires-4 : goal.take_flagged-requires-4
take_flagged-requires-4 g c = ap (λ (m : Moment). m.time) c.requires

pub take_flagged-requires-5 : goal.take_flagged-requires-5
take_flagged-requires-5 g c = ap (λ (m : Moment). m.addr) c.requires

pub take_flagged-requires-6 : goal.take_flagged-requires-6
take_flagged-requires-6 g c = ap (λ (m : Moment). m.id) c.requires

pub take_flagged-requires-7 : goal.take_flagged-requires-7
take_flagged-requires-7 g c = ap (λ (m : Moment). m.stream_id) c.requires

pub take_flagged-requires-8 : goal.take_flagged-requires-8
take_flagged-requires-8 g c = ap (λ (m : Moment). m.cpu) c.requires

pub take_flagged-requires-9 : goal.take_flagged-requires-9
take_flagged-requires-9 g c = ap (λ (m : Moment). m.period) c.requires

pub returns : goal.returns
returns g c settings is =
    let o : Order = g.E.Endian.order c.args.order.now in
    let asked : sample_flags_bits c.args.flags ≡ settings.sample_type = sym is in
    let fields_9 : List Field = [] in
    let values_9 : SampleValue = [] in
    let fields_8 : List Field = at_flag 8 plain_field ∷ fields_9 in
    let values_8 : SampleValue = option_map number_is c.take_flagged-9.new.place ∷ values_9 in
    let fields_7 : List Field = at_flag 7 cpu ∷ fields_8 in
    let values_7 : SampleValue = option_map cpu_value c.take_flagged-8.new.place ∷ values_8 in
    let fields_6 : List Field = at_flag 9 plain_field ∷ fields_7 in
    let values_6 : SampleValue = option_map number_is c.take_flagged-7.new.place ∷ values_7 in
    let fields_5 : List Field = at_flag 6 plain_field ∷ fields_6 in
    let values_5 : SampleValue = option_map number_is c.take_flagged-6.new.place ∷ values_6 in
    let fields_4 : List Field = at_flag 3 plain_field ∷ fields_5 in
    let values_4 : SampleValue = option_map number_is c.take_flagged-5.new.place ∷ values_5 in
    let fields_3 : List Field = at_flag 2 plain_field ∷ fields_4 in
    let values_3 : SampleValue = option_map number_is c.take_flagged-4.new.place ∷ values_4 in
    let fields_2 : List Field = at_flag 1 task ∷ fields_3 in
    let values_2 : SampleValue = option_map task_value c.take_flagged-3.new.place ∷ values_3 in
    let fields_1 : List Field = at_flag 0 plain_field ∷ fields_2 in
    let values_1 : SampleValue = option_map number_is c.take_flagged-2.new.place ∷ values_2 in
    flag_in_row o plain_field (fields_under settings fields_1) (option_map number_is c.take_flagged.new.place) values_1 c.args.row.now c.take_flagged.new.row c.take_flagged-9.new.row 16 asked (c.in_ok-take_flagged.ensures settings) (
    flag_in_row o plain_field (fields_under settings fields_2) (option_map number_is c.take_flagged-2.new.place) values_2 c.take_flagged.new.row c.take_flagged-2.new.row c.take_flagged-9.new.row 0 asked (c.in_ok-take_flagged-2.ensures settings) (
    flag_in_row o task (fields_under settings fields_3) (option_map task_value c.take_flagged-3.new.place) values_3 c.take_flagged-2.new.row c.take_flagged-3.new.row c.take_flagged-9.new.row 1 asked (c.in_ok-take_flagged-3.ensures settings) (
    flag_in_row o plain_field (fields_under settings fields_4) (option_map number_is c.take_flagged-4.new.place) values_4 c.take_flagged-3.new.row c.take_flagged-4.new.row c.take_flagged-9.new.row 2 asked (c.in_ok-take_flagged-4.ensures settings) (
    flag_in_row o plain_field (fields_under settings fields_5) (option_map number_is c.take_flagged-5.new.place) values_5 c.take_flagged-4.new.row c.take_flagged-5.new.row c.take_flagged-9.new.row 3 asked (c.in_ok-take_flagged-5.ensures settings) (
    flag_in_row o plain_field (fields_under settings fields_6) (option_map number_is c.take_flagged-6.new.place) values_6 c.take_flagged-5.new.row c.take_flagged-6.new.row c.take_flagged-9.new.row 6 asked (c.in_ok-take_flagged-6.ensures settings) (
    flag_in_row o plain_field (fields_under settings fields_7) (option_map number_is c.take_flagged-7.new.place) values_7 c.take_flagged-6.new.row c.take_flagged-7.new.row c.take_flagged-9.new.row 9 asked (c.in_ok-take_flagged-7.ensures settings) (
    flag_in_row o cpu (fields_under settings fields_8) (option_map cpu_value c.take_flagged-8.new.place) values_8 c.take_flagged-7.new.row c.take_flagged-8.new.row c.take_flagged-9.new.row 7 asked (c.in_ok-take_flagged-8.ensures settings) (
    flag_in_row o plain_field (fields_under settings fields_9) (option_map number_is c.take_flagged-9.new.place) values_9 c.take_flagged-8.new.row c.take_flagged-9.new.row c.take_flagged-9.new.row 8 asked (c.in_ok-take_flagged-9.ensures settings) (
    row_ends o c.take_flagged-9.new.row)))))))))
