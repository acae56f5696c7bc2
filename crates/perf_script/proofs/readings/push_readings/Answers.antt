use Rattle.std.proofs.Common.{◌≡◌, ℕ, true, false, List, ◌++◌, sym, ◌∙◌, ap}
use Rattle.std.proofs.lemmas.Result.{on_ok_weaker}
use Rattle.perf_base.specs.Dynamic.{order_of}
use Rattle.perf_base.specs.Order.{Order}
use Rattle.perf_flat.specs.Strings.{span_at}
use Rattle.perf_flat.specs.declared.frame.FlatFrame.{FlatFrame}
use Rattle.perf_counters.specs.ReadFormat.{has_group}
use Rattle.perf_words.specs.Bits.{has_bit}
use Rattle.perf_script.specs.Blocks.{group_at}
use Rattle.perf_script.specs.declared.readings.Reading.{Reading}
use Rattle.perf_script.proofs.Groups.{format_kept, readings_group, readings_single}
use Rattle.perf_script.proofs.readings.push_readings.Goals as goal

pub returns-then-has_bit : goal.returns-then-has_bit
returns-then-has_bit c = λ config s flat is there.
    let o : Order = order_of c.args.order in
    let frame : FlatFrame = c.args.frame.now in
    let bytes : List ℕ = c.args.bytes.now in
    let old : List Reading = c.args.readings.now.items in
    let format = format_kept config o bytes s frame flat is there in
    let holds : has_group config.read_format ≡ true = sym (ap has_group (c.from.ensures ∙ format)) ∙ (sym c.has_bit.ensures ∙ c.if-has_bit.true) in
    on_ok_weaker c.push_entries.result (λ e. e ∙ ap (λ rs. old ++ rs) (ap (λ r. group_at o (has_bit r 2) (has_bit r 4) bytes (span_at frame.spans 2)) format ∙ readings_group config o bytes s frame flat is holds))
    c.push_entries.ensures

pub returns-else-has_bit : goal.returns-else-has_bit
returns-else-has_bit c = λ config s flat is there.
    let o : Order = order_of c.args.order in
    let frame : FlatFrame = c.args.frame.now in
    let bytes : List ℕ = c.args.bytes.now in
    let old : List Reading = c.args.readings.now.items in
    let format = format_kept config o bytes s frame flat is there in
    let fails : has_group config.read_format ≡ false = sym (ap has_group (c.from.ensures ∙ format)) ∙ (sym c.has_bit.ensures ∙ c.if-has_bit.false) in
    on_ok_weaker c.push_single.result (λ e. e ∙ ap (λ rs. old ++ rs) (readings_single config o bytes s frame flat is fails)) c.push_single.ensures
