use Rattle.std.proofs.Common.{◌≡◌, true, false, [], ◌∷◌, refl, sym, ◌∙◌, ap}
use Rattle.perf_sample_types.specs.Sample.{values, has_one, settings_of}
use Rattle.perf_counters.specs.ReadFormat.{has_group}
use Rattle.perf_words.specs.Bits.{has_bit}
use Rattle.perf_words.proofs.Contained.{contains_bit}
use Rattle.perf_flat.specs.BodyReads.{counter_read}
use Rattle.perf_flat.specs.SampleReads.{IsCounters}
use Rattle.perf_flat.proofs.Fields.{flag_is}
use Rattle.perf_flat.proofs.Lists.{there_is, none_is, no_counters, single_counters, values_alone, values_grouped}
use Rattle.perf_flat.proofs.cursor.BodyCursor.counters.Goals as goal

pub returns-then-not-contains : goal.returns-then-not-contains
returns-then-not-contains g c = λ settings asked format.
    let o = g.E.Endian.order c.args.order.now in
    none_is (λ v. IsCounters settings.read_format o c.args.self.now.bytes.now v _) (has_one settings.sample_type (4 ∷ [])) (values (settings_of settings)) (flag_is 4 asked (c.contains.ensures tt) c.if-not-contains.true)
    (no_counters settings o c.args.self.now.bytes.now _ refl refl)

pub returns-then-contains : goal.returns-then-contains
returns-then-contains g c = λ settings asked format.
    let o = g.E.Endian.order c.args.order.now in
    let a = c.args.self.now in
    let many : has_group settings.read_format ≡ true = sym (c.contains-2.ensures tt ∙ contains_bit c.args.format.0 3 ∙ ap (λ w. has_bit w 3) format) ∙ c.if-contains.true in
    there_is (λ v. IsCounters settings.read_format o a.bytes.now v _) (has_one settings.sample_type (4 ∷ [])) (values (settings_of settings)) (flag_is 4 asked (c.contains.ensures tt) c.if-not-contains.false)
    (values_grouped o (settings_of settings) a _ _ many (c.group.ensures (settings_of settings) format many))

pub returns-else-contains : goal.returns-else-contains
returns-else-contains g c = λ settings asked format.
    let o = g.E.Endian.order c.args.order.now in
    let a = c.args.self.now in
    let alone : has_group settings.read_format ≡ false = sym (c.contains-2.ensures tt ∙ contains_bit c.args.format.0 3 ∙ ap (λ w. has_bit w 3) format) ∙ c.if-contains.false in
    let made = c.one_counter in
    there_is (λ v. IsCounters settings.read_format o a.bytes.now v _) (has_one settings.sample_type (4 ∷ [])) (values (settings_of settings)) (flag_is 4 asked (c.contains.ensures tt) c.if-not-contains.false)
    (values_alone o (settings_of settings) a _ _ alone (record {
      value = counter_read made.result;
      reads = made.ensures.reads (settings_of settings) format;
      holds = λ ok. single_counters o (settings_of settings) a.bytes.now made.result alone made.ensures.count made.ensures.entries;
    }))
