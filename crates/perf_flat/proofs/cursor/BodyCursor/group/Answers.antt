use Rattle.std.proofs.Common.{◌*◌, ◌^◌, ◌≤◌, subst, sym, ap, refl, ◌∙◌}
use Rattle.std.specs.Prelude.{nat_lt}
use Rattle.std.proofs.Math.Nat.{mul_comm}
use Rattle.perf_base.specs.FieldWords.{require}
use Rattle.perf_base.specs.declared.error.ErrorKind.TheVariants.{UnsupportedConfig, InvalidRecord}
use Rattle.perf_counters.specs.ReadFormat.{has_known_bits}
use Rattle.perf_words.specs.Sets.{element_len}
use Rattle.perf_flat.specs.CursorReads.{ReadsParts}
use Rattle.perf_flat.proofs.Lists.{group_read, format_is, some_is, few_numbers}
use Rattle.perf_flat.proofs.cursor.BodyCursor.group.Goals as goal

pub pass_items-requires : goal.pass_items-requires
pass_items-requires g c = subst (λ n. n ≤ 3) (sym c.element_len-each.ensures) (few_numbers c.args.format.0)

pub returns : goal.returns
returns g c = λ settings asked many.
    let o = g.E.Endian.order c.args.order.now in
    let a = c.args.self.now in
    let b = c.require.new.self in
    let one = c.read_u64-count in
    let two = c.format_number-time_enabled in
    let three = c.format_number-time_running in
    let f = three.new.self in
    let h = c.require-2.new.self in
    let each = c.element_len-each.ensures ∙ ap element_len asked in
    let known : ReadsParts {A = Unit {0}} o (require (has_known_bits settings.read_format) UnsupportedConfig) tt a b =
    subst (λ r. ReadsParts {A = Unit {0}} o (require (has_known_bits r) UnsupportedConfig) tt a b) ((c.bits.ensures tt) ∙ asked) (c.require.ensures o) in
    let fits : ReadsParts {A = Unit {0}} o (require (nat_lt (one.result * element_len settings.read_format) (2 ^ 64)) InvalidRecord) tt f h =
    subst (λ t. ReadsParts {A = Unit {0}} o (require t InvalidRecord) tt f h) (some_is c.checked_mul.result (one.result * c.element_len-each.result) c.is_some.result c.is_some.ensures c.checked_mul.ensures ∙ ap (λ n. nat_lt (one.result * n) (2 ^ 64)) each) (c.require-2.ensures o) in
    let list = c.pass_items.ensures o (one.result * element_len settings.read_format) (ap (λ n. one.result * n) (sym each) ∙ mul_comm one.result c.element_len-each.result) in
    group_read o settings one.result two.result three.result a b one.new.self two.new.self f h c.pass_items.new.self c.pass_items.result _ many refl refl known
    one.ensures (format_is 0 asked two.ensures) (format_is 1 asked three.ensures) fits list
