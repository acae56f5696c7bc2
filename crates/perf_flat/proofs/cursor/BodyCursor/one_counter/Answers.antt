use Rattle.std.proofs.Common.{◌≡◌, not, subst, ap, ◌∙◌}
use Rattle.perf_base.specs.FieldWords.{require}
use Rattle.perf_base.specs.declared.error.ErrorKind.TheVariants.{UnsupportedConfig}
use Rattle.perf_counters.specs.ReadFormat.{has_group, has_known_bits}
use Rattle.perf_words.specs.Bits.{has_bit}
use Rattle.perf_words.proofs.Contained.{contains_bit}
use Rattle.perf_flat.specs.CursorReads.{ReadsParts}
use Rattle.perf_flat.proofs.Lists.{single_read, format_is}
use Rattle.perf_flat.proofs.cursor.BodyCursor.one_counter.Goals as goal

pub returns-clause-reads : goal.returns-clause-reads
returns-clause-reads g c = λ settings asked.
    let o = g.E.Endian.order c.args.order.now in
    let a = c.args.self.now in
    let b = c.require.new.self in
    let d = c.require-2.new.self in
    let one = c.read_u64 in
    let two = c.format_number in
    let three = c.format_number-2 in
    let four = c.format_number-3 in
    let five = c.format_number-4 in
    let group : c.contains.result ≡ has_group settings.read_format = c.contains.ensures tt ∙ contains_bit c.args.format.0 3 ∙ ap (λ w. has_bit w 3) asked in
    let alone : ReadsParts {A = Unit {0}} o (require (not (has_group settings.read_format)) UnsupportedConfig) tt a b =
    subst (λ t. ReadsParts {A = Unit {0}} o (require (not t) UnsupportedConfig) tt a b) group (c.require.ensures o) in
    let known : ReadsParts {A = Unit {0}} o (require (has_known_bits settings.read_format) UnsupportedConfig) tt b d =
    subst (λ r. ReadsParts {A = Unit {0}} o (require (has_known_bits r) UnsupportedConfig) tt b d) ((c.bits.ensures tt) ∙ asked) (c.require-2.ensures o) in
    single_read o settings one.result two.result three.result four.result five.result a b d one.new.self two.new.self three.new.self four.new.self five.new.self alone known
    one.ensures (format_is 0 asked two.ensures) (format_is 1 asked three.ensures) (format_is 2 asked four.ensures) (format_is 4 asked five.ensures)
