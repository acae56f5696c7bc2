use Rattle.std.proofs.Common.{◌≡◌, [], length, nat_lt, true, false, refl, arith}
use Rattle.std.proofs.lemmas.Bool.{lt-ltb, le-ltb}
use Rattle.perf_base.specs.Dynamic.{order_of}
use Rattle.perf_sections.specs.Descriptions.{descriptions_in}
use Rattle.perf_sections.specs.Numbers.{small_number}
use Rattle.perf_sections.proofs.NamePlacing.{none_yet, all_named}
use Rattle.perf_sections.proofs.name_places.find_sorted.Goals as goal

pub returns-then-bytes-lt8-clause-named : goal.returns-then-bytes-lt8-clause-named
returns-then-bytes-lt8-clause-named c =
    let o = order_of c.args.order in
    let bytes = c.args.bytes.now in
    let short : nat_lt (length bytes) 8 ≡ true = lt-ltb (length bytes) 8 (omega arith) in
    let none : descriptions_in o bytes ≡ [] = rw short refl in
    all_named bytes c.args.names.now (descriptions_in o bytes) _ none (none_yet bytes c.args.names.now (descriptions_in o bytes) c.requires.none)

pub returns-else-size-ge64-clause-named : goal.returns-else-size-ge64-clause-named
returns-else-size-ge64-clause-named c =
    let o = order_of c.args.order in
    let bytes = c.args.bytes.now in
    let long : nat_lt (length bytes) 8 ≡ false = le-ltb (length bytes) 8 (omega arith) in
    let small : nat_lt (small_number o bytes 4) 64 ≡ true = lt-ltb (small_number o bytes 4) 64 (omega (arith, c.small_number_at-size.ensures)) in
    let none : descriptions_in o bytes ≡ [] = rw (long, small) refl in
    all_named bytes c.args.names.now (descriptions_in o bytes) _ none (none_yet bytes c.args.names.now (descriptions_in o bytes) c.requires.none)
