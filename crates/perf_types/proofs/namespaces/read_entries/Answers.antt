use Rattle.std.proofs.Common.{rules, ◌≡◌, ℕ, suc, ◌+◌, ◌*◌, List, [], ◌∷◌, ◌++◌, refl, sym, ◌∙◌, ap, arith, Vec, Global}
use Rattle.std.specs.List.{flat_map}
use Rattle.perf_base.specs.Refusals.{refusal_kind}
use Rattle.perf_reader.proofs.InRow.{row_none, row_cast, row_more, row_stops, row_starves, row_gives}
use Rattle.perf_types.specs.Namespaces.{entry_numbers}
use Rattle.perf_types.specs.declared.namespaces.NamespaceEntry.{NamespaceEntry}
use Rattle.perf_types.proofs.Entries.{flat_more}
use Rattle.perf_reader.proofs.Shortages.{not_short}
use Rattle.perf_types.proofs.namespaces.read_entries.Goals as goal

pub loop-init : goal.loop-init
loop-init g c =
    let s = g.I.Input.source in let o = g.E.Endian.order in
    row_cast s o 0 0 c.args.reader.now c.args.reader.now [] (flat_map entry_numbers c.in-Ok.entries.items) refl (sym (ap (flat_map entry_numbers) c.in-Ok.ensures.items)) (row_none s o c.args.reader.now)

pub returns-in-Err-read_u64-clause-call : goal.returns-in-Err-read_u64-clause-call
returns-in-Err-read_u64-clause-call g c =
    let s = g.I.Input.source in let o = g.E.Endian.order in
    row_stops s o (λ (v : Vec NamespaceEntry Global). flat_map entry_numbers v.items) (2 * c.loop.counter) (2 * c.args.count) c.args.reader.now c.loop.reader c.read_u64.new.self (flat_map entry_numbers c.loop.entries.items)
    (refusal_kind c.in-Err-read_u64.refusal) (omega (arith, c.loop-test.true)) c.loop.invariant c.in-Err-read_u64.ensures.call

pub returns-in-Err-read_u64-2-clause-call : goal.returns-in-Err-read_u64-2-clause-call
returns-in-Err-read_u64-2-clause-call g c =
    let s = g.I.Input.source in let o = g.E.Endian.order in
    let ys : List ℕ = flat_map entry_numbers c.loop.entries.items in
    let one = row_more s o (2 * c.loop.counter) c.args.reader.now c.loop.reader c.read_u64.new.self ys c.in-Ok-read_u64.dev c.loop.invariant c.in-Ok-read_u64.ensures.call in
    row_stops s o (λ (v : Vec NamespaceEntry Global). flat_map entry_numbers v.items) (suc (2 * c.loop.counter)) (2 * c.args.count) c.args.reader.now c.read_u64.new.self c.read_u64-in-loop.new.self (ys ++ c.in-Ok-read_u64.dev ∷ [])
    (refusal_kind c.in-Err-read_u64-2.refusal) (omega (arith, c.loop-test.true)) one c.in-Err-read_u64-2.ensures.call

pub returns-then-is_err-clause-call : goal.returns-then-is_err-clause-call
returns-then-is_err-clause-call g c =
    let s = g.I.Input.source in let o = g.E.Endian.order in
    let ys : List ℕ = flat_map entry_numbers c.loop.entries.items in
    let zs : List ℕ = ys ++ c.in-Ok-read_u64.dev ∷ [] in
    let one = row_more s o (2 * c.loop.counter) c.args.reader.now c.loop.reader c.read_u64.new.self ys c.in-Ok-read_u64.dev c.loop.invariant c.in-Ok-read_u64.ensures.call in
    let two = row_more s o (suc (2 * c.loop.counter)) c.args.reader.now c.read_u64.new.self c.read_u64-in-loop.new.self zs c.in-Ok-read_u64-2.inode one c.in-Ok-read_u64-2.ensures.call in
    row_starves s o (λ (v : Vec NamespaceEntry Global). flat_map entry_numbers v.items) (suc (suc (2 * c.loop.counter))) (2 * c.args.count) c.args.reader.now c.read_u64-in-loop.new.self (zs ++ c.in-Ok-read_u64-2.inode ∷ []) two

pub loop-preserved : goal.loop-preserved
loop-preserved g c =
    let s = g.I.Input.source in let o = g.E.Endian.order in
    let ys : List ℕ = flat_map entry_numbers c.loop.entries.items in
    let zs : List ℕ = ys ++ c.in-Ok-read_u64.dev ∷ [] in
    let one = row_more s o (2 * c.loop.counter) c.args.reader.now c.loop.reader c.read_u64.new.self ys c.in-Ok-read_u64.dev c.loop.invariant c.in-Ok-read_u64.ensures.call in
    let two = row_more s o (suc (2 * c.loop.counter)) c.args.reader.now c.read_u64.new.self c.read_u64-in-loop.new.self zs c.in-Ok-read_u64-2.inode one c.in-Ok-read_u64-2.ensures.call in
    let entry : NamespaceEntry = record { dev = c.in-Ok-read_u64.dev; inode = c.in-Ok-read_u64-2.inode } in
    let pushed : c.push.new.self.items ≡ c.loop.entries.items ++ entry ∷ [] = search rules in
    let count : suc (suc (2 * c.loop.counter)) ≡ 2 * (c.loop.counter + 1) = omega arith in
    row_cast s o (suc (suc (2 * c.loop.counter))) (2 * (c.loop.counter + 1)) c.args.reader.now c.read_u64-in-loop.new.self (zs ++ c.in-Ok-read_u64-2.inode ∷ []) (flat_map entry_numbers c.push.new.self.items) count
    (flat_more c.loop.entries.items c.in-Ok-read_u64.dev c.in-Ok-read_u64-2.inode ∙ ap (flat_map entry_numbers) (sym pushed)) two

pub returns-clause-call : goal.returns-clause-call
returns-clause-call g c =
    let s = g.I.Input.source in let o = g.E.Endian.order in
    let ys : List ℕ = flat_map entry_numbers c.loop.entries.items in
    let count : 2 * c.loop.counter ≡ 2 * c.args.count = ap (λ n. 2 * n) (search rules) in
    row_gives s o (λ (v : Vec NamespaceEntry Global). flat_map entry_numbers v.items) (2 * c.args.count) c.args.reader.now c.loop.reader c.loop.entries (row_cast s o (2 * c.loop.counter) (2 * c.args.count) c.args.reader.now c.loop.reader ys ys count refl c.loop.invariant)

pub returns-in-Err-read_u64-clause-short : goal.returns-in-Err-read_u64-clause-short
returns-in-Err-read_u64-clause-short g c =
    not_short (g.I.Input.hint c.args.reader.now.input) (c.args.count * 16) (16 * c.args.count)
    c.has_items.result c.has_items.ensures.is c.if-eq.ensures (omega arith)

pub returns-in-Err-read_u64-2-clause-short : goal.returns-in-Err-read_u64-2-clause-short
returns-in-Err-read_u64-2-clause-short g c =
    not_short (g.I.Input.hint c.args.reader.now.input) (c.args.count * 16) (16 * c.args.count)
    c.has_items.result c.has_items.ensures.is c.if-eq.ensures (omega arith)

pub returns-then-is_err-clause-short : goal.returns-then-is_err-clause-short
returns-then-is_err-clause-short g c =
    not_short (g.I.Input.hint c.args.reader.now.input) (c.args.count * 16) (16 * c.args.count)
    c.has_items.result c.has_items.ensures.is c.if-eq.ensures (omega arith)

pub returns-clause-short : goal.returns-clause-short
returns-clause-short g c =
    not_short (g.I.Input.hint c.args.reader.now.input) (c.args.count * 16) (16 * c.args.count)
    c.has_items.result c.has_items.ensures.is c.if-eq.ensures (omega arith)
