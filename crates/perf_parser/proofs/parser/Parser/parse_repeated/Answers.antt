use Rattle.std.proofs.Common.{rules, ◌≡◌, ◌≤◌, length, List, [], ◌∷◌, ◌++◌, sym, ◌∙◌, subst, arith, inl, inr, Ok, Err}
use Rattle.std.proofs.lemmas.List.{length-append}
use Rattle.perf_parser.specs.Prelude.{ReaderState, parser_state, kind_of}
use Rattle.perf_parser.specs.Repeats.{Step, ParsesInTurn, StopsShort}
use Rattle.perf_parser.proofs.Repeats.{step_of, runs_on, runs_follow, short_follows, only}
use Rattle.perf_parser.proofs.parser.Parser.parse_repeated.Goals as goal

pub returns-in-Err-parse-clause-err : goal.returns-in-Err-parse-clause-err
returns-in-Err-parse-clause-err g c =
    let b : ReaderState = parser_state g.B.ParseBuf.source g.E.Endian.order c.loop.self in
    let step = step_of _ _ _ _ _ _ _ c.in-Err-parse.ensures.call in
    inl (c.loop.items.items, b, omega (arith, c.loop.invariant.1, c.loop-test.true), c.loop.invariant.2, step)

pub returns-in-Err-parse-clause-call : goal.returns-in-Err-parse-clause-call
returns-in-Err-parse-clause-call g c =
    let a : ReaderState = parser_state g.B.ParseBuf.source g.E.Endian.order c.args.self.now in
    let b : ReaderState = parser_state g.B.ParseBuf.source g.E.Endian.order c.loop.self in
    let d : ReaderState = parser_state g.B.ParseBuf.source g.E.Endian.order c.parse.new.self in
    let step : Step g.P.Layout.parses g.P.Layout.counts b (Err (kind_of c.in-Err-parse.error)) d = step_of _ _ _ _ _ _ _ c.in-Err-parse.ensures.call in
    let short : StopsShort g.P.Layout.parses g.P.Layout.counts a c.args.len (kind_of c.in-Err-parse.error) d =
    inl (c.loop.items.items, b, omega (arith, c.loop.invariant.1, c.loop-test.true), c.loop.invariant.2, step) in
    only _ _ _ _ _ (c.in-Err-parse.ensures.call.config ∙ c.loop.invariant.0)
    (short_follows g.P.Layout.parses g.P.Layout.counts a d c.args.len (kind_of c.in-Err-parse.error) short)

pub returns-then-is_err-clause-err : goal.returns-then-is_err-clause-err
returns-then-is_err-clause-err g c =
    let a : ReaderState = parser_state g.B.ParseBuf.source g.E.Endian.order c.args.self.now in
    let b : ReaderState = parser_state g.B.ParseBuf.source g.E.Endian.order c.loop.self in
    let d : ReaderState = parser_state g.B.ParseBuf.source g.E.Endian.order c.parse.new.self in
    let step : Step g.P.Layout.parses g.P.Layout.counts b (Ok c.in-Ok-parse.item) d = step_of _ _ _ _ _ _ _ c.in-Ok-parse.ensures.call in
    let more = runs_on g.P.Layout.parses g.P.Layout.counts a b d c.loop.items.items c.in-Ok-parse.item c.loop.invariant.2 step in
    let counted : length (c.loop.items.items ++ c.in-Ok-parse.item ∷ []) ≤ c.args.len = omega (arith, length-append c.loop.items.items (c.in-Ok-parse.item ∷ []), c.loop.invariant.1, c.loop-test.true) in
    inr (c.loop.items.items ++ c.in-Ok-parse.item ∷ [], counted, more, c.out_of_memory-then-is_err.ensures.kind_is)

pub returns-then-is_err-clause-call : goal.returns-then-is_err-clause-call
returns-then-is_err-clause-call g c =
    let a : ReaderState = parser_state g.B.ParseBuf.source g.E.Endian.order c.args.self.now in
    let b : ReaderState = parser_state g.B.ParseBuf.source g.E.Endian.order c.loop.self in
    let d : ReaderState = parser_state g.B.ParseBuf.source g.E.Endian.order c.parse.new.self in
    let step : Step g.P.Layout.parses g.P.Layout.counts b (Ok c.in-Ok-parse.item) d = step_of _ _ _ _ _ _ _ c.in-Ok-parse.ensures.call in
    let more = runs_on g.P.Layout.parses g.P.Layout.counts a b d c.loop.items.items c.in-Ok-parse.item c.loop.invariant.2 step in
    only _ _ _ _ _ (c.in-Ok-parse.ensures.call.config ∙ c.loop.invariant.0)
    (runs_follow g.P.Layout.parses g.P.Layout.counts a d (c.loop.items.items ++ c.in-Ok-parse.item ∷ []) more)

pub loop-preserved : goal.loop-preserved
loop-preserved g c =
    let a : ReaderState = parser_state g.B.ParseBuf.source g.E.Endian.order c.args.self.now in
    let b : ReaderState = parser_state g.B.ParseBuf.source g.E.Endian.order c.loop.self in
    let d : ReaderState = parser_state g.B.ParseBuf.source g.E.Endian.order c.parse.new.self in
    let step : Step g.P.Layout.parses g.P.Layout.counts b (Ok c.in-Ok-parse.item) d = step_of _ _ _ _ _ _ _ c.in-Ok-parse.ensures.call in
    let more = runs_on g.P.Layout.parses g.P.Layout.counts a b d c.loop.items.items c.in-Ok-parse.item c.loop.invariant.2 step in
    let pushed : c.push.new.self.items ≡ c.loop.items.items ++ c.in-Ok-parse.item ∷ [] = search rules in
    (c.in-Ok-parse.ensures.call.config ∙ c.loop.invariant.0, search rules, subst (λ (xs : List _). ParsesInTurn g.P.Layout.parses g.P.Layout.counts a xs d) (sym pushed) more)

pub returns-clause-call : goal.returns-clause-call
returns-clause-call g c =
    let a : ReaderState = parser_state g.B.ParseBuf.source g.E.Endian.order c.args.self.now in
    let b : ReaderState = parser_state g.B.ParseBuf.source g.E.Endian.order c.loop.self in
    only _ _ _ _ _ c.loop.invariant.0 (runs_follow g.P.Layout.parses g.P.Layout.counts a b c.loop.items.items c.loop.invariant.2)

pub returns-clause-ok : goal.returns-clause-ok
returns-clause-ok g c = (omega (arith, c.loop.invariant.1), c.loop.invariant.2)
