use Rattle.std.proofs.Common.{◌≡◌, length}
use Rattle.perf_parser.specs.Prelude.{ReaderState, parser_config, parser_state}
use Rattle.perf_parser.specs.Repeats.{ParsesInTurn}
use Rattle.perf_parser.proofs.parser.Parser.parse_repeated.Given as goal

abbrev pub invariant-loop : goal.invariant-loop
invariant-loop g l =
    let from : ReaderState = parser_state g.B.ParseBuf.source g.E.Endian.order l.initial.self in
    let here : ReaderState = parser_state g.B.ParseBuf.source g.E.Endian.order l.self in
    (parser_config l.self ≡ parser_config l.initial.self) × (length l.items.items ≡ l.counter)
    × ParsesInTurn g.P.Layout.parses g.P.Layout.counts from l.items.items here
