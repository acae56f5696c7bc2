use Rattle.std.proofs.Common.{◌≡◌, ℕ}
use Rattle.std.specs.Prelude.{IsTrue}
use Rattle.perf_parser.specs.ReaderState.{parser_state}
use Rattle.perf_reports.proofs.RecordsPrinted.{HasPrinted}
use Rattle.perf_reports.proofs.printing.print_records.Given as goal

-- the first answers were printed, and the bytes after them are left
abbrev pub invariant-loop : goal.invariant-loop
invariant-loop g l =
    let source = g.B.ParseBuf.source in record {
      config : l.parser.reader.config ≡ l.initial.parser.reader.config;
      told : IsTrue (source l.initial.parser.reader.input.buf).told → IsTrue (source l.parser.reader.input.buf).told;
      printed : IsTrue (source l.initial.parser.reader.input.buf).told → (n : ℕ)
          × HasPrinted g.W.Write.contents g.E.Write.contents l.initial.printer (parser_state source g.O.Endian.order l.initial.parser) n
          (source l.parser.reader.input.buf).left l.printer;
    }
