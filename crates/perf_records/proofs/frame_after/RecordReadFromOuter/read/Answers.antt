use Rattle.std.proofs.Common.{◌≡◌, ◌<◌, [], length, Err, sym, ◌∙◌, ap, subst}
use Rattle.std.specs.Prelude.{Result, IsTrue}
use Rattle.perf_base.specs.Configured.{configuration_of, endian_of}
use Rattle.perf_base.specs.Header.{header as header_parts}
use Rattle.perf_base.specs.Refusals.{kinds, refusal_kind}
use Rattle.perf_base.specs.declared.config.ParseConfig.{ParseConfig}
use Rattle.perf_base.specs.declared.error.ErrorKind.{ErrorKind}
use Rattle.perf_base.specs.declared.sys.perf_event_header.{perf_event_header}
use Rattle.perf_base.specs.declared.error.ErrorKind.TheVariants.{Eof}
use Rattle.perf_reader.proofs.After.{came_up}
use Rattle.perf_reader.specs.ReaderState.{ReaderState, state_of}
use Rattle.perf_reader.specs.Reading.{of_layout}
use Rattle.perf_records.specs.Answers.{AnswersExactly, length_after, answer_after, reads_after}
use Rattle.perf_records.specs.Bodies.{needs_memory}
use Rattle.perf_records.specs.Records.{record_value}
use Rattle.perf_records.specs.declared.record.Record.{Record}
use Rattle.perf_buffers.specs.declared.outer.Outer.{Outer}
use Rattle.perf_records.proofs.VisitedRecords.{body_transition, body_borrows_if}
use Rattle.perf_records.proofs.Headers.{header_read, header_unread, tells_frame, tells_no_header, no_header_within, frame_within, refuses_read, refuses_unread}
use Rattle.perf_records.proofs.LayoutResults.{took_ran, quit_stopped}
use Rattle.perf_records.proofs.frame_after.RecordReadFromOuter.read.Goals as goal

-- the header was refused
pub returns-in_err-header : goal.returns-in_err-header
returns-in_err-header g c =
    let old : ReaderState = state_of (λ (o : Outer g.row.B.Denot). g.B.ParseBuf.source o.buf) g.E.Endian.order c.args.reader.now in
    let new : ReaderState = state_of (λ (o : Outer g.row.B.Denot). g.B.ParseBuf.source o.buf) g.E.Endian.order c.read.new.self in
    let kind : ErrorKind = refusal_kind c.in_err-header.field-0.0 in
    let read = c.in_err-header.ensures.call in
    let up : c.from_residual.result ≡ Err c.in_err-header.field-0.0 = came_up _ _ c.from_residual.ensures in rw up (record {
      call = record {
        config = read.config;
        whole = read.whole;
        told = read.told;
        answer = λ told.
            let transition = read.answer told in
            let unread : IsTrue (of_layout kind) → (length old.source.left < 8) × (kind ≡ Eof) × (new.source.left ≡ []) = λ layout. header_unread old.order old.source.left new.source.left kind (quit_stopped old.order header_parts old.source.left new.source.left old.reads new.reads kind (transition.0 layout)).0 in (
              (
                (λ layout.
                    let q = quit_stopped old.order header_parts old.source.left new.source.left old.reads new.reads kind (transition.0 layout) in
                    let h = header_unread old.order old.source.left new.source.left kind q.0 in
                    tells_no_header record_value (answer_after old.settings old.order) (reads_after old.settings old.order) old new kind h.0 h.1 h.2 q.1 layout),
                (λ inside. no_header_within old.order old.source new.source kind unread transition.1 inside),
                (λ whole. (tt, (λ none. transition.1))),
              ),
              refuses_unread old.order old.source.left new.source.left kind unread transition.1,
            );
        keeps = read.keeps;
      };
    })

-- the header was read
pub returns : goal.returns
returns g c =
    let old : ReaderState = state_of (λ (o : Outer g.row.B.Denot). g.B.ParseBuf.source o.buf) g.E.Endian.order c.args.reader.now in
    let mid : ReaderState = state_of (λ (o : Outer g.row.B.Denot). g.B.ParseBuf.source o.buf) g.E.Endian.order c.read.new.self in
    let new : ReaderState = state_of (λ (o : Outer g.row.B.Denot). g.B.ParseBuf.source o.buf) g.E.Endian.order c.read_after.new.reader in
    let header = c.in_ok-header.header in
    let outcome : Result Record ErrorKind = kinds c.read_after.result in
    let read = c.in_ok-header.ensures.call in
    let rest = c.read_after.ensures.call in
    let after = c.read_after.ensures in
    let P : ParseConfig g.row.E.Denot → Type 0 = λ k. AnswersExactly record_value (answer_after (configuration_of k) (g.E.Endian.order (endian_of k)) header mid.source.left) (length_after header)
    (reads_after (configuration_of k) (g.E.Endian.order (endian_of k)) header mid.source.left) mid outcome new in record {
      call = record {
        config = rest.config ∙ read.config;
        whole = rest.whole ∙ read.whole;
        told = λ told. rest.told (read.told told);
        answer = λ told.
            let q = took_ran old.order header_parts old.source.left mid.source.left old.reads mid.reads header (read.answer told).0 in
            let h = header_read old.order old.source.left mid.source.left header q.0 in (
              (
                tells_frame record_value (answer_after old.settings old.order) (reads_after old.settings old.order) old mid new header outcome h.0 h.1 h.2 q.1 (subst P read.config (body_transition header mid new outcome (rest.answer (read.told told)))),
                (λ inside. frame_within old.order old.source mid.source new.source header h.0 h.1 h.2 (after.within (read.told told))),
                (λ whole. let still = subst IsTrue (sym read.whole) whole in (body_borrows_if header mid.source.whole c.read_after.result after.event still, (λ none. after.whole_memory still (ap (λ (k : perf_event_header). needs_memory k.type_) h.1 ∙ none)))),
              ),
              refuses_read old.order old.source.left header outcome h.0 h.1 (λ small. (after.small small).0),
            );
        keeps = λ start p. rest.keeps start (read.keeps start p);
      };
    }
