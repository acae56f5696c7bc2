use Rattle.std.proofs.Common.{arith, ◌≡◌, ℕ, ◌-◌, List, ◌++◌, ◌∙◌, sym, ap, length, take, drop}
use Rattle.std.proofs.lemmas.List.{drop-drop, length-drop}
use Rattle.std.proofs.Math.Seq.{take-add}
use Rattle.perf_base.specs.Configured.{endian_of}
use Rattle.perf_base.specs.Header.{header_of}
use Rattle.perf_base.specs.Order.{Order}
use Rattle.perf_reader.specs.ReaderState.{ReaderState, state_of}
use Rattle.perf_reader.proofs.HeaderAtOnce.{header_front}
use Rattle.perf_reader.proofs.Stops.{taken, stops_first, stops_others}
use Rattle.perf_reader.proofs.reader.Reader.read_header_in_two.Goals as goal

pub returns-in-Err-clause-stop : goal.returns-in-Err-clause-stop
returns-in-Err-clause-stop g c = λ told.
    stops_first (state_of g.I.Input.source g.E.Endian.order c.args.self.now) (state_of g.I.Input.source g.E.Endian.order c.read_array.new.self)
    c.in-Err.refusal c.stop_at.result c.stop_at.ensures.eof c.stop_at.ensures.other
    (c.in-Err.ensures.call.answer told) (c.in-Err.ensures.within told)

pub returns-in-Err-read_array-clause-stop : goal.returns-in-Err-read_array-clause-stop
returns-in-Err-read_array-clause-stop g c = λ told.
    let one = c.in-Ok.ensures.call in let others = c.in-Err-read_array.ensures in
    stops_others (state_of g.I.Input.source g.E.Endian.order c.args.self.now) (state_of g.I.Input.source g.E.Endian.order c.read_array.new.self)
    (state_of g.I.Input.source g.E.Endian.order c.read_array-2.new.self) c.in-Err-read_array.refusal c.stop_at-in-Err-read_array.result c.in-Ok.bytes
    c.stop_at-in-Err-read_array.ensures.eof c.stop_at-in-Err-read_array.ensures.other
    (one.answer told) (others.call.answer (one.told told)) (others.within (one.told told))

pub returns-clause-call : goal.returns-clause-call
returns-clause-call g c =
    let old : ReaderState = state_of g.I.Input.source g.E.Endian.order c.args.self.now in
    let mid : ReaderState = state_of g.I.Input.source g.E.Endian.order c.read_array.new.self in
    let new : ReaderState = state_of g.I.Input.source g.E.Endian.order c.read_array-2.new.self in
    let one = c.in-Ok.ensures.call in let others = c.in-Ok-read_array.ensures.call in record {
      config = others.config ∙ one.config;
      whole = others.whole ∙ one.whole;
      told = λ told. others.told (one.told told);
      answer = λ told.
          let a = taken old.order 1 old.source.left c.in-Ok.bytes mid.source.left old.reads mid.reads (omega arith) (one.answer told) in
          let b = taken mid.order 7 mid.source.left c.in-Ok-read_array.bytes new.source.left mid.reads new.reads (omega arith) (others.answer (one.told told)) in
          let left : length mid.source.left ≡ length old.source.left - 1 = ap length a.2 ∙ length-drop 1 old.source.left in
          let eight : c.in-Ok.bytes ++ c.in-Ok-read_array.bytes ≡ take 8 old.source.left =
          ap (λ (xs : List ℕ). xs ++ c.in-Ok-read_array.bytes) a.1 ∙ ap (λ (xs : List ℕ). take 1 old.source.left ++ xs) (b.1 ∙ ap (take 7) a.2) ∙ sym (take-add 1 7 old.source.left) in
          let order : g.E.Endian.order c.endian.result.now ≡ old.order = ap g.E.Endian.order (c.endian.ensures ∙ ap endian_of (others.config ∙ one.config)) in
          let head : c.header_from.result ≡ header_of old.order old.source.left =
          c.header_from.ensures ∙ ap (λ (o : Order). header_of o (c.in-Ok.bytes ++ c.in-Ok-read_array.bytes)) order ∙ ap (header_of old.order) eight ∙ sym (header_front old.order old.source.left) in
          (omega (arith, a.0, b.0, left), head, b.2 ∙ ap (drop 7) a.2 ∙ drop-drop 7 1 old.source.left, omega (arith, a.3, b.3));
      keeps = λ start k. others.keeps start (one.keeps start k);
    }
