use Rattle.std.proofs.Common.{◌≡◌, ◌-◌, ℕ, length, None, Some, refl, sym, ◌∙◌, ap, arith}
use Rattle.std.proofs.lemmas.List.{drop_all}
use Rattle.perf_base.specs.Refusals.{refusal_kind}
use Rattle.perf_base.specs.declared.error.ErrorKind.{ErrorKind}
use Rattle.perf_base.specs.declared.error.ErrorKind.TheVariants.{Eof, InvalidRecord, UnsupportedConfig, UnsupportedData, External, OutOfMemory}
use Rattle.perf_buffers.specs.Buffer.{Source}
use Rattle.perf_buffers.specs.Taking.{FailsToTake, MovesWithin}
use Rattle.perf_reader.specs.ReaderState.{ReaderState, state_of}
use Rattle.perf_reader.proofs.Calls.{array_keeps, within_taken}
use Rattle.perf_reader.proofs.Steps.{run_there, array_short}
use Rattle.perf_reader.proofs.reader.Reader.read_array.Goals as goal

pub returns-in-Ok-clause-call : goal.returns-in-Ok-clause-call
returns-in-Ok-clause-call g c =
    let old : ReaderState = state_of g.I.Input.source g.E.Endian.order c.args.self.now in
    let new : ReaderState = record { settings = old.settings; order = old.order; source = g.I.Input.source c.take_array.new.input; reads = c.tick.new.self } in
    let e = c.in-Ok.ensures in record {
      config = refl;
      whole = e.stays.0;
      told = e.stays.3;
      answer = λ told. let t = e.ok told in rw (t.1, t.0.1, c.tick.ensures) (run_there old.order g.row.N old.source.left old.reads c.requires t.0.0);
      keeps = λ start p. array_keeps start old new g.row.N None p c.requires c.tick.ensures e.stays e.can_fail (λ told. (e.ok told).0);
    }

pub returns-in-Err-clause-call : goal.returns-in-Err-clause-call
returns-in-Err-clause-call g c =
    let old : ReaderState = state_of g.I.Input.source g.E.Endian.order c.args.self.now in
    let new : ReaderState = record { settings = old.settings; order = old.order; source = g.I.Input.source c.take_array.new.input; reads = c.tick.new.self } in
    let e = c.in-Err.ensures in record {
      config = refl;
      whole = e.stays.0;
      told = e.stays.3;
      answer = λ told kind. array_short old.order g.row.N old.source new.source (refusal_kind c.in-Err.refusal) old.reads new.reads (e.err told) c.tick.ensures kind;
      keeps = λ start p. array_keeps start old new g.row.N (Some (refusal_kind c.in-Err.refusal)) p c.requires c.tick.ensures e.stays e.can_fail (λ told. e.err told);
    }

-- what a refused read took is within the bytes that it was to take
within_refused : (old new : Source) (n : ℕ) (e : ErrorKind) → FailsToTake old n e new → MovesWithin old n new
within_refused old new n Eof p =
    let none : length new.left ≡ 0 = ap length p.1 in
    (omega (arith, p.0), (omega arith, p.1 ∙ sym (drop_all (length old.left - length new.left) old.left (omega arith))))
within_refused old new n External p = p
within_refused old new n InvalidRecord p = absurd p
within_refused old new n UnsupportedConfig p = absurd p
within_refused old new n UnsupportedData p = absurd p
within_refused old new n OutOfMemory p = absurd p

pub returns-in-Ok-clause-within : goal.returns-in-Ok-clause-within
returns-in-Ok-clause-within g c = λ told.
    within_taken (g.I.Input.source c.args.self.now.input) (g.I.Input.source c.take_array.new.input) g.row.N (c.in-Ok.ensures.ok told).0

pub returns-in-Err-clause-within : goal.returns-in-Err-clause-within
returns-in-Err-clause-within g c = λ told.
    within_refused (g.I.Input.source c.args.self.now.input) (g.I.Input.source c.take_array.new.input) g.row.N (refusal_kind c.in-Err.refusal) (c.in-Err.ensures.err told)
