-- What a run does after a look at its buffer is what it does without it.
use Rattle.std.proofs.Common.{◌≡◌, ◌≤◌, ℕ, List, length, drop, arith, sym, ◌∙◌, ap, subst, Ok, Err}
use Rattle.std.specs.Prelude.{IfErr, Result}
use Rattle.perf_base.specs.Configured.{endian_of}
use Rattle.perf_base.specs.Header.{header_of}
use Rattle.perf_base.specs.Order.{Order}
use Rattle.perf_base.specs.declared.error.ErrorKind.{ErrorKind}
use Rattle.perf_base.specs.declared.refusal.Refusal.TheVariants as why
use Rattle.perf_base.specs.declared.sys.perf_event_header.{perf_event_header}
use Rattle.perf_buffers.specs.Buffer.{Source}
use Rattle.perf_buffers.specs.declared.outer.Outer.{Outer}
use Rattle.perf_reader.specs.Calls.{Call}
use Rattle.perf_reader.specs.ReaderState.{ReaderState, state_of}
use Rattle.perf_reader.specs.Reading.{last_of}
use Rattle.perf_reader.specs.declared.reader.Reader.{Reader}
use Rattle.perf_reader.proofs.Calls.{last_all}
use Rattle.perf_parser.specs.Runs.{MovesWithinFrame}
use Rattle.perf_parser.specs.Steps.{ReadsHeader, StopsAt, TakesNothing}
use Rattle.perf_reader.specs.declared.header.Stop.{Stop}
use Rattle.perf_reader.specs.declared.header.Stop.TheVariants as stop

module _ (old mid new : ReaderState) (order : mid.order ≡ old.order) (left : mid.source.left ≡ old.source.left) (reads : mid.reads ≡ old.reads) where
  -- how it stops
  pub looked_stops : (s : Stop) → StopsAt mid s new → StopsAt old s new
  looked_stops stop.Done p = (sym left ∙ p.0, p.1, omega (arith, p.2, reads))
  looked_stops stop.CutHeader p = let long : length mid.source.left ≡ length old.source.left = ap length left in (omega (arith, p.0, long), omega (arith, p.1, long), p.2, omega (arith, p.3, reads))
  looked_stops (stop.Refused r) p = (p.0, subst (λ (o : Order). MovesWithinFrame o old.source.left new.source.left) order (subst (λ (xs : List ℕ). MovesWithinFrame mid.order xs new.source.left) left p.1))

  -- the header that it reads
  pub looked_reads : (outcome : Result perf_event_header ErrorKind) → ReadsHeader mid outcome new → ReadsHeader old outcome new
  looked_reads (Ok h) p =
      (subst (λ (xs : List ℕ). 8 ≤ length xs) left p.0, p.1 ∙ ap (λ (o : Order). header_of o mid.source.left) order ∙ ap (header_of old.order) left, p.2 ∙ ap (drop 8) left, omega (arith, p.3, reads))
  looked_reads (Err e) p = tt

-- if there was no memory for an answer, and nothing was taken
pub room_stops : (old new : ReaderState) → new.source.left ≡ old.source.left → StopsAt old (stop.Refused why.OutOfMemory) new
room_stops old new same =
    let long : length new.source.left ≡ length old.source.left = ap length same in
    ((λ h. cc), (omega (arith, long), omega (arith, long), same ∙ sym (last_all old.source.left) ∙ ap (λ k. last_of k old.source.left) (sym long)))

-- what follows from why a call was refused
pub err_then : {X E : Type 0} (P Q : E → Type 0) (r : Result X E) → ((e : E) → P e → Q e) → IfErr r P → IfErr r Q
err_then P Q (Ok x) f p = tt
err_then P Q (Err e) f p = f e p

-- a look at the buffer and a header, in one call
pub looked_call : {B E : Type 0} (source : B → Source) (order : E → Order) (old mid new : Reader (Outer B) E) (outcome : Result perf_event_header ErrorKind) →
    Call (λ (o : Outer B). source o.buf) order TakesNothing old (Ok tt) mid → Call (λ (o : Outer B). source o.buf) order ReadsHeader mid outcome new → Call (λ (o : Outer B). source o.buf) order ReadsHeader old outcome new
looked_call {B} source order old mid new outcome look next =
    let state : Reader (Outer B) _ → ReaderState = state_of (λ (o : Outer B). source o.buf) order in record {
      config = next.config ∙ look.config;
      whole = next.whole ∙ look.whole;
      told = λ told. next.told (look.told told);
      answer = λ told. let same = look.answer told in looked_reads (state old) (state mid) (state new) (ap (λ k. order (endian_of k)) look.config) same.0 same.1 outcome (next.answer (look.told told));
      keeps = λ start kept. next.keeps start (look.keeps start kept);
    }
