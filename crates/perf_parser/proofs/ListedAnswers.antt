-- What is listed of a frame after its header.
use Rattle.std.proofs.Common.{◌≡◌, ◌∷◌, [], ◌++◌, Ok, Err, sym, subst, true}
use Rattle.std.specs.Prelude.{ℕ, IsTrue, Option, Result, IfErr, OnErr, OnOk, drop}
use Rattle.perf_base.specs.Order.{Order}
use Rattle.perf_base.specs.Refusals.{refusal_kind}
use Rattle.perf_base.specs.declared.error.ErrorKind.{ErrorKind}
use Rattle.perf_base.specs.declared.error.ErrorKind.TheVariants.{OutOfMemory}
use Rattle.perf_base.specs.declared.refusal.Refusal.{Refusal}
use Rattle.perf_base.specs.declared.sys.perf_event_header.{perf_event_header}
use Rattle.perf_buffers.specs.Buffer.{Source}
use Rattle.perf_buffers.specs.Room.{falls_short}
use Rattle.perf_buffers.specs.Taking.{MovesWithin}
use Rattle.perf_buffers.specs.declared.outer.Outer.{Outer}
use Rattle.perf_reader.specs.Calls.{Call}
use Rattle.perf_reader.specs.ReaderState.{buffer_of, config_of, reads_of}
use Rattle.perf_reader.specs.Reading.{of_layout}
use Rattle.perf_reader.specs.declared.reader.Reader.{Reader}
use Rattle.perf_records.specs.Records.{IsBorrowed}
use Rattle.perf_records.specs.declared.record.Record.{Record}
use Rattle.perf_parser.specs.Runs.{Pairs, ReadsFrameAfter, length_after}
use Rattle.perf_parser.specs.Steps.{ListsFrame, ListsRefused}
use Rattle.perf_parser.proofs.RunEnds.{same_call}

module _ {B E : Type 0} (source : B → Source) (hint : B → Option ℕ) (order : E → Order) (h : perf_event_header) (old mid : Reader (Outer B) E) (was now : Pairs)
    (within : IsTrue (source (buffer_of old)).told → MovesWithin (source (buffer_of old)) (length_after h) (source (buffer_of mid))) where
  -- a record
  pub lists_record : (x : Record) → (falls_short (hint (buffer_of old)) (length_after h) ≡ true → ⊥) → now ≡ was ++ (h, Ok x) ∷ [] → (IsTrue (source (buffer_of old)).whole → IsBorrowed x) →
      Call (λ (o : Outer B). source o.buf) order (ReadsFrameAfter h) old (Ok x) mid → ListsFrame source hint order h old mid was now (Ok tt)
  lists_record x enough pushed borrowed call = record {
    within = within;
    listed = (Ok x, pushed, borrowed, tt, call);
    short = λ lacks. absurd (enough lacks);
    kept = tt;
    stops = tt;
    spent = λ told whole. tt;
  }

  -- a frame that was refused, since when nothing but what the buffer keeps has changed
  module _ (new : Reader (Outer B) E) (r : Refusal) (call : Call (λ (o : Outer B). source o.buf) order (ReadsFrameAfter h) old (Err (refusal_kind r)) mid)
      (buf : buffer_of new ≡ buffer_of mid) (config : config_of new ≡ config_of mid) (reads : reads_of new ≡ reads_of mid) where
    still : IsTrue (source (buffer_of old)).told → MovesWithin (source (buffer_of old)) (length_after h) (source (buffer_of new))
    still = λ told. subst (λ b. MovesWithin (source (buffer_of old)) (length_after h) (source b)) (sym buf) (within told)

    called : Call (λ (o : Outer B). source o.buf) order (ReadsFrameAfter h) old (Err (refusal_kind r)) new
    called = same_call source order (ReadsFrameAfter h) old mid new (Err (refusal_kind r)) buf config reads call

    -- by the layout
    lists_refused : ListsRefused h r was now → ListsFrame source hint order h old new was now (Ok tt)
    lists_refused listed =
        let P : ErrorKind → Type 0 = λ k. Call (λ (o : Outer B). source o.buf) order (ReadsFrameAfter h) old (Err k) new in record {
          within = still;
          listed = (Err listed.0, listed.1, (λ whole. tt), subst (λ k. IsTrue (of_layout k)) (sym listed.2.kind_is) listed.3, subst P (sym listed.2.kind_is) called);
          short = λ lacks. (h, listed.0, listed.1);
          kept = tt;
          stops = tt;
          spent = λ told whole. tt;
        }

    -- otherwise
    lists_none : (e : Refusal) → (e ≡ r) × (IsTrue (of_layout (refusal_kind r)) → ⊥) → now ≡ was →
        (IsTrue (source (buffer_of old)).told → IsTrue (source (buffer_of old)).whole → refusal_kind r ≡ OutOfMemory → (source (buffer_of mid)).left ≡ drop (length_after h) (source (buffer_of old)).left) →
        ListsFrame source hint order h old new was now (Err e)
    lists_none e stops kept spent = subst (λ x. ListsFrame source hint order h old new was now (Err x)) (sym stops.0) (record {
      within = still;
      listed = tt;
      short = λ lacks. tt;
      kept = kept;
      stops = (stops.1, called);
      spent = λ told whole kind. subst (λ b. (source b).left ≡ drop (length_after h) (source (buffer_of old)).left) (sym buf) (spent told whole kind);
    })

    -- whichever it was
    pub lists_rest : (outcome : Result (Unit {0}) Refusal) → OnOk outcome (ListsRefused h r was now) → IfErr outcome (λ e. (e ≡ r) × (IsTrue (of_layout (refusal_kind r)) → ⊥)) → OnErr outcome (now ≡ was) →
        (IsTrue (source (buffer_of old)).told → IsTrue (source (buffer_of old)).whole → refusal_kind r ≡ OutOfMemory → (source (buffer_of mid)).left ≡ drop (length_after h) (source (buffer_of old)).left) →
        ListsFrame source hint order h old new was now outcome
    lists_rest (Ok tt) listed stops kept spent = lists_refused listed
    lists_rest (Err e) listed stops kept spent = lists_none e stops kept spent
