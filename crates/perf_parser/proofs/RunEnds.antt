-- How a run stops: inside a header, or by a fault; and what it keeps.
use Rattle.std.proofs.Common.{◌≡◌, ℕ, ◌+◌, ◌≤◌, List, [], ◌∷◌, ◌++◌, length, drop, arith, refl, sym, ◌∙◌, ap, subst, max, Ok, Err, None, Some, inr}
use Rattle.std.specs.Prelude.{IsTrue, Option, Result}
use Rattle.perf_base.specs.Configuration.{Configuration}
use Rattle.perf_base.specs.Errors.{kind_of}
use Rattle.perf_base.specs.Header.{header_of}
use Rattle.perf_base.specs.Order.{Order}
use Rattle.perf_base.specs.Refusals.{refusal_kind, kind_if_refused, error_kinds}
use Rattle.perf_base.specs.declared.error.ErrorKind.{ErrorKind}
use Rattle.perf_base.specs.declared.error.ErrorKind.TheVariants.{Eof, InvalidRecord, UnsupportedConfig, UnsupportedData, External, OutOfMemory}
use Rattle.perf_base.specs.declared.error.ParseError.{ParseError}
use Rattle.perf_base.specs.declared.refusal.Refusal.{Refusal}
use Rattle.perf_base.specs.declared.sys.perf_event_header.{perf_event_header}
use Rattle.perf_buffers.specs.Buffer.{Source, faults_after}
use Rattle.perf_buffers.specs.Taking.{MovesWithin}
use Rattle.perf_buffers.specs.declared.outer.Outer.{Outer}
use Rattle.perf_reader.specs.ReaderState as reader
use Rattle.perf_reader.specs.ReaderState.{ReaderState}
use Rattle.perf_reader.specs.declared.reader.Reader.{Reader}
use Rattle.perf_reader.specs.Calls.{Call}
use Rattle.perf_reader.specs.Reading.{Transition, CallInvariant, of_layout, one_if_refused, last_of}
use Rattle.perf_reader.proofs.Calls.{last_all, last_last}
use Rattle.perf_reader.proofs.Stops.{leaves, within_more}
use Rattle.perf_records.specs.Answers.{ReadsFrameAfter, length_after, answer_after, answer_of_frame, reads_after}
use Rattle.perf_records.specs.Frames.{frame_length}
use Rattle.perf_records.specs.declared.record.Record.{Record}
use Rattle.perf_records.proofs.Headers.{frame_body, after_frame, answer_whole}
use Rattle.perf_parser.specs.Runs.{Pairs, seen_answer, refused_count, listed_reads, RunInvariant}
use Rattle.perf_parser.specs.Steps.{StopsAt, IsListed}
use Rattle.perf_parser.specs.Runs.{one_if_ended, end_refusal}
use Rattle.perf_parser.specs.Steps.{stop_kind, stopped_by, StopsBetween, IsEndOf}
use Rattle.perf_parser.specs.declared.run.RunEnd.{RunEnd}
use Rattle.perf_reader.specs.declared.header.Stop.{Stop}
use Rattle.perf_reader.specs.declared.header.Stop.TheVariants as stop

-- ---- answers that are refusals are counted
one_more_refused : (pairs : Pairs) (h : perf_event_header) (r : Result Record ParseError) →
    refused_count (pairs ++ (h, r) ∷ []) ≡ refused_count pairs + one_if_refused (kind_if_refused (error_kinds r))
one_more_refused [] h (Ok r) = refl
one_more_refused [] h (Err e) = refl
one_more_refused (pair ∷ pairs) h r = go (one_more_refused pairs h r) (pair.1)
  where
    go : refused_count (pairs ++ (h, r) ∷ []) ≡ refused_count pairs + one_if_refused (kind_if_refused (error_kinds r)) → (s : Result Record ParseError) →
        refused_count ((pair.0, s) ∷ (pairs ++ (h, r) ∷ [])) ≡ refused_count ((pair.0, s) ∷ pairs) + one_if_refused (kind_if_refused (error_kinds r))
    go again (Ok s) = again
    go again (Err e) = omega (arith, again)

-- ---- how it stops

-- if the header was read, and the rest was not
pub stops_after : (old mid new : ReaderState) (h : perf_event_header) (r : Refusal) → (IsTrue (of_layout (refusal_kind r)) → ⊥) → 8 ≤ length old.source.left → h ≡ header_of old.order old.source.left →
    mid.source.left ≡ drop 8 old.source.left → MovesWithin mid.source (length_after h) new.source → StopsAt old (stop.Refused r) new
stops_after old mid new h r none fits e m within =
    let whole : frame_length old.order old.source.left ≡ 8 + length_after h = ap (λ (q : perf_event_header). max 8 q.size) (sym e) ∙ frame_body h in
    (none, leaves old.order old.source new.source (8 + length_after h) (omega arith) (within_more old.source mid.source new.source 8 (length_after h) (fits, m) within))

-- ---- if an allocation failed

-- after the header, exactly the frame was taken
pub stops_spent : (old mid new : ReaderState) (h : perf_event_header) (r : Refusal) → h ≡ header_of old.order old.source.left → mid.source.left ≡ drop 8 old.source.left →
    (refusal_kind r ≡ OutOfMemory → new.source.left ≡ drop (length_after h) mid.source.left) → StopsBetween old (stop.Refused r) new
stops_spent old mid new h r e m spent = λ kind. inr (after_frame old.order old.source.left mid.source.left new.source.left h e m (spent kind))

-- the kind of the end of a run is that of what stopped it
pub end_kind : (s : Stop) (e : RunEnd) → IsEndOf s e → end_refusal e ≡ Some OutOfMemory → stop_kind s ≡ OutOfMemory
end_kind stop.Done e is h = let never : ◌≡◌ {A = Option ErrorKind} None (Some OutOfMemory) = sym (ap end_refusal is) ∙ h in absurd (cc)
end_kind stop.CutHeader e is h = let never : ◌≡◌ {A = Option ErrorKind} None (Some OutOfMemory) = sym (ap end_refusal is) ∙ h in absurd (cc)
end_kind (stop.Refused r) e is h =
    let some : Some (kind_of is.0) ≡ Some OutOfMemory = sym (ap end_refusal is.1) ∙ h in
    let kind : kind_of is.0 ≡ OutOfMemory = cc in
    sym is.2.kind_is ∙ kind

-- ---- what is kept

-- a refusal of the layout counts no fault
no_fault : (a b : Source) (e : ErrorKind) → IsTrue (of_layout e) → b.faults ≡ faults_after a.faults (Some e) → b.faults ≡ a.faults
no_fault a b Eof h p = p
no_fault a b InvalidRecord h p = p
no_fault a b UnsupportedConfig h p = p
no_fault a b UnsupportedData h p = p
no_fault a b External h p = absurd (cc)
no_fault a b OutOfMemory h p = absurd (cc)

-- nothing was done, if some were refused before
pub run_none : (m : ReaderState) (n : ℕ) → RunInvariant m n None m
run_none m n = record {
  buffer = (refl, (λ c. c), refl, (λ t. t));
  fault = λ x. cc;
  cost = λ t. (omega arith, omega arith);
  place = λ t. (omega arith, sym (last_all m.source.left));
}

-- one call after others
pub run_more : (start old new : ReaderState) (n : ℕ) (e : Option ErrorKind) → RunInvariant start n None old → CallInvariant old e new → RunInvariant start (n + one_if_refused e) e new
run_more start old new n e p q = record {
  buffer = (
    q.buffer.0 ∙ p.buffer.0,
    (λ c. p.buffer.1 (q.buffer.1 c)),
    q.buffer.2 ∙ ap (λ k. faults_after k e) p.buffer.2,
    (λ t. q.buffer.3 (p.buffer.3 t)),
  );
  fault = λ x. p.buffer.1 (q.fault x);
  cost = λ t. let a = p.cost t in let b = q.cost (p.buffer.3 t) in (omega (arith, a.0, b.0), omega (arith, a.1, b.1));
  place = λ t. let a = p.place t in let b = q.place (p.buffer.3 t) in (
    omega (arith, a.0, b.0),
    b.1 ∙ ap (last_of (length new.source.left)) a.1 ∙ last_last (length new.source.left) (length old.source.left) start.source.left b.0 a.0,
  );
}

-- a run goes on after a refusal of the layout
pub run_on : (start new : ReaderState) (n : ℕ) (e : ErrorKind) → IsTrue (of_layout e) → RunInvariant start n (Some e) new → RunInvariant start n None new
run_on start new n e layout p = record {
  buffer = (p.buffer.0, p.buffer.1, no_fault start.source new.source e layout p.buffer.2, p.buffer.3);
  fault = λ x. cc;
  cost = p.cost;
  place = p.place;
}

-- a header that stopped it
pub run_stops : (start old new : ReaderState) (n : ℕ) (s : Stop) → RunInvariant start n None old → CallInvariant old (Some (stop_kind s)) new → RunInvariant start (n + 1) (stopped_by {A = perf_event_header} (Err s)) new
run_stops start old new n stop.Done p q = run_on start new (n + 1) Eof refl (run_more start old new n (Some Eof) p q)
run_stops start old new n stop.CutHeader p q = run_on start new (n + 1) Eof refl (run_more start old new n (Some Eof) p q)
run_stops start old new n (stop.Refused r) p q = run_more start old new n (Some (refusal_kind r)) p q

-- an answer that was listed
pub run_lists : (start old new : ReaderState) (pairs now : Pairs) (h : perf_event_header) (r : Result Record ParseError) → now ≡ pairs ++ (h, r) ∷ [] → IsListed r →
    RunInvariant start (refused_count pairs) None old → CallInvariant old (kind_if_refused (error_kinds r)) new → RunInvariant start (refused_count now + 0) None new
run_lists start old new pairs now h (Ok r) e listed p q =
    let sum : refused_count now + 0 ≡ refused_count pairs + 0 = omega (arith, ap refused_count e ∙ one_more_refused pairs h (Ok r)) in
    subst (λ (n : ℕ). RunInvariant start n None new) (sym sum) (run_more start old new (refused_count pairs) None p q)
run_lists start old new pairs now h (Err x) e listed p q =
    let sum : refused_count now + 0 ≡ refused_count pairs + 1 = omega (arith, ap refused_count e ∙ one_more_refused pairs h (Err x)) in
    subst (λ (n : ℕ). RunInvariant start n None new) (sym sum)
    (run_on start new (refused_count pairs + 1) (kind_of x) listed (run_more start old new (refused_count pairs) (Some (kind_of x)) p q))

-- ---- what is stated of an answer

pub said_frame : (old mid new : ReaderState) (h : perf_event_header) (r : Result Record ParseError) → 8 ≤ length old.source.left → h ≡ header_of old.order old.source.left →
    mid.settings ≡ old.settings → mid.order ≡ old.order → mid.source.left ≡ drop 8 old.source.left → mid.reads ≡ old.reads + 2 → IsListed r → ReadsFrameAfter h mid (error_kinds r) new →
    (seen_answer r ≡ answer_of_frame old.settings old.order old.source.left) × (new.source.left ≡ drop (frame_length old.order old.source.left) old.source.left)
    × (new.reads ≡ old.reads + listed_reads old.settings old.order old.source.left)
said_frame old mid new h r fits e same_settings same_order m count listed p =
    let transition = told_listed h mid new r listed p in
    let bytes : List ℕ = old.source.left in let c : Configuration = old.settings in let o : Order = old.order in
    let answer : answer_after mid.settings mid.order h mid.source.left ≡ answer_of_frame c o bytes =
    ap (λ k. answer_after k mid.order h mid.source.left) same_settings ∙ ap (λ k. answer_after c k h mid.source.left) same_order
    ∙ ap (answer_after c o h) m ∙ ap (λ k. answer_after c o k (drop 8 bytes)) e ∙ sym (answer_whole c o bytes fits) in
    let reads : reads_after mid.settings mid.order h mid.source.left ≡ reads_after c o (header_of o bytes) (drop 8 bytes) =
    ap (λ k. reads_after k mid.order h mid.source.left) same_settings ∙ ap (λ k. reads_after c k h mid.source.left) same_order
    ∙ ap (reads_after c o h) m ∙ ap (λ k. reads_after c o k (drop 8 bytes)) e in
    (sym transition.0 ∙ answer, after_frame o bytes mid.source.left new.source.left h e m transition.1, omega (arith, transition.2, count, reads))
  where
    told_listed : (h : perf_event_header) (mid new : ReaderState) (r : Result Record ParseError) → IsListed r → ReadsFrameAfter h mid (error_kinds r) new →
        (answer_after mid.settings mid.order h mid.source.left ≡ seen_answer r) × (new.source.left ≡ drop (length_after h) mid.source.left)
        × (new.reads ≡ mid.reads + reads_after mid.settings mid.order h mid.source.left)
    told_listed h mid new (Ok r) listed p = p
    told_listed h mid new (Err x) listed p = p listed

-- ---- the public end

-- a reader of which nothing that a run mentions has changed
pub same_state : {B E : Type 0} (source : B → Source) (order : E → Order) (a b : Reader (Outer B) E) → reader.buffer_of a ≡ reader.buffer_of b → reader.config_of a ≡ reader.config_of b →
    reader.reads_of a ≡ reader.reads_of b → reader.state_of (λ (o : Outer B). source o.buf) order a ≡ reader.state_of (λ (o : Outer B). source o.buf) order b
same_state source order a b buffer config reads = rw (buffer, config, reads) refl

-- a call of a reader of which only what its buffer keeps for later has changed since
pub same_call : {B E X : Type 0} (source : B → Source) (order : E → Order) (transition : Transition X) (old mid new : Reader (Outer B) E) (outcome : Result X ErrorKind) →
    reader.buffer_of new ≡ reader.buffer_of mid → reader.config_of new ≡ reader.config_of mid → reader.reads_of new ≡ reader.reads_of mid →
    Call (λ (o : Outer B). source o.buf) order transition old outcome mid → Call (λ (o : Outer B). source o.buf) order transition old outcome new
same_call source order transition old mid new outcome buffer config reads call =
    let same = same_state source order new mid buffer config reads in record {
      config = config ∙ call.config;
      whole = ap (λ b. (source b).whole) buffer ∙ call.whole;
      told = λ told. subst (λ b. IsTrue (source b).told) (sym buffer) (call.told told);
      answer = λ told. subst (λ m. transition (reader.state_of (λ o. source o.buf) order old) outcome m) (sym same) (call.answer told);
      keeps = λ start kept. subst (λ m. CallInvariant start (kind_if_refused outcome) m) (sym same) (call.keeps start kept);
    }

pub run_ends : (start new : ReaderState) (n : ℕ) (s : Stop) (e : RunEnd) → IsEndOf s e → RunInvariant start (n + 1) (stopped_by {A = Unit {0}} (Err s)) new → RunInvariant start (n + one_if_ended e) (end_refusal e) new
run_ends start new n stop.Done e is k = subst (λ (x : RunEnd). RunInvariant start (n + one_if_ended x) (end_refusal x) new) (sym is) k
run_ends start new n stop.CutHeader e is k = subst (λ (x : RunEnd). RunInvariant start (n + one_if_ended x) (end_refusal x) new) (sym is) k
run_ends start new n (stop.Refused r) e is k =
    subst (λ (x : RunEnd). RunInvariant start (n + one_if_ended x) (end_refusal x) new) (sym is.1) (subst (λ (kind : ErrorKind). RunInvariant start (n + 1) (Some kind) new) (sym is.2.kind_is) k)

pub run_limit : (start new : ReaderState) (n : ℕ) → RunInvariant start n None new → RunInvariant start (n + 0) None new
run_limit start new n k = let same : n + 0 ≡ n = omega arith in subst (λ (m : ℕ). RunInvariant start m None new) (sym same) k

pub run_limit_back : (start new : ReaderState) (n : ℕ) → RunInvariant start (n + 0) None new → RunInvariant start n None new
run_limit_back start new n k = let same : n + 0 ≡ n = omega arith in subst (λ (m : ℕ). RunInvariant start m None new) same k
