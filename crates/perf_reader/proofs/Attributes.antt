-- The groups of an attribute's fields, one after another, are its layout.
use Rattle.std.proofs.Common.{◌≡◌, ℕ, ◌-◌, List, drop, ◌∙◌, sym, ap, subst, arith}
use Rattle.std.specs.Prelude.{Result, Ok, Err}
use Rattle.perf_base.specs.Attribute.{attribute, zero_tail}
use Rattle.perf_base.specs.Layout.{Parts, done, ◌>>=◌}
use Rattle.perf_base.specs.Order.{Order}
use Rattle.perf_base.specs.Run.{Ran, ran, stopped, run_by_spots}
use Rattle.perf_base.specs.Took.{took, with_reads, took_by_places}
use Rattle.perf_base.specs.declared.error.ErrorKind.{ErrorKind}
use Rattle.perf_base.specs.declared.sys.perf_event_attr.{perf_event_attr}
use Rattle.perf_base.proofs.AttributeSizes.{ends}
use Rattle.perf_base.proofs.Bridge.{bridge}
use Rattle.perf_base.proofs.Tables.{run_layout}
use Rattle.perf_buffers.specs.Buffer.{Source}
use Rattle.perf_reader.specs.AttributeGroups.{front, event_fields, wakeup_fields, register_fields, aux_fields, last_fields, attribute_of}
use Rattle.perf_reader.specs.Calls.{Call}
use Rattle.perf_reader.specs.Reading.{Reads}
use Rattle.perf_reader.specs.declared.attribute.Front.{Front}
use Rattle.perf_reader.specs.declared.attribute.EventFields.{EventFields}
use Rattle.perf_reader.specs.declared.attribute.WakeupFields.{WakeupFields}
use Rattle.perf_reader.specs.declared.attribute.RegisterFields.{RegisterFields}
use Rattle.perf_reader.specs.declared.attribute.AuxFields.{AuxFields}
use Rattle.perf_reader.specs.declared.attribute.LastFields.{LastFields}
use Rattle.perf_reader.specs.declared.reader.Reader.{Reader}
use Rattle.perf_reader.proofs.After.{call_after, call_stops, call_none}

-- what follows each group
abbrev after_last : Front → EventFields → WakeupFields → RegisterFields → AuxFields → LastFields → Parts perf_event_attr
after_last f a b c d e = zero_tail (f.size - 136) >>= λ _. done (attribute_of f a b c d e)

abbrev after_aux : Front → EventFields → WakeupFields → RegisterFields → AuxFields → Parts perf_event_attr
after_aux f a b c d = last_fields f.size >>= after_last f a b c d

abbrev after_registers : Front → EventFields → WakeupFields → RegisterFields → Parts perf_event_attr
after_registers f a b c = aux_fields f.size >>= after_aux f a b c

abbrev after_wakeup : Front → EventFields → WakeupFields → Parts perf_event_attr
after_wakeup f a b = register_fields f.size >>= after_registers f a b

abbrev after_event : Front → EventFields → Parts perf_event_attr
after_event f a = wakeup_fields f.size >>= after_wakeup f a

abbrev after_front : Front → Parts perf_event_attr
after_front f = event_fields >>= after_event f

-- the size at which an attribute ends
pub takes_its_size : (o : Order) (bytes left : List ℕ) (n m : ℕ) (a : perf_event_attr) → took_by_places o attribute bytes n ≡ took a left m → left ≡ drop a.size bytes
unfolding took_by_places
takes_its_size o bytes left n m a h =
    let run = go (run_by_spots o bytes 0 attribute) _ h in
    let read = run_layout o attribute bytes a left (bridge o bytes 0 attribute (omega arith) ∙ run) in
    sym read.1 ∙ ap (λ k. drop k bytes) (ends o bytes a read.0)
  where
    go : (r : Ran perf_event_attr) (k : ℕ) → with_reads r k ≡ took a left m → r ≡ ran a left
    go (ran v l) k e = let same : v ≡ a = cc in let same' : l ≡ left = cc in cc
    go (stopped x l) k e = absurd (cc)

-- ---- the calls that read the groups
abbrev Made : {I E A : Type 0} → (I → Source) → (E → Order) → Parts A → Reader I E → Result A ErrorKind → Reader I E → Type 0
Made source order p a outcome b = Call source order (Reads (λ _. p) (λ v. v)) a outcome b

module _ {I E : Type 0} {source : I → Source} {order : E → Order} where
  module _ {a b : Reader I E} {e : ErrorKind} where
    pub front_stops : Made source order front a (Err e) b → Made source order attribute a (Err e) b
    front_stops = call_stops (λ _. front) (λ _. after_front)

    pub event_stops : (f : Front) → Made source order event_fields a (Err e) b → Made source order (after_front f) a (Err e) b
    event_stops f = call_stops (λ _. event_fields) (λ _. after_event f)

    pub wakeup_stops : (f : Front) (v : EventFields) → Made source order (wakeup_fields f.size) a (Err e) b → Made source order (after_event f v) a (Err e) b
    wakeup_stops f v = call_stops (λ _. wakeup_fields f.size) (λ _. after_wakeup f v)

    pub registers_stop : (f : Front) (v : EventFields) (w : WakeupFields) → Made source order (register_fields f.size) a (Err e) b → Made source order (after_wakeup f v w) a (Err e) b
    registers_stop f v w = call_stops (λ _. register_fields f.size) (λ _. after_registers f v w)

    pub aux_stops : (f : Front) (v : EventFields) (w : WakeupFields) (r : RegisterFields) → Made source order (aux_fields f.size) a (Err e) b → Made source order (after_registers f v w r) a (Err e) b
    aux_stops f v w r = call_stops (λ _. aux_fields f.size) (λ _. after_aux f v w r)

    pub last_stops : (f : Front) (v : EventFields) (w : WakeupFields) (r : RegisterFields) (x : AuxFields) → Made source order (last_fields f.size) a (Err e) b → Made source order (after_aux f v w r x) a (Err e) b
    last_stops f v w r x = call_stops (λ _. last_fields f.size) (λ _. after_last f v w r x)

    pub tail_stops : (f : Front) (v : EventFields) (w : WakeupFields) (r : RegisterFields) (x : AuxFields) (y : LastFields) (n : ℕ) → n ≡ f.size - 136 →
        Call source order (Reads (λ _. zero_tail n) (λ (_ : Unit {0}). tt)) a (Err e) b → Made source order (after_last f v w r x y) a (Err e) b
    tail_stops f v w r x y n same call =
        call_stops (λ _. zero_tail (f.size - 136)) (λ _ _. done (attribute_of f v w r x y))
        (subst (λ k. Call source order (Reads (λ _. zero_tail k) (λ (_ : Unit {0}). tt)) a (Err e) b) same call)

  module _ {a b c : Reader I E} {outcome : Result perf_event_attr ErrorKind} where
    pub front_read : (f : Front) → Made source order front a (Ok f) b → Made source order (after_front f) b outcome c → Made source order attribute a outcome c
    front_read f = call_after (λ _. front) (λ _. after_front)

    pub event_read : (f : Front) (v : EventFields) → Made source order event_fields a (Ok v) b → Made source order (after_event f v) b outcome c → Made source order (after_front f) a outcome c
    event_read f v = call_after (λ _. event_fields) (λ _. after_event f)

    pub wakeup_read : (f : Front) (v : EventFields) (w : WakeupFields) → Made source order (wakeup_fields f.size) a (Ok w) b → Made source order (after_wakeup f v w) b outcome c → Made source order (after_event f v) a outcome c
    wakeup_read f v w = call_after (λ _. wakeup_fields f.size) (λ _. after_wakeup f v)

    pub registers_read : (f : Front) (v : EventFields) (w : WakeupFields) (r : RegisterFields) → Made source order (register_fields f.size) a (Ok r) b → Made source order (after_registers f v w r) b outcome c →
        Made source order (after_wakeup f v w) a outcome c
    registers_read f v w r = call_after (λ _. register_fields f.size) (λ _. after_registers f v w)

    pub aux_read : (f : Front) (v : EventFields) (w : WakeupFields) (r : RegisterFields) (x : AuxFields) → Made source order (aux_fields f.size) a (Ok x) b → Made source order (after_aux f v w r x) b outcome c →
        Made source order (after_registers f v w r) a outcome c
    aux_read f v w r x = call_after (λ _. aux_fields f.size) (λ _. after_aux f v w r)

    pub last_read : (f : Front) (v : EventFields) (w : WakeupFields) (r : RegisterFields) (x : AuxFields) (y : LastFields) → Made source order (last_fields f.size) a (Ok y) b → Made source order (after_last f v w r x y) b outcome c →
        Made source order (after_aux f v w r x) a outcome c
    last_read f v w r x y = call_after (λ _. last_fields f.size) (λ _. after_last f v w r x)

  pub tail_read : {a b : Reader I E} {u : Unit {0}} (f : Front) (v : EventFields) (w : WakeupFields) (r : RegisterFields) (x : AuxFields) (y : LastFields) (n : ℕ) → n ≡ f.size - 136 →
      Call source order (Reads (λ _. zero_tail n) (λ (_ : Unit {0}). tt)) a (Ok u) b → Made source order (after_last f v w r x y) a (Ok (attribute_of f v w r x y)) b
  tail_read {a} {b} {u} f v w r x y n same call =
      call_after (λ _. zero_tail (f.size - 136)) (λ _ _. done (attribute_of f v w r x y))
      (subst (λ k. Call source order (Reads (λ _. zero_tail k) (λ (_ : Unit {0}). tt)) a (Ok u) b) same call) (call_none {show = λ v. v})
