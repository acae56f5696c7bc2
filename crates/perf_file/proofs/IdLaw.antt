-- The id of a frame by its place.
use Rattle.std.specs.Prelude.{if◌then◌else◌, option_map, nat_le, nat_lt, ◌==◌, ◌&&◌, ◌||◌, not}
use Rattle.std.proofs.Common.{◌≡◌, ℕ, zero, suc, ◌+◌, ◌-◌, ◌*◌, ◌≤◌, ◌<◌, Bool, true, false, List, [], ◌∷◌, length, take, drop, Some, None, Ok, Err, Result, Option, refl, sym, ◌∙◌, ap, subst, arith}
use Rattle.std.proofs.lemmas.Bool.{le-leb, lt-ltb, eqb-true}
use Rattle.std.proofs.lemmas.List.{length-drop, length-map, drop-drop}
use Rattle.perf_base.specs.Configuration.{Configuration, configured_by}
use Rattle.perf_base.specs.Dynamic.{order_of}
use Rattle.perf_base.specs.Layout.{slice}
use Rattle.perf_base.specs.Order.{Order}
use Rattle.perf_base.specs.declared.sys.perf_event_attr.{perf_event_attr}
use Rattle.perf_base.specs.declared.sys.perf_event_header.{perf_event_header}
use Rattle.perf_records.specs.Answers.{id_bytes}
use Rattle.perf_records.specs.FrameNumbers.{IsRead, IsIdentifierRead, eight_at, bytes_of, id_field, identifier_field, id_in, identifier_in, event_field, field_bytes}
use Rattle.perf_records.specs.Metadata.{carries_sample_id, id_length}
use Rattle.perf_records.proofs.FrameNumbers.{id_read, identifier_read}
use Rattle.perf_records.proofs.IdNumbers.{there}
use Rattle.perf_sample_types.specs.SampleGetters.{getters_of}
use Rattle.perf_sample_types.specs.SampleId.{one_if, sample_id_flags}
use Rattle.perf_words.specs.Bits.{has_bit}
use Rattle.perf_file.specs.DecidingIds.{IsLongEnough, DecidingIdIsRead}
use Rattle.perf_file.specs.Entries.{event_at}
use Rattle.perf_sections.specs.IdPlaces.{field_size, if_at_end, place_of_id, id_place, is_same_place, first_place, all_at, checked_places, number_if, id_at}
use Rattle.perf_sections.specs.Opened.{FileEvent, attributes_of}
use Rattle.perf_file.specs.Owners.{first_has_ids, id_if}
use Rattle.perf_sections.specs.declared.error.OpenError.{OpenError}
use Rattle.perf_sections.specs.declared.error.OpenError.TheVariants.{NoIdPlace}
use Rattle.perf_sections.specs.declared.id_place.IdPlace.{IdPlace}

-- ---- two tests

both_left : (a b : Bool) → a && b ≡ true → a ≡ true
both_left true b e = refl
both_left false b e = absurd (cc)

both_right : (a b : Bool) → a && b ≡ true → b ≡ true
both_right true b e = e
both_right false b e = absurd (cc)

neither_left : (a b : Bool) → a || b ≡ false → a ≡ false
neither_left false b e = refl
neither_left true b e = absurd (cc)

neither_right : (a b : Bool) → a || b ≡ false → b ≡ false
neither_right false b e = e
neither_right true b e = absurd (cc)

-- ---- numbers at their places

number_is : (o : Order) (bytes : List ℕ) (p : ℕ) → number_if o bytes p ≡ option_map o.eight (eight_at bytes p)
number_is o bytes p = by (nat_le (p + 8) (length bytes))
  where
    by : (b : Bool) → (if b then Some (o.eight (slice bytes p 8)) else None) ≡ option_map o.eight (if b then Some (slice bytes p 8) else None)
    by true = refl
    by false = refl

-- the same eight bytes, from the end and inside the last L bytes
from_end_is : (bytes : List ℕ) (L q f : ℕ) → L ≡ q + f → 8 ≤ f → L ≤ length bytes → eight_at (drop (length bytes - L) bytes) q ≡ eight_at bytes (length bytes - f)
from_end_is bytes L q f sum some fits =
    let inner : List ℕ = drop (length bytes - L) bytes in
    let a : eight_at inner q ≡ Some (slice inner q 8) = there inner q (omega (arith, length-drop (length bytes - L) bytes)) in
    let b : eight_at bytes (length bytes - f) ≡ Some (slice bytes (length bytes - f) 8) = there bytes (length bytes - f) (omega arith) in
    let k : length bytes - L + q ≡ length bytes - f = omega arith in
    let same : slice inner q 8 ≡ slice bytes (length bytes - f) 8 = ap (take 8) (drop-drop q (length bytes - L) bytes ∙ ap (λ n. drop n bytes) k) in
    a ∙ ap Some same ∙ sym b

eight_if : (b : Bool) → (if b then 8 else 0) ≡ 8 * one_if b
eight_if true = refl
eight_if false = refl

-- ---- a frame of the kernel's that is no SAMPLE

carries : (type : ℕ) → type < 64 → (type == 9) ≡ false → carries_sample_id type ≡ true
carries type small other = let below : nat_lt type 64 ≡ true = lt-ltb type 64 small in rw (below, other) refl

-- ---- the place of each event is that of the first

same_place : (x y : Option IdPlace) → is_same_place x y ≡ true → x ≡ y
same_place None y same = absurd (cc)
same_place (Some p) None same = absurd (cc)
same_place (Some p) (Some q) same =
    let a = eqb-true p.in_sample q.in_sample (both_left (p.in_sample == q.in_sample) (p.from_end == q.from_end) same) in
    let b = eqb-true p.from_end q.from_end (both_right (p.in_sample == q.in_sample) (p.from_end == q.from_end) same) in
    (λ i. Some (record { in_sample = a i; from_end = b i }))

each_place : (place : Option IdPlace) (es : List FileEvent) (n : ℕ) (e : FileEvent) → all_at place (attributes_of es) ≡ true → event_at es n ≡ Some e → is_same_place place (id_place (configured_by e.attribute)) ≡ true
each_place place [] n e all is = absurd (cc)
each_place place (x ∷ es) zero e all is =
    let same : x ≡ e = cc in
    subst (λ (y : FileEvent). is_same_place place (id_place (configured_by y.attribute)) ≡ true) same
    (both_left (is_same_place place (id_place (configured_by x.attribute))) (all_at place (attributes_of es)) all)
each_place place (x ∷ es) (suc n) e all is =
    each_place place es n e (both_right (is_same_place place (id_place (configured_by x.attribute))) (all_at place (attributes_of es)) all) is

checked_all : (attributes : List perf_event_attr) → nat_lt (length attributes) 2 ≡ false → checked_places attributes ≡ Ok tt → all_at (first_place attributes) attributes ≡ true
checked_all attributes many is = by (nat_lt (length attributes) 2) (all_at (first_place attributes) attributes) many is
  where
    by : (few all : Bool) → few ≡ false → ◌≡◌ {A = Result (Unit {0}) OpenError} (if few then Ok tt else (if all then Ok tt else Err NoIdPlace)) (Ok tt) → all ≡ true
    by true all many is = absurd (cc)
    by false true many is = refl
    by false false many is = absurd (cc)

-- ---- how far before the end it is

end_some : (c : Configuration) (p : IdPlace) → id_place c ≡ Some p → c.sample_id_all ≡ true → 8 ≤ p.from_end
end_some c p is all = by (has_bit c.sample_type 16) (has_bit c.sample_type 6) is
  where
    by : (identifier id : Bool) → ◌≡◌ {A = Option IdPlace} (if identifier then Some (record { in_sample = 0; from_end = if_at_end c 8 }) else (if id then Some (place_of_id c c.sample_type) else None)) (Some p) → 8 ≤ p.from_end
    by true id e =
        let same : if_at_end c 8 ≡ p.from_end = ap (λ (q : Option IdPlace). elim q [ Some r ↦ r.from_end | None ↦ 0 ]) e in
        let eight : if_at_end c 8 ≡ 8 = rw all refl in omega (arith, same, eight)
    by false true e =
        let same : (place_of_id c c.sample_type).from_end ≡ p.from_end = ap (λ (q : Option IdPlace). elim q [ Some r ↦ r.from_end | None ↦ 0 ]) e in
        let more : (place_of_id c c.sample_type).from_end ≡ 8 + field_size c.sample_type 9 + field_size c.sample_type 7 = rw all refl in omega (arith, same, more)
    by false false e = absurd (cc)

end_none : (c : Configuration) (p : IdPlace) → id_place c ≡ Some p → c.sample_id_all ≡ false → p.from_end ≡ 0
end_none c p is none = by (has_bit c.sample_type 16) (has_bit c.sample_type 6) is
  where
    by : (identifier id : Bool) → ◌≡◌ {A = Option IdPlace} (if identifier then Some (record { in_sample = 0; from_end = if_at_end c 8 }) else (if id then Some (place_of_id c c.sample_type) else None)) (Some p) → p.from_end ≡ 0
    by true id e =
        let same : if_at_end c 8 ≡ p.from_end = ap (λ (q : Option IdPlace). elim q [ Some r ↦ r.from_end | None ↦ 0 ]) e in
        let nothing : if_at_end c 8 ≡ 0 = rw none refl in omega (arith, same, nothing)
    by false true e =
        let same : (place_of_id c c.sample_type).from_end ≡ p.from_end = ap (λ (q : Option IdPlace). elim q [ Some r ↦ r.from_end | None ↦ 0 ]) e in
        let nothing : (place_of_id c c.sample_type).from_end ≡ 0 = rw none refl in omega (arith, same, nothing)
    by false false e = absurd (cc)

-- events with one place have sample ids alike
alike : (c d : Configuration) (p : IdPlace) → id_place c ≡ Some p → id_place d ≡ Some p → c.sample_id_all ≡ true → d.sample_id_all ≡ true
alike c d p one two all = by d.sample_id_all refl
  where
    by : (b : Bool) → d.sample_id_all ≡ b → b ≡ true
    by true e = refl
    by false e = absurd (omega (arith, end_some c p one all, end_none d p two e))

-- ---- IDENTIFIER

identifier_is : (c : Configuration) (o : Order) (h : perf_event_header) (bytes : List ℕ) → has_bit c.sample_type 16 ≡ true → IsLongEnough c h bytes → ((h.type_ == 9) ≡ false → c.sample_id_all ≡ true) →
    id_at o (record { in_sample = 0; from_end = if_at_end c 8 }) h.type_ bytes ≡ identifier_in o h bytes
identifier_is c o h bytes set long ends = by (h.type_ == 9) refl
  where
    by : (nine : Bool) → (h.type_ == 9) ≡ nine → id_at o (record { in_sample = 0; from_end = if_at_end c 8 }) h.type_ bytes ≡ identifier_in o h bytes
    by true e = rw e (number_is o bytes 0)
    by false e =
        let all = ends e in
        let below : nat_lt h.type_ 64 ≡ true = lt-ltb h.type_ 64 long.kernel in
        let carry = carries h.type_ long.kernel e in
        let len : id_length c h.type_ ≡ 8 * sample_id_flags c.sample_type = rw (carry, all) refl in
        let one : one_if (has_bit c.sample_type 16) ≡ 1 = ap one_if set in
        let room : nat_le 8 (length bytes) ≡ true = le-leb 8 (length bytes) (omega (arith, len, one, long.long)) in
        rw (e, all, below, room) (number_is o bytes (length bytes - 8))

-- ---- ID

chosen : {A : Type 0} (present nine fits : Bool) (x y : Option A) → present ≡ true → nine ≡ false → fits ≡ true → (if present then (if nine then x else (if fits then y else None)) else None) ≡ y
chosen true false true x y a b d = refl
chosen false nine fits x y a b d = absurd (cc)
chosen true true fits x y a b d = absurd (cc)
chosen true false false x y a b d = absurd (cc)

chosen_sample : {A : Type 0} (present nine fits : Bool) (x y : Option A) → present ≡ true → nine ≡ true → (if present then (if nine then x else (if fits then y else None)) else None) ≡ x
chosen_sample true true fits x y a b = refl
chosen_sample false nine fits x y a b = absurd (cc)
chosen_sample true false fits x y a b = absurd (cc)

id_is : (c : Configuration) (o : Order) (h : perf_event_header) (bytes : List ℕ) → has_bit c.sample_type 16 ≡ false → has_bit c.sample_type 6 ≡ true → IsLongEnough c h bytes → ((h.type_ == 9) ≡ false → c.sample_id_all ≡ true) →
    id_at o (place_of_id c c.sample_type) h.type_ bytes ≡ id_in c o h bytes
id_is c o h bytes none id long ends = by (h.type_ == 9) refl
  where
    t : ℕ
    t = c.sample_type

    field : event_field t ≡ id_field
    field = ap (λ (b : Bool). if b then id_field else identifier_field) id

    by : (nine : Bool) → (h.type_ == 9) ≡ nine → id_at o (place_of_id c t) h.type_ bytes ≡ id_in c o h bytes
    by true e =
        let none' : one_if (has_bit t 16) ≡ 0 = ap one_if none in
        let place : (place_of_id c t).in_sample ≡ bytes_of t id_field.in_sample = omega (arith, none', eight_if (has_bit t 0), eight_if (has_bit t 1), eight_if (has_bit t 2), eight_if (has_bit t 3)) in
        let here : field_bytes c id_field h bytes ≡ eight_at bytes (bytes_of t id_field.in_sample) = chosen_sample (has_bit t 6) (h.type_ == 9) (nat_le (id_length c h.type_) (length bytes)) (eight_at bytes (bytes_of t id_field.in_sample)) (eight_at (id_bytes c h bytes) (bytes_of t id_field.in_id)) id e in
        let lhs : id_at o (place_of_id c t) h.type_ bytes ≡ number_if o bytes (place_of_id c t).in_sample = rw e refl in
        lhs ∙ ap (number_if o bytes) place ∙ number_is o bytes (bytes_of t id_field.in_sample) ∙ ap (option_map o.eight) (sym here) ∙ sym (ap (λ k. option_map o.eight (field_bytes c k h bytes)) field)
    by false e =
        let all = ends e in
        let q : ℕ = bytes_of t (1 ∷ 2 ∷ []) in
        let f : ℕ = (place_of_id c t).from_end in
        let f_is : f ≡ 8 + field_size t 9 + field_size t 7 = rw all refl in
        let len : id_length c h.type_ ≡ 8 * sample_id_flags t = rw (carries h.type_ long.kernel e, all) refl in
        let one : one_if (has_bit t 6) ≡ 1 = ap one_if id in
        let none' : one_if (has_bit t 16) ≡ 0 = ap one_if none in
        let sum : id_length c h.type_ ≡ q + f = omega (arith, len, one, none', f_is, eight_if (has_bit t 9), eight_if (has_bit t 7)) in
        let core = from_end_is bytes (id_length c h.type_) q f sum (omega (arith, f_is)) long.long in
        let yes : nat_le (id_length c h.type_) (length bytes) ≡ true = le-leb (id_length c h.type_) (length bytes) long.long in
        let yes' : nat_le f (length bytes) ≡ true = le-leb f (length bytes) (omega (arith, sum, long.long)) in
        let there' : field_bytes c id_field h bytes ≡ eight_at (id_bytes c h bytes) q = chosen (has_bit t 6) (h.type_ == 9) (nat_le (id_length c h.type_) (length bytes)) (eight_at bytes (bytes_of t id_field.in_sample)) (eight_at (id_bytes c h bytes) q) id e yes in
        let lhs : id_at o (place_of_id c t) h.type_ bytes ≡ number_if o bytes (length bytes - f) = rw (e, yes') refl in
        lhs ∙ number_is o bytes (length bytes - f) ∙ ap (option_map o.eight) (sym core) ∙ ap (option_map o.eight) (sym there') ∙ sym (ap (λ k. option_map o.eight (field_bytes c k h bytes)) field)

-- ---- of which event a frame may be

ends_of : (a b c : Bool) → b || (not a && not c) ≡ false → a ≡ false → c ≡ true
ends_of true b c e is = absurd (cc)
ends_of false true c e is = absurd (cc)
ends_of false false true e is = refl
ends_of false false false e is = absurd (cc)

-- where all events have a place, each has one
has_place : (x y : Option IdPlace) → is_same_place x y ≡ true → (p : IdPlace) × (y ≡ Some p)
has_place None y same = absurd (cc)
has_place (Some p) None same = absurd (cc)
has_place (Some p) (Some q) same = (q, refl)

has_id : (c : Configuration) (p : IdPlace) → id_place c ≡ Some p → has_bit c.sample_type 16 ≡ false → has_bit c.sample_type 6 ≡ true
has_id c p is none = by (has_bit c.sample_type 16) (has_bit c.sample_type 6) none is
  where
    by : (identifier id : Bool) → identifier ≡ false → ◌≡◌ {A = Option IdPlace} (if identifier then Some (record { in_sample = 0; from_end = if_at_end c 8 }) else (if id then Some (place_of_id c c.sample_type) else None)) (Some p) → id ≡ true
    by true id first e = absurd (cc)
    by false true first e = refl
    by false false first e = absurd (cc)

-- and ends with a sample id if the first does
ends_alike : (attributes : List perf_event_attr) (c : Configuration) (p : IdPlace) → first_place attributes ≡ Some p → id_place c ≡ Some p → first_has_ids attributes ≡ true → c.sample_id_all ≡ true
ends_alike [] c p one two all = absurd (cc)
ends_alike (a ∷ others) c p one two all = alike (configured_by a) c p one two all

pub deciding_id : DecidingIdIsRead
deciding_id f n e h bytes checked at several long =
    let attributes : List perf_event_attr = attributes_of f.events in
    let c : Configuration = configured_by e.attribute in
    let o : Order = order_of f.order in
    let few = neither_left (nat_lt (length f.events) 2) (not (h.type_ == 9) && not (first_has_ids attributes)) several in
    let many : nat_lt (length attributes) 2 ≡ false = ap (λ k. nat_lt k 2) (length-map f.events (λ (x : FileEvent). x.attribute)) ∙ few in
    let same = each_place (first_place attributes) f.events n e (checked_all attributes many checked) at in
    let one : first_place attributes ≡ id_place c = same_place (first_place attributes) (id_place c) same in
    let own = has_place (first_place attributes) (id_place c) same in
    let found : id_if f (first_place attributes) h.type_ bytes ≡ id_if f (id_place c) h.type_ bytes = ap (λ place. id_if f place h.type_ bytes) one in
    let ends : (h.type_ == 9) ≡ false → c.sample_id_all ≡ true = λ other. ends_alike attributes c own.0 (one ∙ own.1) own.1 (ends_of (h.type_ == 9) (nat_lt (length f.events) 2) (first_has_ids attributes) several other) in
    record {
      identifier = λ set.
          let place : id_place c ≡ Some (record { in_sample = 0; from_end = if_at_end c 8 }) = rw set refl in
          let is = found ∙ ap (λ p. id_if f p h.type_ bytes) place ∙ identifier_is c o h bytes set long ends in
          subst (IsIdentifierRead o h bytes) (sym is) (identifier_read o h bytes long.header long.whole);
      id = λ none.
          let has = has_id c own.0 own.1 none in
          let place : id_place c ≡ Some (place_of_id c c.sample_type) = rw (none, has) refl in
          let is = found ∙ ap (λ p. id_if f p h.type_ bytes) place ∙ id_is c o h bytes none has long ends in
          subst (IsRead (λ s. (getters_of s).id) (λ ids. ids.id) c o h bytes) (sym is) (id_read c o h bytes long.header long.whole);
    }
