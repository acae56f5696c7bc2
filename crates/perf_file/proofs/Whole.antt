-- Opening, step by step.
use Rattle.std.proofs.Common.{◌≡◌, ℕ, ◌+◌, ◌≤◌, ◌<◌, ◌^◌, zero, suc, List, [], ◌∷◌, length, map, Result, Ok, Err, All, refl, sym, subst, ap, ◌∙◌, arith}
use Rattle.std.proofs.lemmas.List.Elements.{All-cons}
use Rattle.std.specs.List.{zip}
use Rattle.perf_base.specs.Dynamic.{order_of}
use Rattle.perf_base.specs.declared.sys.perf_event_attr.{perf_event_attr}
use Rattle.perf_sections.specs.declared.section.Section.{Section}
use Rattle.perf_sections.specs.declared.head.Head.{Head}
use Rattle.perf_sections.specs.declared.error.OpenError.{OpenError}
use Rattle.perf_sections.specs.declared.error.OpenError.TheVariants as errors
use Rattle.perf_sections.specs.Attributes.{attributes_in}
use Rattle.perf_sections.specs.Features.{descriptions_of, file_descriptions}
use Rattle.perf_sections.specs.Heads.{IsGoodHead, head_in}
use Rattle.perf_sections.specs.IdSections.{id_sections_in, sections_of, checked_apart}
use Rattle.perf_sections.specs.Names.{name_of, name_view}
use Rattle.perf_sections.specs.declared.events.Event.{Event}
use Rattle.perf_sections.proofs.InTurn.{fails}
use Rattle.perf_base.specs.Layout.{slice}
use Rattle.perf_sections.specs.Opened.{FileEvent, event_view, opened_file, checked_head, events_in, event_in, checked_events, file_with}
use Rattle.perf_sections.specs.Opens.{◌>>=◌, each_from, Fails}
use Rattle.perf_sections.specs.Sections.{IsInside, IsSmall}

-- ---- refusals

-- the first of two steps is refused
pub fails_first : {A B : Type 0} (e : OpenError) (r : Result A OpenError) (f : A → Result B OpenError) → Fails e r → Fails e (r >>= f)
fails_first errors.OutOfMemory r f h = tt
fails_first e r f h = rw h refl

-- the second is
pub fails_second : {A B : Type 0} (e : OpenError) (r : Result A OpenError) (x : A) (f : A → Result B OpenError) → r ≡ Ok x → Fails e (f x) → Fails e (r >>= f)
fails_second errors.OutOfMemory r x f is h = tt
fails_second e r x f is h = rw is h

pub fails_by : {Y : Type 0} (e : OpenError) (r expected : Result Y OpenError) → expected ≡ r → Fails e r → Fails e expected
fails_by errors.OutOfMemory r expected is h = tt
fails_by e r expected is h = is ∙ h

-- ---- events

pub events_after : (bytes : List ℕ) (h : Head) (attributes : List perf_event_attr) (sections : List Section) (apart : Result (Unit {0}) OpenError) → attributes_in bytes h ≡ Ok attributes → id_sections_in bytes h ≡ Ok sections
    → checked_apart (sections_of h sections) ≡ apart → events_in bytes h ≡ (apart >>= λ done. Ok (map (event_in (order_of h.order) bytes) (zip attributes sections)))
events_after bytes h attributes sections apart a b d = rw (a, b, d) refl

-- the attributes are refused, or where the ids are
pub attributes_fail : (bytes : List ℕ) (h : Head) (e : OpenError) → Fails e (attributes_in bytes h) → Fails e (events_in bytes h)
attributes_fail bytes h e refused =
    fails_first e (attributes_in bytes h) (λ attributes. id_sections_in bytes h >>= λ sections. checked_apart (sections_of h sections) >>= λ apart. Ok (map (event_in (order_of h.order) bytes) (zip attributes sections))) refused

pub sections_fail : (bytes : List ℕ) (h : Head) (attributes : List perf_event_attr) (e : OpenError) → attributes_in bytes h ≡ Ok attributes → Fails e (id_sections_in bytes h) → Fails e (events_in bytes h)
sections_fail bytes h attributes e is refused =
    fails_second e (attributes_in bytes h) attributes (λ found. id_sections_in bytes h >>= λ sections. checked_apart (sections_of h sections) >>= λ apart. Ok (map (event_in (order_of h.order) bytes) (zip found sections))) is
    (fails_first e (id_sections_in bytes h) (λ sections. checked_apart (sections_of h sections) >>= λ apart. Ok (map (event_in (order_of h.order) bytes) (zip attributes sections))) refused)

-- as many items as indices
each_length : {A : Type 0} (item : ℕ → Result A OpenError) (i n : ℕ) (xs : List A) → each_from item i n ≡ Ok xs → length xs ≡ n
unfolding each_from
each_length {A} item i zero xs h = let e : [] ≡ xs = cc in ap (λ (ys : List A). length ys) (sym e)
each_length {A} item i (suc n) xs h = go (item i) (each_from item (i + 1) n) refl h (λ ys e. each_length item (i + 1) n ys e)
  where
    go : (x : Result A OpenError) (rest : Result (List A) OpenError) → each_from item (i + 1) n ≡ rest → (x >>= λ y. rest >>= λ ys. Ok (y ∷ ys)) ≡ Ok xs → ((ys : List A) → each_from item (i + 1) n ≡ Ok ys → length ys ≡ n) → length xs ≡ suc n
    go (Err e) rest is f others = absurd (cc)
    go (Ok y) (Err e) is f others = absurd (cc)
    go (Ok y) (Ok ys) is f others = let e : y ∷ ys ≡ xs = cc in ap (λ (zs : List A). length zs) (sym e) ∙ ap (λ k. suc k) (others ys is)

pub same_length : {A B : Type 0} (f : ℕ → Result A OpenError) (g : ℕ → Result B OpenError) (i n : ℕ) (xs : List A) (ys : List B) → each_from f i n ≡ Ok xs → each_from g i n ≡ Ok ys → length xs ≡ length ys
same_length f g i n xs ys a b = each_length f i n xs a ∙ sym (each_length g i n ys b)

-- ---- parts

pub all_inside : (bytes : List ℕ) (h : Head) (ids : List Section) → 104 ≤ length bytes → IsGoodHead bytes h → All (IsInside bytes) ids → All (IsInside bytes) (sections_of h ids)
all_inside bytes h ids whole good each =
    All-cons (IsInside bytes) (record { start = 0; size = 104 }) (h.attributes ∷ h.frames ∷ ids) (omega (arith, whole))
    (All-cons (IsInside bytes) h.attributes (h.frames ∷ ids) good.attributes
    (All-cons (IsInside bytes) h.frames ids good.frames each))

pub all_small : (bytes : List ℕ) (sections : List Section) → length bytes < 2 ^ 64 → All (IsInside bytes) sections → All IsSmall sections
all_small bytes sections few inside k d lt = let a = inside k d lt in omega (arith, a)

-- ---- the file

pub opened_after : (bytes : List ℕ) (h : Head) (events : List FileEvent) (found : Result (Unit {0}) OpenError) → checked_head bytes ≡ Ok h → events_in bytes h ≡ Ok events → checked_events events ≡ found
    → opened_file bytes ≡ (found >>= λ done. Ok (file_with bytes h events))
unfolding opened_file
opened_after bytes h events found a b d = rw (a, b, d) refl

-- the head is refused, or the events are
pub head_fails : (bytes : List ℕ) (e : OpenError) → checked_head bytes ≡ Err e → Fails e (opened_file bytes)
unfolding opened_file
head_fails bytes e is = fails e (opened_file bytes) (rw is refl)

pub events_fail : (bytes : List ℕ) (h : Head) (e : OpenError) → checked_head bytes ≡ Ok h → Fails e (events_in bytes h) → Fails e (opened_file bytes)
unfolding opened_file
events_fail bytes h e is refused =
    fails_second e (checked_head bytes) h (λ head. events_in bytes head >>= λ events. checked_events events >>= λ done. Ok (file_with bytes head events)) is
    (fails_first e (events_in bytes h) (λ events. checked_events events >>= λ done. Ok (file_with bytes h events)) refused)

-- the file has these frames
pub opened_whole : (bytes : List ℕ) (h : Head) (events : List FileEvent) (frames : List ℕ) → checked_head bytes ≡ Ok h → events_in bytes h ≡ Ok events → checked_events events ≡ Ok tt → frames ≡ slice bytes h.frames.start h.frames.size
    → opened_file bytes ≡ Ok (record { order = h.order; is_closed = h.is_closed; start = h.frames.start; frames = frames; events = events })
opened_whole bytes h events frames a b d cut = opened_after bytes h events (Ok tt) a b d ∙ rw cut refl

-- the descriptions of a file whose head was found
descriptions_here : (bytes : List ℕ) (h : Head) (found : Result Head OpenError) → found ≡ Ok h → descriptions_of bytes h ≡ elim found [ Ok k ↦ descriptions_of bytes k | Err e ↦ [] ]
descriptions_here bytes h found is = rw is refl

pub named_here : (bytes : List ℕ) (h : Head) (events : List Event) → head_in bytes ≡ Ok h → All (λ (e : Event). name_view e.name ≡ name_of h.order (descriptions_of bytes h) (event_view e)) events
    → All (λ (e : Event). name_view e.name ≡ name_of h.order (file_descriptions bytes) (event_view e)) events
named_here bytes h events is named =
    subst (λ (d : List ℕ). All (λ (e : Event). name_view e.name ≡ name_of h.order d (event_view e)) events) (descriptions_here bytes h (head_in bytes) is) named
