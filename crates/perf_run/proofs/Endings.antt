-- How a run ends, and what it has written by then.
use Rattle.std.proofs.Common.{◌≡◌, ℕ, ◌<◌, ◌≤◌, Bool, true, false, List, [], ◌++◌, length, take, drop, refl, sym, ap, ◌∙◌, arith, subst, append_assoc, inl, inr}
use Rattle.std.specs.Prelude.{Option, Some, None, IfSome, Result, Ok, Err, IfOk, is_err, ◌||◌, ◌&&◌, not, IsTrue, codes, if◌then◌else◌, ◌⊎◌}
use Rattle.std.specs.List.{list_any}
use Rattle.std.specs.Io.{StartsWith}
use Rattle.std.proofs.lemmas.Bool.Decides.{nat_tests}
use Rattle.std.proofs.lemmas.List.{length-take, take_all, take_min, take-take}
use Rattle.perf_base.specs.Order.{Order}
use Rattle.perf_base.specs.Configuration.{Configuration, configured_by}
use Rattle.perf_base.specs.Attribute.{attribute}
use Rattle.perf_base.specs.Layout.{layout}
use Rattle.perf_base.specs.declared.sys.perf_event_attr.{perf_event_attr}
use Rattle.perf_base.specs.declared.error.ErrorKind.{ErrorKind}
use Rattle.perf_base.specs.declared.error.ErrorKind.TheVariants.{Eof, InvalidRecord, UnsupportedConfig, UnsupportedData, External, OutOfMemory}
use Rattle.perf_records.specs.Frames.{StreamEnd, done, cut_header, stream_end}
use Rattle.perf_records.specs.Answers.{answers}
use Rattle.perf_reader.specs.Reading.{of_layout, is_external}
use Rattle.perf_lines.specs.declared.outcome.Outcome.{Outcome}
use Rattle.perf_lines.specs.declared.outcome.Outcome.TheVariants.{Clean, Refused, BadAttr, Faulted, Stopped}
use Rattle.perf_lines.specs.Text.{kind_name}
use Rattle.perf_run.specs.Text.{lines_from, end_line, first_answers, is_at_limit, text, end_name, Stream, framed, without_frames, stream_after_attribute, stream_text, attr_line}
use Rattle.perf_run.specs.Outcomes.{is_cut, prints_refusal, ends_cut, EndsEarly, IsFaultText, IsText, IsWritten}
use Rattle.perf_run.proofs.Progress.{Listed}

-- after start comes what a run with this outcome writes
abbrev pub Made : Bool → Configuration → Order → ℕ → List ℕ → List ℕ → Outcome → List ℕ → Type 0
Made f c o limit bytes start outcome now = (written : List ℕ) × (now ≡ start ++ written) × IsWritten f o limit (framed c bytes) outcome written

pub if_ok_map : {A E : Type 0} (r : Result A E) (P Q : A → Type 0) → ((x : A) → P x → Q x) → IfOk r P → IfOk r Q
if_ok_map (Ok x) P Q f h = f x h
if_ok_map (Err e) P Q f h = tt

pub if_some_all : {A : Type 0} (o : Option A) (P : A → Type 0) → ((x : A) → P x) → IfSome o P
if_some_all (Some x) P f = f x
if_some_all None P f = tt

pub if_some_map : {A : Type 0} (o : Option A) (P Q : A → Type 0) → ((x : A) → P x → Q x) → IfSome o P → IfSome o Q
if_some_map (Some x) P Q f h = f x h
if_some_map None P Q f h = tt

or_false : (b : Bool) → (b || false) ≡ b
or_false true = refl
or_false false = refl

or_true : (b : Bool) → (b || true) ≡ true
or_true true = refl
or_true false = refl

-- ---- without a fault

says_as : (f : Bool) (c : Configuration) (o : Order) (limit : ℕ) (bytes : List ℕ) (b : Bool) → (prints_refusal c o limit bytes || ends_cut c o limit bytes) ≡ b → IsWritten f o limit (framed c bytes) (if b then Refused else Clean) (text c o limit bytes)
says_as f c o limit bytes true e = (refl, ap (λ b. if b then Refused else Clean) e)
says_as f c o limit bytes false e = (refl, ap (λ b. if b then Refused else Clean) e)

-- the whole text is written, if n answers are all that is printed
whole : (f : Bool) (c : Configuration) (o : Order) (limit : ℕ) (bytes start : List ℕ) (n : ℕ) (made : List ℕ) (refused : Bool) → Listed c o bytes start n made refused → take n (answers c o bytes) ≡ first_answers c o limit bytes → (how : List ℕ) → (if is_at_limit c o limit bytes then codes "limit" else end_name (stream_end o bytes)) ≡ how → (cut : Bool) → ends_cut c o limit bytes ≡ cut → (now : List ℕ) → now ≡ made ++ end_line how → (outcome : Outcome) → outcome ≡ (if refused || cut then Refused else Clean) → Made f c o limit bytes start outcome now
whole f c o limit bytes start n made refused before all how ends cut cuts now grown outcome is =
    let lines : List ℕ = lines_from 0 (first_answers c o limit bytes) in
    let same : text c o limit bytes ≡ lines ++ end_line how = ap (λ word. lines ++ end_line word) ends in
    let test : (prints_refusal c o limit bytes || ends_cut c o limit bytes) ≡ (refused || cut) =
    ap (λ b. prints_refusal c o limit bytes || b) cuts
    ∙ ap (λ b. b || cut) (ap (λ pairs. list_any (λ pair. is_err pair.1) pairs) (sym all) ∙ sym before.refused_is) in (
      text c o limit bytes,
      grown ∙ ap (λ xs. xs ++ end_line how) (before.made_is ∙ ap (λ pairs. start ++ lines_from 0 pairs) all)
          ∙ append_assoc start lines (end_line how) ∙ ap (λ xs. start ++ xs) (sym same),
      subst (λ x. IsWritten f o limit (framed c bytes) x (text c o limit bytes)) (sym is) (says_as f c o limit bytes (refused || cut) test),
    )

-- the limit was reached
pub made_to_limit : (f : Bool) (c : Configuration) (o : Order) (limit : ℕ) (bytes start : List ℕ) (made : List ℕ) (refused : Bool) → Listed c o bytes start limit made refused → (now : List ℕ) → now ≡ made ++ end_line (codes "limit") → (outcome : Outcome) → outcome ≡ (if refused then Refused else Clean) → Made f c o limit bytes start outcome now
made_to_limit f c o limit bytes start made refused before now grown outcome is =
    let within : limit ≤ length (answers c o bytes) = before.within in
    let at : is_at_limit c o limit bytes ≡ true = grind (arith, nat_tests) in
    whole f c o limit bytes start limit made refused before refl (codes "limit")
    (ap (λ b. if b then codes "limit" else end_name (stream_end o bytes)) at)
    false (ap (λ b. not b && is_cut (stream_end o bytes)) at)
    now grown outcome (is ∙ ap (λ b. if b then Refused else Clean) (sym (or_false refused)))

-- all answers are listed, and they are fewer than the limit
all_made : (f : Bool) (c : Configuration) (o : Order) (limit : ℕ) (bytes start : List ℕ) (n : ℕ) (made : List ℕ) (refused : Bool) → Listed c o bytes start n made refused → n ≡ length (answers c o bytes) → n < limit → (end : StreamEnd) → stream_end o bytes ≡ end → (now : List ℕ) → now ≡ made ++ end_line (end_name end) → (outcome : Outcome) → outcome ≡ (if refused || is_cut end then Refused else Clean) → Made f c o limit bytes start outcome now
all_made f c o limit bytes start n made refused before count below end ends now grown outcome is =
    let all = answers c o bytes in
    let at : is_at_limit c o limit bytes ≡ false = grind (arith, nat_tests) in
    let printed_all : take n all ≡ first_answers c o limit bytes = take_all n all (omega arith) ∙ sym (take_all limit all (omega arith)) in
    whole f c o limit bytes start n made refused before printed_all (end_name end)
    (ap (λ b. if b then codes "limit" else end_name (stream_end o bytes)) at ∙ ap end_name ends)
    (is_cut end) (ap (λ b. not b && is_cut (stream_end o bytes)) at ∙ ap is_cut ends)
    now grown outcome is

pub made_to_end : (f : Bool) (c : Configuration) (o : Order) (limit : ℕ) (bytes start : List ℕ) (n : ℕ) (made : List ℕ) (refused : Bool) → Listed c o bytes start n made refused → n ≡ length (answers c o bytes) → n < limit → stream_end o bytes ≡ done → (now : List ℕ) → now ≡ made ++ end_line (codes "done") → (outcome : Outcome) → outcome ≡ (if refused then Refused else Clean) → Made f c o limit bytes start outcome now
made_to_end f c o limit bytes start n made refused before count below ends now grown outcome is =
    all_made f c o limit bytes start n made refused before count below done ends now grown outcome (is ∙ ap (λ b. if b then Refused else Clean) (sym (or_false refused)))

pub made_to_cut : (f : Bool) (c : Configuration) (o : Order) (limit : ℕ) (bytes start : List ℕ) (n : ℕ) (made : List ℕ) (refused : Bool) → Listed c o bytes start n made refused → n ≡ length (answers c o bytes) → n < limit → stream_end o bytes ≡ cut_header → (now : List ℕ) → now ≡ made ++ end_line (codes "cut") → (outcome : Outcome) → outcome ≡ Refused → Made f c o limit bytes start outcome now
made_to_cut f c o limit bytes start n made refused before count below ends now grown outcome is =
    all_made f c o limit bytes start n made refused before count below cut_header ends now grown outcome (is ∙ ap (λ b. if b then Refused else Clean) (sym (or_true refused)))

-- ---- with a fault

-- a kind that is none of the layout's is that of a fault, if one is possible, or out of memory
pub ends_early : (f : Bool) (kind : ErrorKind) → (IsTrue (of_layout kind) → ⊥) → (kind ≡ External → IsTrue f) → EndsEarly f kind
ends_early f Eof h fault = absurd (h refl)
ends_early f InvalidRecord h fault = absurd (h refl)
ends_early f UnsupportedConfig h fault = absurd (h refl)
ends_early f UnsupportedData h fault = absurd (h refl)
ends_early f External h fault = inl (refl, fault refl)
ends_early f OutOfMemory h fault = inr refl

-- the kind `External` is that of a fault of the buffer
pub is_external_fault : (kind : ErrorKind) → kind ≡ External → is_external (Some kind) ≡ true
is_external_fault kind e = ap (λ k. is_external (Some k)) e

pub fault_within : (f g : Bool) (e : Option ErrorKind) (kind : ErrorKind) → e ≡ Some kind → (is_external e ≡ true → IsTrue g) → (IsTrue g → IsTrue f) → kind ≡ External → IsTrue f
fault_within f g e kind is fault within k = within (fault (ap is_external is ∙ is_external_fault kind k))

pub made_to_fault : (f : Bool) (c : Configuration) (o : Order) (limit : ℕ) (bytes start : List ℕ) (n : ℕ) (made : List ℕ) (refused : Bool) → Listed c o bytes start n made refused → n < limit → (kind : ErrorKind) → EndsEarly f kind → (now : List ℕ) → now ≡ made ++ end_line (codes "fault " ++ kind_name kind) → Made f c o limit bytes start Faulted now
made_to_fault f c o limit bytes start n made refused before below kind early now grown =
    let lines : List ℕ = lines_from 0 (take n (answers c o bytes)) in
    let last : List ℕ = end_line (codes "fault " ++ kind_name kind) in (
      lines ++ last,
      grown ∙ ap (λ xs. xs ++ last) before.made_is ∙ append_assoc start lines last,
      (n, kind, inl below, early, refl),
    )

-- ---- cut short

starts_with_taken : (xs : List ℕ) (n : ℕ) → StartsWith xs (take n xs)
starts_with_taken xs n = ap (λ k. take k xs) (length-take n xs) ∙ take_min n xs

-- a prefix of what an outcome specifies is what a stopped run writes
pub says_beginning : (f : Bool) (o : Order) (limit : ℕ) (stream : Stream) (outcome : Outcome) (written : List ℕ) (n : ℕ) → IsWritten f o limit stream outcome written → IsWritten f o limit stream Stopped (take n written)
says_beginning f o limit stream Clean written n h = (written, inl h.0, starts_with_taken written n)
says_beginning f o limit stream Refused written n h = (written, inl h.0, starts_with_taken written n)
says_beginning f o limit stream BadAttr written n h = (written, inl h.0, starts_with_taken written n)
says_beginning f o limit stream Faulted written n h = (written, inr h, starts_with_taken written n)
says_beginning f o limit stream Stopped written n h =
    let short : length (take n written) ≤ length written = omega (arith, length-take n written) in
    (h.0, h.1, sym (take-take (length (take n written)) (length written) h.0 short) ∙ ap (λ xs. take (length (take n written)) xs) h.2 ∙ starts_with_taken written n)

-- the empty text is a prefix
pub says_nothing : (f : Bool) (o : Order) (limit : ℕ) (stream : Stream) → IsWritten f o limit stream Stopped []
says_nothing f o limit stream = (stream_text o limit stream, inl refl, refl)

-- ---- an attribute

-- the line of a fault alone, whatever the stream
pub fault_alone : (f : Bool) (o : Order) (limit : ℕ) (stream : Stream) (kind : ErrorKind) → EndsEarly f kind → (now : List ℕ) → now ≡ end_line (codes "fault " ++ kind_name kind) → IsWritten f o limit stream Faulted now
fault_alone f o limit stream kind early now is = (0, kind, inr refl, early, is)

abbrev stream_by : Result perf_event_attr ErrorKind → List ℕ → Stream
stream_by (Ok a) bytes = framed (configured_by a) (drop a.size bytes)
stream_by (Err kind) bytes = without_frames kind

by_answer : (o : Order) (bytes : List ℕ) (r : Result perf_event_attr ErrorKind) → layout o attribute bytes ≡ r → stream_after_attribute o bytes ≡ stream_by r bytes
unfolding stream_after_attribute
by_answer o bytes (Ok a) e = rw (e, stream_after_attribute) refl
by_answer o bytes (Err kind) e = rw (e, stream_after_attribute) refl

-- if the attribute is read, the frames after it are the stream
pub read_attribute : (o : Order) (bytes left : List ℕ) (a : perf_event_attr) → layout o attribute bytes ≡ Ok a → left ≡ drop a.size bytes → stream_after_attribute o bytes ≡ framed (configured_by a) left
read_attribute o bytes left a read is = by_answer o bytes (Ok a) read ∙ ap (λ xs. framed (configured_by a) xs) (sym is)

pub refused_attribute : (o : Order) (bytes : List ℕ) (kind : ErrorKind) → layout o attribute bytes ≡ Err kind → stream_after_attribute o bytes ≡ without_frames kind
refused_attribute o bytes kind read = by_answer o bytes (Err kind) read

-- after start comes what a run over this stream writes
abbrev pub MadeOf : Bool → Order → ℕ → Stream → List ℕ → Outcome → List ℕ → Type 0
MadeOf f o limit stream start outcome now = (written : List ℕ) × (now ≡ start ++ written) × IsWritten f o limit stream outcome written

-- what is written if the attribute could not be read
abbrev MadeRefused : List ℕ → ErrorKind → Outcome → List ℕ → Type 0
MadeRefused start kind outcome now = (now ≡ start ++ attr_line kind) × (outcome ≡ BadAttr)

abbrev MadeFault : List ℕ → ErrorKind → Outcome → List ℕ → Type 0
MadeFault start kind outcome now = (now ≡ start ++ end_line (codes "fault " ++ kind_name kind)) × (outcome ≡ Faulted)

as_refused : (f : Bool) (o : Order) (limit : ℕ) (stream : Stream) (start : List ℕ) (kind : ErrorKind) (outcome : Outcome) (now : List ℕ) → stream ≡ without_frames kind → MadeRefused start kind outcome now → MadeOf f o limit stream start outcome now
as_refused f o limit stream start kind outcome now refused h = (
  attr_line kind,
  h.0,
  subst (λ x. IsWritten f o limit stream x (attr_line kind)) (sym h.1) (subst (λ x. IsWritten f o limit x BadAttr (attr_line kind)) (sym refused) (refl, refl)),
)

as_faulted : (f : Bool) (o : Order) (limit : ℕ) (stream : Stream) (start : List ℕ) (kind : ErrorKind) (outcome : Outcome) (now : List ℕ) → EndsEarly f kind → MadeFault start kind outcome now → MadeOf f o limit stream start outcome now
as_faulted f o limit stream start kind outcome now early h =
    let last : List ℕ = end_line (codes "fault " ++ kind_name kind) in
    (last, h.0, subst (λ x. IsWritten f o limit stream x last) (sym h.1) (fault_alone f o limit stream kind early last refl))

layout_or_not : (b : Bool) → IsTrue b ⊎ (IsTrue b → ⊥)
layout_or_not true = inl refl
layout_or_not false = inr (λ h. grind (arith, h))

-- the attribute could not be read
pub made_refused : {E : Type 0} (f : Bool) (o : Order) (limit : ℕ) (stream : Stream) (start : List ℕ) (kind : ErrorKind) → (IsTrue (of_layout kind) → stream ≡ without_frames kind) → (kind ≡ External → IsTrue f) → (r : Result Outcome E) (now : List ℕ) → (IsTrue (of_layout kind) → IfOk r (λ outcome. MadeRefused start kind outcome now)) → ((IsTrue (of_layout kind) → ⊥) → IfOk r (λ outcome. MadeFault start kind outcome now)) → IfOk r (λ outcome. MadeOf f o limit stream start outcome now)
made_refused f o limit stream start kind read can r now refused fault =
    elim (layout_or_not (of_layout kind)) [
      | inl known ↦ if_ok_map r (λ outcome. MadeRefused start kind outcome now) (λ outcome. MadeOf f o limit stream start outcome now)
          (λ outcome h. as_refused f o limit stream start kind outcome now (read known) h) (refused known)
      | inr other ↦ if_ok_map r (λ outcome. MadeFault start kind outcome now) (λ outcome. MadeOf f o limit stream start outcome now)
          (λ outcome h. as_faulted f o limit stream start kind outcome now (ends_early f kind other can) h) (fault other)
    ]

pub framed_as : (c d : Configuration) → c ≡ d → (xs ys : List ℕ) → xs ≡ ys → framed c xs ≡ framed d ys
framed_as c d e xs ys h = ap (λ x. framed x xs) e ∙ ap (λ zs. framed d zs) h

-- a fault of a buffer that can fault only if another can is a fault of that other
early_within : (f g : Bool) → (IsTrue g → IsTrue f) → (kind : ErrorKind) → EndsEarly g kind → EndsEarly f kind
early_within f g within kind early = elim early [ inl e ↦ inl (e.0, within e.1) | inr e ↦ inr e ]

fault_text_within : (f g : Bool) → (IsTrue g → IsTrue f) → (o : Order) (limit : ℕ) (stream : Stream) (written : List ℕ) → IsFaultText g o limit stream written → IsFaultText f o limit stream written
fault_text_within f g within o limit stream written h = (h.0, h.1, h.2, early_within f g within h.1 h.3, h.4)

text_within : (f g : Bool) → (IsTrue g → IsTrue f) → (o : Order) (limit : ℕ) (stream : Stream) (written : List ℕ) → IsText g o limit stream written → IsText f o limit stream written
text_within f g within o limit stream written h = elim h [ inl e ↦ inl e | inr e ↦ inr (fault_text_within f g within o limit stream written e) ]

says_within : (f g : Bool) → (IsTrue g → IsTrue f) → (o : Order) (limit : ℕ) (stream : Stream) (outcome : Outcome) (written : List ℕ) → IsWritten g o limit stream outcome written → IsWritten f o limit stream outcome written
says_within f g within o limit stream Clean written h = h
says_within f g within o limit stream Refused written h = h
says_within f g within o limit stream BadAttr written h = h
says_within f g within o limit stream Faulted written h = fault_text_within f g within o limit stream written h
says_within f g within o limit stream Stopped written h = (h.0, text_within f g within o limit stream h.0 h.1, h.2)

-- the attribute was read, and then the frames after it
pub made_after : {E : Type 0} (f g : Bool) → (IsTrue g → IsTrue f) → (o o2 : Order) (limit : ℕ) (stream : Stream) (rest start : List ℕ) (c : Configuration) → o2 ≡ o → stream ≡ framed c rest → (r : Result Outcome E) (now : List ℕ) → IfOk r (λ outcome. MadeOf g o2 limit (framed c rest) start outcome now) → IfOk r (λ outcome. MadeOf f o limit stream start outcome now)
made_after f g within o o2 limit stream rest start c orders read r now made =
    if_ok_map r (λ outcome. MadeOf g o limit stream start outcome now) (λ outcome. MadeOf f o limit stream start outcome now)
    (λ outcome h. (h.0, h.1, says_within f g within o limit stream outcome h.0 h.2))
    (subst (λ s. IfOk r (λ outcome. MadeOf g o limit s start outcome now)) (sym read)
    (subst (λ x. IfOk r (λ outcome. MadeOf g x limit (framed c rest) start outcome now)) orders made))
