-- Words one after another.
use Rattle.std.proofs.Common.{◌≡◌, ℕ, List, [], ◌∷◌, ◌++◌, Option, Some, None, Result, Ok, Err, OnOk, ◌≤◌, length, take, refl, sym, ap, ◌∙◌, append-nil, append_assoc, codes, decimal}
use Rattle.std.proofs.lemmas.Result.{on_ok_weaker}
use Rattle.std.proofs.lemmas.Grind.{flat_map-append}
use Rattle.std.proofs.lemmas.List.{take_all}
use Rattle.std.specs.Prelude.{is_ok, if◌then◌else◌}
use Rattle.std.specs.List.{flat_map}
use Rattle.perf_sample_types.specs.Registers.{RegistersValue}
use Rattle.perf_lines.specs.Fields.{with_spaces, present, word_as, words_of_numbers, with_commas}
use Rattle.perf_lines.specs.SampleText.{register_words}

-- a text after a push that returned `Ok`
pub pushed : {T E : Type 0} (result : Result T E) (new old more : List ℕ) → new ≡ (if is_ok result then old ++ more else old) → OnOk result (new ≡ old ++ more)
pushed (Ok x) new old more h = h
pushed (Err e) new old more h = tt

-- a text that grew by words, and then by more words
pub words_more : (words others : List (List ℕ)) (old middle new : List ℕ) → middle ≡ old ++ with_spaces words → new ≡ middle ++ with_spaces others → new ≡ old ++ with_spaces (words ++ others)
words_more words others old middle new first second =
    second
    ∙ ap (λ text. text ++ with_spaces others) first
    ∙ append_assoc old (with_spaces words) (with_spaces others)
    ∙ ap (λ rest. old ++ rest) (sym (flat_map-append (λ word. codes " " ++ word) words others))

-- and then by one word, by a push that returned `Ok`
pub last_word : {T E : Type 0} (result : Result T E) (words : List (List ℕ)) (word : List ℕ) (old middle new : List ℕ) → middle ≡ old ++ with_spaces words → OnOk result (new ≡ middle ++ (codes " " ++ word)) → OnOk result (new ≡ old ++ with_spaces (words ++ (word ∷ [])))
last_word result words word old middle new first grown =
    on_ok_weaker result
    (λ last. words_more words (word ∷ []) old middle new first (last ∙ ap (λ rest. middle ++ rest) (sym (append-nil (codes " " ++ word)))))
    grown

-- numbers that may be absent are written as words of their own
pub spaced-words_of : (fields : List (List ℕ × Option ℕ)) → flat_map (λ f. present (λ n. codes " " ++ (f.0 ++ (codes "=" ++ decimal n))) f.1) fields ≡ with_spaces (words_of_numbers fields)
spaced-words_of [] = refl
spaced-words_of ((name, None) ∷ fields) = spaced-words_of fields
spaced-words_of ((name, Some n) ∷ fields) = ap (λ rest. (codes " " ++ (name ++ (codes "=" ++ decimal n))) ++ rest) (spaced-words_of fields)

-- and so are other values that may be absent
pub spaced-word_as : {X : Type 0} (name : List ℕ) (written : X → List ℕ) (x : Option X) → present (λ there. codes " " ++ (name ++ (codes "=" ++ written there))) x ≡ with_spaces (word_as name written x)
spaced-word_as name written None = refl
spaced-word_as name written (Some there) = sym (append-nil (codes " " ++ (name ++ (codes "=" ++ written there))))

-- and registers, under two names
pub spaced-registers : (abi regs : List ℕ) (r : Option RegistersValue) → present (λ there. (codes " " ++ (abi ++ codes "=")) ++ (decimal there.abi ++ ((codes " " ++ (regs ++ codes "=")) ++ with_commas decimal there.regs))) r ≡ with_spaces (register_words abi regs r)
spaced-registers abi regs None = refl
spaced-registers abi regs (Some r) = simp (append_assoc, append-nil)

-- a list from an iterator: its first item is written, and then each other after a comma, to the end
pub listed_to_end : {X : Type 0} (item : X → List ℕ) (old before pushed first_text text : List ℕ) (x : X) (left rest items : List X) → pushed ≡ old ++ before → first_text ≡ pushed ++ item x → text ++ flat_map (λ other. codes "," ++ item other) left ≡ first_text ++ flat_map (λ other. codes "," ++ item other) rest → left ≡ [] → items ≡ x ∷ rest → text ≡ old ++ (before ++ with_commas item items)
listed_to_end {X} item old before pushed first_text text x left rest items named first others none all =
    sym (append-nil text)
    ∙ ap (λ last. text ++ flat_map (λ (other : X). codes "," ++ item other) last) (sym none)
    ∙ others
    ∙ rw (first, named, all) (simp append_assoc)

-- the same of a list that a loop goes over by index
pub listed_taken : {X : Type 0} (item : X → List ℕ) (old before pushed first_text text : List ℕ) (x : X) (i : ℕ) (rest items : List X) → pushed ≡ old ++ before → first_text ≡ pushed ++ item x → text ≡ first_text ++ flat_map (λ other. codes "," ++ item other) (take i rest) → length rest ≤ i → items ≡ x ∷ rest → text ≡ old ++ (before ++ with_commas item items)
listed_taken {X} item old before pushed first_text text x i rest items named first others all is =
    others
    ∙ ap (λ (taken : List X). first_text ++ flat_map (λ (other : X). codes "," ++ item other) taken) (take_all i rest all)
    ∙ rw (first, named, is) (simp append_assoc)
