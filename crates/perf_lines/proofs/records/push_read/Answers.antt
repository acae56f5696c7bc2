use Rattle.std.proofs.Common.{◌≡◌, ◌++◌, ◌∙◌, ◌∷◌, [], List, ℕ, Option, codes, string_bytes, refl, ap, append-nil}
use Rattle.std.proofs.lemmas.Result.{on_ok_weaker}
use Rattle.perf_lines.specs.Fields.{with_spaces, number, word_of, words_of_numbers}
use Rattle.perf_lines.proofs.Spaced.{words_more, spaced-words_of}
use Rattle.perf_lines.proofs.records.push_read.Goals as goal

pub returns : goal.returns
returns c =
    let r = c.args.read.now in
    let v = r.values in
    let front : List (List ℕ) = codes "Read" ∷ number (codes "pid") r.pid ∷ number (codes "tid") r.tid ∷ number (codes "value") v.value ∷ [] in
    let others : List (List ℕ × Option ℕ) = (codes "time_enabled", v.time_enabled) ∷ (codes "time_running", v.time_running) ∷ (codes "id", v.id) ∷ (codes "lost", v.lost) ∷ [] in
    let first : string_bytes c.push_fields.new.text ≡ string_bytes c.args.text.now ++ with_spaces front =
    c.in_ok-push_fields.ensures ∙ rw (c.from.ensures, c.from-2.ensures, c.value.ensures) refl in
    on_ok_weaker c.push_numbers.result
    (λ last. words_more front (words_of_numbers others) _ _ _ first (last
    ∙ rw (c.time_enabled.ensures, c.time_running.ensures, c.id.ensures, c.lost.ensures)
    (ap (λ rest. string_bytes c.push_fields.new.text ++ rest) (spaced-words_of others)))
    ∙ ap (λ last_word. string_bytes c.args.text.now ++ with_spaces (front ++ (word_of (codes "time_enabled") v.time_enabled ++ (word_of (codes "time_running") v.time_running ++ (word_of (codes "id") v.id ++ last_word)))))
    (append-nil (word_of (codes "lost") v.lost)))
    c.push_numbers.ensures
