-- The text of threads is that of their names, wherever the bytes of these are.
use Rattle.std.proofs.Common.{◌≡◌, ℕ, List, [], ◌∷◌, ◌++◌, refl, sym, ap, ◌∙◌}
use Rattle.perf_history.specs.declared.names.Name.{Name}
use Rattle.perf_history.specs.declared.names.Name.TheVariants.{Given, Number, Swapper}
use Rattle.perf_walk.specs.Plain.{plain_name}
use Rattle.perf_summary.specs.Threads.{plain_threads}
use Rattle.perf_summary.specs.declared.threads.Thread.{Thread}
use Rattle.perf_summary.specs.ThreadText.{thread_name, thread_line, threads_text, thread_data, threads_data}

name_plain : (n : Name) → thread_name (plain_name n) ≡ thread_name n
name_plain (Given name) = refl
name_plain (Number tid) = refl
name_plain Swapper = refl

abbrev named : (ℕ × ℕ) × Thread → Name → (ℕ × ℕ) × Thread
named t name = (t.0, record t.1 { name = name })

line_plain : (t : (ℕ × ℕ) × Thread) (a b : Name) → thread_name a ≡ thread_name b → thread_line (named t a) ≡ thread_line (named t b)
line_plain t a b same = rw same refl

data_plain : (t : (ℕ × ℕ) × Thread) (a b : Name) → thread_name a ≡ thread_name b → thread_data (named t a) ≡ thread_data (named t b)
data_plain t a b same = rw same refl

pub text_plain : (threads : List ((ℕ × ℕ) × Thread)) → threads_text threads ≡ threads_text (plain_threads threads)
text_plain [] = refl
text_plain (t ∷ ts) =
    ap (λ rest. thread_line t ++ rest) (text_plain ts)
    ∙ ap (λ line. line ++ threads_text (plain_threads ts)) (line_plain t t.1.name (plain_name t.1.name) (sym (name_plain t.1.name)))

pub datas_plain : (threads : List ((ℕ × ℕ) × Thread)) → threads_data threads ≡ threads_data (plain_threads threads)
datas_plain [] = refl
datas_plain (t ∷ ts) =
    ap (λ rest. thread_data t ∷ rest) (datas_plain ts)
    ∙ ap (λ d. d ∷ threads_data (plain_threads ts)) (data_plain t t.1.name (plain_name t.1.name) (sym (name_plain t.1.name)))
