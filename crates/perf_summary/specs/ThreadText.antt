-- What each thread did, as a line of text and as JSON.
use Rattle.std.specs.Prelude.{ℕ, List, [], ◌∷◌, ◌++◌, codes, decimal, map}
use Rattle.std.specs.List.{flat_map}
use Rattle.serde_json.specs.Data.{Data, string, object, member, no_members}
use Rattle.perf_data_text.specs.HeaderText.{printed}
use Rattle.perf_history.specs.declared.names.Name.{Name}
use Rattle.perf_history.specs.declared.names.Name.TheVariants.{Given, Number, Swapper}
use Rattle.perf_summary.specs.declared.threads.Thread.{Thread}
use Rattle.perf_summary.specs.Datas.{count_data, number_data}
use Rattle.perf_summary.specs.Words.{time_text}

-- the name of a thread as it is printed; without one a colon and its number
abbrev pub thread_name : Name → List ℕ
thread_name (Given name) = printed name.now
thread_name (Number tid) = codes ":" ++ decimal tid
thread_name Swapper = codes "swapper"

-- the ids of a thread, and its samples
abbrev pub ids_words : ℕ × ℕ → (samples : ℕ) → List ℕ
ids_words who samples = codes "thread " ++ decimal who.0 ++ codes "/" ++ decimal who.1 ++ codes " samples=" ++ decimal samples

-- when it began and ended
abbrev pub times_words : Thread → List ℕ
times_words t = codes " start=" ++ time_text t.start ++ codes " end=" ++ time_text t.end

-- its line: also its name
abbrev pub thread_line : (ℕ × ℕ) × Thread → List ℕ
thread_line t = ids_words t.0 t.1.samples ++ times_words t.1 ++ (codes " " ++ thread_name t.1.name ++ codes "\n")

-- those of threads
abbrev pub threads_text : List ((ℕ × ℕ) × Thread) → List ℕ
threads_text threads = flat_map thread_line threads

-- the same as an object, with a name
abbrev pub named_data : ℕ × ℕ → Thread → (name : List ℕ) → Data
named_data who t name = object
    (member (codes "end") (number_data t.end)
    (member (codes "name") (string name)
    (member (codes "pid") (count_data who.0)
    (member (codes "samples") (count_data t.samples)
    (member (codes "start") (number_data t.start)
    (member (codes "tid") (count_data who.1)
    no_members))))))

-- the same
abbrev pub thread_data : (ℕ × ℕ) × Thread → Data
thread_data t = named_data t.0 t.1 (thread_name t.1.name)

-- those of threads
abbrev pub threads_data : List ((ℕ × ℕ) × Thread) → List Data
threads_data threads = map thread_data threads
