use Rattle.std.proofs.Common.{◌++◌, ◌∙◌, ◌∷◌, [], List, ℕ, Option, codes, string_bytes, ap}
use Rattle.std.proofs.lemmas.Result.{on_ok_weaker}
use Rattle.perf_sample_types.specs.SampleGetters.{Getters, getters_of}
use Rattle.perf_sample_types.specs.SampleGroups.{sample_value}
use Rattle.perf_lines.proofs.Spaced.{spaced-words_of}
use Rattle.perf_lines.proofs.sample.push_moment.Goals as goal

pub returns : goal.returns
returns c =
    let g : Getters = getters_of (sample_value c.args.sample.now) in
    let fields : List (List ℕ × Option ℕ) = (codes "ip", g.ip) ∷ (codes "pid", g.pid) ∷ (codes "tid", g.tid) ∷ (codes "time", g.time) ∷ (codes "addr", g.addr) ∷ (codes "id", g.id) ∷ [] in
    on_ok_weaker c.push_numbers.result
    (λ grown. grown
    ∙ rw (c.ip.ensures, c.wide.ensures, c.pid.ensures, c.wide-2.ensures, c.tid.ensures, c.time.ensures, c.addr.ensures, c.id.ensures)
    (ap (λ rest. string_bytes c.args.text.now ++ rest) (spaced-words_of fields)))
    c.push_numbers.ensures
