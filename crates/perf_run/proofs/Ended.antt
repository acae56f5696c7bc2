-- What a run that ended before its limit has written.
use Rattle.std.proofs.Common.{◌≡◌, ℕ, ◌+◌, ◌<◌, ◌≤◌, Bool, true, List, ◌++◌, length, arith, refl, sym, subst}
use Rattle.std.specs.Prelude.{IsTrue}
use Rattle.perf_base.specs.Order.{Order}
use Rattle.perf_base.specs.Errors.{kind_of}
use Rattle.perf_base.specs.Configuration.{Configuration}
use Rattle.perf_records.specs.Frames.{drop_frames}
use Rattle.perf_records.specs.Answers.{answers}
use Rattle.perf_reader.specs.Reading.{is_external}
use Rattle.perf_parser.specs.Runs.{EndsWith, end_refusal}
use Rattle.perf_parser.specs.declared.run.RunEnd.{RunEnd}
use Rattle.perf_parser.specs.declared.run.RunEnd.TheVariants as end
use Rattle.perf_lines.specs.declared.outcome.Outcome.{Outcome}
use Rattle.perf_run.specs.Outcomes.{ending_line, ending_outcome}
use Rattle.perf_run.proofs.Progress.{Listed, all_listed, ends_alike}
use Rattle.perf_run.proofs.Endings.{Made, made_to_end, made_to_cut, made_to_fault, ends_early, is_external_fault}

pub made_to_ending : (f g : Bool) → (IsTrue g → IsTrue f) → (c : Configuration) (o : Order) (limit n batch : ℕ) → n + batch ≤ limit → (bytes start left after : List ℕ) (k : ℕ) (ended : RunEnd) → (ended ≡ end.Limit → ⊥) → EndsWith o batch left k ended after → (is_external (end_refusal ended) ≡ true → IsTrue g) → n ≤ length (answers c o bytes) → left ≡ drop_frames o n bytes → (made : List ℕ) (refused : Bool) → Listed c o bytes start (n + k) made refused → (now : List ℕ) (outcome : Outcome) → now ≡ made ++ ending_line ended → outcome ≡ ending_outcome ended refused → Made f c o limit bytes start outcome now
made_to_ending f g can c o limit n batch fits bytes start left after k end.Limit other ends fault within at made refused before now outcome grown is = absurd (other refl)
made_to_ending f g can c o limit n batch fits bytes start left after k end.Done other ends fault within at made refused before now outcome grown is =
    let below : n + k < limit = omega (arith, ends.0, fits) in
    made_to_end f c o limit bytes start (n + k) made refused before (all_listed c o bytes n k left within at ends.1) below (ends_alike c o bytes n left _ within at ends.2) now grown outcome is
made_to_ending f g can c o limit n batch fits bytes start left after k end.CutHeader other ends fault within at made refused before now outcome grown is =
    let below : n + k < limit = omega (arith, ends.0, fits) in
    made_to_cut f c o limit bytes start (n + k) made refused before (all_listed c o bytes n k left within at ends.1) below (ends_alike c o bytes n left _ within at ends.2) now grown outcome is
made_to_ending f g can c o limit n batch fits bytes start left after k (end.Fault e) other ends fault within at made refused before now outcome grown is =
    let below : n + k < limit = omega (arith, ends.0, fits) in
    let early = ends_early f (kind_of e) ends.1 (λ external. can (fault (is_external_fault (kind_of e) external))) in
    subst (λ x. Made f c o limit bytes start x now) (sym is) (made_to_fault f c o limit bytes start (n + k) made refused before below (kind_of e) early now grown)
