-- What a run over frames has handed out so far.
use Rattle.std.proofs.Common.{◌≡◌, ℕ, ◌+◌, ◌*◌, ◌≤◌, Bool, List, [], ◌∷◌, ◌++◌, length, take, drop, arith, refl, sym, ◌∙◌, subst, true, false, inl, inr}
use Rattle.std.specs.Prelude.{IsTrue, sum_by}
use Rattle.std.proofs.lemmas.Bool.{cases_lt}
use Rattle.std.proofs.lemmas.List.{drop_all}
use Rattle.std.proofs.lemmas.List.Sums.{sum_by-append}
use Rattle.perf_base.specs.Configuration.{Configuration}
use Rattle.perf_base.specs.Order.{Order}
use Rattle.perf_buffers.specs.Buffer.{Source}
use Rattle.perf_buffers.specs.Taking.{Moves}
use Rattle.perf_buffers.proofs.Takes.{takes_moves}
use Rattle.perf_records.proofs.Preservation.{within_all}
use Rattle.perf_reader.specs.ReaderState.{ReaderState}
use Rattle.perf_records.specs.Frames.{frame_length, first_frames}
use Rattle.perf_records.specs.Sights.{Sight, sight_in}
use Rattle.perf_records.proofs.Handovers.{sight_alone}
use Rattle.perf_parser.specs.FrameRuns.{Handed}
use Rattle.perf_parser.specs.Steps.{StepKind, HasTaken}
use Rattle.perf_parser.proofs.Lists.{one_frame_more}

-- bytes that were dropped were taken from the front
pub moved_by : (n : ℕ) (old new : Source) → new.left ≡ drop n old.left → Moves old new
moved_by n old new p = elim (cases_lt (length old.left) n) [
  | inl short ↦ (within_all old new n (omega arith) (p ∙ drop_all n old.left (omega arith))).1
  | inr fits ↦ takes_moves old new n (fits, p)
]

module _ {S : Type 0} (gets : S → Sight → Bool → S → Type 0) (o : Order) (all : Bool) where
  -- one frame more
  pub handed_on : (frames : List (List ℕ)) (frame : List ℕ) (was mid now : S) (go borrowed : Bool) → Handed gets o all was frames true mid → (IsTrue all → IsTrue borrowed) →
      gets mid (sight_in o frame borrowed) go now → Handed gets o all was (frames ++ frame ∷ []) go now
  handed_on [] frame was mid now true borrowed p chunk_is_borrowed got = (borrowed, chunk_is_borrowed, inl (now, subst (λ s. gets s (sight_in o frame borrowed) true now) p.0 got, (refl, refl)))
  handed_on [] frame was mid now false borrowed p chunk_is_borrowed got = (borrowed, chunk_is_borrowed, inr (subst (λ s. gets s (sight_in o frame borrowed) false now) p.0 got, refl, refl))
  handed_on (x ∷ xs) frame was mid now go borrowed p chunk_is_borrowed got = (
    p.0,
    p.1,
    elim p.2 [
      | inl more ↦ inl (more.0, more.1, handed_on xs frame more.0 mid now go borrowed more.2 chunk_is_borrowed got)
      | inr last ↦ let never : true ≡ false = last.2 in absurd (cc)
    ],
  )

-- The next frame was handed over, and taken.
abbrev pub HandsNext : {S : Type 0} → (S → Sight → Bool → S → Type 0) → ReaderState → S → Bool → ReaderState → S → Type 0
HandsNext gets old was go new now = IsTrue old.source.told →
    (8 ≤ length old.source.left)
    × ((borrowed : Bool) × (IsTrue old.source.whole → IsTrue borrowed) × gets was (sight_in old.order old.source.left borrowed) go now)
    × (new.source.left ≡ drop (frame_length old.order old.source.left) old.source.left) × (new.reads ≡ old.reads + 2)

pub hands_more : {S : Type 0} {kind : StepKind S} {state : S} (gets : Configuration → Order → S → Sight → Bool → S → Type 0) (start here new : ReaderState) (was mid now : S) (k : ℕ) (go : Bool) → HasTaken kind start k here state → IsTrue start.source.told →
    Handed (gets start.settings start.order) start.order start.source.whole was (first_frames start.order k start.source.left) true mid → HandsNext (gets here.settings here.order) here mid go new now →
    Handed (gets start.settings start.order) start.order start.source.whole was (first_frames start.order (k + 1) start.source.left) go now
hands_more {S} gets start here new was mid now k go taken told so_far next =
    let o : Order = start.order in let left : List ℕ = here.source.left in
    let n = next (taken.keeps.buffer.3 told) in let b : Bool = n.1.0 in
    let frame : List ℕ = take (frame_length o left) left in
    let got : gets start.settings o mid (sight_in o frame b) go now =
    subst (λ x. gets start.settings o mid x go now) (sym (sight_alone o left b))
    (subst (λ (x : Order). gets start.settings x mid (sight_in x left b) go now) taken.order (subst (λ c. gets c here.order mid (sight_in here.order left b) go now) taken.settings n.1.2)) in
    subst (λ xs. Handed (gets start.settings o) o start.source.whole was xs go now) (sym (one_frame_more start here k (taken.after told) n.0))
    (handed_on (gets start.settings o) o start.source.whole (first_frames o k start.source.left) frame was mid now go b so_far (λ is. n.1.1 (taken.keeps.buffer.0 ∙ is)) got)

-- two reads for each of some frames
pub twice : (frames : List (List ℕ)) → sum_by (λ frame. 2) frames ≡ 2 * length frames
twice [] = refl
twice (frame ∷ frames) = omega (arith, sum_by-append (λ (frame : List ℕ). 2) (frame ∷ []) frames, twice frames)
