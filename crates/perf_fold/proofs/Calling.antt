-- The frames of calls, one after another.
use Rattle.std.proofs.Common.{◌≡◌, ℕ, ◌+◌, ◌<◌, List, [], ◌∷◌, ◌++◌, length, take, get_or, sym, ◌∙◌, ap, append_assoc, append-nil}
use Rattle.std.proofs.lemmas.Grind.{flat_map-append}
use Rattle.std.proofs.lemmas.List.{take_more}
use Rattle.perf_flame.specs.declared.names.Frames.{Frames}
use Rattle.perf_history.specs.declared.changes.Change.{Change}
use Rattle.perf_walk.specs.declared.calls.Call.{Call}
use Rattle.perf_fold.specs.SampleStacks.{call_text, calls_text}

pub call_more : (frames : Frames) (pid : ℕ) (known : List Change) (calls : List Call) (i : ℕ) (d : Call) (old mid new : List ℕ) → i < length calls
    → new ≡ mid ++ call_text frames pid known (get_or calls i d) → mid ≡ old ++ calls_text frames pid known (take i calls) → new ≡ old ++ calls_text frames pid known (take (i + 1) calls)
call_more frames pid known calls i d old mid new below more sofar =
    let here : List ℕ = call_text frames pid known (get_or calls i d) in
    let next : calls_text frames pid known (take (i + 1) calls) ≡ calls_text frames pid known (take i calls) ++ here =
    ap (calls_text frames pid known) (take_more calls i d below)
    ∙ flat_map-append (call_text frames pid known) (take i calls) (get_or calls i d ∷ [])
    ∙ ap (λ t. calls_text frames pid known (take i calls) ++ t) (append-nil here) in
    more ∙ ap (λ t. t ++ here) sofar ∙ append_assoc old (calls_text frames pid known (take i calls)) here ∙ ap (λ t. old ++ t) (sym next)
