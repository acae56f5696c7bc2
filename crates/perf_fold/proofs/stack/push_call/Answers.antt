use Rattle.std.proofs.Common.{◌≡◌, ◌++◌, OnOk, List, ℕ, subst}
use Rattle.perf_flame.specs.Stacks.{frame_text}
use Rattle.perf_flame.specs.Grown.{text_of}
use Rattle.perf_fold.proofs.stack.push_call.Goals as goal

pub returns : goal.returns
returns c = λ pid known is.
    subst (λ (name : List ℕ). OnOk c.push.result (text_of c.push.new.self ≡ text_of c.args.stacks.now ++ frame_text name)) (c.place_at-place.ensures c.args.frames pid known is) c.push.ensures
