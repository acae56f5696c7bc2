use Rattle.std.proofs.Common.{◌≡◌, OnOk, List, ℕ, map, ap, ◌∙◌, subst}
use Rattle.perf_flame.specs.Stacks.{clean}
use Rattle.perf_flame.specs.Grown.{text_of}
use Rattle.perf_flame.specs.Names.{thread_name}
use Rattle.perf_fold.proofs.PlainTexts.{thread_same}
use Rattle.perf_fold.proofs.stack.start.Goals as goal

pub returns : goal.returns
returns c = λ known past.
    let same = thread_same c.comm.result ∙ ap thread_name (c.comm.ensures known past) in
    subst (λ (name : List ℕ). OnOk c.start.result (text_of c.start.new.self ≡ map clean name)) same c.start.ensures
