use Rattle.std.proofs.Common.{◌<◌, ◌≤◌, ◌++◌, ℕ, List, length, reverse, ap, sym, ◌∙◌, arith}
use Rattle.std.proofs.lemmas.List.{get_or-reverse, length-reverse, take_all}
use Rattle.perf_flame.specs.Grown.{text_of}
use Rattle.perf_walk.specs.declared.calls.Call.{Call}
use Rattle.perf_fold.specs.SampleStacks.{call_text, calls_text}
use Rattle.perf_fold.proofs.Calling.{call_more}
use Rattle.perf_fold.proofs.stack.push_each.Goals as goal

pub loop-index-preserved : goal.loop-index-preserved
loop-index-preserved c = λ pid known is.
    let calls : List Call = c.args.calls.now in
    let i : ℕ = c.loop-index.index in
    let within : i < length calls = omega (arith, c.loop-index-test.true) in
    let there = λ (d : Call). sym (get_or-reverse calls i d within) in
    let more = c.in_ok-push_call.ensures pid known is ∙ ap (λ (call : Call). text_of c.loop-index.stacks ++ call_text c.args.frames pid known call) (there _) in
    call_more c.args.frames pid known (reverse calls) i _ (text_of c.args.stacks.now) (text_of c.loop-index.stacks) (text_of c.push_call.new.stacks)
    (omega (arith, within, length-reverse calls)) more (c.loop-index.invariant pid known is)

pub returns : goal.returns
returns c = λ pid known is.
    let calls : List Call = c.args.calls.now in
    let all : length (reverse calls) ≤ c.loop-index.index = omega (arith, c.loop-index-test.false, length-reverse calls) in
    c.loop-index.invariant pid known is
    ∙ ap (λ (cs : List Call). text_of c.args.stacks.now ++ calls_text c.args.frames pid known cs) (take_all c.loop-index.index (reverse calls) all)
