use Rattle.std.proofs.Common.{◌≡◌, ◌++◌, ◌/◌, OnOk, List, length, ap, ◌∙◌, subst}
use Rattle.perf_base.specs.Dynamic.{order_of}
use Rattle.perf_base.specs.Layout.{words_of}
use Rattle.perf_flat.specs.Strings.{span_at}
use Rattle.perf_sample_types.specs.SampleGetters.{getters_of}
use Rattle.perf_walk.specs.Calls.{chain_calls, calls_of}
use Rattle.perf_walk.specs.declared.calls.Call.{Call}
use Rattle.perf_walk.proofs.Chains.{calls_here}
use Rattle.perf_walk.proofs.Sampled.{sample_spans}
use Rattle.perf_walk.proofs.calls.push_calls.Goals as goal

pub returns : goal.returns
returns c = λ config s is sampled.
    let o = order_of c.args.order in
    let bytes = c.args.bytes.now in
    let f = c.args.frame.now in
    let there = calls_here o bytes (span_at f.spans 0) (getters_of s).callchain (sample_spans config o bytes f s is sampled).callchain in
    let same : chain_calls (words_of o (length c.string.result.now / 8) c.string.result.now) ≡ calls_of s = ap (λ b. chain_calls (words_of o (length b / 8) b)) c.string.ensures ∙ there in
    subst (λ (list : List Call). OnOk c.push_chain.result (c.push_chain.new.calls.items ≡ c.args.calls.now.items ++ list)) same c.push_chain.ensures
