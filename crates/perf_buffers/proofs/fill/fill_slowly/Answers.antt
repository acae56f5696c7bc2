use Rattle.std.proofs.Common.{rules, ◌≤◌, take, ap, ◌≡◌, ◌-◌, length, ◌∙◌}
use Rattle.perf_buffers.proofs.Takes.{takes_more, take_on, length_on}
use Rattle.perf_buffers.proofs.fill.fill_slowly.Goals as goal

pub loop-at-preserved : goal.loop-at-preserved
loop-at-preserved g c =
    let i = c.loop-at.invariant in let e = c.in-Ok.ensures in let n = c.in-Ok.count in
    let same : length c.take_some.new.out ≡ length c.loop-at.out - c.loop-at.at = search rules in
    let within : n ≤ length c.take_some.new.out = search rules in (
      length_on c.loop-at.at n c.loop-at.out c.take_some.new.out i.0 same within,
      search rules,
      (λ told. let k = i.2 told in let o = e.ok (i.1.3 told) in (
        takes_more (g.B.ParseBuf.source c.args.buf.now) (g.B.ParseBuf.source c.loop-at.buf) (g.B.ParseBuf.source c.take_some.new.buf) c.loop-at.at n k.0 o.0,
        take_on c.loop-at.at n c.loop-at.out c.take_some.new.out (g.B.ParseBuf.source c.args.buf.now).left i.0 same within k.1 (o.1 ∙ ap (λ xs. take n xs) k.0.1),
      )),
    )
