use Rattle.std.proofs.Common.{ℕ, ◌≤◌, List, length, take, drop, arith, sym, subst, length-drop}
use Rattle.std.specs.Io.KnownBytes.{Appends}
use Rattle.std.proofs.Math.Seq.{take-add}
use Rattle.std.proofs.lemmas.List.{take_rest}
use Rattle.perf_text.proofs.Written.{appends_more, appends_kept}
use Rattle.perf_text.proofs.output.write_whole.Goals as goal
use Rattle.perf_text.proofs.output.write_whole.Goals.{in-Ok, in-Err}

pub loop-preserved : goal.loop-preserved
loop-preserved g c =
    let contents = g.W.Write.contents in
    let at : ℕ = c.loop.at in
    let bytes : List ℕ = c.args.bytes.now in
    elim c.match-write.branch [
      | in-Ok w ↦ let count : ℕ = w.in-Ok.count in
          let rest = take_rest bytes at in
          let fits : count ≤ length (drop at bytes) = subst (λ (xs : List ℕ). count ≤ length xs) rest w.in-Ok.ensures.bound in
          let more : Appends (contents c.loop.output) (contents c.write.new.self) (take count (drop at bytes)) =
          subst (λ (xs : List ℕ). Appends (contents c.loop.output) (contents c.write.new.self) (take count xs)) rest w.in-Ok.ensures.bytes in
          rw w.at-is
          record {
            within = omega (arith, length-drop at bytes);
            written = subst (λ xs. Appends (contents c.args.output.now) (contents c.write.new.self) xs) (sym (take-add at count bytes))
                (appends_more (contents c.args.output.now) (contents c.loop.output) (contents c.write.new.self) (take at bytes) (take count (drop at bytes)) c.loop.invariant.written more);
          }
      | in-Err w ↦
          rw w.at-is
          record {
            within = c.loop.invariant.within;
            written = appends_kept (contents c.args.output.now) (contents c.loop.output) (contents c.write.new.self) (take at bytes) c.loop.invariant.written w.in-Err.ensures.bytes;
          }
    ]
