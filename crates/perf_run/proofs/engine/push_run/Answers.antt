use Rattle.std.proofs.Common.{◌≡◌, ℕ, ◌+◌, ◌<◌, ◌≤◌, ◌^◌, List, length, take, string_bytes, arith, subst, ap, ◌∙◌}
use Rattle.std.specs.Prelude.{◌||◌}
use Rattle.perf_records.specs.Frames.{drop_frames}
use Rattle.perf_base.specs.Configured.{configuration_of, endian_of}
use Rattle.perf_records.specs.Answers.{answers}
use Rattle.perf_parser.specs.Runs.{seen_answers, EndsWith}
use Rattle.perf_records.proofs.FramesAfter.{after_more}
use Rattle.perf_run.proofs.Progress.{Listed, batch_more}
use Rattle.perf_run.proofs.Endings.{Made, if_ok_map}
use Rattle.perf_run.proofs.Ended.{made_to_ending}
use Rattle.perf_run.proofs.engine.push_run.Goals as goal

pub returns-in_default : goal.returns-in_default
returns-in_default g c = λ told.
    let i = c.loop-count.invariant in
    let r = c.read_records-run in
    let start = c.args.parser.now in
    let f = (g.B.ParseBuf.source start.reader.input.buf).can_fault in
    let old : List ℕ = string_bytes c.args.text.now in
    let made : List ℕ = string_bytes c.loop-count.text in
    let now : List ℕ = string_bytes c.push_lines.new.text in
    let order = g.E.Endian.order (endian_of start.reader.config) in
    let config = configuration_of start.reader.config in
    let bytes : List ℕ = (g.B.ParseBuf.source start.reader.input.buf).left in
    let buffer = g.B.ParseBuf.source c.loop-count.parser.reader.input.buf in
    let left : List ℕ = buffer.left in
    let after : List ℕ = (g.B.ParseBuf.source r.new.parser.reader.input.buf).left in
    let n : ℕ = c.loop-count.count in
    let pairs = r.result.frames.items in
    let k : ℕ = length pairs in
    let t = i.told told in
    let are = subst (λ p. seen_answers pairs ≡ take k (answers (configuration_of p) (g.E.Endian.order (endian_of p)) left)) i.config (r.ensures.answers t) in
    let ends = subst (λ p. EndsWith (g.E.Endian.order (endian_of p)) c.min-batch.result left k r.result.end after) i.config (r.ensures.end t) in
    let listed = i.listed told in
    let within : n + c.min-batch.result ≤ c.args.limit = omega (arith, c.min-batch.ensures, c.loop-count-test.true) in
    let fits : n + length c.deref.result.now < 2 ^ 64 = omega (arith, ap length c.deref.ensures.value, r.ensures.count, within, c.ranges.limit.fits) in
    let batch : Listed config order bytes old (n + k) now (c.loop-count.any_refused || c.has_refusal-any_refused.result) =
    batch_more config order bytes old n made c.loop-count.any_refused listed left (i.left told) pairs are
    c.deref.result.now c.deref.ensures.value now (c.in_ok-push_lines.ensures fits)
    c.deref-in-loop-count.result.now c.deref-in-loop-count.ensures.value c.has_refusal-any_refused.result c.has_refusal-any_refused.ensures in
    if_ok_map c.push_ending.result _ (λ outcome. Made f config order c.args.limit bytes old outcome (string_bytes c.push_ending.new.text))
    (λ outcome last. made_to_ending f buffer.can_fault i.can_fault config order c.args.limit n c.min-batch.result within bytes old left after k r.result.end c.in_default.not-Limit ends r.ensures.keeps.fault listed.within (i.left told) now _ batch (string_bytes c.push_ending.new.text) outcome last.0 last.1)
    c.push_ending.ensures

pub loop-count-preserved : goal.loop-count-preserved
loop-count-preserved g c = record {
  within = omega (arith, c.loop-count.invariant.within, c.min-batch.ensures, c.loop-count-test.true);
  config = c.read_records-run.ensures.config ∙ c.loop-count.invariant.config;
  can_fault = λ can. c.loop-count.invariant.can_fault (c.read_records-run.ensures.keeps.buffer.1 can);
  told = λ told. c.read_records-run.ensures.keeps.buffer.3 (c.loop-count.invariant.told told);
  left = λ told.
      let i = c.loop-count.invariant in
      let r = c.read_records-run in
      let start = c.args.parser.now in
      let old : List ℕ = string_bytes c.args.text.now in
      let order = g.E.Endian.order (endian_of start.reader.config) in
      let config = configuration_of start.reader.config in
      let bytes : List ℕ = (g.B.ParseBuf.source start.reader.input.buf).left in
      let left : List ℕ = (g.B.ParseBuf.source c.loop-count.parser.reader.input.buf).left in
      let n : ℕ = c.loop-count.count in
      let pairs = r.result.frames.items in
      let k : ℕ = length pairs in
      let t = i.told told in
      let are = subst (λ p. seen_answers pairs ≡ take k (answers (configuration_of p) (g.E.Endian.order (endian_of p)) left)) i.config (r.ensures.answers t) in
      let ends = rw c.in-Limit.is at (subst (λ p. EndsWith (g.E.Endian.order (endian_of p)) c.min-batch.result left k r.result.end (g.B.ParseBuf.source r.new.parser.reader.input.buf).left) i.config (r.ensures.end t)) in
      ends.1 ∙ ap (λ xs. drop_frames order k xs) (i.left told) ∙ after_more order n k bytes ∙ ap (λ j. drop_frames order (n + j) bytes) ends.0;
  listed = λ told.
      let i = c.loop-count.invariant in
      let r = c.read_records-run in
      let start = c.args.parser.now in
      let old : List ℕ = string_bytes c.args.text.now in
      let made : List ℕ = string_bytes c.loop-count.text in
      let now : List ℕ = string_bytes c.push_lines.new.text in
      let order = g.E.Endian.order (endian_of start.reader.config) in
      let config = configuration_of start.reader.config in
      let bytes : List ℕ = (g.B.ParseBuf.source start.reader.input.buf).left in
      let left : List ℕ = (g.B.ParseBuf.source c.loop-count.parser.reader.input.buf).left in
      let n : ℕ = c.loop-count.count in
      let pairs = r.result.frames.items in
      let k : ℕ = length pairs in
      let t = i.told told in
      let are = subst (λ p. seen_answers pairs ≡ take k (answers (configuration_of p) (g.E.Endian.order (endian_of p)) left)) i.config (r.ensures.answers t) in
      let ends = rw c.in-Limit.is at (subst (λ p. EndsWith (g.E.Endian.order (endian_of p)) c.min-batch.result left k r.result.end (g.B.ParseBuf.source r.new.parser.reader.input.buf).left) i.config (r.ensures.end t)) in
      let listed = i.listed told in
      let within : n + c.min-batch.result ≤ c.args.limit = omega (arith, c.min-batch.ensures, c.loop-count-test.true) in
      let fits : n + length c.deref.result.now < 2 ^ 64 = omega (arith, ap length c.deref.ensures.value, ends.0, within, c.ranges.limit.fits) in
      let batch : Listed config order bytes old (n + k) now (c.loop-count.any_refused || c.has_refusal-any_refused.result) =
      batch_more config order bytes old n made c.loop-count.any_refused listed left (i.left told) pairs are
      c.deref.result.now c.deref.ensures.value now (c.in_ok-push_lines.ensures fits)
      c.deref-in-loop-count.result.now c.deref-in-loop-count.ensures.value c.has_refusal-any_refused.result c.has_refusal-any_refused.ensures in
      subst (λ j. Listed config order bytes old (n + j) now (c.loop-count.any_refused || c.has_refusal-any_refused.result)) ends.0 batch;
}
