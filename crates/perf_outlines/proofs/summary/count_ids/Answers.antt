use Rattle.std.proofs.Common.{◌≡◌, ℕ, ◌+◌, ◌-◌, ◌/◌, Ok, min, length, ap, sym, ◌∙◌, arith}
use Rattle.std.proofs.lemmas.Result.{err_from_is_err_and}
use Rattle.perf_sections.specs.IdSections.{id_section_at, entry_count}
use Rattle.perf_sections.specs.Opens.{◌>>=◌, each_from}
use Rattle.perf_outlines.specs.Outlines.{id_count}
use Rattle.perf_outlines.proofs.Stepping.{step, stop, over, count_more, count_done}
use Rattle.perf_outlines.proofs.summary.count_ids.Goals as goal

pub returns-in_err-ids : goal.returns-in_err-ids
returns-in_err-ids c =
    let p = err_from_is_err_and c.from_residual.result c.from_residual.ensures.1 in
    let most = length c.args.bytes.now / 8 in
    rw (p.1, p.2) (sym (sym c.loop-index.invariant.1 ∙ stop (id_section_at c.args.bytes.now c.args.head) (entry_count c.args.head) c.loop-index.index c.in_err-ids.field-0.0 (λ all. Ok (min (c.loop-index.total + id_count all) most)) c.loop-index-test.true (sym c.in_err-ids.ensures.value)))

pub loop-index-preserved : goal.loop-index-preserved
loop-index-preserved c =
    let most = length c.args.bytes.now / 8 in
    let item = id_section_at c.args.bytes.now c.args.head in
    let count = entry_count c.args.head in
    let i = c.loop-index.index in
    let s = c.in_ok-ids.ids in
    let now : c.min-total.result ≡ min (c.loop-index.total + s.size / 8) most = omega (arith, c.min-total.ensures) in (
      omega (arith, now),
      ap (λ (n : ℕ). each_from item (i + 1) (count - (i + 1)) >>= λ all. Ok (min (n + id_count all) most)) now
          ∙ sym (count_more c.loop-index.total most s (each_from item (i + 1) (count - (i + 1))))
          ∙ sym (step item count i s (λ all. Ok (min (c.loop-index.total + id_count all) most)) c.loop-index-test.true (sym c.in_ok-ids.ensures.value))
          ∙ c.loop-index.invariant.1,
    )

pub returns : goal.returns
returns c =
    let most = length c.args.bytes.now / 8 in
    count_done c.loop-index.total most c.loop-index.invariant.0
    ∙ sym (over (id_section_at c.args.bytes.now c.args.head) (entry_count c.args.head) c.loop-index.index (λ all. Ok (min (c.loop-index.total + id_count all) most)) c.loop-index-test.false) ∙ c.loop-index.invariant.1
