use Rattle.std.proofs.Common.{◌≡◌, ℕ, ◌+◌, ◌-◌, ◌<◌, ◌≤◌, ◌++◌, [], List, Ok, All, take, length, ap, subst, sym, ◌∙◌, arith}
use Rattle.std.proofs.lemmas.Grind.{take-set_at}
use Rattle.std.proofs.lemmas.List.{take_all, append-nil}
use Rattle.std.proofs.lemmas.List.Elements.{All-push}
use Rattle.std.proofs.lemmas.Result.{err_from_is_err_and}
use Rattle.perf_sections.specs.declared.section.Section.{Section}
use Rattle.perf_sections.specs.IdSections.{id_section_at, entry_count, sections_of}
use Rattle.perf_sections.specs.Opens.{◌>>=◌, each_from}
use Rattle.perf_sections.specs.Sections.{IsInside}
use Rattle.perf_file.proofs.Whole.{all_inside}
use Rattle.perf_outlines.proofs.Stepping.{step, stop, over, front_more, three_set, three_length}
use Rattle.perf_outlines.proofs.parts.fill_parts.Goals as goal

pub loop-index-init : goal.loop-index-init
loop-index-init c =
    let item = id_section_at c.args.bytes.now c.args.head in
    let count = entry_count c.args.head in
    let all : count - 0 ≡ count = omega arith in
    let three = three_set c.args.parts.now (record { start = 0; size = 104 }) c.args.head.attributes c.args.head.frames (omega (arith, c.requires.room)) in (
      subst (All (IsInside c.args.bytes.now)) (sym three) (all_inside c.args.bytes.now c.args.head [] c.requires.whole c.requires.good (λ k d lt. absurd (omega (arith, lt)))),
      ap (λ (front : List Section). each_from item 0 (count - 0) >>= λ ids. Ok (front ++ ids)) three
          ∙ ap (λ (n : ℕ). each_from item 0 n >>= λ ids. Ok (sections_of c.args.head ids)) all,
    )

pub returns-in_err-ids-clause-exact : goal.returns-in_err-ids-clause-exact
returns-in_err-ids-clause-exact c =
    let p = err_from_is_err_and c.from_residual.result c.from_residual.ensures.1 in
    rw (p.1, p.2) (sym c.loop-index.invariant.1 ∙ stop (id_section_at c.args.bytes.now c.args.head) (entry_count c.args.head) c.loop-index.index c.in_err-ids.field-0.0 (λ ids. Ok (take (3 + c.loop-index.index) c.loop-index.parts ++ ids)) c.loop-index-test.true (sym c.in_err-ids.ensures.value))

pub loop-index-preserved : goal.loop-index-preserved
loop-index-preserved c =
    let item = id_section_at c.args.bytes.now c.args.head in
    let count = entry_count c.args.head in
    let i = c.loop-index.index in
    let s = c.in_ok-ids.ids in
    let parts = c.loop-index.parts in
    let same = three_length c.args.parts.now (record { start = 0; size = 104 }) c.args.head.attributes c.args.head.frames in
    let room : 3 + i < length parts = omega (arith, c.loop-index.auto.parts, c.requires.room, c.loop-index-test.true, same) in
    let read = each_from item (i + 1) (count - (i + 1)) in
    let more = take-set_at parts (3 + i) (3 + (i + 1)) s (omega arith) room in (
      subst (All (IsInside c.args.bytes.now)) (sym more) (All-push (IsInside c.args.bytes.now) _ _ c.loop-index.invariant.0 c.in_ok-ids.ensures.inside),
      ap (λ (front : List Section). read >>= λ ids. Ok (front ++ ids)) more
          ∙ sym (front_more (take (3 + i) parts) s (λ ids. ids) read)
          ∙ sym (step item count i s (λ ids. Ok (take (3 + i) parts ++ ids)) c.loop-index-test.true (sym c.in_ok-ids.ensures.value))
          ∙ c.loop-index.invariant.1,
    )

pub returns-clause-exact : goal.returns-clause-exact
returns-clause-exact c =
    let i = c.loop-index.index in
    let parts = c.loop-index.parts in
    let same = three_length c.args.parts.now (record { start = 0; size = 104 }) c.args.head.attributes c.args.head.frames in
    let all : length parts ≤ 3 + i = omega (arith, c.loop-index.auto.parts, c.requires.room, c.loop-index-test.false, same) in
    sym c.loop-index.invariant.1
    ∙ over (id_section_at c.args.bytes.now c.args.head) (entry_count c.args.head) i (λ ids. Ok (take (3 + i) parts ++ ids)) c.loop-index-test.false
    ∙ ap (λ (xs : List Section). Ok xs) (append-nil (take (3 + i) parts) ∙ take_all (3 + i) parts all)

pub returns-clause-inside : goal.returns-clause-inside
returns-clause-inside c =
    let i = c.loop-index.index in
    let parts = c.loop-index.parts in
    let same = three_length c.args.parts.now (record { start = 0; size = 104 }) c.args.head.attributes c.args.head.frames in
    let all : length parts ≤ 3 + i = omega (arith, c.loop-index.auto.parts, c.requires.room, c.loop-index-test.false, same) in
    subst (All (IsInside c.args.bytes.now)) (take_all (3 + i) parts all) c.loop-index.invariant.0
