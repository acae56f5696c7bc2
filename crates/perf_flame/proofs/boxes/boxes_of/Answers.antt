use Rattle.std.proofs.Common.{[], ◌∷◌, ◌++◌, ℕ, List, length, map, sym, ap, zero-add, ◌∙◌, arith}
use Rattle.std.proofs.lemmas.List.{length-map, drop_all}
use Rattle.perf_flame.specs.Boxes.{if_wide, flame_box}
use Rattle.perf_flame.specs.BoxViews.{box_view}
use Rattle.perf_flame.specs.FoldedLines.{entry_line}
use Rattle.perf_flame.specs.Lines.{total_of}
use Rattle.perf_flame.specs.Scans.{scan}
use Rattle.perf_flame.specs.declared.boxes.FlameBox.{FlameBox}
use Rattle.perf_flame.proofs.Ascending.{length_shares, pass_finds}
use Rattle.perf_flame.proofs.boxes.boxes_of.Goals as goal

pub loop-at-init : goal.loop-at-init
loop-at-init c =
    let lines = map entry_line c.args.stacks.now in
    let total : ℕ = c.args.total in
    record {
      long = ap (λ (ns : List ℕ). length ns) c.in_ok-shares.ensures ∙ length_shares [] lines ∙ length-map c.args.stacks.now entry_line;
      before = zero-add (total_of lines) ∙ sym c.requires.total;
      boxes =
          ap (λ bs. bs ++ scan total 0 c.in_ok-shares.shares.items lines)
          (c.in_ok-push_if_wide.ensures ∙ ap (λ (bs : List FlameBox). map box_view bs ++ if_wide total (flame_box (97 ∷ 108 ∷ 108 ∷ []) 0 0 total)) c.new-found.ensures.items);
    }

pub returns : goal.returns
returns c =
    let stacks = c.args.stacks.now in
    pass_finds stacks c.args.total c.loop-at.before c.in_ok-shares.shares.items _ _ (map box_view c.loop-at.found.items) c.requires.ordered c.requires.total c.in_ok-shares.ensures
    (drop_all c.loop-at.at stacks (omega (arith, c.loop-at-test.false))) c.loop-at.invariant.boxes
