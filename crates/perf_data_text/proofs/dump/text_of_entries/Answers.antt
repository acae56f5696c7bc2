use Rattle.std.proofs.Common.{◌≡◌, ℕ, List, ◌∷◌, [], ◌++◌, ◌+◌, ◌<◌, ◌^◌, length, take, string_bytes, sym, ap, ◌∙◌, subst, Option, arith}
use Rattle.std.specs.Prelude.{option_map}
use Rattle.std.proofs.lemmas.List.{length-take-le}
use Rattle.perf_file.specs.Pieces.{Piece, piece_of}
use Rattle.perf_file.specs.Views.{view}
use Rattle.perf_file.specs.declared.listing.FileFrame.{FileFrame}
use Rattle.perf_data_text.specs.DumpText.{pieces_at}
use Rattle.perf_data_text.specs.declared.dump.Lines.{Lines}
use Rattle.perf_data_text.proofs.InTurn.{IsMade, made_more, entry_some, entry_none, few_at}
use Rattle.perf_data_text.proofs.dump.text_of_entries.Goals as goal
use Rattle.perf_data_text.proofs.dump.text_of_entries.Goals.{in-Some+in_ok-push, in_default}

pub loop-entry-preserved : goal.loop-entry-preserved
loop-entry-preserved c =
    let f = view c.args.recording.now in
    let entries = c.args.entries.now in
    let i : ℕ = c.loop-entry.entry-index in
    let old = c.loop-entry.lines in
    let below : i < length entries = omega (arith, c.loop-entry-test.true) in
    let small : old.count + 1 < 2 ^ 64 = omega (arith, c.requires, below, c.loop-entry.invariant.counted, few_at f (take i entries), length-take-le i entries (omega (arith, below))) in
    elim c.match-frame_at.branch [
      | in-Some+in_ok-push w ↦
          let p = piece_of w.in-Some.found in
          let new = w.push.new.self in
          let more : pieces_at f (take (i + 1) entries) ≡ pieces_at f (take i entries) ++ p ∷ [] = entry_some f entries i _ p below (sym w.in-Some.ensures) in
          let made = made_more f (pieces_at f (take i entries)) p old.count new.count old.refused new.refused (string_bytes old.text) (string_bytes new.text)
          c.loop-entry.invariant (w.in_ok-push.ensures.count small) w.in_ok-push.ensures.refused w.in_ok-push.ensures.text in
          let after = subst (λ (ps : List Piece). IsMade f ps new.count new.refused (string_bytes new.text)) (sym more) made in
          subst (λ (l : Lines). IsMade f (pieces_at f (take (i + 1) entries)) l.count l.refused (string_bytes l.text)) (sym w.lines-is) after
      | in_default w ↦
          let none = sym c.frame_at.ensures ∙ ap (λ (o : Option FileFrame). option_map piece_of o) w.in_default.is in
          let same : pieces_at f (take (i + 1) entries) ≡ pieces_at f (take i entries) = entry_none f entries i _ below none in
          let after = subst (λ (ps : List Piece). IsMade f ps old.count old.refused (string_bytes old.text)) (sym same) c.loop-entry.invariant in
          subst (λ (l : Lines). IsMade f (pieces_at f (take (i + 1) entries)) l.count l.refused (string_bytes l.text)) (sym w.lines-is) after
    ]
