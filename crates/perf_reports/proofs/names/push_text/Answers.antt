use Rattle.std.proofs.Common.{◌≡◌, ◌++◌, ◌∙◌, ℕ, ◌+◌, List, length, drop, sym, ap, arith, rules, tests, append-nil, append_assoc, string_bytes}
use Rattle.std.specs.List.{flat_map}
use Rattle.std.specs.Str.{chars}
use Rattle.std.proofs.lemmas.Iterator.{YieldsList-from_chars}
use Rattle.std.proofs.lemmas.Iterator.Consumers.{YieldsList-turn, YieldsList-end}
use Rattle.std.proofs.lemmas.Iterator.Search.{all_from_yields_List}
use Rattle.std.proofs.lemmas.List.{at_drop_more, at_drop_all, length_push}
use Rattle.perf_reports.specs.TaskLines.{stays, escaped_char, escaped_text}
use Rattle.perf_reports.proofs.Appended.{pushed}
use Rattle.perf_reports.proofs.Escaped.{text_stays}
use Rattle.perf_reports.proofs.names.push_text.Goals as goal

pub returns-then-all : goal.returns-then-all
returns-then-all c =
    let all = all_from_yields_List stays _ _ c.all.result c.all.ensures.ran (YieldsList-from_chars c.args.part.now c.utf8.part cc) (λ x b q k. search (rules, tests)) in
    let same : escaped_text c.args.part.now ≡ c.args.part.now = text_stays c.args.part.now c.utf8.part (sym all ∙ c.if-all.true) in
    pushed c.push_str.result _ _ _ _ (sym same) c.push_str.ensures.bytes

pub loop-character-preserved : goal.loop-character-preserved
loop-character-preserved c =
    let cs : List ℕ = chars c.args.part.now in
    let text : List ℕ = string_bytes c.loop-character.text in
    let n = length c.loop-character.yielded in
    let rest : List ℕ = flat_map escaped_char (drop (n + 1) cs) in
    let t = YieldsList-turn (YieldsList-from_chars c.args.part.now c.utf8.part cc) c.loop-character.yielded _ c.loop-character.yielded_by _ _ c.in-Some.character c.in-Some.is c.next.ensures.steps in
    let e : flat_map escaped_char (drop n cs) ≡ escaped_char c.in-Some.character ++ rest = at_drop_more (flat_map escaped_char) cs n c.in-Some.character t.0 ∙ ap (λ x. escaped_char x ++ rest) (sym t.1) in
    ap (λ k. string_bytes c.push_char.new.text ++ flat_map escaped_char (drop k cs)) (length_push c.loop-character.yielded c.in-Some.character)
    ∙ ap (λ s. s ++ rest) c.in_ok-push_char.ensures ∙ append_assoc text (escaped_char c.in-Some.character) rest ∙ ap (λ s. text ++ s) (sym e) ∙ c.loop-character.invariant

pub returns : goal.returns
returns c =
    let cs : List ℕ = chars c.args.part.now in
    let text : List ℕ = string_bytes c.loop-character.text in
    let t = YieldsList-end (YieldsList-from_chars c.args.part.now c.utf8.part cc) c.loop-character.yielded _ c.loop-character.yielded_by _ _ c.in-None.is c.next.ensures.steps in
    sym (append-nil text) ∙ ap (λ s. text ++ s) (sym (at_drop_all (flat_map escaped_char) cs (length c.loop-character.yielded) (omega (arith, t.1)))) ∙ c.loop-character.invariant
