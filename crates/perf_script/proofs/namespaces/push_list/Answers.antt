use Rattle.std.proofs.Common.{◌≡◌, ℕ, suc, ◌+◌, ◌/◌, ◌++◌, ◌≤◌, List, drop, take, length, refl, sym, ◌∙◌, ap, arith}
use Rattle.std.proofs.lemmas.List.{length-drop}
use Rattle.perf_base.specs.Dynamic.{order_of}
use Rattle.perf_base.specs.Order.{Order}
use Rattle.perf_script.specs.FlatLines.{namespaces_in}
use Rattle.perf_script.specs.NamespaceText.{gap_before, namespace_text, namespaces_from}
use Rattle.perf_columns.proofs.Appended.{three}
use Rattle.perf_script.proofs.NamespaceLists.{fewer, first_text}
use Rattle.perf_script.proofs.namespaces.push_list.Goals as goal

pub loop-left-preserved : goal.loop-left-preserved
loop-left-preserved c =
    let o : Order = order_of c.args.order in
    let index : ℕ = c.loop-left.index in
    let left : List ℕ = c.loop-left.left.now in
    let after : List ℕ = c.bytes_after-left.result.now in
    let fits : 16 ≤ length left = c.loop-left-test.true in
    let dropped : after ≡ drop 16 left = c.bytes_after-left.ensures in
    let less : length left / 16 ≡ suc (length after / 16) = fewer (length left) (length after) fits (ap length dropped ∙ length-drop 16 left) in
    let old : List ℕ = c.loop-left.text.items in
    let rest : List ℕ = namespaces_from (suc index) (namespaces_in o after) in
    let made : List ℕ = c.push_namespace.new.text.items in
    let device : ℕ = o.eight (take 8 left) in
    let inode : ℕ = o.eight (take 8 (drop 8 left)) in
    let gap = c.in_ok-extend_from_slice.ensures.items ∙ ap (λ t. old ++ t) c.gap_before.ensures in
    let first = c.extend_from_slice.new.self.items in
    let entry = c.in_ok-push_namespace.ensures ∙ ap (λ n. first ++ namespace_text index n c.first_number-in-loop-left.result) c.first_number.ensures ∙ ap (λ n. first ++ namespace_text index device n) (c.first_number-in-loop-left.ensures ∙ ap (λ bytes. o.eight (take 8 bytes)) c.bytes_after.ensures) in
    let next : index + 1 ≡ suc index = omega arith in (
      omega (arith, less, c.loop-left.invariant.0),
      ap (λ k. made ++ namespaces_from k (namespaces_in o after)) next
          ∙ three old (gap_before index) (namespace_text index device inode) rest _ _ (made ++ rest) gap entry refl
          ∙ ap (λ t. old ++ t) (sym (first_text o index left after fits dropped)) ∙ c.loop-left.invariant.1,
    )
