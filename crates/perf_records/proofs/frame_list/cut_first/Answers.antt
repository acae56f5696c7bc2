use Rattle.std.proofs.Common.{◌≡◌, ℕ, ◌-◌, ◌≤◌, List, true, take, drop, length, arith, refl, sym, ◌∙◌, ap, subst}
use Rattle.std.proofs.lemmas.Bool.Decides.{nat_tests}
use Rattle.std.proofs.lemmas.List.{take_all, length-drop}
use Rattle.perf_base.specs.Header.{header_of}
use Rattle.perf_base.specs.Order.{Order}
use Rattle.perf_base.specs.declared.sys.perf_event_header.{perf_event_header}
use Rattle.perf_buffers.specs.Buffer.{chunk_bytes, chunk_is_borrowed}
use Rattle.perf_records.specs.Answers.{length_after}
use Rattle.perf_records.specs.Sights.{whole, sight_after}
use Rattle.perf_records.proofs.Headers.{after_frame, header_take}
use Rattle.perf_records.proofs.Handovers.{finished}
use Rattle.perf_records.proofs.frame_list.cut_first.Goals as goal

pub returns : goal.returns
returns g c =
    let o : Order = g.E.Endian.order c.args.order.now in
    let bytes : List ℕ = c.args.bytes.now in
    let h : perf_event_header = c.header_in-header.result in
    let fits : 8 ≤ length bytes = c.in-Some.ensures.variant.0 refl in
    let sized : 8 ≤ h.size = grind (arith, nat_tests) in
    let front = c.in-Some.ensures.cases in
    let e : h ≡ header_of o bytes = c.header_in-header.ensures ∙ ap (header_of o) front.same ∙ header_take o 0 bytes in
    let all : take (length bytes - 8) (drop 8 bytes) ≡ drop 8 bytes = take_all (length bytes - 8) (drop 8 bytes) (omega (arith, length-drop 8 bytes)) in
    let n = c.new-2.ensures in
    let s = c.split_at.ensures in
    let long : length_after h ≤ length (drop 8 bytes) = subst (λ (xs : List ℕ). length_after h ≤ length xs) all c.if-rest-len.false in
    let body : chunk_bytes c.new-2.result.rest ≡ take (length_after h) (drop 8 bytes) = n.rest ∙ s.front ∙ ap (take (length_after h)) all in
    let outcome : whole c.new-2.result.header (chunk_bytes c.new-2.result.rest) (chunk_is_borrowed c.new-2.result.rest) ≡ whole h (take (length_after h) (drop 8 bytes)) true =
    ap (λ k. whole k (chunk_bytes c.new-2.result.rest) (chunk_is_borrowed c.new-2.result.rest)) n.header ∙ ap (λ xs. whole h xs (chunk_is_borrowed c.new-2.result.rest)) body ∙ ap (λ b. whole h (take (length_after h) (drop 8 bytes)) b) n.chunk_is_borrowed in (
      fits,
      outcome ∙ sym (finished h (drop 8 bytes) true sized long) ∙ ap (λ k. sight_after k (drop 8 bytes) true) e,
      after_frame o bytes (drop 8 bytes) c.split_at.result.1.now h e refl (s.back ∙ ap (drop (length_after h)) all),
    )
