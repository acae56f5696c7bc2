use Rattle.std.proofs.Common.{◌≡◌, ℕ, ◌≤◌, ◌<◌, List, [], ◌∷◌, length, inl, inr, sym, ◌∙◌, ap}
use Rattle.std.proofs.lemmas.Bool.{cases_lt}
use Rattle.perf_base.specs.Dynamic.{order_of}
use Rattle.perf_base.specs.Order.{Order}
use Rattle.perf_file.specs.Views.{view}
use Rattle.perf_records.proofs.FrameList.{some_sight}
use Rattle.perf_records.specs.FrameList.{sights}
use Rattle.perf_records.specs.Sights.{sight_of}
use Rattle.perf_file.specs.Pieces.{drop_most, take_most, payload_length, size_of, header_seen}
use Rattle.perf_file.proofs.Laws.{first_sight, piece_is}
use Rattle.perf_file.proofs.listing.cut_first.Goals as goal

pub returns : goal.returns
returns c =
    let f = view c.args.recording.now in
    let o : Order = order_of f.order in
    let bytes : List ℕ = c.args.bytes.now in
    let behind : List ℕ = c.split_most.result.1.now in
    let found = sight_of c.in_ok-frame.frame in
    let order : order_of c.frames-all.result.order ≡ o = ap order_of c.frames-all.ensures.order in
    let steps : sights o bytes ≡ found ∷ sights (order_of c.next.new.self.order) c.next.new.self.left.now =
    ap (λ q. sights q bytes) (sym order) ∙ ap (sights (order_of c.frames-all.result.order)) (sym c.frames-all.ensures.left) ∙ c.in_ok-frame.ensures.steps in
    let first = first_sight o bytes found (sights (order_of c.next.new.self.order) c.next.new.self.left.now) steps in
    let rest : behind ≡ drop_most (size_of (header_seen found)) bytes = c.split_most.ensures.back ∙ ap (λ n. drop_most n bytes) (c.size_of.ensures ∙ ap size_of c.header_of.ensures) in
    let paid : c.split_most-2.result.0.now ≡ take_most (payload_length o found) behind = c.split_most-2.ensures.front ∙ ap (λ n. take_most n behind) c.payload_length.ensures in
    let done : c.split_most-2.result.1.now ≡ drop_most (payload_length o found) behind = c.split_most-2.ensures.back ∙ ap (λ n. drop_most n behind) c.payload_length.ensures in
    let piece = piece_is f c.place_in.result c.owner_of_found.result bytes behind c.split_most-2.result.0.now c.split_most-2.result.1.now found c.place_in.ensures c.owner_of_found.ensures first.1 rest paid done in
    (first.0, piece.0, piece.1)

few : (o : Order) (bytes : List ℕ) → sights o bytes ≡ [] → length bytes < 8
few o bytes none = elim (cases_lt (length bytes) 8) [ inl lt ↦ lt | inr le ↦ absurd (some_sight o bytes le none) ]

pub returns-in_err-frame : goal.returns-in_err-frame
returns-in_err-frame c =
    let o : Order = order_of c.args.recording.now.order in
    let bytes : List ℕ = c.args.bytes.now in
    let order : order_of c.frames-all.result.order ≡ o = ap order_of c.frames-all.ensures.order in
    let none : sights o bytes ≡ [] =
    ap (λ q. sights q bytes) (sym order) ∙ ap (sights (order_of c.frames-all.result.order)) (sym c.frames-all.ensures.left) ∙ c.in_err-frame.ensures.steps.0 in
    rw c.from_residual.ensures (few o bytes none)
