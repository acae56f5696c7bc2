use Rattle.std.proofs.Common.{◌≡◌, ℕ, List, ◌∷◌, true, sym, ◌∙◌, ap}
use Rattle.perf_base.specs.Dynamic.{order_of}
use Rattle.perf_base.specs.Order.{Order}
use Rattle.perf_records.specs.FrameList.{sights}
use Rattle.perf_records.specs.Sights.{sight_of, sight_in}
use Rattle.perf_file.specs.Pieces.{drop_most, payload_length, size_of, after_frame}
use Rattle.perf_file.proofs.Laws.{first_sight, size_seen}
use Rattle.perf_file.proofs.finding.first_in.Goals as goal

pub returns : goal.returns
returns c =
    let o : Order = order_of c.args.order in
    let bytes : List ℕ = c.args.bytes.now in
    let found = sight_of c.in_ok-frame.frame in
    let order : order_of c.frames-all.result.order ≡ o = ap order_of c.frames-all.ensures.order in
    let steps : sights o bytes ≡ found ∷ sights (order_of c.next.new.self.order) c.next.new.self.left.now =
    ap (λ q. sights q bytes) (sym order) ∙ ap (sights (order_of c.frames-all.result.order)) (sym c.frames-all.ensures.left) ∙ c.in_ok-frame.ensures.steps in
    let first = first_sight o bytes found (sights (order_of c.next.new.self.order) c.next.new.self.left.now) steps in
    let behind : c.split_most.result.1.now ≡ after_frame o bytes = c.split_most.ensures.back ∙ ap (λ n. drop_most n bytes) (c.size_of.ensures ∙ ap size_of c.header_of.ensures ∙ size_seen o bytes found first.1) in
    let done = c.split_most-2.ensures.back ∙ ap (λ n. drop_most n c.split_most.result.1.now) (c.payload_length.ensures ∙ ap (payload_length o) first.1) ∙ ap (drop_most (payload_length o (sight_in o bytes true))) behind in
    (first.0, first.1, done)
