use Rattle.std.proofs.Common.{◌≡◌, ◌++◌, Contains, take, drop, length, get_or, sym, subst, ap, ◌∙◌, arith}
use Rattle.std.proofs.Math.Seq.{take-append_seam}
use Rattle.perf_base.specs.Dynamic.{order_of}
use Rattle.perf_sections.specs.NamePlaces.{unnamed, rank_of, HasRank}
use Rattle.perf_sections.specs.Names.{key_of}
use Rattle.perf_sections.specs.Opened.{event_in}
use Rattle.perf_sections.proofs.naming_events.names_of.Goals as goal

pub returns-clause-kept : goal.returns-clause-kept
returns-clause-kept c index a s lt =
    let now = c.find_names.new.names in
    let old = c.in_ok-found.found.items in
    let key = key_of (event_in (order_of c.args.order) c.args.bytes.now (get_or c.args.attributes.now index a, get_or c.args.sections.now index s)) in
    let there = subst (λ ps. Contains ps (unnamed key)) (sym c.deref_mut.ensures.value) (c.in_ok-found.ensures.keys index a s lt) in
    let count : c.in_ok-found.found.len ≡ length now = omega arith in
    let same : take c.in_ok-found.found.len (now ++ drop (length now) old) ≡ now = ap (λ n. take n (now ++ drop (length now) old)) count ∙ take-append_seam now (drop (length now) old) in
    subst (λ ps. HasRank ps (rank_of key)) (sym same) (c.find_names.ensures.kept (unnamed key) there)
