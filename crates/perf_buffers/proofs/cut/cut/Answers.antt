use Rattle.std.proofs.Common.{refl, ◌≡◌, ℕ, false, sym, ap, ◌∙◌}
use Rattle.std.specs.Prelude.{Option, IsTrue}
use Rattle.perf_buffers.specs.Buffer.{Source}
use Rattle.perf_buffers.specs.Prelude.{kinds, kind_if_refused, cursor_left}
use Rattle.perf_buffers.specs.Room.{falls_short}
use Rattle.perf_buffers.proofs.Assembled.{nothing_is_short, takes_nothing, not_both, enough_said, whole_has_said, makes_room, can_fail_later, fails_later, out_of_memory_later, keeps_later}
use Rattle.perf_buffers.proofs.Chunks.{stays_then}
use Rattle.perf_buffers.proofs.Options.{some_matches, none_matches, if_some_is}
use Rattle.perf_buffers.proofs.cut.cut.Goals as goal

pub returns-then-len-eq0 : goal.returns-then-len-eq0
returns-then-len-eq0 g c =
    let old : Source = g.B.ParseBuf.source c.args.buf.now in record {
      stays = (refl {a = old.whole}, (λ x. x), refl {a = old.faults}, (λ x. x));
      can_fail = tt;
      whole = λ w. refl;
      whole_memory = λ w. tt;
      nothing = λ none. (refl, refl, refl {a = old});
      short = λ few. absurd (nothing_is_short (g.B.ParseBuf.hint c.args.buf.now) c.args.len c.if-len-eq0.true few);
      beforehand = λ told all. tt;
      ok = λ told. takes_nothing old c.args.len c.if-len-eq0.true;
      start = tt;
      count = sym c.if-len-eq0.true;
      err = λ told. tt;
    }

pub returns-then-says_too_few : goal.returns-then-says_too_few
returns-then-says_too_few g c =
    let e = c.shortage.ensures in record {
      stays = e.stays;
      can_fail = e.can_fail;
      whole = λ w. tt;
      whole_memory = λ w. e.no_memory;
      nothing = λ none. absurd (c.if-len-eq0.false none);
      short = λ few. (e.no_memory, tt);
      beforehand = λ told all out. absurd (e.no_memory out);
      ok = λ told. tt;
      start = tt;
      count = tt;
      err = e.err;
    }

pub returns-in-Ok-Some : goal.returns-in-Ok-Some
returns-in-Ok-Some g c =
    let o = c.in-Ok-Some in
    let e = c.in-Ok-Some.ensures in record {
      stays = e.stays;
      can_fail = tt;
      whole = λ w. some_matches _ _ o.field-0 o.content o.field-0-is (e.whole w);
      whole_memory = λ w. tt;
      nothing = λ none. absurd (c.if-len-eq0.false none);
      short = λ few. absurd (not_both (g.B.ParseBuf.hint c.args.buf.now) c.args.len (enough_said _ c.args.len _ _ c.remaining_hint-hint.ensures.is c.says_too_few.ensures c.if-says_too_few.false) few);
      beforehand = λ told all. tt;
      ok = λ told. some_matches _ _ o.field-0 o.content o.field-0-is (e.ok told);
      start = if_some_is _ o.field-0 o.content o.field-0-is e.start;
      count = if_some_is _ o.field-0 o.content o.field-0-is e.count;
      err = λ told. tt;
    }

pub returns-in-Ok-None : goal.returns-in-Ok-None
returns-in-Ok-None g c =
    let old : Source = g.B.ParseBuf.source c.args.buf.now in
    let mid : Source = g.B.ParseBuf.source c.cut_at_once.new.buf in
    let new : Source = g.B.ParseBuf.source c.cut_slowly.new.buf in
    let r = c.cut_slowly.result in
    let o = c.in-Ok-None in
    let a = c.in-Ok-None.ensures in
    let b = c.cut_slowly.ensures in
    let hint : Option ℕ = c.remaining_hint-hint.result in
    let enough : falls_short hint c.args.len ≡ false = sym c.says_too_few.ensures ∙ c.if-says_too_few.false in
    let asked : hint ≡ g.B.ParseBuf.hint c.args.buf.now = c.remaining_hint-hint.ensures.is in
    let left : IsTrue old.told → mid.left ≡ old.left = λ told. none_matches _ _ o.field-0 o.field-0-is (a.ok told) in
    let cut_short : IsTrue old.whole → ⊥ = whole_has_said old hint c.args.len c.remaining_hint-hint.ensures.whole c.remaining_hint-hint.ensures.exact enough (λ w. none_matches _ _ o.field-0 o.field-0-is (a.whole w)) in
    record {
      stays = stays_then old mid new (kind_if_refused (kinds r)) a.stays b.stays;
      can_fail = can_fail_later old mid (kind_if_refused (kinds r)) a.stays.1 b.can_fail;
      whole = λ w. absurd (cut_short w);
      whole_memory = λ w. absurd (cut_short w);
      nothing = λ none. absurd (c.if-len-eq0.false none);
      short = λ few. absurd (not_both (g.B.ParseBuf.hint c.args.buf.now) c.args.len (ap (λ h. falls_short h c.args.len) (sym asked) ∙ enough) few);
      beforehand = λ told all. out_of_memory_later old mid new r (left told) (b.beforehand (a.stays.3 told) (makes_room _ hint c.args.len c.is_some.result asked c.is_some.ensures all));
      ok = λ told. keeps_later cursor_left old mid new c.args.len r (left told) (b.ok (a.stays.3 told));
      start = b.start;
      count = b.count;
      err = λ told. fails_later old mid new c.args.len r (left told) (b.err (a.stays.3 told));
    }

pub returns-in-Err : goal.returns-in-Err
returns-in-Err g c =
    let e = c.in-Err.ensures in record {
      stays = e.stays;
      can_fail = e.can_fail;
      whole = λ w. tt;
      whole_memory = e.whole_memory;
      nothing = λ none. absurd (c.if-len-eq0.false none);
      short = λ few. absurd (not_both (g.B.ParseBuf.hint c.args.buf.now) c.args.len (enough_said _ c.args.len _ _ c.remaining_hint-hint.ensures.is c.says_too_few.ensures c.if-says_too_few.false) few);
      beforehand = λ told all. e.beforehand told refl;
      ok = λ told. tt;
      start = tt;
      count = tt;
      err = e.err;
    }
