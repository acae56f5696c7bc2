use Rattle.std.proofs.Common.{refl, ◌≡◌, ℕ, [], true, false, sym, ap, ◌∙◌}
use Rattle.perf_buffers.specs.Buffer.{Source}
use Rattle.perf_buffers.specs.Room.{falls_short}
use Rattle.perf_buffers.proofs.Assembled.{nothing_is_short, takes_nothing, not_both, enough_said, found_whole, found_cut, whole_has_said, makes_room, can_fail_later, fails_later, out_of_memory_later, same_later, gives_later}
use Rattle.perf_buffers.specs.Prelude.{kinds, kind_if_refused}
use Rattle.std.specs.Prelude.{Option, IsTrue}
use Rattle.perf_buffers.proofs.Chunks.{stays_then}
use Rattle.perf_buffers.proofs.outer.Outer.with_frame.Goals as goal

pub returns-then-len-eq0 : goal.returns-then-len-eq0
returns-then-len-eq0 g c =
    let old : Source = g.B.ParseBuf.source c.args.self.now.buf in record {
      stays = (refl {a = old.whole}, (λ x. x), refl {a = old.faults}, (λ x. x));
      can_fail = tt;
      whole_memory = λ w. tt;
      nothing = λ none. (refl, refl {a = old}, c.read.ensures);
      short = λ few. absurd (nothing_is_short (g.B.ParseBuf.hint c.args.self.now.buf) c.args.len c.if-len-eq0.true few);
      beforehand = λ told all. tt;
      ok = ([], true, c.read.ensures, sym c.if-len-eq0.true, (λ told. takes_nothing old c.args.len c.if-len-eq0.true), (λ w. refl));
      same = tt;
      err = λ told. tt;
    }

pub returns-then-says_too_few : goal.returns-then-says_too_few
returns-then-says_too_few g c =
    let e = c.shortage.ensures in record {
      stays = e.stays;
      can_fail = e.can_fail;
      whole_memory = λ w. e.no_memory;
      nothing = λ none. absurd (c.if-len-eq0.false none);
      short = λ few. (e.no_memory, tt);
      beforehand = λ told all out. absurd (e.no_memory out);
      ok = tt;
      same = refl {a = c.args.state.now};
      err = e.err;
    }

pub returns-in-Ok-Whole : goal.returns-in-Ok-Whole
returns-in-Ok-Whole g c =
    let old : Source = g.B.ParseBuf.source c.args.self.now.buf in
    let e = c.in-Ok-Whole.ensures in record {
      stays = e.stays;
      can_fail = tt;
      whole_memory = λ w. tt;
      nothing = λ none. absurd (c.if-len-eq0.false none);
      short = λ few. absurd (not_both (g.B.ParseBuf.hint c.args.self.now.buf) c.args.len (enough_said _ c.args.len _ _ c.remaining_hint-hint.ensures.is c.says_too_few.ensures c.if-says_too_few.false) few);
      beforehand = λ told all. tt;
      ok = found_whole (g.F.FrameReader.gives c.args.reader) c.args.reader old c.args.len c.args.state.now c.in-Ok-Whole.field-0 c.in-Ok-Whole.output _ _ c.in-Ok-Whole.field-0-is e.ok;
      same = tt;
      err = λ told. tt;
    }

pub returns-in-Err : goal.returns-in-Err
returns-in-Err g c =
    let e = c.in-Err.ensures in record {
      stays = e.stays;
      can_fail = e.can_fail;
      whole_memory = λ w. e.memory;
      nothing = λ none. absurd (c.if-len-eq0.false none);
      short = λ few. (e.memory, tt);
      beforehand = λ told all out. absurd (e.memory out);
      ok = tt;
      same = e.same;
      err = e.err;
    }

pub returns-in-Ok-Cut : goal.returns-in-Ok-Cut
returns-in-Ok-Cut g c =
    let old : Source = g.B.ParseBuf.source c.args.self.now.buf in
    let mid : Source = g.B.ParseBuf.source c.read_in_place.new.buf in
    let new : Source = g.B.ParseBuf.source c.read_assembled.new.buf in
    let r = c.read_assembled.result in
    let a = c.in-Ok-Cut.ensures in
    let b = c.read_assembled.ensures in
    let f = found_cut (g.F.FrameReader.gives c.args.reader) c.args.reader c.in-Ok-Cut.reader old c.args.len c.args.state.now c.in-Ok-Cut.field-0 mid c.read_in_place.new.state c.in-Ok-Cut.field-0-is a.ok in
    let hint : Option ℕ = c.remaining_hint-hint.result in
    let enough : falls_short hint c.args.len ≡ false = sym c.says_too_few.ensures ∙ c.if-says_too_few.false in
    let asked : hint ≡ g.B.ParseBuf.hint c.args.self.now.buf = c.remaining_hint-hint.ensures.is in
    let cut_short : IsTrue old.whole → ⊥ = whole_has_said old hint c.args.len c.remaining_hint-hint.ensures.whole c.remaining_hint-hint.ensures.exact enough f.short in
    record {
      stays = stays_then old mid new (kind_if_refused (kinds r)) a.stays b.stays;
      can_fail = can_fail_later old mid (kind_if_refused (kinds r)) a.stays.1 b.can_fail;
      whole_memory = λ w. absurd (cut_short w);
      nothing = λ none. absurd (c.if-len-eq0.false none);
      short = λ few. absurd (not_both (g.B.ParseBuf.hint c.args.self.now.buf) c.args.len (ap (λ h. falls_short h c.args.len) (sym asked) ∙ enough) few);
      beforehand = λ told all. out_of_memory_later old mid new r (f.left told) (b.beforehand (a.stays.3 told) (makes_room _ hint c.args.len c.is_some.result asked c.is_some.ensures all));
      ok = gives_later g.F.FrameReader.gives c.args.reader c.in-Ok-Cut.reader c.args.state.now c.read_in_place.new.state c.read_assembled.new.state old mid new c.args.len r f a.stays
          (b.ok (λ w. cut_short (sym a.stays.0 ∙ w)));
      same = same_later c.args.state.now c.read_in_place.new.state c.read_assembled.new.state r f.state b.same;
      err = λ told. fails_later old mid new c.args.len r (f.left told) (b.err (a.stays.3 told));
    }
