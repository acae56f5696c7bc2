-- Calls one after the other.
use Rattle.std.proofs.Common.{length, refl, sym, ◌∙◌, ap, arith}
use Rattle.perf_reader.specs.ReaderState.{ReaderState}
use Rattle.perf_reader.specs.Reading.{last_of}
use Rattle.perf_reader.proofs.Calls.{last_all, last_last, keeps_none}
use Rattle.perf_parser.specs.Calls.{BasicInvariant}
use Rattle.perf_base.proofs.Took.{places_took}

-- nothing was done
pub follows_none : (m : ReaderState) → BasicInvariant m m
follows_none m = record {
  whole = refl;
  told = λ t. t;
  can_fault = λ c. c;
  place = λ t. (omega arith, sym (last_all m.source.left));
}

-- one call after others
pub follows_more : (start old new : ReaderState) → BasicInvariant start old → BasicInvariant old new → BasicInvariant start new
follows_more start old new p q = record {
  whole = q.whole ∙ p.whole;
  told = λ t. q.told (p.told t);
  can_fault = λ c. p.can_fault (q.can_fault c);
  place = λ t. let a = p.place t in let b = q.place (p.told t) in (
    omega (arith, a.0, b.0),
    b.1 ∙ ap (last_of (length new.source.left)) a.1 ∙ last_last (length new.source.left) (length old.source.left) start.source.left b.0 a.0,
  );
}

-- what calls one after another need
pub ruleset chain = (places_took, keeps_none, follows_none)
