-- Values parsed one after another.
use Rattle.std.proofs.Common.{◌≡◌, ℕ, List, [], ◌∷◌, ◌++◌, refl, sym, ap, subst, inl, inr}
use Rattle.std.specs.Prelude.{Result, Ok}
use Rattle.perf_base.specs.Configured.{configuration_of, endian_of}
use Rattle.perf_base.specs.Order.{Order}
use Rattle.perf_base.specs.declared.config.ParseConfig.{ParseConfig}
use Rattle.perf_base.specs.declared.error.ErrorKind.{ErrorKind}
use Rattle.perf_buffers.specs.Buffer.{Source}
use Rattle.perf_reader.specs.ReaderState.{ReaderState}
use Rattle.perf_reader.specs.Reading.{Transition}
use Rattle.perf_parser.specs.ReaderState.{parser_config, parser_state}
use Rattle.perf_parser.specs.Calls.{BasicInvariant, Counts, CallAs, CallOnly}
use Rattle.perf_parser.specs.Repeats.{Step, ParsesInTurn, StopsShort}
use Rattle.perf_parser.specs.declared.parser.Parser.{Parser}
use Rattle.perf_parser.proofs.Calls.{follows_none, follows_more}

-- a call is a step
pub step_of : {B E X : Type 0} (source : B → Source) (order : E → Order) (transition : Transition X) (counts : Counts) (old new : Parser B E) (outcome : Result X ErrorKind) →
    CallAs source order transition counts old outcome new → Step transition counts (parser_state source order old) outcome (parser_state source order new)
step_of {E = E} source order transition counts old new outcome c = record {
  answer = c.answer;
  counted = c.counted;
  follows = c.follows (parser_state source order old) (follows_none (parser_state source order old));
  settings = ap (λ (k : ParseConfig E). configuration_of k) c.config;
  order = ap (λ (k : ParseConfig E). order (endian_of k)) c.config;
}

module _ {T : Type 0} (parses : Transition T) (counts : Counts) where
  pub runs_on : (a b c : ReaderState) (xs : List T) (x : T) → ParsesInTurn parses counts a xs b → Step parses counts b (Ok x) c → ParsesInTurn parses counts a (xs ++ x ∷ []) c
  runs_on a b c [] x p q = (c, subst (λ m. Step parses counts m (Ok x) c) p q, refl)
  runs_on a b c (y ∷ ys) x p q = (p.0, p.1, runs_on p.0 b c ys x p.2 q)

  -- what several calls keep
  pub runs_follow : (a b : ReaderState) (xs : List T) → ParsesInTurn parses counts a xs b → BasicInvariant a b
  runs_follow a b [] p = subst (λ m. BasicInvariant a m) (sym p) (follows_none a)
  runs_follow a b (x ∷ xs) p = follows_more a p.0 b p.1.follows (runs_follow p.0 b xs p.2)

  pub short_follows : (a b : ReaderState) (n : ℕ) (e : ErrorKind) → StopsShort parses counts a n e b → BasicInvariant a b
  short_follows a b n e p = elim p [
    | inl q ↦ follows_more a q.1 b (runs_follow a q.1 q.0 q.3) q.4.follows
    | inr q ↦ runs_follow a b q.0 q.2
  ]

-- calls that follow one another are a call of which only this is stated
pub only : {B E X : Type 0} (source : B → Source) (order : E → Order) (old new : Parser B E) (outcome : Result X ErrorKind) →
    parser_config new ≡ parser_config old → BasicInvariant (parser_state source order old) (parser_state source order new) → CallOnly source order old outcome new
only source order old new outcome config f = record {
  config = config;
  whole = f.whole;
  told = f.told;
  answer = λ t. tt;
  counted = tt;
  follows = λ start p. follows_more start (parser_state source order old) (parser_state source order new) p f;
}
