-- A call of a reader, and the call of a parser that is made of it.
use Rattle.std.proofs.Common.{◌≡◌, refl, sym, ◌∙◌, ap, subst}
use Rattle.std.specs.Prelude.{Option, Some, Result, Err, IsTrue}
use Rattle.perf_base.specs.Order.{Order}
use Rattle.perf_base.specs.Refusals.{kind_if_refused}
use Rattle.perf_base.specs.declared.error.ErrorKind.{ErrorKind}
use Rattle.perf_buffers.specs.Buffer.{Source}
use Rattle.perf_buffers.specs.declared.outer.Outer.{Outer}
use Rattle.perf_reader.specs.ReaderState as reader
use Rattle.perf_reader.specs.ReaderState.{ReaderState}
use Rattle.perf_reader.specs.Reading.{Transition, CallInvariant}
use Rattle.perf_reader.specs.Calls as reader_calls
use Rattle.perf_reader.specs.declared.reader.Reader.{Reader}
use Rattle.perf_reader.proofs.Calls.{keeps_none}
use Rattle.perf_parser.specs.ReaderState.{reader_of, parser_buffer, parser_config, parser_reads, parser_state}
use Rattle.perf_parser.specs.Calls.{BasicInvariant, Call}
use Rattle.perf_parser.specs.declared.parser.Parser.{Parser}
use Rattle.perf_parser.proofs.Calls.{follows_more}

-- what was kept is followed
pub keeps_follows : (start new : ReaderState) (e : Option ErrorKind) → CallInvariant start e new → BasicInvariant start new
keeps_follows start new e k = record {
  whole = k.buffer.0;
  told = k.buffer.3;
  can_fault = k.buffer.1;
  place = k.place;
}

-- the same call, of a parser
pub lifted : {B E X : Type 0} (source : B → Source) (order : E → Order) (transition : Transition X) (old new : Parser B E) (outcome : Result X ErrorKind) →
    reader_calls.Call (λ (o : Outer B). source o.buf) order transition (reader_of old) outcome (reader_of new) → Call source order transition old outcome new
lifted source order transition old new outcome c =
    let a : ReaderState = parser_state source order old in
    let b : ReaderState = parser_state source order new in record {
      config = c.config;
      whole = c.whole;
      told = c.told;
      answer = c.answer;
      counted = c.keeps;
      follows = λ start p. follows_more start a b p (keeps_follows a b (kind_if_refused outcome) (c.keeps a (keeps_none a)));
    }

-- the same of a call whose refusal became an error
pub answered : {B E X : Type 0} (source : B → Source) (order : E → Order) (transition : Transition X) (old new : Parser B E) (mid : Reader (Outer B) E) (e k : ErrorKind) →
    reader_calls.Call (λ (o : Outer B). source o.buf) order transition (reader_of old) (Err e) mid → k ≡ e →
    parser_buffer new ≡ reader.buffer_of mid → parser_config new ≡ reader.config_of mid → parser_reads new ≡ reader.reads_of mid → Call source order transition old (Err k) new
answered {B = B} source order transition old new mid e k c same buffer config reads =
    let a : ReaderState = parser_state source order old in
    let b : ReaderState = parser_state source order new in
    let m : ReaderState = reader.state_of (λ (o : Outer B). source o.buf) order mid in
    let is : b ≡ m = rw (buffer, config, reads) refl in
    subst (λ (why : ErrorKind). Call source order transition old (Err why) new) (sym same) (record {
      config = config ∙ c.config;
      whole = ap (λ u. (source u).whole) buffer ∙ c.whole;
      told = λ t. subst (λ u. IsTrue (source u).told) (sym buffer) (c.told t);
      answer = λ t. subst (transition a (Err e)) (sym is) (c.answer t);
      counted = λ start p. subst (CallInvariant start (Some e)) (sym is) (c.keeps start p);
      follows = λ start p. subst (BasicInvariant start) (sym is) (follows_more start a m p (keeps_follows a m (Some e) (c.keeps a (keeps_none a))));
    })
