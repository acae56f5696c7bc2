use Rattle.std.proofs.Common.{rules}
use Rattle.perf_reader.proofs.Calls.{chain}
use Rattle.perf_records.specs.Records.{text_poke_is}
use Rattle.perf_types.specs.TextPoke.{text_poke, text_poke_value}
use Rattle.perf_records.proofs.TypeVisits.{no_borrowed}
use Rattle.perf_records.proofs.body.visit_text_poke.Goals as goal

pub returns-in-Ok : goal.returns-in-Ok
returns-in-Ok g c = search (rules, chain)

pub returns-in-Err : goal.returns-in-Err
returns-in-Err g c = record {
  call = no_borrowed g.V.Visitor.gives c.args.metadata (λ k. text_poke) text_poke_value text_poke_is c.in-Err.ensures.call;
}
