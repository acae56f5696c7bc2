use Rattle.std.proofs.Common.{◌≡◌, ap, sym, ◌∙◌}
use Rattle.std.specs.Prelude.{Result}
use Rattle.perf_base.specs.Dynamic.{order_of}
use Rattle.perf_records.specs.Sights.{sight_of}
use Rattle.perf_records.specs.declared.frame.Frame.{Frame}
use Rattle.perf_records.specs.declared.frame_handler.BadFrame.{BadFrame}
use Rattle.perf_file.specs.Pipes.{body_seen}
use Rattle.perf_file.proofs.Noted.{body_fits, body_is}
use Rattle.perf_file.proofs.noting.body_of.Goals as goal

pub bytes_at-requires : goal.bytes_at-requires
bytes_at-requires c =
    let seen : c.rest.result.now ≡ body_seen (sight_of c.args.found.now) = c.rest.ensures ∙ ap (λ (f : Result Frame BadFrame). body_seen (sight_of f)) (sym c.in-Ok.is) in
    body_fits (order_of c.args.order) c.args.bytes.now c.rest.result.now (sight_of c.args.found.now) c.requires.long c.requires.first seen

pub returns-in-Ok : goal.returns-in-Ok
returns-in-Ok c =
    let found = sight_of c.args.found.now in
    let seen : c.rest.result.now ≡ body_seen found = c.rest.ensures ∙ ap (λ (f : Result Frame BadFrame). body_seen (sight_of f)) (sym c.in-Ok.is) in
    let body : c.bytes_at.result.now ≡ body_seen found = c.bytes_at.ensures ∙ body_is (order_of c.args.order) c.args.bytes.now c.rest.result.now found c.requires.long c.requires.first seen in record {
      value = body;
      fits = body_fits (order_of c.args.order) c.args.bytes.now c.bytes_at.result.now found c.requires.long c.requires.first body;
    }

pub returns-in-Err : goal.returns-in-Err
returns-in-Err c = record {
  value = ap (λ (f : Result Frame BadFrame). body_seen (sight_of f)) (sym c.in-Err.is);
  fits = c.requires.long;
}
