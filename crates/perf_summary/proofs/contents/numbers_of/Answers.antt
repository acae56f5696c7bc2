use Rattle.std.proofs.Common.{◌≡◌, true, Some, sym, ap, subst, ◌∙◌}
use Rattle.std.specs.Prelude.{option_map}
use Rattle.std.specs.Result.{result_ok}
use Rattle.perf_base.specs.Configured.{configuration_of}
use Rattle.perf_base.specs.Dynamic.{order_of}
use Rattle.perf_base.specs.declared.endian.Dynamic.{Dynamic}
use Rattle.perf_buffers.specs.Buffer.{chunk_bytes, chunk_is_borrowed}
use Rattle.perf_records.specs.Answers.{answer_after}
use Rattle.perf_records.specs.Sights.{whole, sight_of}
use Rattle.perf_file.specs.Entries.{config_of}
use Rattle.perf_file.specs.Payloads.{has_payload}
use Rattle.perf_file.specs.Pieces.{piece_of}
use Rattle.perf_file.specs.Views.{view}
use Rattle.perf_summary.specs.Contents.{numbers_of, AreNumbersBy}
use Rattle.perf_summary.proofs.Records.{read_under}
use Rattle.perf_summary.proofs.contents.numbers_of.Goals as goal

pub returns-in-Some : goal.returns-in-Some
returns-in-Some c =
    let f = view c.args.recording.now in
    let p = piece_of c.args.found.now in
    let k = configuration_of c.in-Some.config.now in
    let o = order_of c.args.recording.now.order in
    let h = c.in-Ok.frame.header in
    let bytes = chunk_bytes c.in-Ok.frame.rest in
    let found = whole h bytes (chunk_is_borrowed c.in-Ok.frame.rest) in
    let read = c.record_numbers.result in
    let is = c.record_numbers.ensures ∙ ap (λ (d : Dynamic). option_map numbers_of (result_ok (answer_after k (order_of d) h bytes))) c.in-Some.ensures.order in
    let there : has_payload f p ≡ true = sym c.has_payload.ensures ∙ c.if-not-has_payload.false in
    let base = subst (λ r. AreNumbersBy true (Some k) o p.owner found r) (sym is) (read_under k o p.owner h bytes (chunk_is_borrowed c.in-Ok.frame.rest)) in
    subst (λ b. AreNumbersBy b (config_of f p.owner) o p.owner p.frame read) (sym there)
    (subst (λ a. AreNumbersBy true a o p.owner p.frame read) c.in-Some.ensures.value
    (subst (λ s. AreNumbersBy true (Some k) o p.owner (sight_of s) read) (sym c.in-Ok.is) base))
