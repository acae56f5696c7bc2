use Rattle.std.proofs.Common.{◌≡◌, Err, rules, sym, ap, ◌∙◌, if◌then◌else◌}
use Rattle.perf_base.specs.Layout.{w4, w8, padding}
use Rattle.perf_words.specs.SetBits.{sample_flags_bits}
use Rattle.perf_reader.proofs.Calls.{chain}
use Rattle.perf_reader.proofs.After.{came_up, part_after, padded, plain}
use Rattle.perf_reader.proofs.RequestedParts.{option_after}
use Rattle.perf_sample_types.specs.SampleId.{has_stream_id, has_cpu, has_identifier}
use Rattle.perf_sample_types.proofs.Flags.{sample_flags, contains_stream_id, contains_cpu, contains_identifier}
use Rattle.perf_sample_types.proofs.ReadParts.{part_refused, option_refused}
use Rattle.perf_sample_types.proofs.sample_id.read_after.Goals as goal

pub returns : goal.returns
returns g c = search (rules, chain, sample_flags)

pub returns-in_err-stream_id : goal.returns-in_err-stream_id
returns-in_err-stream_id g c =
    let up : c.from_residual.result ≡ Err c.in_err-stream_id.field-0.0 = came_up _ _ c.from_residual.ensures in
    let e = c.in_err-stream_id.ensures in rw up (record { call = plain _ _ (λ _. e.memory) (option_refused w8 (λ _. has_stream_id (sample_flags_bits c.args.flags)) _ _ (sym (contains_stream_id _) ∙ sym (c.contains.ensures tt)) e.call) })

pub returns-in_err-cpu : goal.returns-in_err-cpu
returns-in_err-cpu g c =
    let up : c.from_residual-in_err-cpu.result ≡ Err c.in_err-cpu.field-0.0 = came_up _ _ c.from_residual-in_err-cpu.ensures in
    let e = c.in_err-cpu.ensures in rw up (record { call = plain _ _ (λ _. e.memory) (option_after w8 (λ _. has_stream_id (sample_flags_bits c.args.flags)) _ _ (sym (contains_stream_id _) ∙ sym (c.contains.ensures tt)) c.in_ok-stream_id.ensures.call (option_refused w4 (λ _. has_cpu (sample_flags_bits c.args.flags)) _ _ (sym (contains_cpu _) ∙ sym (c.contains-has_cpu.ensures tt)) e.call)) })

pub returns-in_err-skip : goal.returns-in_err-skip
returns-in_err-skip g c =
    let up : c.from_residual-in_err-skip.result ≡ Err c.in_err-skip.field-0.0 = came_up _ _ c.from_residual-in_err-skip.ensures in
    let e = c.in_err-skip.ensures in rw up (record { call = plain _ _ (λ _. e.memory) (option_after w8 (λ _. has_stream_id (sample_flags_bits c.args.flags)) _ _ (sym (contains_stream_id _) ∙ sym (c.contains.ensures tt)) c.in_ok-stream_id.ensures.call (option_after w4 (λ _. has_cpu (sample_flags_bits c.args.flags)) _ _ (sym (contains_cpu _) ∙ sym (c.contains-has_cpu.ensures tt)) c.in_ok-cpu.ensures.call (part_refused (padding (if has_cpu (sample_flags_bits c.args.flags) then 4 else 0)) (λ _. tt) _ (padded _ _ (c.padding_len.ensures ∙ ap (λ b. if b then 4 else 0) (sym (sym (contains_cpu _) ∙ sym (c.contains-has_cpu.ensures tt)))) e.call)))) })

pub returns-in_err-identifier : goal.returns-in_err-identifier
returns-in_err-identifier g c =
    let up : c.from_residual-in_err-identifier.result ≡ Err c.in_err-identifier.field-0.0 = came_up _ _ c.from_residual-in_err-identifier.ensures in
    let e = c.in_err-identifier.ensures in rw up (record { call = plain _ _ (λ _. e.memory) (option_after w8 (λ _. has_stream_id (sample_flags_bits c.args.flags)) _ _ (sym (contains_stream_id _) ∙ sym (c.contains.ensures tt)) c.in_ok-stream_id.ensures.call (option_after w4 (λ _. has_cpu (sample_flags_bits c.args.flags)) _ _ (sym (contains_cpu _) ∙ sym (c.contains-has_cpu.ensures tt)) c.in_ok-cpu.ensures.call (part_after (padding (if has_cpu (sample_flags_bits c.args.flags) then 4 else 0)) (λ _. tt) _ (padded _ _ (c.padding_len.ensures ∙ ap (λ b. if b then 4 else 0) (sym (sym (contains_cpu _) ∙ sym (c.contains-has_cpu.ensures tt)))) c.in_ok-skip.ensures.call) (option_refused w8 (λ _. has_identifier (sample_flags_bits c.args.flags)) _ _ (sym (contains_identifier _) ∙ sym (c.contains-2.ensures tt)) e.call)))) })
