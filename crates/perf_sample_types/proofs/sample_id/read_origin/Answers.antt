use Rattle.std.proofs.Common.{◌≡◌, Err, sym, ◌∙◌}
use Rattle.perf_base.specs.Layout.{w4, w8}
use Rattle.perf_words.specs.SetBits.{sample_flags_bits}
use Rattle.perf_reader.proofs.After.{came_up, call_none, plain}
use Rattle.perf_reader.proofs.RequestedParts.{option_after}
use Rattle.perf_sample_types.specs.SampleId.{has_tid, has_time, has_id}
use Rattle.perf_sample_types.proofs.Flags.{contains_tid, contains_time, contains_id}
use Rattle.perf_sample_types.proofs.ReadParts.{option_refused}
use Rattle.perf_sample_types.proofs.sample_id.read_origin.Goals as goal

pub returns-in_err-read_u32_if : goal.returns-in_err-read_u32_if
returns-in_err-read_u32_if g c =
    let up : c.from_residual.result ≡ Err c.in_err-read_u32_if.field-0.0 = came_up _ _ c.from_residual.ensures in
    let e = c.in_err-read_u32_if.ensures in rw up (record { call = plain _ _ (λ _. e.memory) (option_refused w4 (λ _. has_tid (sample_flags_bits c.args.flags)) _ _ (sym (contains_tid _) ∙ sym (c.contains-has_task.ensures tt)) e.call) })

pub returns-in_err-read_u32_if-2 : goal.returns-in_err-read_u32_if-2
returns-in_err-read_u32_if-2 g c =
    let up : c.from_residual-in_err-read_u32_if-2.result ≡ Err c.in_err-read_u32_if-2.field-0.0 = came_up _ _ c.from_residual-in_err-read_u32_if-2.ensures in
    let e = c.in_err-read_u32_if-2.ensures in rw up (record { call = plain _ _ (λ _. e.memory) (option_after w4 (λ _. has_tid (sample_flags_bits c.args.flags)) _ _ (sym (contains_tid _) ∙ sym (c.contains-has_task.ensures tt)) c.in_ok-read_u32_if.ensures.call (option_refused w4 (λ _. has_tid (sample_flags_bits c.args.flags)) _ _ (sym (contains_tid _) ∙ sym (c.contains-has_task.ensures tt)) e.call)) })

pub returns-in_err-read_u64_if : goal.returns-in_err-read_u64_if
returns-in_err-read_u64_if g c =
    let up : c.from_residual-in_err-read_u64_if.result ≡ Err c.in_err-read_u64_if.field-0.0 = came_up _ _ c.from_residual-in_err-read_u64_if.ensures in
    let e = c.in_err-read_u64_if.ensures in rw up (record { call = plain _ _ (λ _. e.memory) (option_after w4 (λ _. has_tid (sample_flags_bits c.args.flags)) _ _ (sym (contains_tid _) ∙ sym (c.contains-has_task.ensures tt)) c.in_ok-read_u32_if.ensures.call (option_after w4 (λ _. has_tid (sample_flags_bits c.args.flags)) _ _ (sym (contains_tid _) ∙ sym (c.contains-has_task.ensures tt)) c.in_ok-read_u32_if-2.ensures.call (option_refused w8 (λ _. has_time (sample_flags_bits c.args.flags)) _ _ (sym (contains_time _) ∙ sym (c.contains.ensures tt)) e.call))) })

pub returns-in_err-read_u64_if-2 : goal.returns-in_err-read_u64_if-2
returns-in_err-read_u64_if-2 g c =
    let up : c.from_residual-in_err-read_u64_if-2.result ≡ Err c.in_err-read_u64_if-2.field-0.0 = came_up _ _ c.from_residual-in_err-read_u64_if-2.ensures in
    let e = c.in_err-read_u64_if-2.ensures in rw up (record { call = plain _ _ (λ _. e.memory) (option_after w4 (λ _. has_tid (sample_flags_bits c.args.flags)) _ _ (sym (contains_tid _) ∙ sym (c.contains-has_task.ensures tt)) c.in_ok-read_u32_if.ensures.call (option_after w4 (λ _. has_tid (sample_flags_bits c.args.flags)) _ _ (sym (contains_tid _) ∙ sym (c.contains-has_task.ensures tt)) c.in_ok-read_u32_if-2.ensures.call (option_after w8 (λ _. has_time (sample_flags_bits c.args.flags)) _ _ (sym (contains_time _) ∙ sym (c.contains.ensures tt)) c.in_ok-read_u64_if.ensures.call (option_refused w8 (λ _. has_id (sample_flags_bits c.args.flags)) _ _ (sym (contains_id _) ∙ sym (c.contains-2.ensures tt)) e.call)))) })

pub returns : goal.returns
returns g c = record { call = plain _ _ (λ _. tt) (option_after w4 (λ _. has_tid (sample_flags_bits c.args.flags)) _ _ (sym (contains_tid _) ∙ sym (c.contains-has_task.ensures tt)) c.in_ok-read_u32_if.ensures.call (option_after w4 (λ _. has_tid (sample_flags_bits c.args.flags)) _ _ (sym (contains_tid _) ∙ sym (c.contains-has_task.ensures tt)) c.in_ok-read_u32_if-2.ensures.call (option_after w8 (λ _. has_time (sample_flags_bits c.args.flags)) _ _ (sym (contains_time _) ∙ sym (c.contains.ensures tt)) c.in_ok-read_u64_if.ensures.call (option_after w8 (λ _. has_id (sample_flags_bits c.args.flags)) _ _ (sym (contains_id _) ∙ sym (c.contains-2.ensures tt)) c.in_ok-read_u64_if-2.ensures.call (call_none {show = λ o. o}))))) }
