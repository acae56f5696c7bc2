use Rattle.std.proofs.Common.{◌≡◌, Err, ap, sym, ◌∙◌, subst, false, rules, take, unwrap_or, nat_le}
use Rattle.std.specs.Prelude.{IsTrue}
use Rattle.std.proofs.lemmas.Bool.{lt-leb}
use Rattle.perf_base.specs.Cow.{cow_items}
use Rattle.perf_base.specs.Layout.{number, byte_string, optional, w8}
use Rattle.perf_reader.proofs.After.{came_up, part_after}
use Rattle.perf_reader.proofs.RequestedParts.{transient, check_holds, call_gives}
use Rattle.perf_sample_types.proofs.ReadParts.{part_refused, check_refused}
use Rattle.perf_sample_types.specs.Sample.{bytes_are}
use Rattle.perf_sample_types.proofs.sample_parts.StackReadField.read_field.Goals as goal

pub returns-in_err-size : goal.returns-in_err-size
returns-in_err-size g c =
    let up : c.from_residual.result ≡ Err c.in_err-size.field-0.0 = came_up _ _ c.from_residual.ensures in
    let e = c.in_err-size.ensures in rw up (record {
      memory = λ lasts lists. e.memory;
      call = transient _ _ _ (λ _ _. tt) (part_refused (number w8) (λ n. n) _ e.call);
    })

pub returns-in_err-bytes : goal.returns-in_err-bytes
returns-in_err-bytes g c =
    let up : c.from_residual-in_err-bytes.result ≡ Err c.in_err-bytes.field-0.0 = came_up _ _ c.from_residual-in_err-bytes.ensures in
    let e = c.in_err-bytes.ensures in rw up (record {
      memory = λ lasts lists. e.whole_memory (subst (λ b. IsTrue b) (sym c.in_ok-size.ensures.call.whole) lasts.1);
      call = transient _ _ _ (λ _ _. tt) (part_after (number w8) (λ n. n) _ c.in_ok-size.ensures.call (part_refused (byte_string _) cow_items _ e.call));
    })

pub returns-in_err-read_u64_if : goal.returns-in_err-read_u64_if
returns-in_err-read_u64_if g c =
    let up : c.from_residual-in_err-read_u64_if.result ≡ Err c.in_err-read_u64_if.field-0.0 = came_up _ _ c.from_residual-in_err-read_u64_if.ensures in
    let e = c.in_err-read_u64_if.ensures in rw up (record {
      memory = λ lasts lists. e.memory;
      call = transient _ _ _ (λ _ _. tt) (part_after (number w8) (λ n. n) _ c.in_ok-size.ensures.call (part_after (byte_string _) cow_items _ c.in_ok-bytes.ensures.call (part_refused (optional _ w8) (λ o. o) _ e.call)));
    })

pub returns-then-used_len-size : goal.returns-then-used_len-size
returns-then-used_len-size g c =
    let over : nat_le (unwrap_or c.in_ok-read_u64_if.field-0 0) c.in_ok-size.size ≡ false = ap (λ n. nat_le n c.in_ok-size.size) (sym c.unwrap_or-used_len.ensures) ∙ lt-leb _ _ c.if-used_len-size.true in
    record {
      memory = λ lasts lists e. cc;
      call = transient _ _ _ (λ _ _. tt) (part_after (number w8) (λ n. n) _ c.in_ok-size.ensures.call (part_after (byte_string _) cow_items _ c.in_ok-bytes.ensures.call (part_after (optional _ w8) (λ o. o) _ c.in_ok-read_u64_if.ensures.call (check_refused _ _ over))));
    }

pub returns : goal.returns
returns g c =
    record {
      memory = λ lasts lists. tt;
      call = transient _ _ _ (λ told whole. rw c.truncate.ensures.form (c.in_ok-bytes.ensures.whole (subst (λ b. IsTrue b) (sym c.in_ok-size.ensures.call.whole) whole))) (part_after (number w8) (λ n. n) _ c.in_ok-size.ensures.call (part_after (byte_string _) cow_items _ c.in_ok-bytes.ensures.call (part_after (optional _ w8) (λ o. o) _ c.in_ok-read_u64_if.ensures.call (check_holds _ _ _ (search rules) (call_gives (λ _. bytes_are (take (unwrap_or c.in_ok-read_u64_if.field-0 0) (cow_items c.in_ok-bytes.bytes))) (search rules))))));
    }
