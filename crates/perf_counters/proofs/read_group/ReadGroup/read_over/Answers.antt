use Rattle.std.proofs.Common.{◌≡◌, ◌*◌, ◌^◌, Err, ap, subst, refl, sym, ◌∙◌, true}
use Rattle.perf_words.specs.SetBits.{read_format_bits}
use Rattle.std.specs.Prelude.{nat_lt}
use Rattle.perf_base.specs.Configuration.{Configuration}
use Rattle.perf_base.specs.Configured.{configuration_of}
use Rattle.perf_reader.proofs.After.{part_after}
use Rattle.perf_reader.proofs.RequestedParts.{check_holds, option_after, words_after, words_stop, call_gives}
use Rattle.perf_counters.proofs.Blocks.{product_counted}
use Rattle.perf_counters.proofs.Readings.{bit_is, came_up}
use Rattle.perf_counters.proofs.Flags.{contains_group, contains_time_enabled, contains_time_running, contains_counter_id, contains_counter_lost}
use Rattle.perf_counters.specs.ReadFormat.{has_group, has_known_bits, has_time_enabled, has_time_running, has_counter_id, has_lost}
use Rattle.perf_words.specs.Sets.{element_len}
use Rattle.perf_counters.specs.ReadGroup.{GroupRead, all_entries}
use Rattle.perf_counters.proofs.read_group.ReadGroup.read_over.Goals as goal

pub returns-in_err-words : goal.returns-in_err-words
returns-in_err-words g c =
    let asked : read_format_bits c.read_format-format.result ≡ (configuration_of c.args.reader.now.config).read_format = c.read_format-format.ensures ∙ ap (λ k. (configuration_of k).read_format) c.config.ensures in
    let grouped : has_group (configuration_of c.args.reader.now.config).read_format ≡ true = bit_is 3 _ _ _ _ asked (c.contains.ensures tt) (contains_group _) ∙ c.if-not-contains.false in
    let known : has_known_bits (configuration_of c.args.reader.now.config).read_format ≡ true = ap has_known_bits (sym asked) ∙ (sym c.is_known.ensures ∙ c.if-not-is_known.false) in
    let enabled : has_time_enabled (configuration_of c.args.reader.now.config).read_format ≡ c.contains-2.result = bit_is 0 _ _ _ _ asked (c.contains-2.ensures tt) (contains_time_enabled _) in
    let running : has_time_running (configuration_of c.args.reader.now.config).read_format ≡ c.contains-3.result = bit_is 1 _ _ _ _ asked (c.contains-3.ensures tt) (contains_time_running _) in
    let size : c.element_len.result ≡ element_len (configuration_of c.args.reader.now.config).read_format = c.element_len.ensures ∙ ap element_len asked in
    let fits = product_counted _ _ _ c.checked_mul.ensures c.in-Some.is in
    let small : nat_lt (c.in_ok-count.count * element_len (configuration_of c.args.reader.now.config).read_format) (2 ^ 64) ≡ true = subst (λ k. nat_lt (c.in_ok-count.count * k) (2 ^ 64) ≡ true) size fits.1 in
    let many : c.in_ok-count.count * element_len (configuration_of c.args.reader.now.config).read_format ≡ c.in-Some.len = ap (λ k. c.in_ok-count.count * k) (sym size) ∙ fits.0 in
    let up : c.from_residual-in_err-words.result ≡ Err c.in_err-words.field-0.0 = came_up _ _ c.from_residual-in_err-words.ensures in rw up (
    record {
      call = check_holds _ _ _ grouped (check_holds _ _ _ known (
          part_after _ _ _ c.in_ok-count.ensures.call (
          option_after _ _ _ _ (ap (λ k. has_time_enabled (configuration_of k).read_format) (c.in_ok-count.ensures.call.config) ∙ enabled) c.in_ok-time_enabled.ensures.call (
          option_after _ _ _ _ (ap (λ k. has_time_running (configuration_of k).read_format) (c.in_ok-time_enabled.ensures.call.config ∙ c.in_ok-count.ensures.call.config) ∙ running) c.in_ok-time_running.ensures.call (
          check_holds _ _ _ (ap (λ k. nat_lt (c.in_ok-count.count * element_len (configuration_of k).read_format) (2 ^ 64)) (c.in_ok-time_running.ensures.call.config ∙ c.in_ok-time_enabled.ensures.call.config ∙ c.in_ok-count.ensures.call.config) ∙ small) (
          words_stop _ _ _ (ap (λ k. c.in_ok-count.count * element_len (configuration_of k).read_format) (c.in_ok-time_running.ensures.call.config ∙ c.in_ok-time_enabled.ensures.call.config ∙ c.in_ok-count.ensures.call.config) ∙ many) c.in_err-words.ensures.call))))));
    })

pub returns : goal.returns
returns g c =
    let asked : read_format_bits c.read_format-format.result ≡ (configuration_of c.args.reader.now.config).read_format = c.read_format-format.ensures ∙ ap (λ k. (configuration_of k).read_format) c.config.ensures in
    let grouped : has_group (configuration_of c.args.reader.now.config).read_format ≡ true = bit_is 3 _ _ _ _ asked (c.contains.ensures tt) (contains_group _) ∙ c.if-not-contains.false in
    let known : has_known_bits (configuration_of c.args.reader.now.config).read_format ≡ true = ap has_known_bits (sym asked) ∙ (sym c.is_known.ensures ∙ c.if-not-is_known.false) in
    let enabled : has_time_enabled (configuration_of c.args.reader.now.config).read_format ≡ c.contains-2.result = bit_is 0 _ _ _ _ asked (c.contains-2.ensures tt) (contains_time_enabled _) in
    let running : has_time_running (configuration_of c.args.reader.now.config).read_format ≡ c.contains-3.result = bit_is 1 _ _ _ _ asked (c.contains-3.ensures tt) (contains_time_running _) in
    let size : c.element_len.result ≡ element_len (configuration_of c.args.reader.now.config).read_format = c.element_len.ensures ∙ ap element_len asked in
    let fits = product_counted _ _ _ c.checked_mul.ensures c.in-Some.is in
    let small : nat_lt (c.in_ok-count.count * element_len (configuration_of c.args.reader.now.config).read_format) (2 ^ 64) ≡ true = subst (λ k. nat_lt (c.in_ok-count.count * k) (2 ^ 64) ≡ true) size fits.1 in
    let many : c.in_ok-count.count * element_len (configuration_of c.args.reader.now.config).read_format ≡ c.in-Some.len = ap (λ k. c.in_ok-count.count * k) (sym size) ∙ fits.0 in
    let numbered : has_counter_id (configuration_of c.args.reader.now.config).read_format ≡ c.contains-4.result = bit_is 2 _ _ _ _ asked (c.contains-4.ensures tt) (contains_counter_id _) in
    let lossy : has_lost (configuration_of c.args.reader.now.config).read_format ≡ c.contains-5.result = bit_is 4 _ _ _ _ asked (c.contains-5.ensures tt) (contains_counter_lost _) in
    let value : Configuration → GroupRead = λ s. record { time_enabled = c.in_ok-time_enabled.time_enabled; time_running = c.in_ok-time_running.time_running; with_id = has_counter_id s.read_format; with_lost = has_lost s.read_format; entries = all_entries (has_counter_id s.read_format) (has_lost s.read_format) c.in_ok-words.words.items } in
    record {
      call = check_holds _ _ _ grouped (check_holds _ _ _ known (
          part_after _ _ _ c.in_ok-count.ensures.call (
          option_after _ _ _ _ (ap (λ k. has_time_enabled (configuration_of k).read_format) (c.in_ok-count.ensures.call.config) ∙ enabled) c.in_ok-time_enabled.ensures.call (
          option_after _ _ _ _ (ap (λ k. has_time_running (configuration_of k).read_format) (c.in_ok-time_enabled.ensures.call.config ∙ c.in_ok-count.ensures.call.config) ∙ running) c.in_ok-time_running.ensures.call (
          check_holds _ _ _ (ap (λ k. nat_lt (c.in_ok-count.count * element_len (configuration_of k).read_format) (2 ^ 64)) (c.in_ok-time_running.ensures.call.config ∙ c.in_ok-time_enabled.ensures.call.config ∙ c.in_ok-count.ensures.call.config) ∙ small) (
          words_after _ _ _ (ap (λ k. c.in_ok-count.count * element_len (configuration_of k).read_format) (c.in_ok-time_running.ensures.call.config ∙ c.in_ok-time_enabled.ensures.call.config ∙ c.in_ok-count.ensures.call.config) ∙ many) c.in_ok-words.ensures.call (
          call_gives value (ap (λ k. value (configuration_of k)) (c.in_ok-words.ensures.call.config ∙ c.in_ok-time_running.ensures.call.config ∙ c.in_ok-time_enabled.ensures.call.config ∙ c.in_ok-count.ensures.call.config) ∙ rw (numbered, lossy) refl))))))));
    }
