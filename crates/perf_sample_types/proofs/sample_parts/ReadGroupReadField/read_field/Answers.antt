use Rattle.std.proofs.Common.{◌≡◌, refl, true, false, Err, if◌then◌else◌, ap, sym, ◌∙◌}
use Rattle.perf_base.specs.Configuration.{Configuration}
use Rattle.perf_base.specs.Configured.{configuration_of}
use Rattle.perf_base.specs.Layout.{done, map_parts}
use Rattle.perf_reader.proofs.After.{came_up, call_after, of_plain}
use Rattle.perf_reader.proofs.RequestedParts.{transient, call_gives}
use Rattle.perf_counters.proofs.Readings.{call_same, call_starves}
use Rattle.perf_counters.specs.ReadFormat.{has_group}
use Rattle.perf_counters.specs.ReadGroup.{read_group, group_of, group_read}
use Rattle.perf_counters.specs.ReadValue.{read_value, single_read}
use Rattle.perf_counters.proofs.Flags.{contains_group}
use Rattle.perf_counters.proofs.Readings.{bit_is}
use Rattle.perf_words.specs.SetBits.{read_format_bits}
use Rattle.perf_sample_types.specs.Sample.{values, group_is}
use Rattle.perf_sample_types.proofs.MappedParts.{mapped_stops}
use Rattle.perf_sample_types.proofs.sample_parts.ReadGroupReadField.read_field.Goals as goal

pub returns-in-Err-clause-call : goal.returns-in-Err-clause-call
unfolding values
returns-in-Err-clause-call g c =
    let k : Configuration = configuration_of c.args.reader.now.config in
    let asked : read_format_bits c.read_format.result ≡ k.read_format = c.read_format.ensures ∙ ap (λ s. (configuration_of s).read_format) c.config.ensures in
    let grouped : has_group k.read_format ≡ true = bit_is 3 _ _ _ _ asked (c.contains.ensures tt) (contains_group _) ∙ c.if-contains.true in
    mapped_stops group_is read_group _ _ _ (ap (λ b. if b then map_parts group_is (read_group k) else map_parts (λ one. group_is (group_of one)) (read_value k)) grouped) c.in-Err.ensures.call

pub returns-in-Ok-clause-call : goal.returns-in-Ok-clause-call
unfolding values
returns-in-Ok-clause-call g c =
    let k : Configuration = configuration_of c.args.reader.now.config in
    let asked : read_format_bits c.read_format.result ≡ k.read_format = c.read_format.ensures ∙ ap (λ s. (configuration_of s).read_format) c.config.ensures in
    let grouped : has_group k.read_format ≡ true = bit_is 3 _ _ _ _ asked (c.contains.ensures tt) (contains_group _) ∙ c.if-contains.true in
    transient _ _ _ (λ _ _. tt) (call_same (λ s. map_parts group_is (read_group s)) _
    (sym (ap (λ b. if b then map_parts group_is (read_group k) else map_parts (λ one. group_is (group_of one)) (read_value k)) grouped))
    (call_after {view = group_read} read_group (λ _ v. done (group_is v)) c.in-Ok.ensures.call (call_gives (λ _. group_is (group_read c.in-Ok.group)) refl)))

pub returns-in_err-value-clause-call : goal.returns-in_err-value-clause-call
unfolding values
returns-in_err-value-clause-call g c =
    let k : Configuration = configuration_of c.args.reader.now.config in
    let asked : read_format_bits c.read_format.result ≡ k.read_format = c.read_format.ensures ∙ ap (λ s. (configuration_of s).read_format) c.config.ensures in
    let single : has_group k.read_format ≡ false = bit_is 3 _ _ _ _ asked (c.contains.ensures tt) (contains_group _) ∙ c.if-contains.false in
    let up : c.from_residual.result ≡ Err c.in_err-value.field-0.0 = came_up _ _ c.from_residual.ensures in rw up (
    mapped_stops (λ one. group_is (group_of one)) read_value _ _ _
    (ap (λ b. if b then map_parts group_is (read_group k) else map_parts (λ one. group_is (group_of one)) (read_value k)) single) (of_plain read_value single_read c.in_err-value.ensures.call))

pub returns-in-Ok-group_of_value-clause-call : goal.returns-in-Ok-group_of_value-clause-call
unfolding values
returns-in-Ok-group_of_value-clause-call g c =
    let k : Configuration = configuration_of c.args.reader.now.config in
    let asked : read_format_bits c.read_format.result ≡ k.read_format = c.read_format.ensures ∙ ap (λ s. (configuration_of s).read_format) c.config.ensures in
    let single : has_group k.read_format ≡ false = bit_is 3 _ _ _ _ asked (c.contains.ensures tt) (contains_group _) ∙ c.if-contains.false in
    transient _ _ _ (λ _ _. tt) (call_same (λ s. map_parts (λ one. group_is (group_of one)) (read_value s)) _
    (sym (ap (λ b. if b then map_parts group_is (read_group k) else map_parts (λ one. group_is (group_of one)) (read_value k)) single))
    (call_after {view = single_read} read_value (λ _ v. done (group_is (group_of v))) (of_plain read_value single_read c.in_ok-value.ensures.call)
    (call_gives (λ _. group_is (group_of (single_read c.in_ok-value.value))) (ap group_is (sym c.in-Ok-group_of_value.ensures.same)))))

pub returns-in-Err-group_of_value-clause-call : goal.returns-in-Err-group_of_value-clause-call
unfolding values
returns-in-Err-group_of_value-clause-call g c =
    let k : Configuration = configuration_of c.args.reader.now.config in
    let asked : read_format_bits c.read_format.result ≡ k.read_format = c.read_format.ensures ∙ ap (λ s. (configuration_of s).read_format) c.config.ensures in
    let single : has_group k.read_format ≡ false = bit_is 3 _ _ _ _ asked (c.contains.ensures tt) (contains_group _) ∙ c.if-contains.false in
    transient _ _ _ (λ _ _. tt) (call_same (λ s. map_parts (λ one. group_is (group_of one)) (read_value s)) _
    (sym (ap (λ b. if b then map_parts group_is (read_group k) else map_parts (λ one. group_is (group_of one)) (read_value k)) single))
    (call_after {view = single_read} read_value (λ _ v. done (group_is (group_of v))) (of_plain read_value single_read c.in_ok-value.ensures.call)
    (call_starves (λ _. done (group_is (group_of (single_read c.in_ok-value.value)))))))
