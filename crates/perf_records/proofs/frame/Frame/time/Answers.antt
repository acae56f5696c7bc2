use Rattle.std.proofs.Common.{◌≡◌, ℕ, List, Option, Some, None, rules, sym, subst}
use Rattle.perf_base.specs.Configuration.{Configuration}
use Rattle.perf_base.specs.Configured.{configuration_of, endian_of}
use Rattle.perf_base.specs.Order.{Order}
use Rattle.perf_buffers.specs.Buffer.{chunk_bytes}
use Rattle.perf_sample_types.specs.SampleGetters.{getters_of}
use Rattle.perf_records.specs.FrameNumbers.{IsRead, time_in}
use Rattle.perf_records.proofs.FrameNumbers.{time_read}
use Rattle.perf_records.proofs.frame.Frame.time.Goals as goal

pub returns-in-Some-clause-read : goal.returns-in-Some-clause-read
returns-in-Some-clause-read g c =
    let settings : Configuration = configuration_of c.args.config.now in
    let order : Order = g.E.Endian.order (endian_of c.args.config.now) in
    let h = c.args.self.now.header in
    let bytes : List ℕ = chunk_bytes c.args.self.now.rest in
    let placed : Some c.convert_u64.result ≡ time_in settings order h bytes = search rules in
    subst (IsRead (λ s. (getters_of s).time) (λ id. id.time) settings order h bytes) (sym placed)
    (time_read settings order h bytes c.args.self.now.sized c.args.self.now.whole)

pub returns-in-None-clause-read : goal.returns-in-None-clause-read
returns-in-None-clause-read g c =
    let settings : Configuration = configuration_of c.args.config.now in
    let order : Order = g.E.Endian.order (endian_of c.args.config.now) in
    let h = c.args.self.now.header in
    let bytes : List ℕ = chunk_bytes c.args.self.now.rest in
    let placed : ◌≡◌ {A = Option ℕ} None (time_in settings order h bytes) = search rules in
    subst (IsRead (λ s. (getters_of s).time) (λ id. id.time) settings order h bytes) (sym placed)
    (time_read settings order h bytes c.args.self.now.sized c.args.self.now.whole)
