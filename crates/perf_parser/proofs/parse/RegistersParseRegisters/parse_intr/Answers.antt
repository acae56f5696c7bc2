use Rattle.std.proofs.Common.{◌≡◌, ◌∙◌, ap}
use Rattle.perf_base.specs.Configuration.{Configuration}
use Rattle.perf_base.specs.Configured.{configuration_of}
use Rattle.perf_parser.specs.ReaderState.{parser_config}
use Rattle.perf_parser.proofs.ParserCalls.{lifted, answered}
use Rattle.perf_parser.proofs.Masks.{by_mask}
use Rattle.perf_parser.proofs.parse.RegistersParseRegisters.parse_intr.Goals as goal

pub returns-in-Ok : goal.returns-in-Ok
returns-in-Ok g c =
    let mask : c.regs_intr-mask.result ≡ (configuration_of (parser_config c.args.parser.now)).regs_intr = c.regs_intr-mask.ensures ∙ ap (λ k. (configuration_of k).regs_intr) c.config.ensures in
    record { call = lifted _ _ _ _ _ _ (by_mask _ _ _ _ _ _ (λ (k : Configuration). k.regs_intr) mask c.in-Ok.ensures.call) }

pub returns-in-Err : goal.returns-in-Err
returns-in-Err g c =
    let same = c.error_of.ensures in
    let mask : c.regs_intr-mask.result ≡ (configuration_of (parser_config c.args.parser.now)).regs_intr = c.regs_intr-mask.ensures ∙ ap (λ k. (configuration_of k).regs_intr) c.config.ensures in
    record {
      call = answered _ _ _ _ _ c.read_registers.new.reader _ _ (by_mask _ _ _ _ _ _ (λ (k : Configuration). k.regs_intr) mask c.in-Err.ensures.call) same.error.kind_is same.buf same.config same.reads;
    }
