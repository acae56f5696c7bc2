-- The contents of a `ParseConfig`.
use Rattle.perf_base.specs.Configuration.{Configuration, unpack}
use Rattle.perf_base.specs.declared.config.ParseConfig.{ParseConfig}

-- its configuration, unpacked from its word and its masks
abbrev pub configuration_of : {E : Type 0} → ParseConfig E → Configuration
configuration_of c = unpack c.word c.regs_user c.regs_intr

-- its byte order
abbrev pub endian_of : {E : Type 0} → ParseConfig E → E
endian_of c = c.endian
