-- A configuration as plain numbers: what it means, and which one an attribute gives.
use Rattle.std.specs.Prelude.{◌≡◌, ◌==◌, ◌&&◌, ℕ, Bool, true, nat_lt, if◌then◌else◌}
use Rattle.perf_base.specs.Attribute.{zero_attribute}
use Rattle.perf_base.specs.Configuration.{configured_by}
use Rattle.perf_base.specs.Configured.{configuration_of, endian_of}
use Rattle.perf_base.specs.declared.config.ParseConfig.{ParseConfig}
use Rattle.perf_base.specs.declared.endian.Dynamic.{Dynamic}
use Rattle.perf_base.specs.declared.endian.Dynamic.TheVariants as order
use Rattle.perf_base.specs.declared.sys.perf_event_attr.{perf_event_attr}
use Rattle.perf_flat.specs.declared.config.FlatConfig.{FlatConfig}

-- an order as a number: 0 for the lowest byte first, 1 for the highest
abbrev pub order_code : Dynamic → ℕ
order_code order.Little = 0
order_code order.Big = 1

-- the order of such a number
abbrev pub order_by : ℕ → Dynamic
order_by n = if n == 0 then order.Little else order.Big

-- its version is 1, and its order is one of the two
abbrev pub is_valid : FlatConfig → Bool
is_valid f = (f.version == 1) && nat_lt f.order 2

-- the attribute with these fields, in which the others are 0
abbrev pub attribute_with : FlatConfig → perf_event_attr
attribute_with f = record zero_attribute {
  sample_type = f.sample_type;
  read_format = f.read_format;
  flags = f.flags;
  branch_sample_type = f.branch_sample_type;
  sample_regs_user = f.sample_regs_user;
  sample_regs_intr = f.sample_regs_intr;
}

-- it means the configuration of that attribute, and its order
pub record Means (f : FlatConfig) (c : ParseConfig Dynamic) : Type 0 where
  pub known : is_valid f ≡ true
  pub fields : configuration_of c ≡ configured_by (attribute_with f)
  pub order : endian_of c ≡ order_by f.order

-- the numbers of an attribute that determine how records are read
abbrev pub flat_config_of : perf_event_attr → Dynamic → FlatConfig
flat_config_of a o = record {
  version = 1;
  order = order_code o;
  sample_type = a.sample_type;
  read_format = a.read_format;
  flags = a.flags;
  branch_sample_type = a.branch_sample_type;
  sample_regs_user = a.sample_regs_user;
  sample_regs_intr = a.sample_regs_intr;
}
