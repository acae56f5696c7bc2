-- How records are to be read: what an attribute of perf_event_open(2) specifies, packed into one
-- word and two masks.
use Rattle.std.specs.Prelude.{ℕ, ◌+◌, ◌/◌, ◌%◌, ◌^◌, Bool, nat_lt, if◌then◌else◌}
use Rattle.perf_words.specs.Bits.{has_bit}
use Rattle.perf_base.specs.declared.sys.perf_event_attr.{perf_event_attr}

-- the fields of a configuration
pub record Configuration : Type 0 where
  -- six bits: the five known ones of `read_format`, and one that is set if there were others
  pub read_format : ℕ
  -- the lowest 40 bits of `sample_type`
  pub sample_type : ℕ
  pub sample_id_all : Bool
  pub branch_hw_index : Bool
  -- the `misc` of the frame being read
  pub misc : ℕ
  -- which registers a sample has: user registers and registers at the interrupt
  pub regs_user : ℕ
  pub regs_intr : ℕ

-- The packed word: bits 0 to 5 are the read format, 6 to 45 the sample type, 46 sample_id_all, 47
-- branch_hw_index and 48 to 63 misc.
abbrev pub unpack : (word regs_user regs_intr : ℕ) → Configuration
unpack word regs_user regs_intr = record {
  read_format = word % 2 ^ 6;
  sample_type = word / 2 ^ 6 % 2 ^ 40;
  sample_id_all = has_bit word 46;
  branch_hw_index = has_bit word 47;
  misc = word / 2 ^ 48;
  regs_user = regs_user;
  regs_intr = regs_intr;
}

-- the configuration of an event without flags
abbrev pub plain : Configuration
plain = unpack 0 0 0

-- What is kept of a read format: its lowest six bits, with bit 5 also set if it has any higher bit.
abbrev pub kept_read_format : ℕ → ℕ
kept_read_format r = if nat_lt r (2 ^ 6) then r else 2 ^ 5 + r % 2 ^ 5

-- what is kept of a sample type: its lowest 40 bits
abbrev pub kept_sample_type : ℕ → ℕ
kept_sample_type t = t % 2 ^ 40

-- What an attribute specifies: bit 18 of its flags is sample_id_all, and bit 17 of its branch
-- sample type means that branch stacks have the hardware's index.
abbrev pub configured_by : perf_event_attr → Configuration
configured_by a = record {
  read_format = kept_read_format a.read_format;
  sample_type = kept_sample_type a.sample_type;
  sample_id_all = has_bit a.flags 18;
  branch_hw_index = has_bit a.branch_sample_type 17;
  misc = 0;
  regs_user = a.sample_regs_user;
  regs_intr = a.sample_regs_intr;
}

-- ---- the same configuration with one field changed

-- another frame's misc
abbrev pub under_misc : ℕ → Configuration → Configuration
under_misc misc c = record c { misc = misc }

-- another sample type
abbrev pub under_sample_type : ℕ → Configuration → Configuration
under_sample_type sample_type c = record c { sample_type = kept_sample_type sample_type }

-- another read format
abbrev pub under_read_format : ℕ → Configuration → Configuration
under_read_format read_format c = record c { read_format = kept_read_format read_format }
