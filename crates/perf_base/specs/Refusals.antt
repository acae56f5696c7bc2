-- Why this library refuses, and which error that becomes.
use Rattle.std.specs.Prelude.{◌≡◌, ◌≢◌, ℕ, List, codes, Option, Some, None, Result, Ok, Err, IfErr}
use Rattle.perf_base.specs.Errors.{kind_of, message_of, cause_of}
use Rattle.perf_base.specs.declared.error.ErrorKind.{ErrorKind}
use Rattle.perf_base.specs.declared.error.ErrorKind.TheVariants.{Eof, InvalidRecord}
use Rattle.perf_base.specs.declared.error.ErrorKind.TheVariants.{UnsupportedConfig, UnsupportedData}
use Rattle.perf_base.specs.declared.error.ErrorKind.TheVariants.{OutOfMemory}
use Rattle.perf_base.specs.declared.error.ParseError.{ParseError}
use Rattle.perf_base.specs.declared.refusal.Refusal.{Refusal}
use Rattle.perf_base.specs.declared.refusal.Refusal.TheVariants as why

-- the kind of each reason
abbrev pub refusal_kind : Refusal → ErrorKind
refusal_kind why.Eof = Eof
refusal_kind why.SmallHeader = InvalidRecord
refusal_kind why.NoRoomForId = InvalidRecord
refusal_kind why.AttributeSize = InvalidRecord
refusal_kind why.AttributeTail = UnsupportedData
refusal_kind why.BuildIdLength = InvalidRecord
refusal_kind why.UsedStack = InvalidRecord
refusal_kind why.SingleRead = UnsupportedConfig
refusal_kind why.GroupRead = UnsupportedConfig
refusal_kind why.ReadFormat = UnsupportedConfig
refusal_kind why.GroupLength = InvalidRecord
refusal_kind why.OutOfMemory = OutOfMemory
refusal_kind (why.Kept kind) = kind

-- the message of each reason
abbrev pub refusal_text : Refusal → Option (List ℕ)
refusal_text why.Eof = None
refusal_text why.SmallHeader = Some (codes "header size was too small to be valid")
refusal_text why.NoRoomForId =
    Some (codes "config has sample_id_all bit set but record does not have enough data to store the sample_id")
refusal_text why.AttributeSize = Some (codes "not a valid size for a perf_event_attr struct")
refusal_text why.AttributeTail =
    Some (codes "serialized perf_event_attr contains fields not supported by this version of perf-event-data")
refusal_text why.BuildIdLength = Some (codes "build_id had invalid length")
refusal_text why.UsedStack = Some (codes "stack dyn_size was greater than the record size")
refusal_text why.SingleRead =
    Some (codes "attempted to parse a SingleRead with a config that has GROUP set in read_format")
refusal_text why.GroupRead =
    Some (codes "attempted to parse a GroupRead with a config that does not have GROUP set in read_format")
refusal_text why.ReadFormat = Some (codes "read_format contains unsupported flags")
refusal_text why.GroupLength =
    Some (codes "number of elements in group read was too large for data type")
refusal_text why.OutOfMemory = None
refusal_text (why.Kept kind) = None

-- P, if the refusal was made here, and is not an error from elsewhere
abbrev pub Own : Refusal → Type 0 → Type 0
Own (why.Kept kind) P = Unit {0}
Own _ P = P

-- the error that a refusal becomes: of its kind and, if it was made here, with its message
pub record IsErrorOf (e : ParseError) (r : Refusal) : Type 0 where
  pub kind_is : kind_of e ≡ refusal_kind r
  pub made_is : Own r ((message_of e ≡ refusal_text r) × (cause_of e ≡ None))

-- ---- results, in which a refusal counts only by its kind

-- the result of a call inside this library
abbrev pub kinds : {A : Type 0} → Result A Refusal → Result A ErrorKind
kinds (Ok x) = Ok x
kinds (Err e) = Err (refusal_kind e)

-- the result of a public call
abbrev pub error_kinds : {A : Type 0} → Result A ParseError → Result A ErrorKind
error_kinds (Ok x) = Ok x
error_kinds (Err e) = Err (kind_of e)

-- the kind with which a call was refused, if it was
abbrev pub kind_if_refused : {A : Type 0} → Result A ErrorKind → Option ErrorKind
kind_if_refused (Ok x) = None
kind_if_refused (Err e) = Some e

-- the call needs no memory, so it is never out of memory
abbrev pub NeedsNoMemory : {A : Type 0} → Result A ErrorKind → Type 0
NeedsNoMemory r = IfErr r (λ e. e ≢ OutOfMemory)
