-- What an error consists of, and its text under `{}`.
use Rattle.std.specs.Prelude.{◌≡◌, ℕ, ◌++◌, List, codes, Bool, true, false, Option, Some, None}
use Rattle.std.specs.Fmt.InlineText.{inline_text}
use Rattle.std.specs.declared.io.Error.{Error as IoError}
use Rattle.std.specs.declared.io.ErrorKind.{ErrorKind as IoKind}
use Rattle.std.specs.declared.io.ErrorKind.TheVariants.{UnexpectedEof}
use Rattle.std.specs.IoError.{error_kind}
use Rattle.anyhow.specs.declared.error.Error.{Error}
use Rattle.anyhow.specs.Error.{error_message}
use Rattle.perf_base.specs.declared.error.ErrorKind.{ErrorKind}
use Rattle.perf_base.specs.declared.error.ErrorKind.TheVariants.{Eof, InvalidRecord}
use Rattle.perf_base.specs.declared.error.ErrorKind.TheVariants.{UnsupportedConfig, UnsupportedData}
use Rattle.perf_base.specs.declared.error.ErrorKind.TheVariants.{External, OutOfMemory}
use Rattle.perf_base.specs.declared.error.Detail.{Detail}
use Rattle.perf_base.specs.declared.error.Detail.TheVariants.{Nothing, Message, Cause}
use Rattle.perf_base.specs.declared.error.ParseError.{ParseError}

-- the kind of an error
abbrev pub kind_of : ParseError → ErrorKind
kind_of e = e.kind

-- the message, if the detail is one
abbrev pub detail_message : Detail → Option (List ℕ)
detail_message Nothing = None
detail_message (Message text) = Some (inline_text text)
detail_message (Cause cause) = None

-- the outside error, if the detail is one
abbrev pub detail_cause : Detail → Option Error
detail_cause Nothing = None
detail_cause (Message text) = None
detail_cause (Cause cause) = Some cause

-- the message with which an error was made
abbrev pub message_of : ParseError → Option (List ℕ)
message_of e = detail_message e.detail

-- the outside error from which it was made
abbrev pub cause_of : ParseError → Option Error
cause_of e = detail_cause e.detail

-- what an error consists of
pub record IsMadeOf (e : ParseError) (kind : ErrorKind) (message : Option (List ℕ))
    (cause : Option Error) : Type 0 where
  pub kind_is : kind_of e ≡ kind
  pub message_is : message_of e ≡ message
  pub cause_is : cause_of e ≡ cause

-- a kind that a layout can have: neither a fault nor out of memory
abbrev pub of_layout : ErrorKind → Bool
of_layout Eof = true
of_layout InvalidRecord = true
of_layout UnsupportedConfig = true
of_layout UnsupportedData = true
of_layout External = false
of_layout OutOfMemory = false

-- the text of a kind
abbrev pub kind_text : ErrorKind → List ℕ
kind_text Eof = codes "unexpected EOF during parsing"
kind_text InvalidRecord = codes "invalid record"
kind_text UnsupportedConfig = codes "unsupported config"
kind_text UnsupportedData = codes "unsupported serialized data"
kind_text External = codes "user-provided error"
kind_text OutOfMemory = codes "out of memory"

-- a colon, a space and the message or the cause, if there is one
abbrev pub detail_text : Detail → List ℕ
detail_text Nothing = codes ""
detail_text (Message text) = codes ": " ++ inline_text text
detail_text (Cause cause) = codes ": " ++ error_message cause

-- the text of an error under `{}`
abbrev pub error_text : ParseError → List ℕ
error_text e = kind_text e.kind ++ detail_text e.detail

-- whether an error kind of std is an unexpected end of the input
abbrev pub is_eof : IoKind → Bool
is_eof UnexpectedEof = true
is_eof _ = false

-- the error of a reader that reports an unexpected end of the input
abbrev pub is_unexpected_eof : IoError → Bool
is_unexpected_eof e = is_eof (error_kind e)
