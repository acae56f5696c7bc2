-- What is at the spans of a flat frame: the byte strings and the lists of its record.
use Rattle.std.specs.Prelude.{ℕ, suc, ◌+◌, ◌*◌, ◌≡◌, ◌≤◌, List, [], ◌∷◌, length, get_or, Option, Some, None}
use Rattle.perf_base.specs.Layout.{slice, words_of}
use Rattle.perf_base.specs.Order.{Order}
use Rattle.perf_types.specs.MmapDetail.{build_id_of}
use Rattle.perf_records.specs.Records.{RecordValue, mmap_is, comm_is}
use Rattle.perf_records.specs.Records.{mmap2_is}
use Rattle.perf_records.specs.Records.{ksymbol_is, bpf_event_is}
use Rattle.perf_records.specs.Records.{cgroup_is, text_poke_is, unknown_is}
use Rattle.perf_flat.specs.Arrays.{no_span}
use Rattle.perf_flat.specs.declared.frame.Span.{Span}

-- a span of a flat frame
abbrev pub span_at : List Span → ℕ → Span
span_at spans i = get_or spans i no_span

-- The span is inside the frame, and these bytes are there.
pub record HasBytes (frame : List ℕ) (s : Span) (bytes : List ℕ) : Type 0 where
  pub inside : s.at + s.len ≤ length frame
  pub there : slice frame s.at s.len ≡ bytes

-- The span is inside the frame, and n numbers of eight bytes are there, which are these.
pub record HasNumbers (o : Order) (frame : List ℕ) (s : Span) (n : ℕ) (are : List ℕ → Type 0) :
    Type 0 where
  pub inside : s.at + s.len ≤ length frame
  pub many : s.len ≡ 8 * n
  pub there : are (words_of o n (slice frame s.at s.len))

-- all spans from one on are of no bytes
abbrev pub NoSpansFrom : List Span → ℕ → Type 0
NoSpansFrom spans n = (i : ℕ) → n ≤ i → span_at spans i ≡ no_span

-- these byte strings are at the spans from one on, in their order, and there are no others
abbrev pub HasStrings : (frame : List ℕ) (spans : List Span) (first : ℕ) → List (List ℕ) → Type 0
HasStrings frame spans first [] = NoSpansFrom spans first
HasStrings frame spans first (bytes ∷ strings) =
    HasBytes frame (span_at spans first) bytes × HasStrings frame spans (suc first) strings

-- a byte string that is present, as a list
abbrev pub if_there : Option (List ℕ) → List (List ℕ)
if_there (Some bytes) = bytes ∷ []
if_there None = []

-- the byte strings of a record, in the order of their spans
abbrev pub strings_of : RecordValue → List (List ℕ)
strings_of (mmap_is r) = r.filename ∷ []
strings_of (comm_is r) = r.comm ∷ []
strings_of (mmap2_is r) = r.filename ∷ if_there (build_id_of r.detail)
strings_of (ksymbol_is r) = r.name ∷ []
strings_of (bpf_event_is r) = r.tag ∷ []
strings_of (cgroup_is r) = r.path ∷ []
strings_of (text_poke_is r) = r.old_bytes ∷ r.new_bytes ∷ []
strings_of (unknown_is ty bytes) = bytes ∷ []
strings_of _ = []
