-- What a call has written, and how it ended.
use Rattle.std.specs.Prelude.{◌≡◌, ◌≢◌, ◌==◌, ℕ, Bool, nat_lt, List, length, take, drop, min, Option, Some, None, Result, Ok, Err, if◌then◌else◌}
use Rattle.perf_base.specs.Configuration.{Configuration}
use Rattle.perf_base.specs.Order.{Order}
use Rattle.perf_records.specs.Frames.{frames, first_frames, drop_frames}
use Rattle.perf_base.specs.declared.endian.Dynamic.{Dynamic}
use Rattle.perf_base.specs.declared.error.ErrorKind.{ErrorKind}
use Rattle.perf_base.specs.declared.sys.perf_event_attr.{perf_event_attr}
use Rattle.perf_flat.specs.FlatConfigs.{flat_config_of}
use Rattle.perf_flat.specs.Flat.{IsFlat, first_frame, kind_code}
use Rattle.perf_flat.specs.Many.{AreFlat, first_bytes, many_end}
use Rattle.perf_flat.specs.Split.{split_frame, split_how, split_at, span_bytes, copied_to}
use Rattle.perf_flat.specs.declared.frame.FlatFrame.{FlatFrame}
use Rattle.perf_flat.specs.declared.read.Ended.{Ended}
use Rattle.perf_flat.specs.declared.read.SplitEnd.{SplitEnd}
use Rattle.perf_outlines.specs.CallerConfigs.{configuration_by, order_of_config}
use Rattle.perf_flat.specs.declared.config.FlatConfig.{FlatConfig}

-- The frame at the front of bytes is read: it states what its answer is.
abbrev pub StatesFirst : FlatConfig → List ℕ → FlatFrame → Type 0
StatesFirst c bytes f =
    IsFlat (configuration_by c) (order_of_config c) (first_frame (order_of_config c) bytes) f

-- Several frames are read, as many as there is room for: the first frames of the bytes, each at its
-- place, with nothing changed after them; how many they are, how many bytes they have, and how that
-- ends.
pub record ReadsMany (s : Configuration) (o : Order) (bytes : List ℕ) (old new : List FlatFrame)
    (e : Ended) : Type 0 where
  pub count : e.count ≡ min (length old) (length (frames o bytes))
  pub flat : AreFlat s o (first_frames o e.count bytes) (take e.count new)
  pub after : drop e.count new ≡ drop e.count old
  pub taken : e.taken ≡ first_bytes o e.count bytes
  pub left : drop e.taken bytes ≡ drop_frames o e.count bytes
  pub how : e.how ≡ many_end o (length old) bytes

-- The frame at the front of two pieces is read as if the second followed the first: how that ends,
-- what is written of the frame, in which bytes its spans count, and what is copied.
pub record ReadsSplit (s : Configuration) (o : Order) (first second : List ℕ)
    (old_scratch new_scratch : List ℕ) (old new : FlatFrame) (e : SplitEnd) : Type 0 where
  pub how : e.how ≡ split_how o first second (length old_scratch)
  pub at : e.at ≡ split_at o first second e.how
  pub read : e.how ≡ 0 → IsFlat s o (split_frame o first second) new
  pub unread : e.how ≢ 0 → new ≡ old
  pub place : e.how ≡ 0 →
      take (length (split_frame o first second)) (span_bytes e.at first second new_scratch) ≡
      split_frame o first second
  pub scratch : new_scratch ≡ copied_to e.at (split_frame o first second) old_scratch

-- An attribute is read: by its layout over the bytes, the configuration that it gives and the size
-- that it has are written, or the kind of its refusal is returned and nothing is written.
abbrev pub ReadsAttribute : Dynamic → Result perf_event_attr ErrorKind → (result : ℕ) →
    (old new : FlatConfig) → (old_taken new_taken : ℕ) → Type 0
ReadsAttribute o (Ok a) result old new old_taken new_taken =
    (result ≡ 0) × (new ≡ flat_config_of a o) × (new_taken ≡ a.size)
ReadsAttribute o (Err e) result old new old_taken new_taken =
    (result ≡ kind_code e) × (new ≡ old) × (new_taken ≡ old_taken)

-- whether a number of C means yes
abbrev pub is_yes : ℕ → Bool
is_yes n = nat_lt 0 n

-- the number that a call has written, if it returned 1
abbrev pub written : (result number : ℕ) → Option ℕ
written result number = if result == 1 then Some number else None
