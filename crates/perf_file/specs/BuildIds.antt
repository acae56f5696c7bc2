-- The build ids of files that were mapped: records, in the feature BUILD_ID one after another, and in
-- a pipe each in a frame of its own, of the type 67.
use Rattle.std.specs.Prelude.{ℕ, zero, suc, ◌-◌, ◌==◌, ◌&&◌, min, Bool, true, false, List, [], ◌∷◌, ◌++◌, length, map, drop, nat_lt, nat_le, slice_index, Option, Some, None, Result, Ok, Err, if◌then◌else◌}
use Rattle.std.specs.List.{filter, list_any}
use Rattle.perf_base.specs.Dynamic.{order_of}
use Rattle.perf_base.specs.Layout.{slice}
use Rattle.perf_base.specs.Order.{Order}
use Rattle.perf_base.specs.declared.endian.Dynamic.{Dynamic}
use Rattle.perf_sections.specs.Descriptions.{before_zero}
use Rattle.perf_file.specs.Forms.{feature_of, notes_of}
use Rattle.perf_file.specs.FeatureTexts.{then_read}
use Rattle.perf_file.specs.NoteViews.{note_of}
use Rattle.perf_sections.specs.Numbers.{small_number}
use Rattle.perf_file.specs.Pipes.{FrameNote, is_of}
use Rattle.perf_file.specs.declared.build_ids.BuildId.{BuildId}
use Rattle.perf_file.specs.declared.build_ids.BuildIds.{BuildIds}
use Rattle.perf_file.specs.declared.feature.BadFeature.{BadFeature}
use Rattle.perf_file.specs.declared.feature.BadFeature.TheVariants.{Short}
use Rattle.perf_words.specs.Bits.{has_bit}

-- the number of the two bytes at an offset
abbrev pub half_number : Order → List ℕ → ℕ → ℕ
half_number o bytes at = o.two (slice bytes at 2)

-- how many bytes the record at the front takes: the last number of its header states it
abbrev pub record_size : Order → List ℕ → ℕ
record_size o bytes = half_number o bytes 6

-- whether it is whole: the header, a process and 24 bytes, which all are there, and a path
abbrev pub is_whole : Order → List ℕ → Bool
is_whole o bytes =
    if nat_lt (length bytes) 36 then false
    else (if nat_lt (record_size o bytes) 36 then false
    else nat_le (record_size o bytes) (length bytes))

-- a build id: the `misc` of its record, a process, its bytes, and the path of the file
pub record Build : Type 0 where
  pub misc : ℕ
  pub pid : ℕ
  pub id : List ℕ
  pub filename : List ℕ

-- how many bytes it has: as many as the byte after 20 states, if `misc` has bit 15, and otherwise 20
abbrev pub id_length : (misc stated : ℕ) → ℕ
id_length misc stated = if has_bit misc 15 then min stated 20 else 20

-- the build id in the bytes after a header with that `misc`: a process, 20 bytes, how many of them
-- count, three bytes, and a path
abbrev pub build_with : Order → (misc : ℕ) → (body : List ℕ) → Build
build_with o misc body = record {
  misc = misc;
  pid = small_number o body 0;
  id = slice body 4 (id_length misc (slice_index body 24));
  filename = before_zero (drop 28 body);
}

-- the build id in the record at the front
abbrev pub build_in : Order → List ℕ → Build
build_in o bytes = build_with o (half_number o bytes 4) (slice bytes 8 (record_size o bytes - 8))

-- a build id of the code
abbrev pub build_of : BuildId → Build
build_of b = record { misc = b.misc; pid = b.pid; id = b.id.now; filename = b.filename.now }

-- those of at most n records, up to the first that is not whole
unfoldable pub first_builds : Order → (n : ℕ) → List ℕ → List Build
first_builds o zero bytes = []
first_builds o (suc n) bytes =
    if is_whole o bytes then build_in o bytes ∷ first_builds o n (drop (record_size o bytes) bytes)
    else []

-- those of all: there are no more than bytes
abbrev pub builds : Order → List ℕ → List Build
builds o bytes = first_builds o (length bytes) bytes

-- whether at most n whole records take all of the bytes
unfoldable pub are_whole : Order → (n : ℕ) → List ℕ → Bool
are_whole o zero bytes = length bytes == 0
are_whole o (suc n) bytes =
    if length bytes == 0 then true
    else (if is_whole o bytes then are_whole o n (drop (record_size o bytes) bytes)
    else false)

-- the build ids of the feature
abbrev pub checked_builds : Order → List ℕ → Result (List Build) BadFeature
checked_builds o bytes = if are_whole o (length bytes) bytes then Ok (builds o bytes) else Err Short

-- whether a note has one: its frame is a record, which is whole
abbrev pub is_build : FrameNote → Bool
is_build n = is_of 67 n && nat_le 28 (length n.body)

-- whether it is one that is not whole
abbrev pub is_cut : FrameNote → Bool
is_cut n = is_of 67 n && nat_lt (length n.body) 28

-- those in notes
abbrev pub noted_builds : Order → List FrameNote → List Build
noted_builds o notes = map (λ (n : FrameNote). build_with o n.header.misc n.body) (filter is_build notes)

-- refuses notes with one that is not whole
abbrev pub checked_notes : List FrameNote → Result (Unit {0}) BadFeature
checked_notes notes = if list_any is_cut notes then Err Short else Ok tt

-- those of the feature, if there is one, and after them those in notes; none without either
abbrev pub joined : Option (List Build) → List Build → Option (List Build)
joined None [] = None
joined None (b ∷ bs) = Some (b ∷ bs)
joined (Some builds) others = Some (builds ++ others)

-- the same, if all of them are whole
abbrev pub joined_if : Result (Option (List Build)) BadFeature → Result (Unit {0}) BadFeature → List Build → Result (Option (List Build)) BadFeature
joined_if (Ok builds) (Ok checked) others = Ok (joined builds others)
joined_if (Ok builds) (Err e) others = Err e
joined_if (Err e) checked others = Err e

-- those of a file in either form, in that order: a file that is no pipe has no notes
abbrev pub build_ids_of : Dynamic → List ℕ → Result (Option (List Build)) BadFeature
build_ids_of order bytes = joined_if
    (then_read (checked_builds (order_of order)) (feature_of bytes 2))
    (checked_notes (notes_of bytes))
    (noted_builds (order_of order) (notes_of bytes))

-- those that are left of a list of the code
abbrev pub builds_left : BuildIds → List Build
builds_left list = builds (order_of list.order) list.left.now ++ noted_builds (order_of list.order) (map note_of list.notes.now)
