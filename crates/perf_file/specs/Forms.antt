-- A file in either form: as `perf record` writes it into a file, or to a pipe.
use Rattle.std.specs.Prelude.{ℕ, List, [], drop, Option, Some, None, Result, Ok}
use Rattle.std.specs.List.{filter}
use Rattle.perf_base.specs.Dynamic.{order_of}
use Rattle.perf_file.specs.FeatureTable.{file_feature_of}
use Rattle.perf_sections.specs.Features.{file_descriptions}
use Rattle.perf_sections.specs.Names.{Name, name_of}
use Rattle.perf_sections.specs.Opened.{File, FileEvent, opened_file, table_of}
use Rattle.perf_file.specs.Pipes.{FrameNote, pipe_order, is_note, all_frames, noted_feature, noted_name, opened_pipe}
use Rattle.perf_sections.specs.declared.error.OpenError.{OpenError}
use Rattle.perf_file.specs.declared.feature.BadFeature.{BadFeature}

-- what opening returns: what it contains, or the first check that fails
unfoldable pub opened : List ℕ → Result File OpenError
opened bytes = elim (pipe_order bytes) [ Some order ↦ opened_pipe order bytes | None ↦ opened_file bytes ]

-- the notes of a pipe; a file has none
unfoldable pub notes_of : List ℕ → List FrameNote
notes_of bytes = elim (pipe_order bytes) [ Some order ↦ filter is_note (all_frames order (drop 16 bytes)) | None ↦ [] ]

-- the name of the event with that number
unfoldable pub event_name : List ℕ → File → (event : ℕ) → FileEvent → Name
event_name bytes f event e = elim (pipe_order bytes) [
  | Some order ↦ noted_name order (notes_of bytes) (table_of f.events) event e
  | None ↦ name_of f.order (file_descriptions bytes) e
]

-- the bytes of a feature; none if it cannot be opened
unfoldable pub feature_of : List ℕ → (feature : ℕ) → Result (Option (List ℕ)) BadFeature
feature_of bytes feature = elim (pipe_order bytes) [
  | Some order ↦ Ok (noted_feature (order_of order) feature (notes_of bytes))
  | None ↦ file_feature_of bytes feature
]
