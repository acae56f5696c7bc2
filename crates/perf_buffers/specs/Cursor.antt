-- The contents of a cursor over one frame.
use Rattle.std.specs.Prelude.{◌≡◌, ℕ, Bool, true, false, List, drop}
use Rattle.perf_buffers.specs.declared.cursor.ParseBufCursor.{ParseBufCursor}
use Rattle.perf_buffers.specs.declared.cursor.Content.{Content}
use Rattle.perf_buffers.specs.declared.cursor.Content.TheVariants.{Borrowed, Own}

-- the bytes that are left
abbrev pub content_left : Content → List ℕ
content_left (Borrowed bytes) = bytes.now
content_left (Own bytes place) = drop place bytes.items

-- nothing was taken so far
abbrev pub ContentIsAtStart : Content → Type 0
ContentIsAtStart (Borrowed bytes) = Unit {0}
ContentIsAtStart (Own bytes place) = place ≡ 0

-- the bytes are borrowed
abbrev pub content_is_borrowed : Content → Bool
content_is_borrowed (Borrowed bytes) = true
content_is_borrowed (Own bytes place) = false

-- the bytes left in a cursor
abbrev pub cursor_left : ParseBufCursor → List ℕ
cursor_left c = content_left c.content

-- whether its bytes are borrowed
abbrev pub cursor_is_borrowed : ParseBufCursor → Bool
cursor_is_borrowed c = content_is_borrowed c.content

-- nothing was taken from it so far
abbrev pub IsAtStart : ParseBufCursor → Type 0
IsAtStart c = ContentIsAtStart c.content
