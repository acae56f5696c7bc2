-- What is found at each of the frames of bytes that are all in memory.
use Rattle.std.specs.Prelude.{ℕ, List, Option, Some, None, true, map, length, ◌==◌, nat_lt, if◌then◌else◌}
use Rattle.perf_base.specs.Order.{Order}
use Rattle.perf_records.specs.Frames.{frames}
use Rattle.perf_records.specs.Sights.{Sight, sight_in}
use Rattle.perf_records.specs.declared.frame_list.FramesEnd.{FramesEnd}
use Rattle.perf_records.specs.declared.frame_list.FramesEnd.TheVariants as end

-- what is found at each frame, whose bytes live as long as the input
abbrev pub sights : Order → List ℕ → List Sight
sights o bytes = map (λ frame. sight_in o frame true) (frames o bytes)

-- How a list of frames ends before these bytes: nothing is left, or fewer bytes than a header has.
-- If a header is left, it goes on.
abbrev pub end_before : List ℕ → Option FramesEnd
end_before bytes =
    if nat_lt (length bytes) 8 then Some (if length bytes == 0 then end.Done else end.CutHeader)
    else None
