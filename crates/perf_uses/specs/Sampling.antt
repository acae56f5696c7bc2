-- What is counted of frames.
use Rattle.std.specs.Prelude.{ℕ, ◌==◌, if◌then◌else◌}
use Rattle.perf_records.specs.Sights.{Sight, whole, bad}

-- one for the frame of a sample, and nothing for another frame or for a header that no whole frame follows
abbrev pub one_if_sample : Sight → ℕ
one_if_sample (whole h bytes borrowed) = if h.type_ == 9 then 1 else 0
one_if_sample (bad h e) = 0
