use Rattle.std.proofs.Common.{◌≡◌, ℕ, List, Err, subst, sym}
use Rattle.std.specs.Prelude.{IsTrue}
use Rattle.perf_base.specs.Layout.{Parts, done, ◌>>=◌}
use Rattle.perf_base.specs.FieldWords.{name}
use Rattle.perf_types.specs.Mmap.{MmapValue, mmap_value}
use Rattle.perf_types.specs.Mmap2.{place}
use Rattle.perf_types.specs.declared.mmap2.Place.{Place}
use Rattle.perf_reader.proofs.After.{call_after, call_stops, lent}
use Rattle.perf_counters.proofs.Readings.{came_up}
use Rattle.perf_types.proofs.mmap.MmapReadFrom.read.Goals as goal

-- the record of a place and a path, and what is left to read after the place
abbrev mapped : Place → List ℕ → Parts MmapValue
mapped p filename = done (record { pid = p.pid; tid = p.tid; addr = p.addr; len = p.len; pgoff = p.pgoff; filename = filename })

abbrev after : Place → Parts MmapValue
after p = name >>= mapped p

pub returns-in_err-place : goal.returns-in_err-place
returns-in_err-place g c =
    let up : c.from_residual.result ≡ Err c.in_err-place.field-0.0 = came_up _ _ c.from_residual.ensures in rw up (
    record {
      call = lent _ _ _ (λ t w. (tt, c.in_err-place.ensures.memory)) (
          call_stops (λ _. place) (λ _. after) c.in_err-place.ensures.call);
    })

pub returns-in_err-filename : goal.returns-in_err-filename
returns-in_err-filename g c =
    let up : c.from_residual-in_err-filename.result ≡ Err c.in_err-filename.field-0.0 = came_up _ _ c.from_residual-in_err-filename.ensures in rw up (
    record {
      call = lent _ _ _ (λ t w. (tt, c.in_err-filename.ensures.whole_memory (subst IsTrue (sym c.in_ok-place.ensures.call.whole) w))) (
          call_after (λ _. place) (λ _. after) c.in_ok-place.ensures.call (
          call_stops {show = mmap_value} (λ _. name) (λ _. mapped c.in_ok-place.place) c.in_err-filename.ensures.call));
    })
