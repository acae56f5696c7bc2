use Rattle.std.proofs.Common.{◌≡◌, ℕ, List, Err, sym, subst}
use Rattle.std.specs.Prelude.{IsTrue}
use Rattle.perf_base.specs.FieldWords.{name}
use Rattle.perf_base.specs.Layout.{Parts, done, ◌>>=◌}
use Rattle.perf_reader.proofs.After.{call_after, call_stops, lent}
use Rattle.perf_types.specs.Mmap2.{Mmap2Value}
use Rattle.perf_types.specs.MmapDetail.{DetailValue, detail_value}
use Rattle.perf_types.specs.Pair.{pair}
use Rattle.perf_types.specs.declared.mmap2.Place.{Place}
use Rattle.perf_counters.proofs.Readings.{came_up}
use Rattle.perf_types.proofs.mmap2.Mmap2.read_path.Goals as goal

-- a record made from these
abbrev made : Place → DetailValue → ℕ × ℕ → List ℕ → Mmap2Value
made p detail words path = record { pid = p.pid; tid = p.tid; addr = p.addr; len = p.len; pgoff = p.pgoff; detail = detail; prot = words.0; flags = words.1; filename = path }

-- what follows the two numbers
abbrev after : Place → DetailValue → ℕ × ℕ → Parts Mmap2Value
after p detail words = name >>= λ path. done (made p detail words path)

pub returns-in_err-prot : goal.returns-in_err-prot
returns-in_err-prot g c =
    let up : c.from_residual.result ≡ Err c.in_err-prot.field-0.0 = came_up _ _ c.from_residual.ensures in rw up (
    record {
      call = lent _ _ _ (λ t w. (tt, c.in_err-prot.ensures.memory)) (
          call_stops (λ _. pair) (λ _ words. after c.args.place (detail_value c.args.detail) words) c.in_err-prot.ensures.call);
    })

pub returns-in_err-filename : goal.returns-in_err-filename
returns-in_err-filename g c =
    let up : c.from_residual-in_err-filename.result ≡ Err c.in_err-filename.field-0.0 = came_up _ _ c.from_residual-in_err-filename.ensures in rw up (
    record {
      call = lent _ _ _ (λ t w. (tt, c.in_err-filename.ensures.whole_memory (subst IsTrue (sym c.in_ok-prot.ensures.call.whole) w))) (
          call_after (λ _. pair) (λ _ words. after c.args.place (detail_value c.args.detail) words) c.in_ok-prot.ensures.call (
          call_stops (λ _. name) (λ _ v. done (made c.args.place (detail_value c.args.detail) (c.in_ok-prot.prot, c.in_ok-prot.flags) v)) c.in_err-filename.ensures.call));
    })
