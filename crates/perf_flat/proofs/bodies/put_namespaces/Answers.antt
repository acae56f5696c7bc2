use Rattle.std.proofs.Common.{◌≡◌, ℕ, List, [], ◌∷◌, ◌*◌, refl, sym, ap, subst, ◌∙◌}
use Rattle.perf_base.specs.Layout.{map_parts}
use Rattle.perf_flat.specs.CursorReads.{IsBodyOf}
use Rattle.perf_flat.proofs.RecordWrites.{namespaces_read, entries_counted, entries_there, task_namespaces}
use Rattle.perf_records.specs.Records.{namespaces_is}
use Rattle.perf_types.specs.Namespaces.{namespaces}
use Rattle.perf_flat.proofs.bodies.put_namespaces.Goals as goal

pub returns : goal.returns
returns g c = λ settings.
    let order = g.E.Endian.order c.args.order.now in
    let start = c.new-cursor in
    let pid_at = c.read_u32_as_u64-pid in
    let tid_at = c.read_u32_as_u64-tid in
    let count_at = c.read_u64-count in
    let list = c.pass_items-entries.ensures order (2 * count_at.result) refl in
    c.finish.ensures settings order (map_parts namespaces_is namespaces) (task_namespaces pid_at.result tid_at.result list.value) c.args.body.now (record {
      start = start.result;
      whole = start.ensures.bytes;
      front = start.ensures.at;
      fresh = start.ensures.refusal;
      reads = namespaces_read order pid_at.result tid_at.result count_at.result list.value start.result pid_at.new.self tid_at.new.self count_at.new.self c.pass_items-entries.new.self pid_at.ensures tid_at.ensures count_at.ensures list.reads;
      words = λ ok. ap (λ n. pid_at.result ∷ tid_at.result ∷ n ∷ []) (sym (entries_counted count_at.result list.value (list.holds ok).0));
      there = λ ok frame is. entries_there settings order frame c.pass_items-entries.result pid_at.result tid_at.result count_at.result list.value (list.holds ok).0
          ((list.holds ok).1 frame (subst (IsBodyOf frame) list.reads.bytes is));
      ids = λ own. refl;
    })
