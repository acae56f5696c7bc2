use Rattle.std.proofs.Common.{◌≤◌, ◌≡◌, length, take, subst, refl}
use Rattle.perf_base.specs.Zeros.{trim_zeros}
use Rattle.perf_flat.proofs.Names.{name_read}
use Rattle.perf_flat.proofs.CursorRuns.{shown_all}
use Rattle.perf_flat.proofs.cursor.BodyCursor.name.Goals as goal

pub returns : goal.returns
returns c = λ o.
    let a = c.args.self.now in
    let all = shown_all a a.within in
    let n = c.trimmed_len-len.result in
    name_read o n a _ _ a.within refl refl refl (subst (λ xs. n ≤ length xs) all c.trimmed_len-len.ensures.within)
    (subst (λ xs. take n xs ≡ trim_zeros xs) all c.trimmed_len-len.ensures.trimmed) c.short_span.ensures
