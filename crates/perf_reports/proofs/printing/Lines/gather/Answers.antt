use Rattle.std.proofs.Common.{◌≡◌, ◌++◌, ◌∙◌, ℕ, List, [], false, take, refl, sym, subst, inl, inr, string_bytes}
use Rattle.std.specs.Io.KnownBytes.{Appends}
use Rattle.perf_reports.specs.Printing.{Grows, is_memory}
use Rattle.perf_reports.specs.declared.printing.Stopped.{Stopped}
use Rattle.perf_reports.proofs.Printed.{waits_more, waits_alone, none_waits, none_within, first_within, within, second_within, both_within, kept_alone, none_kept, nothing_fits, none_made, refused_by, refused_alike}
use Rattle.perf_reports.proofs.printing.Lines.gather.Goals as goal

-- what stopped it is no lack of memory
abbrev IsOutput : Stopped → Type 0
IsOutput stopped = is_memory stopped ≡ false

pub returns-then-takes_next : goal.returns-then-takes_next
returns-then-takes_next g c =
    let old = g.W.Write.contents c.args.output.now in
    let waited : List ℕ = string_bytes c.args.self.now.gathered in
    let text : List ℕ = string_bytes c.args.self.now.next in record {
      grown = subst (λ (w : List ℕ). Grows old old waited w text) (sym (c.if-takes_next.ensures.taken refl)) (waits_more old waited text);
      bound = inl (c.if-takes_next.ensures.bound refl);
      part = none_within old (waited ++ text);
      failed = tt;
    }

pub returns-in_err-send : goal.returns-in_err-send
returns-in_err-send g c =
    let old = g.W.Write.contents c.args.output.now in
    let new = g.W.Write.contents c.send.new.output in
    let part = subst (λ (xs : List ℕ). (n : ℕ) × Appends old new (take n xs)) (c.if-takes_next.ensures.left refl) c.in_err-send.ensures.part in record {
      grown = none_made _ _ c.from_residual.ensures.0;
      bound = none_made _ _ c.from_residual.ensures.0;
      part = within old new (string_bytes c.args.self.now.gathered) (string_bytes c.args.self.now.next) part;
      failed = refused_alike IsOutput _ c.in_err-send.field-0.0 c.from_residual.ensures.1 c.in_err-send.ensures.failed;
    }

pub returns-in_err-write_whole : goal.returns-in_err-write_whole
returns-in_err-write_whole g c =
    let old = g.W.Write.contents c.args.output.now in
    let between = g.W.Write.contents c.send.new.output in
    let new = g.W.Write.contents c.write_whole.new.output in
    let sent = subst (λ (xs : List ℕ). Appends old between xs) (c.if-takes_next.ensures.left refl) c.in_ok-send.ensures.sent in
    let next : c.as_bytes.result.now ≡ string_bytes c.args.self.now.next = c.as_bytes.ensures.value ∙ c.in_ok-send.ensures.next ∙ c.if-takes_next.ensures.next in
    let part = subst (λ (xs : List ℕ). (n : ℕ) × Appends between new (take n xs)) next c.in_err-write_whole.ensures.part in record {
      grown = none_made _ _ c.from_residual-in_err-write_whole.ensures.0;
      bound = none_made _ _ c.from_residual-in_err-write_whole.ensures.0;
      part = second_within old between new (string_bytes c.args.self.now.gathered) (string_bytes c.args.self.now.next) sent part;
      failed = refused_by IsOutput _ c.from_residual-in_err-write_whole.ensures.1;
    }

pub returns-in_ok-write_whole : goal.returns-in_ok-write_whole
returns-in_ok-write_whole g c =
    let old = g.W.Write.contents c.args.output.now in
    let between = g.W.Write.contents c.send.new.output in
    let new = g.W.Write.contents c.write_whole.new.output in
    let waited : List ℕ = string_bytes c.args.self.now.gathered in
    let text : List ℕ = string_bytes c.args.self.now.next in
    let sent = subst (λ (xs : List ℕ). Appends old between xs) (c.if-takes_next.ensures.left refl) c.in_ok-send.ensures.sent in
    let next : c.as_bytes.result.now ≡ text = c.as_bytes.ensures.value ∙ c.in_ok-send.ensures.next ∙ c.if-takes_next.ensures.next in
    let whole = subst (λ (xs : List ℕ). Appends between new xs) next c.in_ok-write_whole.ensures.whole in
    let none : string_bytes c.push_str.new.self ≡ [] = none_kept c.push_str.result _ _ _ _ c.is_err.ensures.value c.if-is_err.true c.in_ok-send.ensures.none c.push_str.ensures.bytes in record {
      grown = subst (λ (w : List ℕ). Grows old new waited w text) (sym none) (none_waits old between new waited text sent whole);
      bound = inl (nothing_fits _ _ none);
      part = both_within old between new waited text sent whole;
      failed = tt;
    }

pub returns-else-is_err : goal.returns-else-is_err
returns-else-is_err g c =
    let old = g.W.Write.contents c.args.output.now in
    let new = g.W.Write.contents c.send.new.output in
    let waited : List ℕ = string_bytes c.args.self.now.gathered in
    let text : List ℕ = string_bytes c.args.self.now.next in
    let sent = subst (λ (xs : List ℕ). Appends old new xs) (c.if-takes_next.ensures.left refl) c.in_ok-send.ensures.sent in
    let next : c.as_str.result.now ≡ text = c.as_str.ensures.value ∙ c.in_ok-send.ensures.next ∙ c.if-takes_next.ensures.next in
    let kept : string_bytes c.push_str.new.self ≡ text = kept_alone c.push_str.result _ _ _ _ _ c.is_err.ensures.value c.if-is_err.false c.in_ok-send.ensures.none next c.push_str.ensures.bytes in record {
      grown = subst (λ (w : List ℕ). Grows old new waited w text) (sym kept) (waits_alone old new waited text sent);
      bound = inr kept;
      part = first_within old new waited text sent;
      failed = tt;
    }
