use Rattle.std.proofs.Common.{◌≡◌, ℕ, Bool, ◌+◌, List, [], drop, refl, subst, arith}
use Rattle.std.specs.Prelude.{Ok}
use Rattle.std.proofs.lemmas.List.{drop_all}
use Rattle.perf_sections.specs.Opened.{File}
use Rattle.perf_file.specs.Views.{view}
use Rattle.perf_file.specs.declared.entries.Entry.{Entry}
use Rattle.perf_walk.specs.Moments.{moments}
use Rattle.perf_script.specs.ScriptText.{any_refused, text_from}
use Rattle.perf_script.specs.Writing.{GoesOn, IsWriting}
use Rattle.perf_script.proofs.Found.{drop_next}
use Rattle.perf_script.proofs.Parts.{writing_begun, writing_whole}
use Rattle.perf_script.proofs.Ways.{way_begun}
use Rattle.perf_script.proofs.writing.write_entries.Goals as goal

pub loop-entry-init : goal.loop-entry-init
loop-entry-init g c = λ all events.
    let f : File = view c.args.recording.now in
    let entries : List Entry = c.args.entries.now in
    writing_begun f all entries (any_refused f (moments f entries [])) (text_from f all [] (moments f entries [])) (g.W.Write.contents c.args.writer.now) c.new-made.result
    (way_begun c.args.recording.now all entries c.new-made.result c.new-made.ensures)

pub loop-entry-preserved : goal.loop-entry-preserved
loop-entry-preserved g c = λ all events.
    let f : File = view c.args.recording.now in
    let entries : List Entry = c.args.entries.now in
    let i : ℕ = c.loop-entry.entry-index in
    let any : Bool = any_refused f (moments f entries []) in
    let whole : List ℕ = text_from f all [] (moments f entries []) in
    let contents = g.W.Write.contents in
    subst (λ (b : Bool). GoesOn f all (drop (i + 1) entries) any whole (contents c.args.writer.now) (Ok b) (contents c.write_step.new.writer) c.write_step.new.made) c.if-not-goes_on.false
    (c.in-Ok.ensures f all (drop (i + 1) entries) any whole (contents c.args.writer.now) events
    (subst (λ es. IsWriting f all es any whole (contents c.args.writer.now) (contents c.loop-entry.writer) c.loop-entry.made) (drop_next entries i _ (omega (arith, c.loop-entry-test.true))) (c.loop-entry.invariant all events)))

pub returns-then-not-goes_on : goal.returns-then-not-goes_on
returns-then-not-goes_on g c = λ all events.
    let f : File = view c.args.recording.now in
    let entries : List Entry = c.args.entries.now in
    let i : ℕ = c.loop-entry.entry-index in
    let any : Bool = any_refused f (moments f entries []) in
    let whole : List ℕ = text_from f all [] (moments f entries []) in
    let contents = g.W.Write.contents in
    let before =
    subst (λ es. IsWriting f all es any whole (contents c.args.writer.now) (contents c.loop-entry.writer) c.loop-entry.made) (drop_next entries i _ (omega (arith, c.loop-entry-test.true))) (c.loop-entry.invariant all events) in
    let stops =
    subst (λ (b : Bool). GoesOn f all (drop (i + 1) entries) any whole (contents c.args.writer.now) (Ok b) (contents c.write_step.new.writer) c.write_step.new.made) c.if-not-goes_on.true
    (c.in-Ok.ensures f all (drop (i + 1) entries) any whole (contents c.args.writer.now) events before) in
    (any, whole, (refl, refl), stops)

pub returns-in-Err : goal.returns-in-Err
returns-in-Err g c = λ all events.
    let f : File = view c.args.recording.now in
    let entries : List Entry = c.args.entries.now in
    let i : ℕ = c.loop-entry.entry-index in
    let any : Bool = any_refused f (moments f entries []) in
    let whole : List ℕ = text_from f all [] (moments f entries []) in
    let contents = g.W.Write.contents in
    c.in-Err.ensures f all (drop (i + 1) entries) any whole (contents c.args.writer.now) events
    (subst (λ es. IsWriting f all es any whole (contents c.args.writer.now) (contents c.loop-entry.writer) c.loop-entry.made) (drop_next entries i _ (omega (arith, c.loop-entry-test.true))) (c.loop-entry.invariant all events))

pub returns : goal.returns
returns g c = λ all events.
    let f : File = view c.args.recording.now in
    let entries : List Entry = c.args.entries.now in
    let any : Bool = any_refused f (moments f entries []) in
    let whole : List ℕ = text_from f all [] (moments f entries []) in
    let contents = g.W.Write.contents in
    let end : drop c.loop-entry.entry-index entries ≡ [] = drop_all c.loop-entry.entry-index entries (omega (arith, c.loop-entry-test.false)) in
    let way = subst (λ es. IsWriting f all es any whole (contents c.args.writer.now) (contents c.loop-entry.writer) c.loop-entry.made) end (c.loop-entry.invariant all events) in
    (any, whole, (refl, refl), writing_whole c.write_end.result f all any whole (contents c.args.writer.now) (contents c.loop-entry.writer) (contents c.write_end.new.writer) c.loop-entry.made way c.write_end.ensures)
