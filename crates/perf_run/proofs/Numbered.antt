-- Lines one after another.
use Rattle.std.proofs.Common.{◌≡◌, ℕ, ◌+◌, ◌<◌, List, [], ◌∷◌, ◌++◌, length, take, sym, ap, ◌∙◌, add-zero, append-nil, append_assoc, arith, get_or}
use Rattle.std.specs.Prelude.{Result}
use Rattle.std.proofs.lemmas.List.{map_more, length-map, length-take-le}
use Rattle.perf_base.specs.declared.sys.perf_event_header.{perf_event_header}
use Rattle.perf_base.specs.declared.error.ErrorKind.{ErrorKind}
use Rattle.perf_base.specs.declared.error.ParseError.{ParseError}
use Rattle.perf_records.specs.Records.{RecordValue}
use Rattle.perf_records.specs.declared.record.Record.{Record}
use Rattle.perf_parser.specs.Runs.{seen_answer}
use Rattle.perf_parser.specs.Runs.{seen_answers}
use Rattle.perf_lines.specs.Text.{line, with_line_feed}
use Rattle.perf_run.specs.Text.{lines_from}

pub lines_append : (first : ℕ) (xs ys : List (perf_event_header × Result RecordValue ErrorKind)) → lines_from first (xs ++ ys) ≡ lines_from first xs ++ lines_from (first + length xs) ys
lines_append first [] ys = ap (λ n. lines_from n ys) (sym (add-zero first))
lines_append first (x ∷ xs) ys =
    let here : List ℕ = with_line_feed (line first x.0 x.1) in
    let n : first + 1 + length xs ≡ first + length (x ∷ xs) = omega arith in
    ap (λ rest. here ++ rest) (lines_append (first + 1) xs ys ∙ ap (λ n. lines_from (first + 1) xs ++ lines_from n ys) n)
    ∙ sym (append_assoc here (lines_from (first + 1) xs) (lines_from (first + length (x ∷ xs)) ys))

-- one more line
pub lines_more : (first i : ℕ) (frames : List (perf_event_header × Result Record ParseError)) (here : perf_event_header × Result Record ParseError) → i < length frames → here ≡ get_or frames i here → lines_from first (seen_answers (take (i + 1) frames)) ≡ lines_from first (seen_answers (take i frames)) ++ with_line_feed (line (first + i) here.0 (seen_answer here.1))
lines_more first i frames here below is =
    let before = seen_answers (take i frames) in
    let shown : perf_event_header × Result Record ParseError → perf_event_header × Result RecordValue ErrorKind = λ pair. (pair.0, seen_answer pair.1) in
    let n : length before ≡ i = length-map (take i frames) shown ∙ length-take-le i frames (omega arith) in
    ap (λ pairs. lines_from first pairs) (map_more shown frames i here below)
    ∙ lines_append first before (shown (get_or frames i here) ∷ [])
    ∙ ap (λ rest. lines_from first before ++ rest)
    (append-nil (with_line_feed (line (first + length before) (get_or frames i here).0 (seen_answer (get_or frames i here).1)))
    ∙ ap (λ k. with_line_feed (line (first + k) (get_or frames i here).0 (seen_answer (get_or frames i here).1))) n
    ∙ ap (λ (pair : perf_event_header × Result Record ParseError). with_line_feed (line (first + i) pair.0 (seen_answer pair.1))) (sym is))
