use Rattle.std.proofs.Common.{◌≡◌, Err}
use Rattle.perf_base.specs.Layout.{number, w8}
use Rattle.perf_reader.specs.BranchEntry.{branch}
use Rattle.perf_reader.proofs.After.{came_up, part_after, call_none, plain}
use Rattle.perf_reader.proofs.Fields.{part_stops}
use Rattle.perf_reader.proofs.flags.BranchEntryReadFrom.read.Goals as goal

pub returns-in_err-from : goal.returns-in_err-from
returns-in_err-from g c =
    let up : c.from_residual.result ≡ Err c.in_err-from.field-0.0 = came_up _ _ c.from_residual.ensures in
    let e = c.in_err-from.ensures in record {
      call = rw up (plain (λ _. branch) (λ v. v) (λ _. e.memory) (part_stops (number w8) (λ n. n) _ _ e.call));
    }

pub returns-in_err-to : goal.returns-in_err-to
returns-in_err-to g c =
    let up : c.from_residual-in_err-to.result ≡ Err c.in_err-to.field-0.0 = came_up _ _ c.from_residual-in_err-to.ensures in
    let e = c.in_err-to.ensures in record {
      call = rw up (plain (λ _. branch) (λ v. v) (λ _. e.memory) (
          part_after (number w8) (λ n. n) _ c.in_ok-from.ensures.call (
          part_stops (number w8) (λ n. n) _ _ e.call)));
    }

pub returns-in_err-word : goal.returns-in_err-word
returns-in_err-word g c =
    let up : c.from_residual-in_err-word.result ≡ Err c.in_err-word.field-0.0 = came_up _ _ c.from_residual-in_err-word.ensures in
    let e = c.in_err-word.ensures in record {
      call = rw up (plain (λ _. branch) (λ v. v) (λ _. e.memory) (
          part_after (number w8) (λ n. n) _ c.in_ok-from.ensures.call (
          part_after (number w8) (λ n. n) _ c.in_ok-to.ensures.call (
          part_stops (number w8) (λ n. n) _ _ e.call))));
    }

pub returns : goal.returns
returns g c = record {
  call = rw c.from_words.ensures (plain (λ _. branch) (λ v. v) (λ _. tt) (
      part_after (number w8) (λ n. n) _ c.in_ok-from.ensures.call (
      part_after (number w8) (λ n. n) _ c.in_ok-to.ensures.call (
      part_after (number w8) (λ n. n) _ c.in_ok-word.ensures.call (
      call_none {show = λ v. v})))));
}
