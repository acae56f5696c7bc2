-- Parts that are refused, and so are refused when their value is mapped.
use Rattle.std.proofs.Common.{◌≡◌, ℕ, List, Err, sym, ◌∙◌, ap}
use Rattle.perf_base.specs.Configuration.{Configuration}
use Rattle.perf_base.specs.Configured.{configuration_of}
use Rattle.perf_base.specs.Layout.{Parts, done, map_parts}
use Rattle.perf_base.specs.Order.{Order}
use Rattle.perf_base.specs.Took.{quit, take_parts, took_by_places}
use Rattle.perf_base.proofs.Took.{places_took, then_take}
use Rattle.perf_base.specs.declared.error.ErrorKind.{ErrorKind}
use Rattle.perf_buffers.specs.Buffer.{Source}
use Rattle.perf_reader.specs.Calls.{Call}
use Rattle.perf_reader.specs.ReaderState.{ReaderState, state_of}
use Rattle.perf_reader.specs.Reading.{Reads}
use Rattle.perf_reader.specs.TableRuns.{ReadsBorrowed}
use Rattle.perf_reader.specs.declared.reader.Reader.{Reader}
use Rattle.perf_reader.proofs.After.{take_after}

mapped_quits : {A B : Type 0} (o : Order) (f : A → B) (p : Parts A) (bytes : List ℕ) (n : ℕ) (e : ErrorKind) (left : List ℕ) (m : ℕ) →
    took_by_places o p bytes n ≡ quit e left m → took_by_places o (map_parts f p) bytes n ≡ quit e left m
mapped_quits o f p bytes n e left m is =
    places_took o (map_parts f p) bytes n
    ∙ take_after o p (λ v. done (f v)) bytes n
    ∙ ap (then_take (λ v l k. take_parts o (done (f v)) l k)) (sym (places_took o p bytes n) ∙ is)

module _ {I E : Type 0} {source : I → Source} {order : E → Order} where
  pub mapped_stops : {X Y A B : Type 0} {view : X → A} {a b : Reader I E} {e : ErrorKind}
      (f : A → B) (p : Configuration → Parts A) (q : Configuration → Parts B) (shown : Y → B) (borrowed : Y → Type 0) →
      q (configuration_of a.config) ≡ map_parts f (p (configuration_of a.config)) → Call {X = X} source order (Reads p view) a (Err e) b →
      Call {X = Y} source order (ReadsBorrowed q shown borrowed) a (Err e) b
  mapped_stops {a = a} {b = b} {e = e} f p q shown borrowed same first =
      let old : ReaderState = state_of source order a in
      let new : ReaderState = state_of source order b in record {
        config = first.config;
        whole = first.whole;
        told = first.told;
        answer = λ h. (
          (λ kind. ap (λ r. took_by_places old.order r old.source.left old.reads) same
              ∙ mapped_quits old.order f (p old.settings) old.source.left old.reads e new.source.left new.reads (first.answer h kind)),
          λ w. tt,
        );
        keeps = first.keeps;
      }
