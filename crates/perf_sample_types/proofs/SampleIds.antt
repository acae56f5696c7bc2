-- The fields of a sample id are its layout, and take as many bytes as it has.
use Rattle.std.proofs.Common.{◌≡◌, ℕ, List, true, sym, ◌∙◌, ap, if◌then◌else◌, length, drop, ◌<◌}
use Rattle.std.specs.Prelude.{Result, Ok, Err}
use Rattle.perf_base.specs.Configuration.{Configuration}
use Rattle.perf_base.specs.Configured.{configuration_of}
use Rattle.perf_base.specs.Layout.{Parts, done}
use Rattle.perf_base.specs.Order.{Order}
use Rattle.perf_base.specs.Run.{Ran, ran, stopped, run_by_spots, by_places}
use Rattle.perf_base.specs.Took.{took, quit, with_reads, took_by_places}
use Rattle.perf_base.specs.declared.error.ErrorKind.{ErrorKind}
use Rattle.perf_buffers.specs.Buffer.{Source}
use Rattle.perf_reader.specs.Calls.{Call}
use Rattle.perf_reader.specs.ReaderState.{ReaderState, state_of}
use Rattle.perf_reader.specs.Reading.{ReadsPlain}
use Rattle.perf_reader.specs.declared.reader.Reader.{Reader}
use Rattle.perf_sample_types.proofs.SampleIdLength.{sample_id_takes, sample_id_lacks}
use Rattle.perf_sample_types.specs.SampleId.{SampleIdValue, no_sample_id, sample_id, sample_id_fields, sample_id_length}
use Rattle.perf_sample_types.specs.SampleIdFields.{TakesOrLacks}

fields_are_it : (c : Configuration) (t : ℕ) → c.sample_id_all ≡ true → t ≡ c.sample_type → sample_id c ≡ sample_id_fields t
fields_are_it c t all is =
    ap (λ b. if b then sample_id_fields c.sample_type else done no_sample_id) all ∙ ap sample_id_fields (sym is)

ran_reads : {A : Type 0} (r : Ran A) (n : ℕ) (v : A) (left : List ℕ) (m : ℕ) → with_reads r n ≡ took v left m → r ≡ ran v left
ran_reads (ran w rest) n v left m h = cc
ran_reads (stopped e rest) n v left m h = cc

stopped_reads : {A : Type 0} (r : Ran A) (n : ℕ) (e : ErrorKind) (left : List ℕ) (m : ℕ) → with_reads r n ≡ quit e left m → r ≡ stopped e left
stopped_reads (ran w rest) n e left m h = cc
stopped_reads (stopped d rest) n e left m h = cc

places_ran : {A : Type 0} (o : Order) (p : Parts A) (bytes : List ℕ) (n : ℕ) (v : A) (left : List ℕ) (m : ℕ) → took_by_places o p bytes n ≡ took v left m → by_places o p bytes ≡ ran v left
unfolding took_by_places by_places
places_ran o p bytes n v left m h = ran_reads (run_by_spots o bytes 0 p) _ v left m h

places_stopped : {A : Type 0} (o : Order) (p : Parts A) (bytes : List ℕ) (n : ℕ) (e : ErrorKind) (left : List ℕ) (m : ℕ) → took_by_places o p bytes n ≡ quit e left m → by_places o p bytes ≡ stopped e left
unfolding took_by_places by_places
places_stopped o p bytes n e left m h = stopped_reads (run_by_spots o bytes 0 p) _ e left m h

-- it takes as many bytes as it has, or there are too few
id_takes : (c : Configuration) (o : Order) (bytes : List ℕ) (n : ℕ) (v : SampleIdValue) (left : List ℕ) (m : ℕ) → took_by_places o (sample_id c) bytes n ≡ took v left m → left ≡ drop (sample_id_length c) bytes
id_takes c o bytes n v left m h = sample_id_takes c o bytes left v (places_ran o (sample_id c) bytes n v left m h)

id_lacks : (c : Configuration) (o : Order) (bytes : List ℕ) (n : ℕ) (e : ErrorKind) (left : List ℕ) (m : ℕ) → took_by_places o (sample_id c) bytes n ≡ quit e left m → length bytes < sample_id_length c
id_lacks c o bytes n e left m h = sample_id_lacks c o bytes left e (places_stopped o (sample_id c) bytes n e left m h)

-- a call that reads the fields reads the sample id
module _ {I E : Type 0} {source : I → Source} {order : E → Order} where
  pub id_read : {a b : Reader I E} {outcome : Result SampleIdValue ErrorKind} (t : ℕ) → (configuration_of a.config).sample_id_all ≡ true → t ≡ (configuration_of a.config).sample_type →
      Call {X = SampleIdValue} source order (ReadsPlain (λ _. sample_id_fields t) (λ s. s)) a outcome b →
      Call {X = SampleIdValue} source order (λ old seen new. ReadsPlain sample_id (λ s. s) old seen new × TakesOrLacks (sample_id_length old.settings) old seen new) a outcome b
  id_read {a} {b} {outcome} t all is call =
      let settings = configuration_of a.config in
      let old : ReaderState = state_of source order a in
      let new : ReaderState = state_of source order b in
      let same : took_by_places old.order (sample_id settings) old.source.left old.reads ≡ took_by_places old.order (sample_id_fields t) old.source.left old.reads =
      ap (λ (p : Parts SampleIdValue). took_by_places old.order p old.source.left old.reads) (fields_are_it settings t all is) in record {
        config = call.config;
        whole = call.whole;
        told = call.told;
        answer = λ h. go old new outcome same (call.answer h);
        keeps = call.keeps;
      }
    where
      go : (old new : ReaderState) (outcome : Result SampleIdValue ErrorKind) →
          took_by_places old.order (sample_id old.settings) old.source.left old.reads ≡ took_by_places old.order (sample_id_fields t) old.source.left old.reads →
          ReadsPlain (λ _. sample_id_fields t) (λ s. s) old outcome new →
          ReadsPlain sample_id (λ s. s) old outcome new × TakesOrLacks (sample_id_length old.settings) old outcome new
      go old new (Ok v) same h = let r = same ∙ h.0 in ((r, h.1), id_takes old.settings old.order old.source.left old.reads v new.source.left new.reads r)
      go old new (Err e) same h = (((λ kind. same ∙ h.0 kind), h.1), λ kind. id_lacks old.settings old.order old.source.left old.reads e new.source.left new.reads (same ∙ h.0 kind))
