-- The fields of a sample.
use Rattle.std.proofs.Common.{◌≡◌, ℕ, Bool, ◌==◌, true, false, List, refl, sym, ◌∙◌, ap}
use Rattle.std.specs.Prelude.{Some, None}
use Rattle.std.proofs.lemmas.Bool.{eqb-true}
use Rattle.perf_base.specs.Configuration.{Configuration}
use Rattle.perf_base.specs.Order.{Order}
use Rattle.perf_flat.specs.Flat.{IsFlat, present_of}
use Rattle.perf_flat.specs.Samples.{sample_present}
use Rattle.perf_flat.specs.declared.frame.FlatFrame.{FlatFrame}
use Rattle.perf_records.specs.Records.{sample_is}
use Rattle.perf_sample_types.specs.Sample.{SampleValue}
use Rattle.perf_walk.specs.Samples.{sample_of}
use Rattle.perf_walk.proofs.Sampled.{sample_answer}
use Rattle.perf_walk.proofs.Stated.{flat_record, of_no_sample}
use Rattle.perf_walk.proofs.Values.{read_is}

-- the flat frame of a sample has its type
nine : (c : Configuration) (o : Order) (frame : List ℕ) (s : SampleValue) (f : FlatFrame) → IsFlat c o frame f → sample_of c o frame ≡ Some s → (b : Bool) → (f.read == 9) ≡ b → f.read ≡ 9
nine c o frame s f is e true holds = eqb-true f.read 9 holds
nine c o frame s f is e false fails =
    let other : f.read ≡ 9 → ⊥ = λ same. let t : (9 == 9) ≡ false = ap (λ n. n == 9) (sym same) ∙ fails in absurd (cc) in
    let none : sample_of c o frame ≡ None = of_no_sample c o frame f is other in
    absurd (cc)

-- and so has its header
pub type_nine : (c : Configuration) (o : Order) (frame : List ℕ) (s : SampleValue) (f : FlatFrame) → IsFlat c o frame f → sample_of c o frame ≡ Some s → f.type_ ≡ 9
type_nine c o frame s f is e =
    let states = (flat_record c o frame (sample_is s) f is (sample_answer c o frame s e)).1.0 in
    read_is f.type_ 8 (sym states.read ∙ nine c o frame s f is e (f.read == 9) refl)

-- which fields it has
pub fields_of : (c : Configuration) (o : Order) (frame : List ℕ) (s : SampleValue) (f : FlatFrame) → IsFlat c o frame f → sample_of c o frame ≡ Some s → f.present ≡ sample_present c
fields_of c o frame s f is e =
    let states = (flat_record c o frame (sample_is s) f is (sample_answer c o frame s e)).1.0 in
    states.present ∙ ap (present_of c) (type_nine c o frame s f is e)
