-- The laws of a SAMPLE, from those of any table.
use Rattle.std.proofs.Common.{◌≡◌, ℕ, zero, suc, ◌<◌, true, false, List, [], ◌∷◌, ◌++◌, length, set, get_or, Option, Some, None, Ok, refl, sym, ◌∙◌, ap, arith}
use Rattle.std.specs.List.{Contains}
use Rattle.std.proofs.lemmas.List.{length-map, get_or-map, get_or-set_same, get_or-set_other, append-nil}
use Rattle.perf_base.specs.Configuration.{Configuration}
use Rattle.perf_base.specs.FieldWords.{u64}
use Rattle.perf_base.specs.Layout.{Parts, done, layout, value}
use Rattle.perf_base.specs.Order.{Order}
use Rattle.perf_base.specs.Run.{ran, run_parts}
use Rattle.perf_base.specs.Splice.{Spells}
use Rattle.perf_base.specs.Table.{slot, table}
use Rattle.perf_base.proofs.Algebra.{then_inv}
use Rattle.perf_base.proofs.Tables.{splice_fields, cut_fields, tables_inv, cons_inv, layout_run}
use Rattle.perf_sample_types.specs.Sample.{FieldValue, number_is, SampleValue, sample, sample_fields, settings_of, field_under, fields_under, plain_field}
use Rattle.perf_sample_types.specs.SampleGetters.{field_at, number_in}
use Rattle.perf_sample_types.specs.SampleId.{first_of}
use Rattle.perf_sample_types.specs.SampleLaws.{no_field, table_field, id_row, flags_of, row_parts, is_there, with_flag, without_field, splice_field, without_bytes, said_id, said_identifier, ChangesField, KeepsId, SpliceLaw, CutLaw}
use Rattle.perf_sample_types.proofs.Closed.{sample_ended, front_closed, one_closed}
use Rattle.perf_sample_types.proofs.LawFlags.{with_fields, without_fields, under_true, under_false}

-- ---- the fields under a configuration

abbrev under : Configuration → List (Option (Parts FieldValue))
under c = fields_under c sample_fields

field_there : (c : Configuration) (f : ℕ) → f < 24 → get_or (under c) f None ≡ field_under c (table_field f)
field_there c f h = get_or-map (field_under c) sample_fields f no_field None h

within : (c : Configuration) (f : ℕ) → f < 24 → f < length (under c)
within c f h = rw (length-map sample_fields (field_under c)) h

-- ---- a table has as many values as fields

counted : {A : Type 0} (o : Order) (fields : List (Option (Parts A))) (bytes left : List ℕ) (vs : List (Option A)) →
    run_parts o (table fields) bytes ≡ ran vs left → length vs ≡ length fields
counted o fields bytes left vs e =
    let around = tables_inv o fields [] bytes left vs (ap (λ t. run_parts o (table t) bytes) (append-nil fields) ∙ e) in
    let last : run_parts o (table []) around.1 ≡ ran around.2 left = around.4 in
    let none : around.2 ≡ [] = cc in
    ap length (around.5 ∙ ap (λ t. around.0 ++ t) none ∙ append-nil around.0) ∙ around.6

sample_counted : (c : Configuration) (o : Order) (body : List ℕ) (vs : SampleValue) → layout o (sample c) body ≡ Ok vs → length vs ≡ 24
unfolding sample
sample_counted c o body vs e = counted o (under c) body _ vs (layout_run o (table (under c)) body vs e) ∙ length-map sample_fields (field_under c)

-- ---- the value of a field is that of its parts

said_at : {A : Type 0} (o : Order) (fields : List (Option (Parts A))) (i : ℕ) (bytes left : List ℕ) (vs : List (Option A)) →
    i < length fields → run_parts o (table fields) bytes ≡ ran vs left →
    (front : List ℕ) × (back : List ℕ) × (run_parts o (slot (get_or fields i None)) front ≡ ran (get_or vs i None) back)
said_at o [] i bytes left vs h e = absurd (omega arith)
said_at o (x ∷ ys) zero bytes left vs h e =
    let parts = cons_inv o x ys bytes left vs e in
    (bytes, parts.1, parts.3 ∙ ap (λ t. ran (get_or t 0 None) parts.1) (sym parts.5))
said_at o (x ∷ ys) (suc i) bytes left vs h e =
    let parts = cons_inv o x ys bytes left vs e in
    let again = said_at o ys i parts.1 left parts.2 (omega arith) parts.4 in
    (again.0, again.1, again.2 ∙ ap (λ t. ran (get_or t (suc i) None) again.1) (sym parts.5))

plain_says : (o : Order) (v : Option FieldValue) (front back : List ℕ) → run_parts o (slot (Some plain_field)) front ≡ ran v back →
    (n : ℕ) × (v ≡ Some (number_is n))
plain_says o v front back e =
    let first = then_inv o u64 (λ n. done (Some (number_is n))) front v back e in
    let made : ran (Some (number_is first.0)) first.1 ≡ ran v back = first.3 in
    let same : Some (number_is first.0) ≡ v = cc in
    (first.0, sym same)

-- ID is a number if it is present
id_says : (c : Configuration) (o : Order) (body : List ℕ) (vs : SampleValue) → is_there c id_row ≡ true → layout o (sample c) body ≡ Ok vs →
    (n : ℕ) × (said_id vs ≡ Some n)
unfolding sample
id_says c o body vs there e =
    let at = said_at o (under c) id_row body _ vs (within c id_row (omega arith)) (layout_run o (table (under c)) body vs e) in
    let is_plain : get_or (under c) id_row None ≡ Some plain_field = field_there c id_row (omega arith) ∙ under_true c (table_field id_row) there in
    let says = plain_says o (field_at vs id_row) at.0 at.1 (ap (λ t. run_parts o (slot t) at.0) (sym is_plain) ∙ at.2) in
    (says.0, ap number_in says.1)

-- ---- one field changed

changed : (vs : SampleValue) (f : ℕ) (v : Option FieldValue) → f < length vs → ChangesField vs (set vs f v) f v
changed vs f v h = record { field = get_or-set_same vs f v None h; others = λ g ne. get_or-set_other vs f g v None ne }

keeps : (c : Configuration) (o : Order) (body : List ℕ) (vs us : SampleValue) → is_there c id_row ≡ true → layout o (sample c) body ≡ Ok vs →
    field_at us id_row ≡ field_at vs id_row → KeepsId vs us
keeps c o body vs us there e same =
    let says = id_says c o body vs there e in record {
      was = ap (λ t. first_of t (said_identifier vs)) says.1 ∙ sym says.1;
      stays = ap (λ t. first_of t (said_identifier us)) (ap number_in same ∙ says.1) ∙ sym says.1;
    }

-- ---- the laws

spliced_layout : (c : Configuration) (o : Order) (f flag : ℕ) (body w : List ℕ) (vs : SampleValue) → f < 24 → is_there c f ≡ false →
    Contains (flags_of f) flag → Spells o (row_parts c f) w → layout o (sample c) body ≡ Ok vs →
    layout o (sample (with_flag c flag)) (splice_field c o body f w) ≡ Ok (set vs f (Some (value o w 0 (row_parts c f))))
unfolding sample
spliced_layout c o f flag body w vs h absent has s e =
    let none : get_or (under c) f None ≡ None = field_there c f h ∙ under_false c (table_field f) absent in
    ap (λ t. layout o (table t) (splice_field c o body f w)) (with_fields sample_fields c f flag refl refl h has)
    ∙ splice_fields o (under c) f (row_parts c f) body w vs (within c f h) none (front_closed sample_fields c f sample_ended) (one_closed sample_fields f sample_ended (settings_of c)) e s

cut_layout : (c : Configuration) (o : Order) (f : ℕ) (body : List ℕ) (vs : SampleValue) → f < 24 → layout o (sample c) body ≡ Ok vs →
    layout o (sample (without_field c f)) (without_bytes c o body f) ≡ Ok (set vs f None)
unfolding sample
cut_layout c o f body vs h e =
    ap (λ t. layout o (table t) (without_bytes c o body f)) (without_fields sample_fields c f refl refl h)
    ∙ cut_fields o (under c) f body vs (within c f h) (front_closed sample_fields c f sample_ended) e

pub sample_splice : (c : Configuration) (body w : List ℕ) (f : ℕ) → f < 24 → SpliceLaw c body f w
sample_splice c body w f h o flag vs absent has s e =
    let v : Option FieldValue = Some (value o w 0 (row_parts c f)) in
    let only : ChangesField vs (set vs f v) f v = changed vs f v (rw (sample_counted c o body vs e) h) in (
      set vs f v,
      spliced_layout c o f flag body w vs h absent has s e,
      only,
      λ there. keeps c o body vs (set vs f v) there e (only.others id_row (λ is. absurd (let both : is_there c f ≡ true = ap (is_there c) (sym is) ∙ there in cc))),
    )

pub sample_cut : (c : Configuration) (body : List ℕ) (f : ℕ) → f < 24 → CutLaw c body f
sample_cut c body f h o vs there e =
    let us : SampleValue = set vs f None in
    let only : ChangesField vs us f None = changed vs f None (rw (sample_counted c o body vs e) h) in (
      us,
      cut_layout c o f body vs h e,
      only,
      λ other id. keeps c o body vs us id e (only.others 5 (λ is. other (sym is))),
      λ is. ap (λ t. first_of t (said_identifier us)) (ap number_in (ap (field_at us) (sym is) ∙ only.field)) ∙ ap number_in (only.others 0 (omega arith)),
    )
