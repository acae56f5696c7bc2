use Rattle.std.proofs.Common.{◌≡◌, true, ◌++◌, Err, refl, sym, ap, subst}
use Rattle.perf_base.specs.Copies.{AllAre}
use Rattle.perf_base.specs.Cow.{cow_form}
use Rattle.perf_counters.specs.ReadGroup.{read_group_form}
use Rattle.perf_sample_types.specs.SampleCopies.{TraceValue, ContentValue, trace_form, trace_of, content_form, content_of}
use Rattle.perf_sample_types.specs.SampleForms.{form_if, fields_form}
use Rattle.perf_sample_types.specs.declared.sample_fields.Content.{Content}
use Rattle.perf_sample_types.specs.declared.sample_fields.SampleFields.{SampleFields}
use Rattle.perf_sample_types.specs.declared.sample_fields.Trace.{Trace}
use Rattle.perf_sample_types.proofs.Forms.{all_back, four_ahead, four_stay}
use Rattle.perf_counters.proofs.Readings.{came_up}
use Rattle.perf_sample_types.proofs.sample_fields.SampleFields.clone.Goals as goal

halves : (f : SampleFields) → AllAre true (fields_form f) → AllAre true (trace_form (trace_of f) ++ content_form (content_of f))
halves f all =
    subst (AllAre true) (sym (four_ahead (form_if read_group_form f.values) (form_if cow_form f.callchain) (form_if cow_form f.raw) (form_if cow_form f.lbr) (content_form (content_of f)))) all

forms_stay : (t : Trace) (h : Content) (g : SampleFields) → trace_form t ≡ trace_form (trace_of g) → content_form h ≡ content_form (content_of g) →
    form_if read_group_form t.values ++ (form_if cow_form t.callchain ++ (form_if cow_form t.raw ++ (form_if cow_form t.lbr ++ content_form h))) ≡ fields_form g
forms_stay t h g trace content =
    four_stay (form_if read_group_form t.values) (form_if cow_form t.callchain) (form_if cow_form t.raw) (form_if cow_form t.lbr) (content_form h)
    (form_if read_group_form g.values) (form_if cow_form g.callchain) (form_if cow_form g.raw) (form_if cow_form g.lbr) (content_form (content_of g)) trace content

pub returns-in_err-content : goal.returns-in_err-content
returns-in_err-content c =
    let s = c.args.self.now in
    let up : c.from_residual-in_err-content.result ≡ Err c.in_err-content.field-0.0 = came_up _ _ c.from_residual-in_err-content.ensures in rw up (
    record { same = tt; form_is = tt; refused = c.in_err-content.ensures.refused; no_memory = λ all. c.in_err-content.ensures.no_memory (all_back true (trace_form (trace_of s)) (content_form (content_of s)) (halves s all)) })

pub returns : goal.returns
returns c =
    let trace = c.in_ok-trace.ensures.same in
    let content = c.in_ok-content.ensures.same in
    record {
      same = rw (ap (λ (t : TraceValue). t.values) trace, ap (λ (t : TraceValue). t.callchain) trace, ap (λ (t : TraceValue). t.raw) trace, ap (λ (t : TraceValue). t.lbr) trace, ap (λ (h : ContentValue). h.regs_user) content, ap (λ (h : ContentValue). h.stack_user) content, ap (λ (h : ContentValue). h.regs_intr) content, ap (λ (h : ContentValue). h.aux) content) refl;
      form_is = forms_stay c.in_ok-trace.trace c.in_ok-content.content c.args.self.now c.in_ok-trace.ensures.form_is c.in_ok-content.ensures.form_is;
      refused = tt;
      no_memory = λ all. refl;
    }
