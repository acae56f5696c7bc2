use Rattle.std.proofs.Common.{drop, get_or, ap, ◌∙◌, arith}
use Rattle.perf_base.specs.Dynamic.{order_of}
use Rattle.perf_outlines.specs.NotePlaces.{bytes_of}
use Rattle.perf_file.specs.Pipes.{named_by, last_name, all_frames}
use Rattle.perf_outlines.specs.FlatNames.{flat_name, described_by}
use Rattle.perf_outlines.proofs.NameLaws.{name_alike}
use Rattle.perf_outlines.proofs.file_names.find_noted.Goals as goal

pub returns-clause-named : goal.returns-clause-named
returns-clause-named c rises k d lt =
    let o = order_of c.args.order in
    let bytes = c.args.bytes.now in
    let names = last_name o c.args.ids.now k (all_frames c.args.order (drop 16 bytes)) in
    c.rename_all.ensures.named rises k d (omega (arith, lt, c.find_all.auto.all))
    ∙ ap (λ m. named_by names m) (name_alike (flat_name bytes) (described_by o (bytes_of bytes c.noted_descriptions.result) bytes) c.find_all.new.all c.args.all.now k d d c.find_all.ensures.names lt)
    ∙ ap (λ ds. named_by names (described_by o ds bytes (get_or c.args.all.now k d))) c.noted_descriptions.ensures.value
