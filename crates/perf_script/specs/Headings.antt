-- The headings of samples.
use Rattle.perf_script.specs.Labels.{EventLabel}
use Rattle.perf_script.specs.declared.samples.Heading.{Heading}

-- a heading as a label
abbrev pub heading_view : Heading → EventLabel
heading_view h = record { text = h.label.now; period = h.period; fields = h.fields; counts = h.counts }
