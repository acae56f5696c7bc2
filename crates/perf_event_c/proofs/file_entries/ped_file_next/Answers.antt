use Rattle.perf_event_c.proofs.file_entries.ped_file_next.Goals as goal

pub returns : goal.returns
returns c = c.next_entry.ensures
