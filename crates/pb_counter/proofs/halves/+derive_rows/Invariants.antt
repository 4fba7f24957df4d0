use Rattle.pb_counter.proofs.halves.+derive_rows.Given as goal

abbrev pub decreases-derive_rows : goal.decreases-derive_rows
decreases-derive_rows g l = l.height
