-- The words by which it is told why a line of a refutation is denied. Our own.
use Rattle.std.specs.Prelude.{ℕ, List, ◌++◌, codes, decimal}
use Rattle.pb_lrat.specs.declared.denied.LratDenied.{LratDenied}
use Rattle.pb_lrat.specs.declared.denied.LratDenied.TheVariants as denied

abbrev pub lrat_denied_words : LratDenied → List ℕ
lrat_denied_words (denied.OldId id) = codes "old id " ++ decimal id
lrat_denied_words (denied.UnknownHint id) = codes "unknown hint " ++ decimal id
lrat_denied_words denied.NoConflict = codes "no conflict"
lrat_denied_words denied.NoEmptyClause = codes "no empty clause"
