use Rattle.std.proofs.Common.{◌≡◌, map, take}
use Rattle.pb_base.specs.declared.literal.Term.{Term}
use Rattle.pb_unit.specs.Renaming.{number_in, renamed_lit}
use Rattle.pb_unit.proofs.numbering.numbered_terms.Given as goal

abbrev pub invariant-loop-term : goal.invariant-loop-term
invariant-loop-term l = l.made.items ≡ map {A = Term} (λ t. record { coef = t.coef; lit = renamed_lit (number_in l.names) t.lit }) (take l.term-index l.terms)
