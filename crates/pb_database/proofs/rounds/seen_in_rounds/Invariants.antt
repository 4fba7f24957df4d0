use Rattle.std.proofs.Common.{◌≡◌, [], ◌∷◌}
use Rattle.pb_unit.specs.Steps.{Advances}
use Rattle.pb_database.proofs.rounds.seen_in_rounds.Given as goal

abbrev pub invariant-loop-round : goal.invariant-loop-round
invariant-loop-round l = record {
  vars : l.rounds.vars ≡ l.initial.rounds.vars;
  advances : Advances (l.more ∷ l.constraints) [] [] l.rounds.lits;
}
