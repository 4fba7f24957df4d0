-- What unit propagation reaches over clauses, as it is usual.
use Rattle.std.specs.Prelude.{◌<◌, ◌↔◌, List, Contains}
use Rattle.std.specs.List.{AllPairs}
use Rattle.pb_base.specs.declared.literal.Lit.{Lit}
use Rattle.pb_norm.specs.ClausePropagation.{ClausesReach, ClauseConflict}

-- there is no conflict, and these are exactly the literals that are reached from the given ones, variables ascending
pub record AreReached (clauses : List (List Lit)) (given ls : List Lit) : Type 0 where
  pub no_conflict : ¬ ClauseConflict clauses given
  pub ascending : AllPairs (λ k l. k.var < l.var) ls
  pub exact : (l : Lit) → Contains ls l ↔ ClausesReach clauses given l
