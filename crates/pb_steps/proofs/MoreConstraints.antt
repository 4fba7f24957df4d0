-- With more constraints, in any order, propagation finds no fewer conflicts.
use Rattle.std.proofs.Common.{inl, inr, List, [], ◌∷◌}
use Rattle.pb_base.specs.declared.literal.Lit.{Lit}
use Rattle.pb_norm.specs.Constraints.{Constraint}
use Rattle.pb_norm.specs.Propagation.{Needs, Reached, Conflict}
use Rattle.pb_norm.specs.PropagationLaws.{AreAmong}

needs-more : (cs ds : List Constraint) → AreAmong cs ds → (ls : List Lit) (l : Lit) → Needs cs ls l → Needs ds ls l
needs-more cs ds among ls l n = record {
  by = n.by;
  coef = n.coef;
  known = among n.by n.known;
  term = n.term;
  short = n.short;
  absent = n.absent;
  undecided = n.undecided;
}

pub reached-more : (cs ds : List Constraint) → AreAmong cs ds → (given ls : List Lit) → Reached cs given ls → Reached ds given ls
reached-more cs ds among given [] r = tt
reached-more cs ds among given (l ∷ ls) (inl has, before) = (inl has, reached-more cs ds among given ls before)
reached-more cs ds among given (l ∷ ls) (inr needed, before) = (inr (needs-more cs ds among ls l needed), reached-more cs ds among given ls before)

pub conflict-more : (cs ds : List Constraint) → AreAmong cs ds → (given : List Lit) → Conflict cs given → Conflict ds given
conflict-more cs ds among given (inl both) = inl both
conflict-more cs ds among given (inr (ls, c, reached, known, short)) = inr (ls, c, reached-more cs ds among given ls reached, among c known, short)
