use Rattle.std.proofs.Common.{inl, inr, ℕ, List, Option, ap, sym, subst}
use Rattle.std.specs.Prelude.{Contains, is_some}
use Rattle.pb_norm.specs.Constraints.{Constraint}
use Rattle.pb_unit.specs.States.{at_place}
use Rattle.pb_unit.proofs.Sweeping.{contains_filter}
use Rattle.pb_unit.proofs.store.prune_if.Goals as goal

pub returns-then-due : goal.returns-then-due
returns-then-due c = record {
  counts = c.requires.counts;
  listed = λ p d at. elim (c.requires.listed p d at) [
    | inl enough ↦ inl enough
    | inr there ↦ inr (subst (λ (ts : List ℕ). Contains ts p) (sym c.prune.ensures) (contains_filter (λ (q : ℕ). is_some (at_place c.args.places.now q)) c.args.tight.now.items p (ap (λ (o : Option Constraint). is_some o) at) there))
  ];
  even = c.requires.even;
}
