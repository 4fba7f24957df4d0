use Rattle.std.proofs.Common.{ℕ, ap}
use Rattle.std.specs.Prelude.{slice_set}
use Rattle.pb_encode.proofs.tally.Tally.add_joint.Goals as goal

pub returns : goal.returns
returns c = record {
  fresh_is = c.saturating_add-self.ensures;
  clauses_are = c.saturating_add-self-2.ensures;
  treated_are = ap (λ (n : ℕ). slice_set c.args.self.now.treated 11 n) c.saturating_add.ensures;
}
