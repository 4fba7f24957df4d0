use Rattle.std.proofs.Common.{◌≡◌, List, sym, subst}
use Rattle.std.specs.Prelude.{IfOk}
use Rattle.pb_norm.specs.Constraints.{Constraint, AreVarsWithin}
use Rattle.pb_unit.specs.States.{started}
use Rattle.pb_database.proofs.database.loaded_engine.Goals as goal

pub new-requires : goal.new-requires
new-requires c = record { within = subst (AreVarsWithin c.args.vars) (sym c.in_ok-copies.ensures) c.requires }

pub returns : goal.returns
returns c = subst (λ (cs : List Constraint). IfOk c.new.result (λ engine. engine ≡ started c.args.vars cs)) c.in_ok-copies.ensures c.new.ensures.start
