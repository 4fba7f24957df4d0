use Rattle.std.proofs.Common.{List, [], ◌∷◌}
use Rattle.pb_base.specs.declared.literal.Lit.{Lit}
use Rattle.pb_family.proofs.Emission.{emitting_starts, emitting_step, hands_fault, hands_last}
use Rattle.pb_family.proofs.sink.derive_pair.Goals as goal

pub returns-in_err-clause : goal.returns-in_err-clause
returns-in_err-clause g c =
    let all : List (List Lit) = c.args.one.now ∷ c.args.other.now ∷ [] in
    hands_fault {all = all} c.from_residual.result _ (c.args.one.now ∷ []) (c.args.other.now ∷ []) _ c.from_residual.ensures.1 (emitting_starts all _) c.in_err-clause.ensures

pub returns : goal.returns
returns g c =
    let all : List (List Lit) = c.args.one.now ∷ c.args.other.now ∷ [] in
    hands_last {all = all} c.clause-2.result (c.args.other.now ∷ []) _ (emitting_step (c.args.one.now ∷ []) _ (emitting_starts all _) c.in_ok-clause.ensures) c.clause-2.ensures
