use Rattle.std.proofs.Common.{◌∷◌, List, sym, subst, ◌∙◌}
use Rattle.std.specs.Prelude.{IfSome}
use Rattle.pb_norm.specs.Constraints.{Constraint, AreVarsWithin}
use Rattle.pb_database.specs.Refutations.{TellsConflict}
use Rattle.pb_database.proofs.Mirroring.{listed-within}
use Rattle.pb_database.proofs.rounds.is_refuted_by_few.Goals as goal

pub seen_in_rounds-requires-clause-within : goal.seen_in_rounds-requires-clause-within
seen_in_rounds-requires-clause-within c =
    subst (AreVarsWithin c.args.rounds.now.vars) (sym (c.deref.ensures.value ∙ c.in-Ok.ensures)) (listed-within c.args.rounds.now.vars c.args.slots.now c.args.ids.now c.requires.within)

pub returns-clause-answer : goal.returns-clause-answer
returns-clause-answer c =
    subst (λ (cs : List Constraint). IfSome c.seen_in_rounds.result (TellsConflict (c.args.more.now ∷ cs))) (c.deref.ensures.value ∙ c.in-Ok.ensures) c.seen_in_rounds.ensures.answer
