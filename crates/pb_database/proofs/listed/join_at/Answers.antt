use Rattle.std.proofs.Common.{◌≡◌, ◌∙◌, List, ◌++◌, ap, subst, Some}
use Rattle.std.specs.Bool.{OnTrue}
use Rattle.std.specs.Option.{option_to_list}
use Rattle.pb_norm.specs.Constraints.{Constraint}
use Rattle.pb_database.specs.inner.Mirrors.{HasJust}
use Rattle.pb_database.specs.inner.Slots.{slot_of}
use Rattle.pb_database.proofs.listed.join_at.Goals as goal

pub returns-in-Ok-clause-joined : goal.returns-in-Ok-clause-joined
returns-in-Ok-clause-joined c =
    let one : option_to_list (Some c.in-Ok.constraint) ≡ option_to_list (slot_of c.args.slots.now c.args.id).constraint = ap option_to_list (ap (λ (d : Constraint). Some d) c.in-Ok.ensures ∙ c.in-Some.ensures) in
    subst (λ (cs' : List Constraint). OnTrue c.join.result ((cs : List Constraint) → HasJust cs c.args.engine.now → HasJust (cs ++ cs') c.join.new.engine)) one c.join.ensures.joined
