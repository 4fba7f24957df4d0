use Rattle.std.proofs.Common.{◌≡◌, ◌∙◌, ◌++◌, List, ap, sym, subst}
use Rattle.std.specs.Prelude.{filter_map}
use Rattle.pb_norm.specs.Constraints.{Constraint}
use Rattle.pb_steps.specs.Database.{live_constraints}
use Rattle.pb_database.specs.declared.slots.Slot.{Slot}
use Rattle.pb_database.specs.Refutations.{TellsConflict}
use Rattle.pb_database.proofs.SlotLemmas.{live_constraints-slots}
use Rattle.pb_database.proofs.database.Database.refutes_apart.Goals as goal

pub returns : goal.returns
returns c =
    let of_slots : filter_map (λ (s : Slot). s.constraint) c.deref.result.now ≡ live_constraints c.args.self.now.live =
    ap (λ (ss : List Slot). filter_map (λ (s : Slot). s.constraint) ss) c.deref.ensures.value ∙ (sym (live_constraints-slots 1 c.self.inside.slots.items) ∙ λ i. live_constraints (c.self.view_is i).live) in
    subst (λ (cs : List Constraint). TellsConflict (c.args.front ++ cs) c.in_ok-found.found) of_slots c.in_ok-found.ensures
