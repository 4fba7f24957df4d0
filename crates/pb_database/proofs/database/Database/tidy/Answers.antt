use Rattle.pb_database.proofs.Fronts.{kept-swept}
use Rattle.pb_database.proofs.database.Database.tidy.Goals as goal

pub invariant_of-self : goal.invariant_of-self
invariant_of-self c =
    let own = c.self.inside in
    kept-swept own.original own.vars own.most own.entered own.slots.items c.deref.result.now own.engine own.idle own.rounds own.named.items c.sweep_if.new.lists.items c.deref.ensures.value c.self.invariant (c.sweep_if.ensures own.original)

pub invariant_of-self-else-due : goal.invariant_of-self-else-due
invariant_of-self-else-due c =
    let own = c.self.inside in
    kept-swept own.original own.vars own.most own.entered own.slots.items c.deref.result.now own.engine own.idle own.rounds own.named.items c.sweep_if.new.lists.items c.deref.ensures.value c.self.invariant (c.sweep_if.ensures own.original)
