use Rattle.pb_encode.proofs.Walks.{goes_on}
use Rattle.pb_encode.proofs.groups.Groups.next_found.Goals as goal

pub invariant_of-self : goal.invariant_of-self
invariant_of-self c =
    let gone = c.in_err-statement.ensures.err in
    goes_on c.self.inside.vars c.self.inside.products.now c.self.inside.place c.self.inside.statements c.read_next.new.statements gone.0 gone.1 c.self.invariant

pub invariant_of-self-then-is_plain : goal.invariant_of-self-then-is_plain
invariant_of-self-then-is_plain c =
    goes_on c.self.inside.vars c.self.inside.products.now c.self.inside.place c.self.inside.statements c.read_next.new.statements c.in-Some-2.statement (rw c.in-Some-2.is at c.in_ok-statement.ensures.some) c.self.invariant

pub invariant_of-self-in_err-group-2 : goal.invariant_of-self-in_err-group-2
invariant_of-self-in_err-group-2 c =
    goes_on c.self.inside.vars c.self.inside.products.now c.self.inside.place c.self.inside.statements c.read_next.new.statements c.in-Some-2.statement (rw c.in-Some-2.is at c.in_ok-statement.ensures.some) c.self.invariant

pub invariant_of-self-2 : goal.invariant_of-self-2
invariant_of-self-2 c =
    goes_on c.self.inside.vars c.self.inside.products.now c.self.inside.place c.self.inside.statements c.read_next.new.statements c.in-Some-2.statement (rw c.in-Some-2.is at c.in_ok-statement.ensures.some) c.self.invariant
