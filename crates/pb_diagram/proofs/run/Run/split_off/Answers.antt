use Rattle.std.proofs.Common.{subst, sym}
use Rattle.pb_diagram.specs.inner.Known.{AreKnown}
use Rattle.pb_diagram.proofs.RunFacts.{known_dropped, known_taken, parts_of}
use Rattle.pb_diagram.proofs.run.Run.split_off.Goals as goal

pub invariant_of-result : goal.invariant_of-result
invariant_of-result c = subst AreKnown (sym c.in_ok-falling.ensures.tail) (known_dropped c.self.inside.falling.items c.args.count c.self.invariant)

pub invariant_of-self-2 : goal.invariant_of-self-2
invariant_of-self-2 c = subst AreKnown (sym c.in_ok-falling.ensures.items) (known_taken c.self.inside.falling.items c.args.count c.self.invariant)

pub returns-clause-parts : goal.returns-clause-parts
returns-clause-parts c = parts_of c.self.inside.falling.items _ _ _ c.args.count c.requires.some c.requires.others c.in_ok-falling.ensures.tail c.in_ok-falling.ensures.items c.self.view_is
