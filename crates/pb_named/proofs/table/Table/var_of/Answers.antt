use Rattle.std.proofs.Common.{◌∙◌, ◌+◌, ap, sym}
use Rattle.pb_named.specs.NamedProblems.{Table}
use Rattle.pb_named.specs.inner.Numbering.{of_parts}
use Rattle.pb_named.proofs.Taking.{starts-some, takes-place}
use Rattle.pb_named.proofs.table.Table.var_of.Goals as goal

pub next-requires : goal.next-requires
next-requires c = starts-some c.args.self.now c.args.name.now c.args.places.now _ (sym c.parts.ensures.value ∙ ap of_parts c.in-Free.is) c.requires.places

pub returns-in-Free-clause-var : goal.returns-in-Free-clause-var
returns-in-Free-clause-var c = c.new-in-Free.ensures ∙ ap (λ (t : Table). t.numbered + 1 + c.next.result) c.self.view_is ∙ (takes-place c.args.self.now c.args.name.now c.args.places.now _ _ _ (sym c.parts.ensures.value ∙ ap of_parts c.in-Free.is) c.requires.places c.next.ensures).var

pub returns-in-Free-clause-places : goal.returns-in-Free-clause-places
returns-in-Free-clause-places c = (takes-place c.args.self.now c.args.name.now c.args.places.now _ _ _ (sym c.parts.ensures.value ∙ ap of_parts c.in-Free.is) c.requires.places c.next.ensures).gives
