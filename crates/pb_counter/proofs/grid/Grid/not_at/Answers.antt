use Rattle.std.proofs.Common.{ap, sym, ◌∙◌}
use Rattle.pb_base.specs.Literals.{negated}
use Rattle.pb_family.proofs.TermSlices.{literal_of_term}
use Rattle.pb_counter.proofs.grid.Grid.not_at.Goals as goal

pub returns : goal.returns
returns c = c.not.ensures ∙ ap negated (sym (literal_of_term c.args.self.now.terms.now c.args.place c.index-self-place.result c.requires))
