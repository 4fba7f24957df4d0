use Rattle.std.proofs.Common.{◌∙◌, ap, leb}
use Rattle.pb_diagram.proofs.RunFacts.{begins_last, begins_none}
use Rattle.pb_diagram.proofs.run.Run.begins_by.Goals as goal

pub returns-then-count-gt0 : goal.returns-then-count-gt0
returns-then-count-gt0 c =
    let gs = c.self.inside.falling.items in
    ap (λ g. leb g.low c.args.residue) c.index.ensures ∙ begins_last gs c.args.self.now c.len-count.result c.args.residue c.index.result.now c.self.view_is (c.len-count.ensures ∙ c.self.inside.falling.ok.0) c.if-count-gt0.true

pub returns-else-count-gt0 : goal.returns-else-count-gt0
returns-else-count-gt0 c = begins_none c.self.inside.falling.items c.args.self.now c.len-count.result c.args.residue c.self.view_is (c.len-count.ensures ∙ c.self.inside.falling.ok.0) c.if-count-gt0.false
