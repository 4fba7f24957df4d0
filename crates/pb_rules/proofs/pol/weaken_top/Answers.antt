use Rattle.std.proofs.lemmas.Result.{IfOk-weaker}
use Rattle.pb_rules.proofs.Fits.{weakened-top}
use Rattle.pb_rules.proofs.pol.weaken_top.Goals as goal

pub returns : goal.returns
returns c =
    IfOk-weaker c.push_onto.result _ _ (λ done outcome. weakened-top c.args.var c.args.stack.now.items c.pop.new.self.items c.push_onto.new.stack.items c.in-Some.c c.weakening.result done c.in-Some.ensures.items c.requires c.weakening.ensures outcome) c.push_onto.ensures
