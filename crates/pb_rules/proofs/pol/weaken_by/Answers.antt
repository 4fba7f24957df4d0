use Rattle.std.proofs.lemmas.Result.{IfOk-weaker}
use Rattle.pb_rules.proofs.Runs.{run-weakened}
use Rattle.pb_rules.proofs.pol.weaken_by.Goals as goal

pub returns : goal.returns
returns c = λ live.
    IfOk-weaker c.push_onto.result _ _ (λ done outcome. run-weakened live c.args.run.now c.args.stack.now.items c.pop.new.self.items c.push_onto.new.stack.items c.in-Some.c c.weakenings.result done c.in-Some.ensures.items c.requires.weaken c.requires.narrow c.weakenings.ensures outcome) c.push_onto.ensures
