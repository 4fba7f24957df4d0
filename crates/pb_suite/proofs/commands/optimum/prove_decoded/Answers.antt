use Rattle.std.proofs.Common.{subst}
use Rattle.pb_model.specs.declared.decoding.Decoded.{Decoded}
use Rattle.pb_model.specs.Decoding.{IsDecoded}
use Rattle.pb_words.specs.OptimumWords.{as_optimum_words}
use Rattle.pb_suite.specs.Seen.{seen_from}
use Rattle.pb_suite.proofs.OptimumSpecs.{no_model_implements, reached_so, violated_implements}
use Rattle.pb_suite.proofs.SeenLemmas.{stays_same}
use Rattle.pb_suite.proofs.commands.optimum.prove_decoded.Goals as goal

pub returns-in-NoModel-clause-implements : goal.returns-in-NoModel-clause-implements
returns-in-NoModel-clause-implements g c =
    let a = g.D.Desk.state c.args.desk.now in
    no_model_implements (as_optimum_words c.args.asked.now) c.args.problem c.args.model.now (seen_from a a) c.requires.answered
    (subst (λ (d : Decoded). IsDecoded c.args.problem c.args.model.now d) c.in-NoModel.is c.decode.ensures)

pub returns-in-Violates-clause-implements : goal.returns-in-Violates-clause-implements
returns-in-Violates-clause-implements g c =
    let a = g.D.Desk.state c.args.desk.now in
    violated_implements (as_optimum_words c.args.asked.now) c.args.problem c.args.model.now (seen_from a a) c.requires.answered c.in-Violates.statement
    (subst (λ (d : Decoded). IsDecoded c.args.problem c.args.model.now d) c.in-Violates.is c.decode.ensures)

pub prove_least-requires-clause-reached : goal.prove_least-requires-clause-reached
prove_least-requires-clause-reached g c =
    let a = g.D.Desk.state c.args.desk.now in
    reached_so (as_optimum_words c.args.asked.now) c.args.problem c.args.model.now (seen_from a a) c.requires.answered
    (subst (λ (d : Decoded). IsDecoded c.args.problem c.args.model.now d) c.in-Solution.is c.decode.ensures)

-- ---- what stays

pub returns-in-NoModel-clause-stays : goal.returns-in-NoModel-clause-stays
returns-in-NoModel-clause-stays g c = stays_same (g.D.Desk.state c.args.desk.now)

pub returns-in-Violates-clause-stays : goal.returns-in-Violates-clause-stays
returns-in-Violates-clause-stays g c = stays_same (g.D.Desk.state c.args.desk.now)
