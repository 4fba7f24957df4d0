use Rattle.std.proofs.Common.{subst}
use Rattle.pb_model.specs.declared.decoding.Decoded.{Decoded}
use Rattle.pb_model.specs.Decoding.{IsDecoded}
use Rattle.pb_words.specs.DecodeWords.{as_decode_words}
use Rattle.pb_suite.specs.Seen.{seen_from}
use Rattle.pb_suite.proofs.Going.{stays}
use Rattle.pb_suite.proofs.DecodeSpecs.{no_model_implements, violated_implements}
use Rattle.pb_suite.proofs.SeenLemmas.{stays_same}
use Rattle.pb_suite.proofs.commands.decode.say_decoded.Goals as goal

pub returns-in-NoModel-clause-implements : goal.returns-in-NoModel-clause-implements
returns-in-NoModel-clause-implements g c =
    let a = seen_from (g.D.Desk.state c.args.desk.now) (g.D.Desk.state c.args.desk.now) in
    no_model_implements (as_decode_words c.args.asked.now) c.args.problem.now c.args.model.now a (stays 2 a) c.requires.answered
    (subst (λ (d : Decoded). IsDecoded c.args.problem.now c.args.model.now d) c.in-NoModel.is c.decode.ensures)

pub returns-in-Violates-clause-implements : goal.returns-in-Violates-clause-implements
returns-in-Violates-clause-implements g c =
    let a = seen_from (g.D.Desk.state c.args.desk.now) (g.D.Desk.state c.args.desk.now) in
    violated_implements (as_decode_words c.args.asked.now) c.args.problem.now c.args.model.now a (stays 2 a) c.requires.answered c.in-Violates.statement
    (subst (λ (d : Decoded). IsDecoded c.args.problem.now c.args.model.now d) c.in-Violates.is c.decode.ensures)

pub returns-in-NoModel-clause-stays : goal.returns-in-NoModel-clause-stays
returns-in-NoModel-clause-stays g c = stays_same (g.D.Desk.state c.args.desk.now)

pub returns-in-Violates-clause-stays : goal.returns-in-Violates-clause-stays
returns-in-Violates-clause-stays g c = stays_same (g.D.Desk.state c.args.desk.now)
