use Rattle.std.proofs.Common.{rules, ◌≡◌, sym, ◌∙◌}
use Rattle.pb_base.specs.Pieces.{chunk}
use Rattle.pb_steps.specs.LineSteps.{said_by}
use Rattle.pb_steps.proofs.ReadLemmas.{due_ok, due_err, said_place}
use Rattle.pb_steps.proofs.read.read_said.Goals as goal

is_place : (c : goal.After-read_place) → said_by c.args.end (chunk c.args.word.now) c.args.words ≡ c.read_place.result
is_place c = said_place c.args.end (chunk c.args.word.now) c.args.words (search rules) (search rules) (search rules) (search rules) (search rules) ∙ sym c.read_place.ensures

pub returns-clause-ok : goal.returns-clause-ok
returns-clause-ok c = due_ok c.read_place.result _ (is_place c)

pub returns-clause-err : goal.returns-clause-err
returns-clause-err c = due_err c.read_place.result _ (is_place c)
