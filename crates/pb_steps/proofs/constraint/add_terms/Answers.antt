use Rattle.std.proofs.Common.{rules}
use Rattle.pb_steps.specs.LineSteps.{terms_in}
use Rattle.pb_steps.specs.inner.Reading.{with_terms}
use Rattle.pb_base.specs.Pieces.{chunk}
use Rattle.pb_steps.proofs.ReadLemmas.{term_more}
use Rattle.pb_steps.proofs.constraint.add_terms.Goals as goal

pub terms-preserved : goal.terms-preserved
terms-preserved c = term_more c.args.end (with_terms c.args.terms.now (terms_in c.args.end c.args.words.now)) c.terms.terms c.push.new.self c.terms.words c.next.new.self c.read_term.new.words (chunk c.in-Some.word) c.in_ok-read_term.field-0 c.terms.invariant c.in-Some.ensures.steps (search rules) c.in_ok-read_term.ensures.ok c.in_ok-push.ensures.ok
