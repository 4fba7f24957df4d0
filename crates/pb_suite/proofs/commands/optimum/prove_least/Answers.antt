use Rattle.std.proofs.Common.{◌≡◌, ◌∙◌, ◌++◌, ℕ, List, Err, ap, refl, subst, sym}
use Rattle.std.specs.Prelude.{IsTrue}
use Rattle.pb_desk.specs.View.{View}
use Rattle.pb_model.specs.SolutionText.{optimum_text}
use Rattle.pb_words.specs.OptimumWords.{as_optimum_words}
use Rattle.pb_suite.specs.Implementing.{Implements}
use Rattle.pb_suite.specs.OptimumSpec.{optimum_spec, IsReached}
use Rattle.pb_suite.specs.Seen.{seen_from}
use Rattle.pb_suite.specs.inner.Opening.{opened_both, HasBoth}
use Rattle.pb_suite.specs.inner.Refuting.{EndsRefuting}
use Rattle.pb_suite.proofs.Endings.{bare_memory}
use Rattle.pb_suite.proofs.Going.{stays}
use Rattle.pb_suite.proofs.OptimumSpecs.{free_seen, opened_implements, unbounded_implements, unopened}
use Rattle.pb_suite.proofs.SeenChecks.{opening_seen, opening_stays, refuting_seen, refuting_stays}
use Rattle.pb_suite.proofs.SeenLemmas.{reads_seen, reads_stays, stays_same, stays_then, told_on, told_seen}
use Rattle.pb_suite.proofs.commands.optimum.prove_least.Goals as goal

-- memory was wanting for the text
pub returns-in-Err-clause-implements : goal.returns-in-Err-clause-implements
returns-in-Err-clause-implements g c =
    let a = g.D.Desk.state c.args.desk.now in
    bare_memory (optimum_spec (as_optimum_words c.args.asked.now)) (seen_from a a) (seen_from a a) (stays 5 (seen_from a a))

pub returns-in-Err-bounded_below-clause-implements : goal.returns-in-Err-bounded_below-clause-implements
returns-in-Err-bounded_below-clause-implements g c =
    let w = as_optimum_words c.args.asked.now in
    let a = g.D.Desk.state c.args.desk.now in
    subst (Implements (optimum_spec w) (seen_from a a) (seen_from a a)) (sym c.bound_refusal.ensures)
    (unbounded_implements w c.args.problem c.args.model.now (seen_from a a) c.requires.reached c.in-Err-bounded_below.fault (λ is. c.in-Err-bounded_below.ensures.heavy (ap Err is)))

pub refute_opened-requires-clause-cnf_open : goal.refute_opened-requires-clause-cnf_open
refute_opened-requires-clause-cnf_open g c = subst (λ (v : View). IsTrue (v.reading 1)) (sym c.in-Ok-open_both.ensures.opened.view) refl

pub refute_opened-requires-clause-proof_open : goal.refute_opened-requires-clause-proof_open
refute_opened-requires-clause-proof_open g c = subst (λ (v : View). IsTrue (v.reading 2)) (sym c.in-Ok-open_both.ensures.opened.view) refl

pub refute_opened-requires-clause-free : goal.refute_opened-requires-clause-free
refute_opened-requires-clause-free g c = ap (λ (v : View). v.reading 3) c.in-Ok-open_both.ensures.opened.view ∙ c.requires.free.lrat

pub returns-in-Ok-open_both-clause-implements : goal.returns-in-Ok-open_both-clause-implements
returns-in-Ok-open_both-clause-implements g c =
    let w = as_optimum_words c.args.asked.now in
    let p = c.args.problem in
    let m = c.args.model.now in
    let q = c.in-Ok-bounded_below.problem in
    let a = g.D.Desk.state c.args.desk.now in
    let d = g.D.Desk.state c.open_both.new.desk in
    let e = g.D.Desk.state c.refute_opened.new.desk in
    let text = optimum_text p m.values in
    let is_said : c.deref.result.now ≡ text = c.deref.ensures.value ∙ c.in-Ok.ensures.ok ∙ ap (λ (xs : List ℕ). xs ++ text) c.new-text.ensures.items in
    let ends = subst (λ (xs : List ℕ). EndsRefuting q w.lrat xs d e c.refute_opened.result) is_said c.refute_opened.ensures in
    let far = c.in-Ok-open_both.ensures.opened in
    let before = (refuting_stays q w.lrat text d e c.refute_opened.result ends).kept in
    let reached = told_on a a e (λ t. IsReached t.shelf w p m) (λ k. far.kept (before k)) c.requires.reached in
    opened_implements w p m (seen_from e a) reached q c.in-Ok-bounded_below.ensures.ok c.in-Ok-bounded_below.ensures.light (seen_from e d) (seen_from e e) refl _ (free_seen a e c.requires.free)
    (reads_seen (opened_both w.cnf w.proof) (λ v. refl) a d e far) (told_seen d d e (HasBoth w.cnf w.proof) before c.in-Ok-open_both.ensures.found) (refuting_seen q w.lrat text d e c.refute_opened.result ends)

pub returns-clause-implements : goal.returns-clause-implements
returns-clause-implements g c =
    let w = as_optimum_words c.args.asked.now in
    let p = c.args.problem in
    let m = c.args.model.now in
    let a = g.D.Desk.state c.args.desk.now in
    let d = g.D.Desk.state c.open_both.new.desk in
    let stops = c.in-Err-open_both.ensures.failed in
    let reached = told_on a a d (λ t. IsReached t.shelf w p m) (opening_stays w.cnf w.proof a d stops).kept c.requires.reached in
    unopened w p m (seen_from d a) reached c.in-Ok-bounded_below.problem c.in-Ok-bounded_below.ensures.ok c.in-Ok-bounded_below.ensures.light (seen_from d d) (free_seen a d c.requires.free) (opening_seen w.cnf w.proof a d stops)

-- ---- what stays

pub returns-in-Err-clause-stays : goal.returns-in-Err-clause-stays
returns-in-Err-clause-stays g c = stays_same (g.D.Desk.state c.args.desk.now)

pub returns-in-Err-bounded_below-clause-stays : goal.returns-in-Err-bounded_below-clause-stays
returns-in-Err-bounded_below-clause-stays g c = stays_same (g.D.Desk.state c.args.desk.now)

pub returns-in-Ok-open_both-clause-stays : goal.returns-in-Ok-open_both-clause-stays
returns-in-Ok-open_both-clause-stays g c =
    let w = as_optimum_words c.args.asked.now in
    let a = g.D.Desk.state c.args.desk.now in
    let d = g.D.Desk.state c.open_both.new.desk in
    let e = g.D.Desk.state c.refute_opened.new.desk in
    stays_then a d e (reads_stays (opened_both w.cnf w.proof) (λ v. refl) a d c.in-Ok-open_both.ensures.opened)
    (refuting_stays c.in-Ok-bounded_below.problem w.lrat c.deref.result.now d e c.refute_opened.result c.refute_opened.ensures)

pub returns-clause-stays : goal.returns-clause-stays
returns-clause-stays g c =
    let w = as_optimum_words c.args.asked.now in
    opening_stays w.cnf w.proof (g.D.Desk.state c.args.desk.now) (g.D.Desk.state c.open_both.new.desk) c.in-Err-open_both.ensures.failed
