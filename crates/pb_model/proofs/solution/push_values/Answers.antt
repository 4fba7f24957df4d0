use Rattle.std.proofs.lemmas.Grind.{common_steps}
use Rattle.std.proofs.Common.{arith, ◌+◌, ◌++◌, ℕ, List, false, take, ap, sym, ◌∙◌, append_assoc, get_or}
use Rattle.pb_model.specs.SolutionText.{value_word, value_words}
use Rattle.pb_model.proofs.ValueWords.{value_words_more, kept_before}
use Rattle.pb_model.proofs.solution.push_values.Goals as goal

pub returns-in_err-push_value-clause-before : goal.returns-in_err-push_value-clause-before
returns-in_err-push_value-clause-before c =
    kept_before c.args.out.now.items (value_words c.args.problem.now 1 (take c.loop-place.place c.args.values.now)) c.loop-place.out.items c.push_value.new.out.items c.loop-place.invariant c.push_value.ensures.before

pub loop-place-preserved : goal.loop-place-preserved
loop-place-preserved c =
    let start : List ℕ = c.args.out.now.items in
    let place = c.loop-place.place in
    let so_far = value_words c.args.problem.now 1 (take place c.args.values.now) in
    let word = value_word c.args.problem.now (place + 1) (get_or c.args.values.now place false) in
    c.in_ok-push_value.ensures.ok
    ∙ ap (λ (xs : List ℕ). xs ++ word) c.loop-place.invariant
    ∙ append_assoc start so_far word
    ∙ ap (λ (xs : List ℕ). start ++ xs) (sym (value_words_more c.args.problem.now c.args.values.now place false c.loop-place-test.true))

pub returns-clause-ok : goal.returns-clause-ok
returns-clause-ok c = grind (arith, common_steps)

pub returns-clause-before : goal.returns-clause-before
returns-clause-before c = grind (arith, common_steps)

pub push_value-requires : goal.push_value-requires
push_value-requires c = grind (arith, common_steps)
