use Rattle.std.proofs.Common.{◌∷◌, ◌++◌, [], ◌∙◌, List, ap, sym, subst}
use Rattle.std.specs.List.Sorted.{IsPermutation}
use Rattle.std.proofs.lemmas.List.Sorted.{IsPermutation-sym, IsPermutation-to_front}
use Rattle.pb_base.specs.declared.literal.Term.{Term}
use Rattle.pb_rules.proofs.form.turned.Goals as goal

pub returns : goal.returns
returns c =
    let first = c.args.first.now in
    let others = c.args.others.now in
    let begun = c.in_ok-extend_from_slice.ensures.items ∙ ap (λ (ts : List Term). ts ++ others) c.in_ok-list.ensures.items in
    let all = c.in_ok-push.ensures.items ∙ ap (λ (ts : List Term). ts ++ first ∷ []) begun in
    subst (IsPermutation (first ∷ others)) (sym all) (IsPermutation-sym _ _ (IsPermutation-to_front others first))
