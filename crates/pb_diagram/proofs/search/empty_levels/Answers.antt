use Rattle.std.proofs.Common.{◌≡◌, ◌∙◌, ◌++◌, ◌∷◌, [], List, ap, arith, replicate}
use Rattle.std.proofs.lemmas.List.{replicate_more}
use Rattle.std.proofs.lemmas.Result.{IfOk-from_err}
use Rattle.pb_diagram.specs.declared.known.Known.{Known}
use Rattle.pb_diagram.proofs.search.empty_levels.Goals as goal

pub loop-place-preserved : goal.loop-place-preserved
loop-place-preserved c =
    let before = replicate c.loop-place._place [] in
    c.in_ok-push.ensures.items ∙ ap (λ (ks : List Known). ks ++ c.new.result ∷ []) c.loop-place.invariant ∙ ap (λ (k : Known). before ++ k ∷ []) c.new.ensures ∙ replicate_more c.loop-place._place []

pub returns-in_err-push : goal.returns-in_err-push
returns-in_err-push c = IfOk-from_err _ _ c.from_residual.ensures.0

pub loop-place-init : goal.loop-place-init
loop-place-init c = c.new-levels.ensures.items

pub returns : goal.returns
returns c =
    let all : c.loop-place._place ≡ c.args.count = omega arith in
    c.loop-place.invariant ∙ ap (λ n. replicate n []) all
