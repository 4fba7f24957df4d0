use Rattle.std.proofs.Common.{◌≡◌, ◌+◌, ◌*◌, ◌++◌, ◌∙◌, ℕ, List, [], ◌∷◌, map, ap, arith}
use Rattle.std.specs.List.{range_with_len}
use Rattle.pb_amo.proofs.GridPieces.{range_push}
use Rattle.pb_amo.proofs.cells.ids_of.Goals as goal

pub loop-line-preserved : goal.loop-line-preserved
loop-line-preserved c =
    let f : ℕ → ℕ = λ k. c.args.base + 2 * k in
    c.in_ok-push.ensures.items ∙ ap (λ (is : List ℕ). is ++ f c.loop-line.line ∷ []) c.loop-line.invariant ∙ ap (λ (is : List ℕ). c.args.id ∷ is) (range_push f c.loop-line.line)

pub returns : goal.returns
returns c = let all : c.loop-line.line ≡ c.args.count = omega arith in c.loop-line.invariant ∙ ap (λ (n : ℕ). c.args.id ∷ map (λ k. c.args.base + 2 * k) (range_with_len 0 n)) all
