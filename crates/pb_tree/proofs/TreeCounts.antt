-- How many clauses with justifications there are along a tree.
use Rattle.std.proofs.Common.{◌≡◌, ◌+◌, ℕ, List, [], ◌∷◌, length, sym, ap, ◌∙◌, arith, length-append}
use Rattle.std.proofs.lemmas.List.{length-map}
use Rattle.pb_tree.specs.Pairs.{Pair}
use Rattle.pb_tree.specs.Scheme.{Scheme, fresh_of, output, own_of, own_count_of, clause_count_of}
use Rattle.pb_tree.specs.Tree.{Tree, node}
use Rattle.pb_tree.specs.TreeSteps.{justifications, root_justification, tree_justifications}
use Rattle.pb_tree.proofs.AlongJustifications.{clause_in}
use Rattle.pb_tree.proofs.Extending.{along_counted}
use Rattle.pb_tree.proofs.PairJustifications.{IsPositive, IsByPairs, justifications_clauses}
use Rattle.pb_tree.proofs.Sums.{IsLawful}

-- one for each clause
pub justifications_counted : (s : Scheme) (W : ℕ → Type 0) → IsLawful s W → (pairs : List ℕ → List ℕ → List Pair) → IsByPairs s pairs → (t : Tree) (first id : ℕ) → IsPositive s t → length (justifications s pairs t first id) ≡ clause_count_of s t
justifications_counted s W laws pairs by t first id positive =
    sym (length-map (justifications s pairs t first id) clause_in)
    ∙ ap length (justifications_clauses s pairs by t first id positive)
    ∙ along_counted s (own_of s) (own_count_of s) (λ l r first. laws.counted l r (output s l first) (output s r (first + fresh_of s l)) (output s (node l r) first)) t first

-- and one more for the root
pub all_counted : (s : Scheme) (pairs : List ℕ → List ℕ → List Pair) (t : Tree) (first id own : ℕ) → length (tree_justifications s pairs t first id own) ≡ length (justifications s pairs t first id) + 1
all_counted s pairs t first id own = omega (arith, length-append (justifications s pairs t first id) (root_justification s t first id own ∷ []))
