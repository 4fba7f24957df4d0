-- What a node and a tree have, by the polarity that their clauses lead: from a node's parts to its outputs alone, or from its outputs
-- to its parts too.
use Rattle.std.proofs.Common.{◌≡◌, ◌+◌, ◌++◌, [], ℕ, List, refl, sym, append-nil}
use Rattle.pb_base.specs.declared.literal.Lit.{Lit}
use Rattle.pb_tree.specs.Scheme.{along, count_along, own_of, own_count_of}
use Rattle.pb_tree.specs.Tree.{Tree}
use Rattle.pb_totalizer.specs.Exact.{limit_clauses, limit_count, limit_count_of, exact_own}
use Rattle.pb_totalizer.specs.Totalizer.{sum_clauses, node_clause_count, totalizer}
use Rattle.pb_totalizer.specs.declared.node.Node.{Node}
use Rattle.pb_totalizer.specs.declared.polarity.Polarity.{Polarity}
use Rattle.pb_totalizer.specs.declared.polarity.Polarity.TheVariants.{Up, Both}
use Rattle.pb_totalizer.specs.inner.Outputs.{output_count, output_at}

-- the first ones alone, or the second ones behind them
abbrev pub by_ways : {X : Type 0} → Polarity → List X → List X → List X
by_ways Up xs ys = xs
by_ways Both xs ys = xs ++ ys

pub first_by_ways : {X : Type 0} (polarity : Polarity) (xs ys : List X) → by_ways polarity xs ys ≡ xs ++ by_ways polarity [] ys
first_by_ways Up xs ys = sym (append-nil xs)
first_by_ways Both xs ys = refl

-- ---- a node's own clauses, and those along a tree

abbrev pub own_by : Polarity → ℕ → Tree → Tree → ℕ → List (List Lit)
own_by Up bound = own_of (totalizer bound)
own_by Both bound = exact_own bound

abbrev pub clauses_by : Polarity → ℕ → Tree → ℕ → List (List Lit)
clauses_by polarity bound t first = along (totalizer bound) (own_by polarity bound) t first

-- by the cap, how many outputs the node and its parts have, and the literals of its parts' and of its own
abbrev pub own_clauses : Polarity → ℕ → ℕ → ℕ → ℕ → (ℕ → Lit) → (ℕ → Lit) → (ℕ → Lit) → List (List Lit)
own_clauses polarity cap count a b f g h = by_ways polarity (sum_clauses cap a b f g h) (limit_clauses count a b f g h)

abbrev pub own_over : Polarity → Node → List (List Lit)
own_over polarity node =
    own_clauses polarity node.cap (output_count node.own) (output_count node.left) (output_count node.right) (output_at node.left) (output_at node.right) (output_at node.own)

-- ---- how many

abbrev pub own_count_by : Polarity → ℕ → Tree → Tree → ℕ
own_count_by Up bound = own_count_of (totalizer bound)
own_count_by Both bound = λ l r. own_count_of (totalizer bound) l r + limit_count_of bound l r

abbrev pub clause_count_by : Polarity → ℕ → Tree → ℕ
clause_count_by polarity bound t = count_along (own_count_by polarity bound) t

-- by the cap, and how many outputs the node and its parts have
abbrev pub own_count : Polarity → ℕ → ℕ → ℕ → ℕ → ℕ
own_count Up cap count a b = node_clause_count cap a b
own_count Both cap count a b = node_clause_count cap a b + limit_count count a b
