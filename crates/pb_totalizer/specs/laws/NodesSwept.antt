-- The clauses of all nodes of a tree are put out, and nothing else is left.
use Rattle.std.proofs.Common.{◌+◌, ◌*◌, ◌++◌, ℕ, List}
use Rattle.pb_steps.specs.declared.step.Step.{Step}
use Rattle.pb_steps.specs.Database.{Database}
use Rattle.pb_derive.specs.FollowedBy.{followed_by}
use Rattle.pb_derive.proofs.FollowedBy.{followed_swept}
use Rattle.pb_derive.proofs.Laters.{later_then}
use Rattle.pb_derive.proofs.Running.{swept_none}
use Rattle.pb_tree.specs.Scheme.{fresh_of, own_of, clauses_of}
use Rattle.pb_tree.specs.Tree.{Tree, empty, leaf, node}
use Rattle.pb_totalizer.specs.Totalizer.{totalizer}
use Rattle.pb_totalizer.specs.TotalizerSteps.{node_steps, nodes_steps}
use Rattle.pb_totalizer.specs.laws.NodeForms.{by_form}
use Rattle.pb_totalizer.specs.laws.OutputAdds.{Below}
use Rattle.pb_totalizer.specs.laws.OutputNodes.{MayDerive, derive_later, left_may, right_may, Cleared, narrow_swept}
use Rattle.pb_totalizer.specs.laws.WideSwept.{wide_node_swept}

node_swept : (db : Database) (top bound : ℕ) (l r : Tree) (low first id : ℕ) → MayDerive db top bound (node l r) low first id → Cleared (Below top) db (node_steps bound l r first id db.next) (own_of (totalizer bound) l r first)
node_swept db top bound l r low first id h =
    by_form (λ (ss : List Step). Cleared (Below top) db ss (own_of (totalizer bound) l r first)) bound l r first id db.next (λ more. wide_node_swept db top bound l r low first id h) (λ few. narrow_swept db top bound l r low first id h)

-- ---- along the tree

pub nodes_swept : (db : Database) (top bound : ℕ) (t : Tree) (low first id : ℕ) → MayDerive db top bound t low first id → Cleared (Below top) db (nodes_steps bound t first id db.next) (clauses_of (totalizer bound) t first)
nodes_swept db top bound empty low first id h = record { ids = 0; swept = swept_none (Below top) db h.numbered }
nodes_swept db top bound (leaf t) low first id h = record { ids = 0; swept = swept_none (Below top) db h.numbered }
nodes_swept db top bound (node l r) low first id h =
    let P : ℕ → Type 0 = Below top in
    let middle : ℕ = first + fresh_of (totalizer bound) l in
    let right_id : ℕ = id + 2 * fresh_of (totalizer bound) l in
    let rights = clauses_of (totalizer bound) r middle in
    let owns = own_of (totalizer bound) l r first in
    let one = nodes_swept db top bound l low first id (left_may db top bound l r low first id h) in
    let mid1 : Database = one.swept.ran.end in
    let later = one.swept.ran.later in
    let two = nodes_swept mid1 top bound r low middle right_id (derive_later db mid1 top bound r low middle right_id later (right_may db top bound l r low first id h)) in
    let mid2 : Database = two.swept.ran.end in
    let three = node_swept mid2 top bound l r low first id (derive_later db mid2 top bound (node l r) low first id (later_then P db mid1 mid2 later two.swept.ran.later) h) in
    let rest = followed_swept P mid1 (nodes_steps bound r middle right_id) (node_steps bound l r first id) rights owns two.ids three.ids two.swept three.swept in
    let whole = followed_swept P db (nodes_steps bound l first id) (followed_by (nodes_steps bound r middle right_id) (node_steps bound l r first id)) (clauses_of (totalizer bound) l first) (rights ++ owns) one.ids (two.ids + three.ids) one.swept rest in
    record { ids = one.ids + (two.ids + three.ids); swept = whole }
