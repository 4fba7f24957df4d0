-- The two forms of a node's steps: by all outputs of its parts, or by blocks of them.
use Rattle.std.proofs.Common.{◌≡◌, ◌≤◌, ◌<◌, ◌+◌, ◌*◌, inl, inr, ℕ, Bool, cond, List, ap, sym, subst}
use Rattle.std.specs.Prelude.{min, if◌then◌else◌}
use Rattle.std.proofs.lemmas.Bool.{cases_lt, lt-ltb, le-ltb}
use Rattle.pb_steps.specs.declared.step.Step.{Step}
use Rattle.pb_tree.specs.Tree.{Tree}
use Rattle.pb_totalizer.specs.Exact.{outputs_of}
use Rattle.pb_totalizer.specs.OutputSteps.{part_size, narrow_node_steps}
use Rattle.pb_totalizer.specs.OutputWindows.{blocks_of, wide_size, window_count, wide_node_steps}
use Rattle.pb_totalizer.specs.TotalizerSteps.{is_large, node_steps}

-- what holds of either form where it is taken holds of the node's steps
pub by_form {ℓ} : (Q : List Step → Type ℓ) (bound : ℕ) (l r : Tree) (first id next : ℕ) → (32 < min (outputs_of bound l) (outputs_of bound r) → Q (wide_node_steps bound l r first id next))
    → (min (outputs_of bound l) (outputs_of bound r) ≤ 32 → Q (narrow_node_steps bound l r first id next)) → Q (node_steps bound l r first id next)
by_form Q bound l r first id next large small =
    let least : ℕ = min (outputs_of bound l) (outputs_of bound r) in
    let by : Bool → List Step = λ b. cond {A = List Step} b (wide_node_steps bound l r first id next) (narrow_node_steps bound l r first id next) in
    elim (cases_lt 32 least) as (λ _. Q (node_steps bound l r first id next)) [
      | inl more ↦ subst Q (sym (ap by (lt-ltb 32 least more))) (large more)
      | inr few ↦ subst Q (sym (ap by (le-ltb 32 least few))) (small few)
    ]

-- ---- how many ids a node's lines take beside its clauses

abbrev pub narrow_lines_of : ℕ → Tree → Tree → ℕ
narrow_lines_of bound l r = part_size bound l + part_size bound r

abbrev pub wide_lines_of : ℕ → Tree → Tree → ℕ
wide_lines_of bound l r = wide_size bound l + wide_size bound r + blocks_of bound l * window_count bound r

abbrev pub lines_of : ℕ → Tree → Tree → ℕ
lines_of bound l r = if is_large bound l r then wide_lines_of bound l r else narrow_lines_of bound l r

pub large_lines : (bound : ℕ) (l r : Tree) → 32 < min (outputs_of bound l) (outputs_of bound r) → lines_of bound l r ≡ wide_lines_of bound l r
large_lines bound l r more = ap (λ (b : Bool). cond {A = ℕ} b (wide_lines_of bound l r) (narrow_lines_of bound l r)) (lt-ltb 32 (min (outputs_of bound l) (outputs_of bound r)) more)

pub small_lines : (bound : ℕ) (l r : Tree) → min (outputs_of bound l) (outputs_of bound r) ≤ 32 → lines_of bound l r ≡ narrow_lines_of bound l r
small_lines bound l r few = ap (λ (b : Bool). cond {A = ℕ} b (wide_lines_of bound l r) (narrow_lines_of bound l r)) (le-ltb 32 (min (outputs_of bound l) (outputs_of bound r)) few)
