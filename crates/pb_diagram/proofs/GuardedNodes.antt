-- The nodes of a level with their children, and those behind it.
use Rattle.std.proofs.Common.{◌≡◌, ◌+◌, ◌≤◌, ◌<◌, ℕ, Bool, true, false, List, [], ◌∷◌, ◌++◌, drop, length, get_or, map, ap, sym, ◌∙◌, append-nil, append_assoc}
use Rattle.std.specs.Prelude.{◌&&◌}
use Rattle.std.proofs.lemmas.List.{drop_all, drop_more}
use Rattle.pb_norm.specs.Constraints.{Weighted}
use Rattle.pb_diagram.specs.declared.interval.Interval.{Interval}
use Rattle.pb_diagram.specs.declared.node.Node.{Node}
use Rattle.pb_diagram.specs.GuardedSteps.{node_in, nodes_in, is_narrow, are_narrow}
use Rattle.pb_diagram.proofs.DiagramSteps.{Read}

pub nodes_left : (ts : List Weighted) (ls : List (List Interval)) (i : ℕ) (t : Weighted) (whole : ℕ) (nodes next : List Interval) → Read ts ls i t whole nodes next
    → nodes_in (drop i ts) (drop i ls) ≡ map (node_in t.coef whole next) nodes ∷ nodes_in (drop (i + 1) ts) (drop (i + 1) ls)
nodes_left ts ls i t whole nodes next read =
    ap (λ (us : List Weighted). nodes_in us (drop i ls)) read.at.terms
    ∙ ap (nodes_in (t ∷ drop (i + 1) ts)) read.at.levels
    ∙ (λ x. map (node_in t.coef (sym read.whole_is x) ((read.at.head ∙ sym read.next_is) x)) (sym read.nodes_is x) ∷ nodes_in (drop (i + 1) ts) (drop (i + 1) ls))

-- one more level is listed
pub nodes_listed : (all before : List (List Node)) (now : List Node) (left rest : List (List Node)) → before ++ left ≡ all → left ≡ now ∷ rest → (before ++ now ∷ []) ++ rest ≡ all
nodes_listed all before now left rest h same = append_assoc before (now ∷ []) rest ∙ (sym (ap (λ (ls : List (List Node)). before ++ ls) same) ∙ h)

-- no level is left
pub nodes_done : (ts : List Weighted) (ls : List (List Interval)) (i : ℕ) (listed : List (List Node)) → length ts ≤ i → listed ++ nodes_in (drop i ts) (drop i ls) ≡ nodes_in ts ls → listed ≡ nodes_in ts ls
nodes_done ts ls i listed all h = sym (append-nil listed) ∙ (sym (ap (λ (us : List Weighted). listed ++ nodes_in us (drop i ls)) (drop_all i ts all)) ∙ h)

-- ---- levels that are narrow

levels_left : (most : ℕ) (ls : List (List Node)) (i : ℕ) (ns : List Node) (b : Bool) → i < length ls → ns ≡ get_or ls i ns → is_narrow most ns ≡ b → are_narrow most (drop i ls) ≡ (b && are_narrow most (drop (i + 1) ls))
levels_left most ls i ns b within same is =
    ap (are_narrow most) (drop_more ls i ns within)
    ∙ ap (λ (ms : List Node). is_narrow most ms && are_narrow most (drop (i + 1) ls)) (sym same)
    ∙ ap (λ (x : Bool). x && are_narrow most (drop (i + 1) ls)) is

pub narrow_left : (most : ℕ) (ls : List (List Node)) (i : ℕ) (ns : List Node) → i < length ls → ns ≡ get_or ls i ns → is_narrow most ns ≡ true → are_narrow most (drop i ls) ≡ are_narrow most (drop (i + 1) ls)
narrow_left most ls i ns within same is = levels_left most ls i ns true within same is

pub not_narrow : (most : ℕ) (ls : List (List Node)) (i : ℕ) (ns : List Node) → i < length ls → ns ≡ get_or ls i ns → is_narrow most ns ≡ false → are_narrow most (drop i ls) ≡ false
not_narrow most ls i ns within same is = levels_left most ls i ns false within same is

pub narrow_done : (most : ℕ) (ls : List (List Node)) (i : ℕ) → length ls ≤ i → are_narrow most ls ≡ are_narrow most (drop i ls) → are_narrow most ls ≡ true
narrow_done most ls i all h = h ∙ ap (are_narrow most) (drop_all i ls all)
