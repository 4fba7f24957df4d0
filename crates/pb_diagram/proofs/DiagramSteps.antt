-- The steps of loops over the levels of a diagram.
use Rattle.std.proofs.Common.{◌≡◌, ◌<◌, ◌≤◌, ◌+◌, ◌++◌, ℕ, List, [], ◌∷◌, length, get_or, drop, refl, sym, ap, ◌∙◌, subst, arith, append_assoc, inl, inr, zero, suc, ltb}
use Rattle.std.specs.Prelude.{All, Result, IsErrAnd}
use Rattle.std.specs.List.{count_by}
use Rattle.std.proofs.lemmas.Bool.{cases_lt}
use Rattle.std.proofs.lemmas.List.{at_drop_all, drop_more, get_or_past, get_or-map, length-map}
use Rattle.std.proofs.lemmas.List.Sums.{sum_by-cons, sum_by-drop_more}
use Rattle.pb_base.specs.declared.literal.Lit.{Lit}
use Rattle.std.specs.Int.RustNames.{unsigned_abs}
use Rattle.pb_base.specs.declared.literal.Term.{Term}
use Rattle.pb_norm.specs.Constraints.{Weighted, weight, weighted, weights}
use Rattle.pb_norm.specs.BoundedSums.{BoundedSum, sum_within}
use Rattle.pb_base.proofs.Members.{Contains-nil}
use Rattle.pb_base.specs.declared.fault.Failed.{Failed}
use Rattle.pb_family.specs.Handing.{FailsInClauses, Hands, TakesClauses}
use Rattle.pb_family.specs.Sinks.{SinkState}
use Rattle.pb_family.proofs.Emission.{Emitting, emitting_step, hands_fault}
use Rattle.pb_diagram.specs.declared.interval.Interval.{Interval}
use Rattle.pb_diagram.specs.declared.layer.Layer.{Layer}
use Rattle.pb_diagram.specs.declared.shape.Shape.{Shape}
use Rattle.pb_diagram.specs.Clauses.{head_level, level_clauses, node_clauses, node_count, inner_count}
use Rattle.pb_diagram.specs.laws.LevelFacts.{levels_linked, levels_root, level_apart, node_of}
use Rattle.pb_diagram.specs.laws.LinkedNodes.{head_le}
use Rattle.pb_diagram.specs.inner.Links.{AreInOrder, AreLinked, HasChildren, Linked, StandApart}
use Rattle.pb_diagram.specs.Levels.{coefs_of, levels_of}
use Rattle.pb_diagram.specs.laws.Search.{nodes_at, before_at}
use Rattle.pb_diagram.proofs.Places.{in_order}
use Rattle.pb_diagram.proofs.SearchSteps.{levels_from_length, levels_from_at}

pub linked_drop : (ts : List Weighted) (ls : List (List Interval)) (i : ℕ) → AreLinked ts ls → AreLinked (drop i ts) (drop i ls)
linked_drop ts ls zero linked = linked
linked_drop [] [] (suc i) linked = tt
linked_drop [] (l ∷ ls) (suc i) linked = absurd linked
linked_drop (t ∷ ts) [] (suc i) linked = absurd linked
linked_drop (t ∷ ts) (l ∷ ls) (suc i) linked = linked_drop ts ls i linked.1

pub head_of_drop : (ls : List (List Interval)) (i : ℕ) → head_level (drop i ls) ≡ nodes_at ls i
head_of_drop [] zero = refl
head_of_drop [] (suc i) = refl
head_of_drop (l ∷ ls) zero = refl
head_of_drop (l ∷ ls) (suc i) = head_of_drop ls i

-- what there is at a level, and after it
pub record AtLevel (ts : List Weighted) (ls : List (List Interval)) (i : ℕ) (t : Weighted) : Type 0 where
  pub linked : All (Linked t.coef (weight (drop (i + 1) ts)) (nodes_at ls (i + 1))) (nodes_at ls i)
  pub stands : StandApart (nodes_at ls (i + 1))
  pub clauses : (first : ℕ) → node_clauses first (drop i ts) (drop i ls) ≡ level_clauses t (weight (drop (i + 1) ts)) (first + length (nodes_at ls i)) (nodes_at ls (i + 1)) first (nodes_at ls i) ++ node_clauses (first + length (nodes_at ls i)) (drop (i + 1) ts) (drop (i + 1) ls)
  pub sums : weight (drop i ts) ≡ t.coef + weight (drop (i + 1) ts)
  pub counts : node_count (drop i ls) ≡ length (nodes_at ls i) + node_count (drop (i + 1) ls)
  pub next : length (nodes_at ls (i + 1)) ≤ node_count (drop (i + 1) ls)
  pub inner : inner_count (drop i ts) (drop i ls) ≡ count_by (λ g. ltb g.low (weight (drop (i + 1) ts))) (nodes_at ls i) + inner_count (drop (i + 1) ts) (drop (i + 1) ls)
  pub listed : i < length ls
  pub terms : drop i ts ≡ t ∷ drop (i + 1) ts
  pub levels : drop i ls ≡ nodes_at ls i ∷ drop (i + 1) ls
  pub head : head_level (drop (i + 1) ls) ≡ nodes_at ls (i + 1)

stands_at : (c : BoundedSum) (i : ℕ) → StandApart (nodes_at (levels_of c) i)
stands_at c i =
    elim (cases_lt i (length (coefs_of c.terms))) as (λ _. StandApart (nodes_at (levels_of c) i)) [
      | inl within ↦
          let before = before_at [] (coefs_of c.terms) i in
          let rest = drop i (coefs_of c.terms) in
          subst StandApart (sym (levels_from_at c.bound [] (coefs_of c.terms) i within)) (record {
            apart = level_apart c.bound before rest;
            rise = λ g h. (node_of c.bound before rest g h).interval.rises;
          })
      | inr past ↦ subst StandApart (sym (get_or_past (levels_of c) i [] (omega (arith, levels_from_length c.bound [] (coefs_of c.terms))))) (record { apart = tt; rise = λ g h. absurd (Contains-nil g h) })
    ]

pub at_level_of : (c : BoundedSum) (i : ℕ) (d : Weighted) → i < length c.terms → AtLevel c.terms (levels_of c) i (get_or c.terms i d)
at_level_of c i d within =
    let ts = c.terms in
    let ls = levels_of c in
    let t = get_or ts i d in
    let count = levels_from_length c.bound [] (coefs_of c.terms) in
    let terms = length-map ts (λ t. t.coef) in
    let in_levels : i < length ls = omega arith in
    let here : drop i ts ≡ t ∷ drop (i + 1) ts = drop_more ts i d within in
    let there : drop i ls ≡ nodes_at ls i ∷ drop (i + 1) ls = drop_more ls i [] in_levels in
    let next : head_level (drop (i + 1) ls) ≡ nodes_at ls (i + 1) = head_of_drop ls (i + 1) in
    let linked : AreLinked (t ∷ drop (i + 1) ts) (nodes_at ls i ∷ drop (i + 1) ls) =
    subst (λ (l : List (List Interval)). AreLinked (t ∷ drop (i + 1) ts) l) there (subst (λ (l : List Weighted). AreLinked l (drop i ls)) here (linked_drop ts ls i (levels_linked c.bound [] ts))) in
    record {
      linked = subst (λ (l : List Interval). All (Linked t.coef (weight (drop (i + 1) ts)) l) (nodes_at ls i)) next linked.0;
      stands = stands_at c (i + 1);
      clauses = λ first.
          ap (λ (l : List Weighted). node_clauses first l (drop i ls)) here
          ∙ ap (node_clauses first (t ∷ drop (i + 1) ts)) there
          ∙ ap (λ (l : List Interval). level_clauses t (weight (drop (i + 1) ts)) (first + length (nodes_at ls i)) l first (nodes_at ls i) ++ node_clauses (first + length (nodes_at ls i)) (drop (i + 1) ts) (drop (i + 1) ls)) next;
      sums = ap weight here ∙ sum_by-cons (λ (t : Weighted). t.coef) t (drop (i + 1) ts);
      counts = ap node_count there ∙ sum_by-cons (length {A = Interval}) (nodes_at ls i) (drop (i + 1) ls);
      next = omega (arith, head_le (drop (i + 1) ls), ap length next);
      inner = ap (λ (l : List Weighted). inner_count l (drop i ls)) here ∙ ap (inner_count (t ∷ drop (i + 1) ts)) there;
      listed = in_levels;
      terms = here;
      levels = there;
      head = next;
    }

-- what code reads at a level
pub record Read (ts : List Weighted) (ls : List (List Interval)) (i : ℕ) (t : Weighted) (whole : ℕ) (nodes next : List Interval) : Type 0 where
  pub at : AtLevel ts ls i t
  pub whole_is : whole ≡ weight (drop (i + 1) ts)
  pub nodes_is : nodes ≡ nodes_at ls i
  pub next_is : next ≡ nodes_at ls (i + 1)

module _ (ts : List Weighted) (ls : List (List Interval)) (i : ℕ) (t : Weighted) (whole : ℕ) (nodes next : List Interval) (read : Read ts ls i t whole nodes next) where
  linked : All (Linked t.coef whole next) nodes
  linked =
      subst (λ (l : List Interval). All (Linked t.coef whole next) l) (sym read.nodes_is)
      (subst (λ (l : List Interval). All (Linked t.coef whole l) (nodes_at ls i)) (sym read.next_is)
      (subst (λ (n : ℕ). All (Linked t.coef n (nodes_at ls (i + 1))) (nodes_at ls i)) (sym read.whole_is) read.at.linked))

  pub read_children : All (HasChildren t.coef whole next) nodes
  read_children k d within = let here = linked k d within in ((λ inner. (here.off inner).within), (λ room. (here.on room).within))

  pub read_order : AreInOrder next
  read_order = in_order next (subst StandApart (sym read.next_is) read.at.stands)

-- the clauses of the level, and those after it
pub read_left : (ts : List Weighted) (ls : List (List Interval)) (i : ℕ) (t : Weighted) (whole : ℕ) (nodes next : List Interval) → Read ts ls i t whole nodes next → (start : ℕ) (last : List (List Lit))
    → node_clauses start (drop i ts) (drop i ls) ++ last
    ≡ level_clauses t whole (start + length nodes) next start nodes ++ (node_clauses (start + length nodes) (drop (i + 1) ts) (drop (i + 1) ls) ++ last)
read_left ts ls i t whole nodes next read start last =
    let exact : node_clauses start (drop i ts) (drop i ls) ≡ level_clauses t whole (start + length nodes) next start nodes ++ node_clauses (start + length nodes) (drop (i + 1) ts) (drop (i + 1) ls) =
    read.at.clauses start
    ∙ (λ x. level_clauses t (sym read.whole_is x) (start + length (sym read.nodes_is x)) (sym read.next_is x) start (sym read.nodes_is x) ++ node_clauses (start + length (sym read.nodes_is x)) (drop (i + 1) ts) (drop (i + 1) ls)) in
    ap (λ (cs : List (List Lit)). cs ++ last) exact
    ∙ append_assoc (level_clauses t whole (start + length nodes) next start nodes) (node_clauses (start + length nodes) (drop (i + 1) ts) (drop (i + 1) ls)) last

pub read_counts : (ts : List Weighted) (ls : List (List Interval)) (i : ℕ) (t : Weighted) (whole : ℕ) (nodes next : List Interval) → Read ts ls i t whole nodes next → node_count (drop i ls) ≡ length nodes + node_count (drop (i + 1) ls)
read_counts ts ls i t whole nodes next read = read.at.counts ∙ ap (λ (l : List Interval). length l + node_count (drop (i + 1) ls)) (sym read.nodes_is)

pub read_next : (ts : List Weighted) (ls : List (List Interval)) (i : ℕ) (t : Weighted) (whole : ℕ) (nodes next : List Interval) → Read ts ls i t whole nodes next → length next ≤ node_count (drop (i + 1) ls)
read_next ts ls i t whole nodes next read = omega (arith, read.at.next, ap length read.next_is)

pub read_inner : (ts : List Weighted) (ls : List (List Interval)) (i : ℕ) (t : Weighted) (whole : ℕ) (nodes next : List Interval) → Read ts ls i t whole nodes next
    → inner_count (drop i ts) (drop i ls) ≡ count_by (λ g. ltb g.low whole) nodes + inner_count (drop (i + 1) ts) (drop (i + 1) ls)
read_inner ts ls i t whole nodes next read =
    read.at.inner ∙ (λ x. count_by (λ g. ltb g.low (sym read.whole_is x)) (sym read.nodes_is x) + inner_count (drop (i + 1) ts) (drop (i + 1) ls))

-- nothing is left at the end
pub none_left : (ts : List Weighted) (ls : List (List Interval)) (i first : ℕ) → length ts ≤ i → node_clauses first (drop i ts) (drop i ls) ≡ []
none_left ts ls i first past = at_drop_all (λ (us : List Weighted). node_clauses first us (drop i ls)) ts i past

-- what code reads of some terms and the levels of their diagram
pub read_at : (terms : List Term) (bound : ℕ) (ls : List (List Interval)) (i : ℕ) (t : Term) (whole : ℕ) (nodes next : List Interval)
    → ls ≡ levels_of (sum_within terms bound) → i < length terms → t ≡ get_or terms i t → whole ≡ weight (drop (i + 1) (weights terms))
    → nodes ≡ nodes_at ls i → next ≡ nodes_at ls (i + 1)
    → Read (weights terms) ls i (weighted t) whole nodes next
read_at terms bound ls i t whole nodes next same within is whole_is nodes_is next_is =
    let c = sum_within terms bound in
    let ts = weights terms in
    let count = length-map terms weighted in
    let there : get_or ts i (weighted t) ≡ weighted t = get_or-map weighted terms i t (weighted t) within ∙ ap weighted (sym is) in
    let at : AtLevel ts ls i (weighted t) =
    subst (λ (u : Weighted). AtLevel ts ls i u) there (subst (λ (l : List (List Interval)). AtLevel ts l i (get_or ts i (weighted t))) (sym same) (at_level_of c i (weighted t) (omega arith))) in
    record { at = at; whole_is = whole_is; nodes_is = nodes_is; next_is = next_is }

-- the same of a shape and its level at a place
pub read_layer : (shape : Shape) (i : ℕ) (layer : Layer) → i < length shape.terms.now → layer.term.now ≡ get_or shape.terms.now i layer.term.now
    → weights layer.rest.now ≡ drop (i + 1) (weights shape.terms.now) → layer.nodes.now ≡ nodes_at shape.levels.now i → layer.next.now ≡ nodes_at shape.levels.now (i + 1)
    → Read (weights shape.terms.now) shape.levels.now i (weighted layer.term.now) layer.whole layer.nodes.now layer.next.now
read_layer shape i layer within is rest nodes next =
    read_at shape.terms.now shape.bound shape.levels.now i layer.term.now layer.whole layer.nodes.now layer.next.now shape.nodes within is (layer.left ∙ ap weight rest) nodes next

-- there is a root
pub some_node : (c : BoundedSum) → c.bound < weight c.terms → 0 < node_count (levels_of c)
some_node c above =
    let root = levels_root c.bound c.terms above in
    omega (arith, ap length root.is, head_le (levels_of c))

-- what is left of a weight after the next term
pub weight_after : (terms : List Term) (i : ℕ) (t : Term) (coef left : ℕ) → i < length terms → t ≡ get_or terms i t → coef ≡ unsigned_abs t.coef → left ≡ weight (drop i (weights terms))
    → left ≡ coef + weight (drop (i + 1) (weights terms))
weight_after terms i t coef left within is coef_is left_is =
    let ts = weights terms in
    let count = length-map terms weighted in
    let there : get_or ts i (weighted t) ≡ weighted t = get_or-map weighted terms i t (weighted t) within ∙ ap weighted (sym is) in
    let sums = sum_by-drop_more (λ (u : Weighted). u.coef) ts i (weighted t) (omega arith) in
    let coef_there = ap (λ (u : Weighted). u.coef) there in
    omega arith

-- ---- handing over

-- the clauses of the level are taken
pub level_taken : {R : Type 0} {all : List (List Lit)} {old now : SinkState R} (ts : List Weighted) (ls : List (List Interval)) (i : ℕ) (t : Weighted) (whole : ℕ) (nodes next : List Interval) → Read ts ls i t whole nodes next → (start : ℕ) (last : List (List Lit)) (after : SinkState R)
    → Emitting all (node_clauses start (drop i ts) (drop i ls) ++ last) old now
    → TakesClauses (level_clauses t whole (start + length nodes) next start nodes) now after
    → Emitting all (node_clauses (start + length nodes) (drop (i + 1) ts) (drop (i + 1) ls) ++ last) old after
level_taken {all = all} {old} {now} ts ls i t whole nodes next read start last after e taken =
    emitting_step (level_clauses t whole (start + length nodes) next start nodes) after (subst (λ (cs : List (List Lit)). Emitting all cs old now) (read_left ts ls i t whole nodes next read start last) e) taken

pub level_fault : {R T : Type 0} {all : List (List Lit)} {old now : SinkState R} (r : Result T Failed) (f : Failed) → IsErrAnd r (λ e. e ≡ f) → (ts : List Weighted) (ls : List (List Interval)) (i : ℕ) (t : Weighted) (whole : ℕ) (nodes next : List Interval) → Read ts ls i t whole nodes next → (start : ℕ) (last : List (List Lit)) (after : SinkState R)
    → Emitting all (node_clauses start (drop i ts) (drop i ls) ++ last) old now
    → FailsInClauses (level_clauses t whole (start + length nodes) next start nodes) now after
    → Hands all r old after
level_fault {all = all} {old} {now} r f is ts ls i t whole nodes next read start last after e part =
    hands_fault r f (level_clauses t whole (start + length nodes) next start nodes) (node_clauses (start + length nodes) (drop (i + 1) ts) (drop (i + 1) ls) ++ last) after is
    (subst (λ (cs : List (List Lit)). Emitting all cs old now) (read_left ts ls i t whole nodes next read start last) e) part

-- what comes after the nodes is left
pub last_left : {R : Type 0} {all : List (List Lit)} {old now : SinkState R} (ts : List Weighted) (ls : List (List Interval)) (i start : ℕ) (last : List (List Lit)) → length ts ≤ i
    → Emitting all (node_clauses start (drop i ts) (drop i ls) ++ last) old now → Emitting all last old now
last_left {all = all} {old} {now} ts ls i start last past e =
    subst (λ (cs : List (List Lit)). Emitting all cs old now) (ap (λ (cs : List (List Lit)). cs ++ last) (none_left ts ls i start past)) e
