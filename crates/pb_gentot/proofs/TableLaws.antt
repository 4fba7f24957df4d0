-- A row's literal is as good as the constraint that the sum is less than its value.
use Rattle.std.proofs.Common.{◌≡◌, ◌<◌, ◌+◌, ◌⊎◌, ℕ, true, false, List, [], ◌∷◌, min, sym, ◌∙◌, subst, arith, inl, inr}
use Rattle.std.specs.Prelude.{Contains}
use Rattle.std.proofs.lemmas.Bool.{not_from_false, or_left}
use Rattle.std.proofs.lemmas.List.Elements.{All-cons, Contains-append_left, Contains-append_right}
use Rattle.pb_base.specs.declared.literal.Lit.{Lit}
use Rattle.pb_base.specs.Literals.{Assignment, negated, lit_value, clause_value, IsModel, is_among}
use Rattle.pb_base.proofs.LiteralLemmas.{lit_value-negated}
use Rattle.pb_base.proofs.Members.{Contains-nil, Contains-here, Contains-there, Contains-cons_cases, cases_contains, from_among, not_among_from}
use Rattle.pb_norm.specs.Constraints.{Weighted, weight, value}
use Rattle.pb_norm.specs.BoundedSums.{StaysWithin}
use Rattle.pb_norm.specs.ClausePropagation.{ClausesReach, ClauseConflict}
use Rattle.pb_norm.proofs.BoundedForcing.{given_sum, bound_below_given_sum, forced_term}
use Rattle.pb_norm.proofs.Derived.{Derived, reaches_derived}
use Rattle.pb_norm.proofs.Derived.Derived.{by_given}
use Rattle.pb_norm.proofs.Proper.{apart}
use Rattle.pb_family.proofs.Models.{sound_from_sums}
use Rattle.pb_family.proofs.Opposites.{opposites_conflict}
use Rattle.pb_family.proofs.ShortClauses.{twice}
use Rattle.pb_tree.specs.Tree.{tree_of, leaf_sum}
use Rattle.pb_tree.specs.Scheme.{output, clauses_of}
use Rattle.pb_tree.proofs.Pushing.{any, passing, with_any, reach_all_with, reach_output, push_leaf}
use Rattle.pb_tree.proofs.Splitting.{split_sum, listed_leaf}
use Rattle.pb_gentot.specs.BoundTable.{IsTable, uncut, below, table_values, table_output, table_clauses}
use Rattle.pb_gentot.specs.BoundTableLaws.{PropagatesUnder}
use Rattle.pb_gentot.specs.laws.GeneralizedLaws.{Always, generalized_lawful}
use Rattle.pb_gentot.proofs.Neighbours.{clauses_between, lowered, raised}
use Rattle.pb_gentot.proofs.TableValues.{each_positive, table_value_positive, table_value_from, value_reach, table_values_rise}

tree_listed : (ts : List Weighted) (first : ℕ) (c : List Lit) → Contains (clauses_of (uncut ts) (tree_of ts) first) c → Contains (table_clauses ts first) c
tree_listed ts first c h = Contains-append_left (clauses_of (uncut ts) (tree_of ts) first) (clauses_between (table_output ts first) (table_values ts)) c h

neighbours_listed : (ts : List Weighted) (first : ℕ) (c : List Lit) → Contains (clauses_between (table_output ts first) (table_values ts)) c → Contains (table_clauses ts first) c
neighbours_listed ts first c h = Contains-append_right (clauses_of (uncut ts) (tree_of ts) first) (clauses_between (table_output ts first) (table_values ts)) c h

-- ---- unit propagation, by sums

given_passing : (ts : List Weighted) (given : List Lit) → leaf_sum (passing (uncut ts) (is_among given)) (tree_of ts) ≡ given_sum given ts
given_passing ts given = split_sum (passing (uncut ts) (is_among given)) ts

-- clauses that have all of the table's, and literals that more were added to
record Has (ts : List Weighted) (first : ℕ) (cs : List (List Lit)) (given more : List Lit) : Type 0 where
  clauses : (c : List Lit) → Contains (table_clauses ts first) c → Contains cs c
  lits : (l : Lit) → Contains given l → Contains more l

-- the literals reach a row's literal where their sum reaches its value
reaches_row : (ts : List Weighted) → IsTable ts → (first : ℕ) (cs : List (List Lit)) (given more : List Lit) → Has ts first cs given more
    → (u : ℕ) → Contains (table_values ts) u → (below ts u).bound < given_sum given ts → Derived cs more (table_output ts first u)
reaches_row ts table first cs given more has u here above =
    let s = uncut ts in
    let t = tree_of ts in
    let x = leaf_sum (passing s (is_among given)) t in
    let same = given_passing ts given in
    let some = table_value_positive ts table u here in
    let from = table_value_from ts (is_among given) x (value_reach ts (is_among given)) (omega arith) in
    let within = from.0 in
    let cut : min x (weight ts + 1) ≡ x = omega arith in
    let top = subst (λ (n : ℕ). Derived cs more (output s t first n)) cut
    (reach_output s Always (generalized_lawful (weight ts)) (is_among given) cs more (λ l h. by_given (has.lits l (from_among given l h))) t first x (λ c h. has.clauses c (tree_listed ts first c h)) (value_reach ts (is_among given)) (omega arith) tt) in
    lowered cs more (table_output ts first) (table_values ts) (table_values_rise ts) (λ c h. has.clauses c (neighbours_listed ts first c h)) u x here from.1 (omega arith) top

-- and the negation of a row's literal reaches that of each literal that would make the sum reach its value
pushes_row : (ts : List Weighted) → IsTable ts → (first : ℕ) (cs : List (List Lit)) (given more : List Lit) → Has ts first cs given more
    → (u : ℕ) → Contains (table_values ts) u → Derived cs more (negated (table_output ts first u))
    → (t : Weighted) → Contains ts t → ¬ Contains given t.lit → (below ts u).bound < given_sum given ts + t.coef → Derived cs more (negated t.lit)
pushes_row ts table first cs given more has u here off w among new above =
    let s = uncut ts in
    let t = tree_of ts in
    let p = is_among given in
    let sum = leaf_sum (passing s p) t in
    let same = given_passing ts given in
    let some = table_value_positive ts table u here in
    let positive = each_positive ts table w among in
    let x = sum + w.coef in
    let reach = reach_all_with s p t w (listed_leaf ts w among) (not_among_from given w.lit new) in
    let from = table_value_from ts any x (with_any s p t w x reach) (omega arith) in
    let within = from.0 in
    let cut : x ≡ min x (weight ts + 1) = omega arith in
    let top = raised cs more (table_output ts first) (table_values ts) (table_values_rise ts) (λ c h. has.clauses c (neighbours_listed ts first c h)) u x here from.1 (omega arith) off in
    push_leaf s Always (generalized_lawful (weight ts)) p cs more (λ l h. by_given (has.lits l (from_among given l h))) t w first x positive (λ c h. has.clauses c (tree_listed ts first c h)) reach tt
    (subst (λ (n : ℕ). Derived cs more (negated (output s t first n))) cut top)

-- ---- propagation with the negation of a row's literal

-- both ways
opposed : (cs : List (List Lit)) (given : List Lit) (l : Lit) → Derived cs given l → Derived cs given (negated l) → ClauseConflict cs given
opposed cs given l yes_way no_way =
    elim (reaches_derived cs given l yes_way) as (λ _. ClauseConflict cs given) [
      | inr conflict ↦ conflict
      | inl one ↦ elim (reaches_derived cs given (negated l) no_way) as (λ _. ClauseConflict cs given) [
        | inr conflict ↦ conflict
        | inl two ↦ opposites_conflict cs given l one two
      ]
    ]

pub table_propagates : (ts : List Weighted) → IsTable ts → (first u : ℕ) → Contains (table_values ts) u
    → PropagatesUnder (table_clauses ts first) (negated (table_output ts first u)) (λ a. StaysWithin a (below ts u))
table_propagates ts table first u here =
    let cs = table_clauses ts first in
    let o = table_output ts first u in
    let c = below ts u in
    let distinct = apart ts table.distinct in
    let has : (given : List Lit) → Has ts first cs given (negated o ∷ given) = λ given. record { clauses = λ c h. h; lits = λ l h. Contains-there (negated o) given l h } in
    record {
      conflict = λ given consistent none.
          let more = negated o ∷ given in
          opposed cs more o
          (reaches_row ts table first cs given more (has given) u here (bound_below_given_sum c distinct given consistent none))
          (by_given (Contains-here (negated o) given));
      forced = λ given l consistent forces.
          let more = negated o ∷ given in
          elim (cases_contains given l) as (λ _. ClausesReach cs more l ⊎ ClauseConflict cs more) [
            | inl h ↦ reaches_derived cs more l (by_given (Contains-there (negated o) given l h))
            | inr new ↦
                let term = forced_term c distinct given l consistent forces new in
                reaches_derived cs more l (subst (λ (k : Lit). Derived cs more k) (sym term.2)
                (pushes_row ts table first cs given more (has given) u here (by_given (Contains-here (negated o) given)) term.0 term.1 term.3 term.4))
          ];
    }

-- ---- models

-- where a row's literal is false in a model, the sum is less than its value
pub table_sound : (ts : List Weighted) → IsTable ts → (first u : ℕ) → Contains (table_values ts) u → (a : Assignment) → IsModel a (table_clauses ts first) → lit_value a (table_output ts first u) ≡ false → value a ts < u
table_sound ts table first u here a model off =
    let o = table_output ts first u in
    let unit = negated o ∷ [] in
    let cs = unit ∷ table_clauses ts first in
    let some = table_value_positive ts table u here in
    let on : clause_value a unit ≡ true = or_left (lit_value a (negated o)) false (lit_value-negated a o ∙ not_from_false (lit_value a o) off) in
    let has : (given : List Lit) → Has ts first cs given given = λ given. record { clauses = λ c m. Contains-there unit (table_clauses ts first) c m; lits = λ l m. m } in
    let within = sound_from_sums cs (below ts u) (λ given above. record {
      clause = unit;
      listed = Contains-here unit (table_clauses ts first);
      is_false = λ k h.
          elim (Contains-cons_cases (negated o) [] k h) as (λ _. Derived cs given (negated k)) [
            | inl e ↦ subst (λ (l : Lit). Derived cs given (negated l)) e (twice cs given o (reaches_row ts table first cs given given (has given) u here above))
            | inr none ↦ absurd (Contains-nil k none)
          ];
    }) a (All-cons (λ c. clause_value a c ≡ true) unit (table_clauses ts first) on model) in
    omega arith
