-- The groups of a problem have its loaded constraints, and what is paired are the halves of one statement.
use Rattle.std.proofs.Common.{◌≡◌, ◌+◌, ◌++◌, List, [], ◌∷◌, length, map, refl, ap, ◌∙◌, arith, length-append}
use Rattle.std.specs.Prelude.{All}
use Rattle.std.proofs.lemmas.Grind.{flat_map-append}
use Rattle.std.proofs.lemmas.List.Elements.{All-nil, All-cons, All-head, All-tail, All-append}
use Rattle.std.proofs.lemmas.List.Sums.{sum_by-cons}
use Rattle.pb_base.specs.declared.problem.Problem.{Problem}
use Rattle.pb_base.specs.declared.problem.Raw.{Raw}
use Rattle.pb_base.specs.declared.problem.Relation.{Relation}
use Rattle.pb_base.specs.declared.problem.Relation.TheVariants.{AtLeast, AtMost, Equal}
use Rattle.pb_base.proofs.Members.{All-append_both}
use Rattle.pb_norm.specs.Constraints.{Constraint}
use Rattle.pb_norm.specs.Halves.{constraints_of, half_of, halves_of, loaded}
use Rattle.pb_norm.specs.Products.{defining, loaded_of}
use Rattle.pb_choice.specs.EqualityLaws.{AreHalves}
use Rattle.pb_choice.proofs.EqualHalves.{statements_have_halves}
use Rattle.pb_encode.specs.declared.groups.Group.{Group}
use Rattle.pb_encode.specs.Groups.{all_members, group_of, group_size, grouped, groups_of, members, singles, size_total, statement_groups}
use Rattle.pb_encode.specs.declared.groups.Group.TheVariants.{Alone, Paired}

-- ---- the constraints

singles_members : (cs : List Constraint) → all_members (singles cs) ≡ cs
singles_members [] = refl
singles_members (c ∷ cs) = ap (λ (ds : List Constraint). c ∷ ds) (singles_members cs)

statement_members : (s : Raw) → members (group_of s) ≡ constraints_of s
statement_members s = by_relation s.relation
  where
    by_relation : (r : Relation) → members (grouped r s) ≡ map (λ half. half_of half s) (halves_of r)
    by_relation AtLeast = refl
    by_relation AtMost = refl
    by_relation Equal = refl

statements_members : (ss : List Raw) → all_members (statement_groups ss) ≡ loaded ss
statements_members [] = refl
statements_members (s ∷ ss) = λ i. statement_members s i ++ statements_members ss i

pub members_loaded : (p : Problem) → all_members (groups_of p) ≡ loaded_of p
members_loaded p =
    let products = defining (p.vars + 1) p.products in
    flat_map-append members (singles products) (statement_groups p.statements) ∙ (λ i. singles_members products i ++ statements_members p.statements i)

pub size-members : (gs : List Group) → length (all_members gs) ≡ size_total gs
size-members [] = refl
size-members (g ∷ gs) = omega (arith, length-append (members g) (all_members gs), sum_by-cons group_size g gs, size-members gs)

-- there are as many
pub size_loaded : (p : Problem) → size_total (groups_of p) ≡ length (loaded_of p)
size_loaded p = omega (arith, size-members (groups_of p), ap (λ (cs : List Constraint). length cs) (members_loaded p))

-- ---- what is said of each

-- both are so, and are the halves of one equality
pub record AreBoth (P : Constraint → Type 0) (c d : Constraint) : Type 0 where
  pub lower : P c
  pub upper : P d
  pub halves : AreHalves c d

abbrev pub OfGroup : (Constraint → Type 0) → Group → Type 0
OfGroup P (Alone c) = P c
OfGroup P (Paired c d) = AreBoth P c d

-- what is paired are the halves of one equality
abbrev pub IsMatched : Group → Type 0
IsMatched (Alone c) = Unit {0}
IsMatched (Paired c d) = AreHalves c d

singles_matched : (cs : List Constraint) → All IsMatched (singles cs)
singles_matched [] = All-nil IsMatched
singles_matched (c ∷ cs) = All-cons IsMatched (Alone c) (singles cs) tt (singles_matched cs)

statement_matched : (s : Raw) (r : Relation) → IsMatched (grouped r s)
statement_matched s AtLeast = tt
statement_matched s AtMost = tt
statement_matched s Equal = statements_have_halves s

statements_matched : (ss : List Raw) → All IsMatched (statement_groups ss)
statements_matched [] = All-nil IsMatched
statements_matched (s ∷ ss) = All-cons IsMatched (group_of s) (statement_groups ss) (statement_matched s s.relation) (statements_matched ss)

pub groups_matched : (p : Problem) → All IsMatched (groups_of p)
groups_matched p =
    let products = defining (p.vars + 1) p.products in
    All-append IsMatched (singles products) (statement_groups p.statements) (singles_matched products) (statements_matched p.statements)

module _ (P : Constraint → Type 0) where
  group_by : (g : Group) → IsMatched g → All P (members g) → OfGroup P g
  group_by (Alone c) matched h = All-head P c [] h
  group_by (Paired c d) matched h = record { lower = All-head P c (d ∷ []) h; upper = All-head P d [] (All-tail P c (d ∷ []) h); halves = matched }

  -- what holds of each constraint holds of each group
  pub groups_by : (gs : List Group) → All IsMatched gs → All P (all_members gs) → All (OfGroup P) gs
  groups_by [] matched h = All-nil (OfGroup P)
  groups_by (g ∷ gs) matched h =
      let parts = All-append_both P (members g) (all_members gs) h in
      All-cons (OfGroup P) g gs (group_by g (All-head IsMatched g gs matched) parts.0) (groups_by gs (All-tail IsMatched g gs matched) parts.1)
