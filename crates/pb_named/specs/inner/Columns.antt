-- Statements in columns: a statement's terms stand in little room where each has one literal, and else they are kept whole.
use Rattle.std.specs.Prelude.{ℕ, ◌-◌, ◌^◌, ◌≡◌, ◌==◌, ◌++◌, Bool, List, [], ◌∷◌, if◌then◌else◌, map, take, drop, length, sum_by, Option, Some, None}
use Rattle.pb_base.specs.declared.literal.Term.{Term}
use Rattle.pb_base.specs.declared.problem.Raw.{Raw}
use Rattle.pb_base.specs.declared.heads.Head.{Head}
use Rattle.pb_base.specs.Statements.{term_count}
use Rattle.pb_named.specs.Names.{Name}
use Rattle.pb_named.specs.Names.Name.{index, free}
use Rattle.pb_named.specs.NamedTerms.{NamedTerm}
use Rattle.pb_named.specs.declared.named.NamedStatement.{NamedStatement}

abbrev pub listed : {X : Type 0} → Option X → List X
listed None = []
listed (Some x) = x ∷ []

-- ---- terms of one literal

-- a term of a numbered variable
abbrev pub named_term : Term → NamedTerm
named_term t = record { coef = t.coef; lit = record { name = index t.lit.var; positive = t.lit.positive }; more = [] }

-- the greatest variable stands for a free name, which is the next of the names
abbrev pub is_free : Term → Bool
is_free t = t.lit.var == 2 ^ 31 - 1

abbrev pub first_name : List (List ℕ) → List ℕ
first_name [] = []
first_name (text ∷ _) = text

abbrev pub name_next : Bool → ℕ → List (List ℕ) → Name
name_next is_free n names = if is_free then free (first_name names) else index n

-- the names that are left behind a term
abbrev pub names_next : Bool → List (List ℕ) → List (List ℕ)
names_next is_free names = if is_free then drop 1 names else names

abbrev pub term_by : Term → List (List ℕ) → NamedTerm
term_by t names = record { coef = t.coef; lit = record { name = name_next (is_free t) t.lit.var names; positive = t.lit.positive }; more = [] }

abbrev pub named_terms : List Term → List (List ℕ) → List NamedTerm
named_terms [] names = []
named_terms (t ∷ ts) names = term_by t names ∷ named_terms ts (names_next (is_free t) names)

abbrev pub one_if : Bool → ℕ
one_if b = if b then 1 else 0

-- how many free names they have
abbrev pub free_count : List Term → ℕ
free_count ts = sum_by (λ t. one_if (is_free t)) ts

-- a term, and its name where that is free, stand for this one
abbrev pub StandsFor : Term → Option (List ℕ) → NamedTerm → Type 0
StandsFor t name n = (term_by t (listed name) ≡ n) × (length (listed name) ≡ one_if (is_free t))

-- terms and names more, which stand for these
pub record AddsPlain (before after : List Term) (names names_after : List (List ℕ)) (ns : List NamedTerm) : Type 0 where
  pub added : List Term
  pub free : List (List ℕ)
  pub is : after ≡ before ++ added
  pub frees : names_after ≡ names ++ free
  pub counted : length free ≡ free_count added
  pub named : named_terms added free ≡ ns

-- ---- statements

-- a statement over numbered variables
abbrev pub named_statement : Raw → NamedStatement
named_statement s = record { terms = map named_term s.terms; relation = s.relation; right = s.right }

abbrev pub first_or_none : List (List NamedTerm) → List NamedTerm
first_or_none [] = []
first_or_none (ns ∷ _) = ns

-- the terms of a statement of which so many stand in little room, none where they are kept whole
abbrev pub terms_next : ℕ → List NamedTerm → List (List NamedTerm) → List NamedTerm
terms_next count ts ws = if count == 0 then first_or_none ws else take count ts

-- the sums kept whole that are left behind it
abbrev pub wholes_next : ℕ → List (List NamedTerm) → List (List NamedTerm)
wholes_next count ws = if count == 0 then drop 1 ws else ws

abbrev pub named_in : List Head → List NamedTerm → List (List NamedTerm) → List NamedStatement
named_in [] ts ws = []
named_in (h ∷ hs) ts ws = record { terms = terms_next h.terms ts ws; relation = h.relation; right = h.right } ∷ named_in hs (drop h.terms ts) (wholes_next h.terms ws)

abbrev pub whole_one : ℕ → ℕ
whole_one n = if n == 0 then 1 else 0

-- how many statements are kept whole
abbrev pub whole_count : List Head → ℕ
whole_count hs = sum_by (λ h. whole_one h.terms) hs

pub record AreColumns (hs : List Head) (ts : List NamedTerm) (ws : List (List NamedTerm)) : Type 0 where
  pub counted : length ts ≡ term_count hs
  pub wholes : length ws ≡ whole_count hs
