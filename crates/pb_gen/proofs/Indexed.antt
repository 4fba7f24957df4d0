-- Statements in numbers as statements that name each variable by its number.
use Rattle.std.proofs.Common.{◌≡◌, ℕ, ◌+◌, ◌≤◌, List, [], ◌∷◌, ◌++◌, length, map, refl, sym, ap, ◌∙◌, arith}
use Rattle.std.specs.Prelude.{unsigned_abs}
use Rattle.std.specs.List.{flat_map}
use Rattle.std.proofs.lemmas.List.Sums.{sum_by-cons}
use Rattle.pb_base.specs.declared.literal.Lit.{Lit}
use Rattle.pb_base.specs.declared.literal.Term.{Term}
use Rattle.pb_base.specs.declared.problem.Raw.{Raw}
use Rattle.pb_base.specs.Problems.{magnitude}
use Rattle.pb_named.specs.Names.{Name}
use Rattle.pb_named.specs.Names.Name.{index}
use Rattle.pb_named.specs.NamedProblems.{free_in, greatest, names_of, products_in, statement_of, terms_of, Table}
use Rattle.pb_named.specs.declared.named.NamedStatement.{NamedStatement}
use Rattle.pb_named.specs.NamedTerms.{lits_of, NamedTerm}
use Rattle.pb_opb.specs.Limits.{literal_count, named_magnitude}

abbrev pub indexed_term : Term → NamedTerm
indexed_term t = record { coef = t.coef; lit = record { name = index t.lit.var; positive = t.lit.positive }; more = [] }

abbrev pub indexed_statement : Raw → NamedStatement
indexed_statement s = record { terms = map indexed_term s.terms; relation = s.relation; right = s.right }

-- they have no free name
terms_unfree : (ts : List Term) (ns : List Name) → flat_map free_in (names_of (map indexed_term ts) ++ ns) ≡ flat_map free_in ns
terms_unfree [] ns = refl
terms_unfree (t ∷ ts) ns = terms_unfree ts ns

pub statements_unfree : (ss : List Raw) → flat_map free_in (flat_map (λ s. names_of s.terms) (map indexed_statement ss)) ≡ []
statements_unfree [] = refl
statements_unfree (s ∷ ss) = terms_unfree s.terms (flat_map (λ s. names_of s.terms) (map indexed_statement ss)) ∙ statements_unfree ss

-- nor any product
terms_unmultiplied : (t : Table) (ts : List Term) (ns : List NamedTerm) → products_in t (map indexed_term ts ++ ns) ≡ products_in t ns
terms_unmultiplied t [] ns = refl
terms_unmultiplied t (x ∷ ts) ns = terms_unmultiplied t ts ns

pub statements_unmultiplied : (t : Table) (ss : List Raw) → products_in t (flat_map (λ s. s.terms) (map indexed_statement ss)) ≡ []
statements_unmultiplied t [] = refl
statements_unmultiplied t (s ∷ ss) = terms_unmultiplied t s.terms (flat_map (λ s. s.terms) (map indexed_statement ss)) ∙ statements_unmultiplied t ss

-- and are in numbers what they were
terms_back : (t : Table) (products : List (List Lit)) (ts : List Term) → terms_of t products (map indexed_term ts) ≡ ts
terms_back t products [] = refl
terms_back t products (x ∷ ts) = ap (λ (us : List Term). x ∷ us) (terms_back t products ts)

pub statements_back : (t : Table) (products : List (List Lit)) (ss : List Raw) → map (statement_of t products) (map indexed_statement ss) ≡ ss
statements_back t products [] = refl
statements_back t products (s ∷ ss) = λ i. record { terms = terms_back t products s.terms i; relation = s.relation; right = s.right } ∷ statements_back t products ss i

pub literals_as_many : (ts : List Term) → literal_count (map indexed_term ts) ≡ length ts
literals_as_many [] = refl
literals_as_many (t ∷ ts) = omega (arith, sum_by-cons (λ (u : NamedTerm). length (lits_of u)) (indexed_term t) (map indexed_term ts), literals_as_many ts)

pub statements_as_many : (ss : List Raw) → length (map indexed_statement ss) ≡ length ss
statements_as_many [] = refl
statements_as_many (s ∷ ss) = omega (arith, statements_as_many ss)

pub same_magnitude : (ts : List Term) → named_magnitude (map indexed_term ts) ≡ magnitude ts
same_magnitude [] = refl
same_magnitude (t ∷ ts) =
    sum_by-cons (λ (u : NamedTerm). unsigned_abs u.coef) (indexed_term t) (map indexed_term ts) ∙ ap (λ (k : ℕ). unsigned_abs t.coef + k) (same_magnitude ts) ∙ sym (sum_by-cons (λ (u : Term). unsigned_abs u.coef) t ts)

-- the greatest of their numbers
pub greatest_append : (ns ms : List Name) (vars : ℕ) → greatest ns ≤ vars → greatest ms ≤ vars → greatest (ns ++ ms) ≤ vars
greatest_append [] ms vars first second = second
greatest_append (n ∷ ns) ms vars first second = let tail : greatest ns ≤ vars = omega arith in omega (arith, greatest_append ns ms vars tail second)
