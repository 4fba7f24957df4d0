-- The problem of names: each free name, in the order in which they first stand in a text, is a variable behind those of indices, and each product of literals one behind them (our own).
-- A text denotes a problem by three facts: something written in names; that the text's tokens spell it; and that the problem is that
-- of it and of the number that the first line declares. So which word may come where, and which limits hold so far, is said of
-- problems in names, and `problem_of` alone speaks of problems in numbers. A free name's number is known only at the end of the
-- text. So too many variables are reported there, by a case of their own, and only if the text has no other fault.
use Rattle.std.specs.Prelude.{ℕ, ◌+◌, max, List, [], ◌∷◌, ◌++◌, map, length, ℤ, true}
use Rattle.std.specs.List.{flat_map, position_or_len}
use Rattle.std.specs.Option.{option_map, unwrap_or}
use Rattle.std.specs.Str.{bytes_eq}
use Rattle.pb_base.specs.Firsts.{firsts}
use Rattle.pb_base.specs.declared.literal.Lit.{Lit}
use Rattle.pb_base.specs.declared.literal.Term.{Term}
use Rattle.pb_base.specs.declared.problem.Raw.{Raw}
use Rattle.pb_base.specs.declared.problem.Problem.{Problem}
use Rattle.pb_named.specs.Names.{Name}
use Rattle.pb_named.specs.Names.Name.{index, free}
use Rattle.pb_named.specs.declared.named.NamedLit.{NamedLit}
use Rattle.pb_named.specs.declared.products.Factor.{Factor}
use Rattle.pb_named.specs.declared.products.Factor.TheVariants.{Nought, Single, Product}
use Rattle.pb_named.specs.NamedTerms.{NamedTerm, lits_of}
use Rattle.pb_named.specs.Products.{factor_of, product_in, same_product}
use Rattle.pb_named.specs.declared.named.NamedStatement.{NamedStatement}
use Rattle.pb_named.specs.declared.named.NamedProblem.{NamedProblem}

-- ---- the names of a problem, in the order of its text

abbrev pub term_names : NamedTerm → List Name
term_names t = map (λ l. l.name) (lits_of t)

abbrev pub names_of : List NamedTerm → List Name
names_of ts = flat_map term_names ts

abbrev pub all_names : NamedProblem → List Name
all_names p = names_of (unwrap_or p.objective []) ++ flat_map (λ s. names_of s.terms) p.statements

abbrev pub index_in : Name → ℕ
index_in (index n) = n
index_in (free text) = 0

-- the greatest index, or 0
abbrev pub greatest : List Name → ℕ
greatest [] = 0
greatest (n ∷ ns) = max (index_in n) (greatest ns)

abbrev pub free_in : Name → List (List ℕ)
free_in (index n) = []
free_in (free text) = text ∷ []

-- the free names, each once, in the order in which they first stand there
abbrev pub free_names : List Name → List (List ℕ)
free_names ns = firsts bytes_eq (flat_map free_in ns)

-- ---- their variables

-- how many variables are named by indices, and the free names of the others
pub record Table : Type 0 where
  pub numbered : ℕ
  pub names : List (List ℕ)

abbrev pub table_of : ℕ → List Name → Table
table_of told ns = record { numbered = max told (greatest ns); names = free_names ns }

abbrev pub var_of : Table → Name → ℕ
var_of t (index n) = n
var_of t (free text) = t.numbered + 1 + position_or_len (bytes_eq text) t.names

abbrev pub lit_of : Table → NamedLit → Lit
lit_of t l = record { var = var_of t l.name; positive = l.positive }

-- ---- products, and their variables behind these

-- how many variables have a name
abbrev pub size : Table → ℕ
size t = t.numbered + length t.names

-- what the literals of a term come to
abbrev pub factor : Table → NamedTerm → Factor
factor t n = factor_of (map (lit_of t) (lits_of n))

abbrev pub products_in : Table → List NamedTerm → List (List Lit)
products_in t ns = flat_map (λ n. product_in (factor t n)) ns

-- in the order of the text, the objective's first
abbrev pub all_terms : NamedProblem → List NamedTerm
all_terms p = unwrap_or p.objective [] ++ flat_map (λ s. s.terms) p.statements

-- the products, each once, in the order in which they first stand there
abbrev pub products_of : Table → NamedProblem → List (List Lit)
products_of t p = firsts same_product (products_in t (all_terms p))

-- ---- in numbers

-- the literal of a product's variable
abbrev pub product_lit : Table → List (List Lit) → List Lit → Lit
product_lit t products ls = record { var = size t + 1 + position_or_len (same_product ls) products; positive = true }

-- a term whose literals come to 0 is dropped
abbrev pub terms_by : Table → List (List Lit) → ℤ → Factor → List Term
terms_by t products coef Nought = []
terms_by t products coef (Single l) = record { coef = coef; lit = l } ∷ []
terms_by t products coef (Product ls) = record { coef = coef; lit = product_lit t products ls } ∷ []

abbrev pub terms_of : Table → List (List Lit) → List NamedTerm → List Term
terms_of t products ns = flat_map (λ n. terms_by t products n.coef (factor t n)) ns

abbrev pub statement_of : Table → List (List Lit) → NamedStatement → Raw
statement_of t products s = record { terms = terms_of t products s.terms; relation = s.relation; right = s.right }

abbrev pub by_table : Table → NamedProblem → Problem
by_table t p = record {
  vars = size t;
  numbered = t.numbered;
  names = t.names;
  products = products_of t p;
  objective = option_map (terms_of t (products_of t p)) p.objective;
  statements = map (statement_of t (products_of t p)) p.statements;
}

-- the problem, where the first line tells a number of variables
abbrev pub problem_of : ℕ → NamedProblem → Problem
problem_of told p = by_table (table_of told (all_names p)) p
