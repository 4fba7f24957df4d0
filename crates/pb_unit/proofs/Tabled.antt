-- How long tables over variables are.
use Rattle.std.proofs.Common.{◌≡◌, ◌≤◌, ◌+◌, ◌∙◌, ℕ, List, [], ◌∷◌, length, length-append, map, refl, ap, arith}
use Rattle.std.proofs.lemmas.List.{length-map}
use Rattle.std.proofs.lemmas.List.Concat.{flat_map-cons}
use Rattle.std.proofs.lemmas.List.Sums.{sum_by-cons}
use Rattle.pb_base.specs.declared.literal.Lit.{Lit}
use Rattle.pb_norm.specs.Constraints.{Constraint, Weighted}
use Rattle.pb_unit.specs.Reads.{lit_count}
use Rattle.pb_unit.specs.Renaming.{all_vars, form_vars, lit_vars, renamed, renamed_lit, renamed_term, term_vars}

abbrev count : Constraint → ℕ
count c = length c.terms

pub lit_count-renamed : (f : ℕ → ℕ) (cs : List Constraint) → lit_count (map (renamed f) cs) ≡ lit_count cs
lit_count-renamed f [] = refl
lit_count-renamed f (c ∷ cs) =
    omega (arith, sum_by-cons count (renamed f c) (map (renamed f) cs), sum_by-cons count c cs, length-map c.terms (renamed_term f), lit_count-renamed f cs)

form_count : (cs : List Constraint) → length (form_vars cs) ≡ lit_count cs
form_count [] = refl
form_count (c ∷ cs) =
    ap length (flat_map-cons (λ (d : Constraint). term_vars d.terms) c cs)
    ∙ omega (arith, length-append (term_vars c.terms) (form_vars cs), length-map c.terms (λ (t : Weighted). t.lit.var), sum_by-cons count c cs, form_count cs)

-- a variable a literal
pub length-all_vars : (cs : List Constraint) (ls : List Lit) → length (all_vars cs ls) ≡ lit_count cs + length ls
length-all_vars cs ls = omega (arith, length-append (form_vars cs) (lit_vars ls), form_count cs, length-map ls (λ (l : Lit). l.var))

pub renamed_few : (f : ℕ → ℕ) (cs : List Constraint) (ls : List Lit) (n : ℕ) → n ≤ lit_count cs + length ls → n ≤ lit_count (map (renamed f) cs) + length (map (renamed_lit f) ls)
renamed_few f cs ls n few = omega (arith, few, lit_count-renamed f cs, length-map ls (renamed_lit f))
