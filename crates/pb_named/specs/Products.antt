-- Products of literals as sets (our own).
-- Names that differ may be one variable (`x2` and `x02`), so the reader keeps the literals as they are written. What a product comes
-- to is decided once they have numbers: what is repeated is dropped, the order does not matter, and opposite literals make it 0.
-- Sorted, equal and opposite literals are neighbours. A product gets its variable where it first occurs, as a name does.
use Rattle.std.specs.Prelude.{ℕ, nat_lt, ◌==◌, ◌&&◌, ◌||◌, Bool, false, not, List, [], ◌∷◌, if◌then◌else◌}
use Rattle.std.specs.Cmp.Lexicographic.{pointwise}
use Rattle.pb_base.specs.declared.literal.Lit.{Lit}
use Rattle.pb_base.specs.Literals.{is_same}
use Rattle.pb_named.specs.declared.products.Factor.{Factor}
use Rattle.pb_named.specs.declared.products.Factor.TheVariants.{Nought, Single, Product}

-- by variable, and of one variable the negative literal first
abbrev pub is_before : Lit → Lit → Bool
is_before k l = nat_lt k.var l.var || (k.var == l.var && not k.positive && l.positive)

-- a literal at its place in a list in this order, unless it stands there
abbrev pub placed : Lit → List Lit → List Lit
placed l [] = l ∷ []
placed l (k ∷ ks) = if is_before l k then l ∷ k ∷ ks else (if is_same l k then k ∷ ks else k ∷ placed l ks)

-- each literal once, in this order
abbrev pub as_set : List Lit → List Lit
as_set [] = []
as_set (l ∷ ls) = placed l (as_set ls)

-- the first literal is of the variable
abbrev pub begins_with : List Lit → ℕ → Bool
begins_with [] v = false
begins_with (l ∷ ls) v = l.var == v

-- in a list in this order, some variable stands both ways
abbrev pub is_opposed : List Lit → Bool
is_opposed [] = false
is_opposed (l ∷ ls) = begins_with ls l.var || is_opposed ls

-- what the product of a set comes to: 0 where two literals are opposite, else its one literal, or the product of several
abbrev pub factor_of_set : List Lit → Factor
factor_of_set (l ∷ []) = Single l
factor_of_set ls = if is_opposed ls then Nought else Product ls

abbrev pub factor_of : List Lit → Factor
factor_of ls = factor_of_set (as_set ls)

abbrev pub product_in : Factor → List (List Lit)
product_in (Product ls) = ls ∷ []
product_in _ = []

abbrev pub same_product : List Lit → List Lit → Bool
same_product = pointwise is_same
