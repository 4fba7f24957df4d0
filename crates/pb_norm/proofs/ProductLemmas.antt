-- Under the constraints of products their variables have the products' values, and under these values they hold.
use Rattle.std.proofs.Common.{◌≡◌, ℕ, ◌+◌, ◌-◌, ◌<◌, ◌≤◌, List, [], ◌∷◌, ◌++◌, Bool, true, false, not, ◌&&◌, ◌||◌, All, map, take, length, get_or, ◌↔◌, arith, refl, ap, sym, ◌∙◌, subst, append_assoc, append-nil}
use Rattle.std.proofs.lemmas.List.{length-append, length-map, get_or_append_left, get_or-append_right, get_or-map, take_more, take_all, length-take-le}
use Rattle.std.proofs.lemmas.List.Elements.{All-nil, All-cons, All-head, All-tail, All-append}
use Rattle.pb_base.specs.declared.literal.Lit.{Lit}
use Rattle.pb_base.specs.declared.problem.Problem.{Problem}
use Rattle.pb_base.specs.Literals.{Assignment, assigned_by, negated, lit_value, clause_value, IsModel}
use Rattle.pb_base.specs.Problems.{product_value, widened, IsProductWithin}
use Rattle.pb_base.proofs.LiteralLemmas.{lit_value-negated}
use Rattle.pb_base.proofs.AssignmentLemmas.{assigned_by-at}
use Rattle.pb_norm.specs.Constraints.{Constraint, Holds, Solves}
use Rattle.pb_norm.specs.ClauseForm.{clause_form}
use Rattle.pb_norm.specs.Products.{plain, implied, implying, product_clauses, product_constraints, defining}
use Rattle.pb_norm.proofs.ClauseLaws.{clause_holds}
use Rattle.pb_norm.proofs.Agreement.{lit_value-agree}
use Rattle.pb_base.proofs.Members.{All-append_both}

-- clauses as constraints
forms_hold : (a : Assignment) (clauses : List (List Lit)) → IsModel a clauses ↔ Solves a (map clause_form clauses)
forms_hold a [] = ((λ x. All-nil (Holds a)), (λ x. All-nil (λ (ls : List Lit). clause_value a ls ≡ true)))
forms_hold a (ls ∷ more) =
    let here = clause_holds ls (clause_form ls) refl a in
    let rest = forms_hold a more in
    let P = λ (ks : List Lit). clause_value a ks ≡ true in (
      (λ all. All-cons (Holds a) (clause_form ls) (map clause_form more) (here.1 (All-head P ls more all)) (rest.0 (All-tail P ls more all))),
      (λ all. All-cons P ls more (here.0 (All-head (Holds a) (clause_form ls) (map clause_form more) all)) (rest.1 (All-tail (Holds a) (clause_form ls) (map clause_form more) all))),
    )

abbrev IsTrueClause : Assignment → List Lit → Type 0
IsTrueClause a ls = clause_value a ls ≡ true

or-false : (b : Bool) → (b || false) ≡ b
or-false true = refl
or-false false = refl

implied-value : (a : Assignment) (z : Lit) (l : Lit) → clause_value a (implied z l) ≡ (lit_value a l || not (lit_value a z))
implied-value a z l = ap (λ (b : Bool). lit_value a l || (b || false)) (lit_value-negated a z) ∙ ap (λ (b : Bool). lit_value a l || b) (or-false (not (lit_value a z)))

negated-value : (a : Assignment) (ls : List Lit) → clause_value a (map negated ls) ≡ not (product_value a ls)
negated-value a [] = refl
negated-value a (l ∷ ls) = ap (λ (b : Bool). b || clause_value a (map negated ls)) (lit_value-negated a l) ∙ ap (λ (b : Bool). not (lit_value a l) || b) (negated-value a ls) ∙ both (lit_value a l) (product_value a ls)
  where
    both : (b c : Bool) → (not b || not c) ≡ not (b && c)
    both true c = refl
    both false c = refl

-- a false product satisfies each implication, and a true one asks for each literal
all-implied : (a : Assignment) (z : Lit) (ls : List Lit) → All (IsTrueClause a) (map (implied z) ls) ↔ ((not (lit_value a z) || product_value a ls) ≡ true)
all-implied a z [] = ((λ h. last (lit_value a z)), (λ h. All-nil (IsTrueClause a)))
  where
    last : (b : Bool) → (not b || true) ≡ true
    last true = refl
    last false = refl
all-implied a z (l ∷ ls) =
    let rest = all-implied a z ls in
    let value = implied-value a z l in (
      (λ all. join (lit_value a z) (lit_value a l) (product_value a ls) (sym value ∙ All-head (IsTrueClause a) (implied z l) (map (implied z) ls) all) (rest.0 (All-tail (IsTrueClause a) (implied z l) (map (implied z) ls) all))),
      (λ h. (let parts = part (lit_value a z) (lit_value a l) (product_value a ls) h in All-cons (IsTrueClause a) (implied z l) (map (implied z) ls) (value ∙ parts.0) (rest.1 parts.1))),
    )
  where
    join : (z l p : Bool) → (l || not z) ≡ true → (not z || p) ≡ true → (not z || (l && p)) ≡ true
    join false l p h i = refl
    join true true p h i = i
    join true false p h i = h

    part : (z l p : Bool) → (not z || (l && p)) ≡ true → ((l || not z) ≡ true) × ((not z || p) ≡ true)
    part false true p h = (refl, refl)
    part false false p h = (refl, refl)
    part true true p h = (refl, h)
    part true false p h = cc

-- the clauses of one product say that the literal is the product
one-product : (a : Assignment) (z : Lit) (ls : List Lit) → IsModel a (product_clauses z ls) ↔ (lit_value a z ≡ product_value a ls)
one-product a z ls =
    let each = all-implied a z ls in
    let long : clause_value a (implying z ls) ≡ (lit_value a z || not (product_value a ls)) = ap (λ (b : Bool). lit_value a z || b) (negated-value a ls) in (
      (λ all. (let parts = All-append_both (IsTrueClause a) (map (implied z) ls) (implying z ls ∷ []) all in
          same (lit_value a z) (product_value a ls) (each.0 parts.0) (sym long ∙ All-head (IsTrueClause a) (implying z ls) [] parts.1))),
      (λ e. All-append (IsTrueClause a) (map (implied z) ls) (implying z ls ∷ []) (each.1 (fits (lit_value a z) (product_value a ls) e).0)
          (All-cons (IsTrueClause a) (implying z ls) [] (long ∙ (fits (lit_value a z) (product_value a ls) e).1) (All-nil (IsTrueClause a)))),
    )
  where
    same : (z p : Bool) → (not z || p) ≡ true → (z || not p) ≡ true → z ≡ p
    same true p h i = sym h
    same false true h i = i
    same false false h i = refl

    fits : (z p : Bool) → z ≡ p → ((not z || p) ≡ true) × ((z || not p) ≡ true)
    fits true true e = (refl, refl)
    fits false false e = (refl, refl)
    fits true false e = cc
    fits false true e = cc

-- the constraints of one product say that the literal is the product
pub product_holds : (a : Assignment) (z : Lit) (ls : List Lit) → Solves a (product_constraints z ls) ↔ (lit_value a z ≡ product_value a ls)
product_holds a z ls =
    let forms = forms_hold a (product_clauses z ls) in
    let clauses = one-product a z ls in
    ((λ h. clauses.0 (forms.1 h)), (λ h. forms.0 (clauses.1 h)))

-- the variables of the products, from a number on, are true where all their literals are
abbrev pub Defines : Assignment → ℕ → List (List Lit) → Type 0
Defines a v [] = Unit {0}
Defines a v (ls ∷ products) = (a v ≡ product_value a ls) × Defines a (v + 1) products

pub defining_holds : (a : Assignment) (v : ℕ) (products : List (List Lit)) → Solves a (defining v products) ↔ Defines a v products
defining_holds a v [] = ((λ h. tt), (λ h. All-nil (Holds a)))
defining_holds a v (ls ∷ products) =
    let here = product_holds a (plain v) ls in
    let rest = defining_holds a (v + 1) products in (
      (λ all. (let parts = All-append_both (Holds a) (product_constraints (plain v) ls) (defining (v + 1) products) all in (here.0 parts.0, rest.0 parts.1))),
      (λ h. All-append (Holds a) (product_constraints (plain v) ls) (defining (v + 1) products) (here.1 h.0) (rest.1 h.1)),
    )

-- ---- values of the variables, and those of the products behind them

product-agree : (a b : Assignment) (ls : List Lit) → (vars : ℕ) → ((v : ℕ) → 1 ≤ v → v ≤ vars → a v ≡ b v) → All (λ l. 1 ≤ l.var) ls → All (λ l. l.var ≤ vars) ls → product_value a ls ≡ product_value b ls
product-agree a b [] vars agree low high = refl
product-agree a b (l ∷ ls) vars agree low high =
    let here = lit_value-agree a b l (agree l.var (All-head (λ (k : Lit). 1 ≤ k.var) l ls low) (All-head (λ (k : Lit). k.var ≤ vars) l ls high)) in
    let rest = product-agree a b ls vars agree (All-tail (λ (k : Lit). 1 ≤ k.var) l ls low) (All-tail (λ (k : Lit). k.var ≤ vars) l ls high) in
    ap (λ (c : Bool). c && product_value a ls) here ∙ ap (λ (c : Bool). lit_value b l && c) rest

front-agree : (front more : List Bool) (v : ℕ) → 1 ≤ v → v ≤ length front → assigned_by (front ++ more) v ≡ assigned_by front v
front-agree front more v low high =
    assigned_by-at (front ++ more) v low ∙ get_or_append_left front more false (v - 1) (omega arith) ∙ sym (assigned_by-at front v low)

seam : (front : List Bool) (b : Bool) (more : List Bool) → assigned_by (front ++ b ∷ more) (length front + 1) ≡ b
seam front b more =
    let place : (length front + 1) - 1 ≡ length front = omega arith in
    let nought : length front - length front ≡ 0 = omega arith in
    assigned_by-at (front ++ b ∷ more) (length front + 1) (omega arith) ∙ ap (λ (i : ℕ). get_or (front ++ b ∷ more) i false) place
    ∙ get_or-append_right front (b ∷ more) (length front) (length front) false refl (omega arith) ∙ ap (λ (i : ℕ). get_or (b ∷ more) i false) nought

-- values behind others are those that an assignment has from a number on
tail-defines : (front : List Bool) (bs : List Bool) (products : List (List Lit)) (a : Assignment) → ((v : ℕ) → a v ≡ assigned_by (front ++ bs) v) → length bs ≡ length products → Defines a (length front + 1) products → bs ≡ map (product_value a) products
tail-defines front [] [] a is e h = refl
tail-defines front [] (ls ∷ products) a is e h = absurd (omega (arith, e))
tail-defines front (b ∷ bs) [] a is e h = absurd (omega (arith, e))
tail-defines front (b ∷ bs) (ls ∷ products) a is e h =
    let longer : length (front ++ b ∷ []) ≡ length front + 1 = omega (arith, length-append front (b ∷ [])) in
    let rest = tail-defines (front ++ b ∷ []) bs products a (λ v. is v ∙ ap (λ (xs : List Bool). assigned_by xs v) (sym (append_assoc front (b ∷ []) bs))) (omega (arith, e)) (subst (λ (n : ℕ). Defines a (n + 1) products) (sym longer) h.1) in
    let here : b ≡ product_value a ls = sym (seam front b bs) ∙ sym (is (length front + 1)) ∙ h.0 in
    λ i. here i ∷ rest i

defines-tail : (front : List Bool) (bs : List Bool) (products : List (List Lit)) (a : Assignment) → ((v : ℕ) → a v ≡ assigned_by (front ++ bs) v) → bs ≡ map (product_value a) products → Defines a (length front + 1) products
defines-tail front bs [] a is e = tt
defines-tail front [] (ls ∷ products) a is e = cc
defines-tail front (b ∷ bs) (ls ∷ products) a is e =
    let longer : length (front ++ b ∷ []) ≡ length front + 1 = omega (arith, length-append front (b ∷ [])) in
    let here : b ≡ product_value a ls = cc in
    let rest : bs ≡ map (product_value a) products = cc in (
      is (length front + 1) ∙ seam front b bs ∙ here,
      subst (λ (n : ℕ). Defines a (n + 1) products) longer (defines-tail (front ++ b ∷ []) bs products a (λ v. is v ∙ ap (λ (xs : List Bool). assigned_by xs v) (sym (append_assoc front (b ∷ []) bs))) rest),
    )

products-agree : (front more : List Bool) (products : List (List Lit)) → All (IsProductWithin (length front)) products → map (product_value (assigned_by (front ++ more))) products ≡ map (product_value (assigned_by front)) products
products-agree front more [] within = refl
products-agree front more (ls ∷ products) within =
    let P = IsProductWithin (length front) in
    let one = All-head P ls products within in
    let here = product-agree (assigned_by (front ++ more)) (assigned_by front) ls (length front) (front-agree front more) one.vars_from one.vars_within in
    let rest = products-agree front more products (All-tail P ls products within) in
    λ i. here i ∷ rest i

-- the widened values satisfy the constraints of the products
pub widened-defines : (p : Problem) (values : List Bool) → length values ≡ p.vars → All (IsProductWithin p.vars) p.products → Defines (assigned_by (widened p values)) (p.vars + 1) p.products
widened-defines p values covers within =
    let more = map (product_value (assigned_by values)) p.products in
    let same = products-agree values more p.products (subst (λ (n : ℕ). All (IsProductWithin n) p.products) (sym covers) within) in
    subst (λ (n : ℕ). Defines (assigned_by (widened p values)) (n + 1) p.products) covers (defines-tail values more p.products (assigned_by (widened p values)) (λ v. refl) (sym same))

-- and values that do are widened ones
pub defines-widened : (p : Problem) (front bs : List Bool) → length front ≡ p.vars → length bs ≡ length p.products → All (IsProductWithin p.vars) p.products → Defines (assigned_by (front ++ bs)) (p.vars + 1) p.products → front ++ bs ≡ widened p front
defines-widened p front bs covers many within h =
    let tail = tail-defines front bs p.products (assigned_by (front ++ bs)) (λ v. refl) many (subst (λ (n : ℕ). Defines (assigned_by (front ++ bs)) (n + 1) p.products) (sym covers) h) in
    let same = products-agree front bs p.products (subst (λ (n : ℕ). All (IsProductWithin n) p.products) (sym covers) within) in
    ap (λ (xs : List Bool). front ++ xs) (tail ∙ same)

-- ---- loops

pub length-clauses : (z : Lit) (ls : List Lit) → length (product_clauses z ls) ≡ length ls + 1
length-clauses z ls = omega (arith, length-append (map (implied z) ls) (implying z ls ∷ []), length-map ls (implied z))

pub length-product : (z : Lit) (ls : List Lit) → length (product_constraints z ls) ≡ length ls + 1
length-product z ls = length-map (product_clauses z ls) clause_form ∙ length-clauses z ls

-- the constraint at a place
pub product-at : (z : Lit) (ls : List Lit) (i : ℕ) (c : Constraint) → i ≤ length ls → c ≡ clause_form (get_or (product_clauses z ls) i []) → c ≡ get_or (product_constraints z ls) i c
product-at z ls i c le is = is ∙ sym (get_or-map clause_form (product_clauses z ls) i [] c (omega (arith, le, length-clauses z ls)))

-- one constraint more
pub product_more : (z : Lit) (ls : List Lit) (i : ℕ) (c : Constraint) → i ≤ length ls → c ≡ clause_form (get_or (product_clauses z ls) i []) → take (i + 1) (product_constraints z ls) ≡ take i (product_constraints z ls) ++ c ∷ []
product_more z ls i c le is =
    take_more (product_constraints z ls) i c (omega (arith, le, length-product z ls)) ∙ ap (λ (d : Constraint). take i (product_constraints z ls) ++ d ∷ []) (sym (product-at z ls i c le is))

pub product_pushed : (z : Lit) (ls : List Lit) (i : ℕ) (c : Constraint) (old now new : List Constraint) → i ≤ length ls → c ≡ clause_form (get_or (product_clauses z ls) i []) →
    now ≡ old ++ take i (product_constraints z ls) → new ≡ now ++ c ∷ [] → new ≡ old ++ take (i + 1) (product_constraints z ls)
product_pushed z ls i c old now new le is before adds =
    adds ∙ ap (λ (cs : List Constraint). cs ++ c ∷ []) before ∙ append_assoc old (take i (product_constraints z ls)) (c ∷ [])
    ∙ ap (λ (cs : List Constraint). old ++ cs) (sym (product_more z ls i c le is))

-- all of them
pub product_all : (z : Lit) (ls : List Lit) (i : ℕ) → length ls + 1 ≤ i → take i (product_constraints z ls) ≡ product_constraints z ls
product_all z ls i le = take_all i (product_constraints z ls) (omega (arith, le, length-product z ls))

defining-append : (v : ℕ) (xs ys : List (List Lit)) → defining v (xs ++ ys) ≡ defining v xs ++ defining (v + length xs) ys
defining-append v [] ys = ap (λ (n : ℕ). defining n ys) (omega arith)
defining-append v (x ∷ xs) ys =
    let place : (v + 1) + length xs ≡ v + length (x ∷ xs) = omega arith in
    ap (λ (cs : List Constraint). product_constraints (plain v) x ++ cs) (defining-append (v + 1) xs ys ∙ ap (λ (n : ℕ). defining (v + 1) xs ++ defining n ys) place)
    ∙ sym (append_assoc (product_constraints (plain v) x) (defining (v + 1) xs) (defining (v + length (x ∷ xs)) ys))

-- one product more
pub defining_more : (v i : ℕ) (z : Lit) (products : List (List Lit)) (ls : List Lit) → i < length products → z ≡ plain (v + i) → ls ≡ get_or products i ls → defining v (take (i + 1) products) ≡ defining v (take i products) ++ product_constraints z ls
defining_more v i z products ls inside place item =
    let front = take i products in
    let size : length front ≡ i = length-take-le i products (omega (arith, inside)) in
    let more : take (i + 1) products ≡ front ++ ls ∷ [] = take_more products i ls inside ∙ ap (λ (x : List Lit). front ++ x ∷ []) (sym item) in
    let named : plain (v + length front) ≡ z = ap (λ (k : ℕ). plain (v + k)) size ∙ sym place in
    ap (defining v) more ∙ defining-append v front (ls ∷ []) ∙ ap (λ (cs : List Constraint). defining v front ++ cs) (append-nil (product_constraints (plain (v + length front)) ls) ∙ ap (λ (y : Lit). product_constraints y ls) named)

pub defining_pushed : (v i : ℕ) (z : Lit) (products : List (List Lit)) (ls : List Lit) (old now new : List Constraint) → i < length products → z ≡ plain (v + i) → ls ≡ get_or products i ls →
    now ≡ old ++ defining v (take i products) → new ≡ now ++ product_constraints z ls → new ≡ old ++ defining v (take (i + 1) products)
defining_pushed v i z products ls old now new inside place item before adds =
    adds ∙ ap (λ (cs : List Constraint). cs ++ product_constraints z ls) before
    ∙ append_assoc old (defining v (take i products)) (product_constraints z ls)
    ∙ ap (λ (cs : List Constraint). old ++ cs) (sym (defining_more v i z products ls inside place item))
