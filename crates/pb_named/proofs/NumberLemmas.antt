-- Terms in numbers, while the products are still noted: what was numbered stays so.
use Rattle.std.proofs.Common.{◌≡◌, ℕ, ◌+◌, ◌<◌, List, [], ◌∷◌, ◌++◌, map, length, take, drop, get_or, Option, Some, None, ℤ, true, arith, refl, ap, sym, ◌∙◌, subst, append_assoc, option_map}
use Rattle.std.specs.Option.{unwrap_or}
use Rattle.std.specs.Prelude.{Result, Ok, Err, OnOk}
use Rattle.std.specs.List.{flat_map, position_or_len, AllByRecursion}
use Rattle.std.proofs.lemmas.List.{map-append, take_more, flat_map_more}
use Rattle.pb_base.proofs.LiteralLemmas.{is_same-refl}
use Rattle.pb_base.specs.Firsts.{firsts_behind}
use Rattle.pb_base.specs.declared.literal.Lit.{Lit}
use Rattle.pb_base.specs.declared.literal.Term.{Term}
use Rattle.pb_base.specs.declared.problem.Raw.{Raw}
use Rattle.pb_named.specs.declared.named.NamedLit.{NamedLit}
use Rattle.pb_named.specs.declared.named.NamedStatement.{NamedStatement}
use Rattle.pb_named.specs.declared.named.NamedProblem.{NamedProblem}
use Rattle.pb_named.specs.declared.products.Factor.{Factor}
use Rattle.pb_named.specs.declared.products.Factor.TheVariants.{Nought, Single, Product}
use Rattle.pb_named.specs.NamedTerms.{NamedTerm}
use Rattle.pb_named.specs.Products.{product_in, same_product}
use Rattle.pb_named.specs.NamedProblems.{Table, size, lit_of, factor, products_in, products_of, terms_by, terms_of, statement_of, names_of}
use Rattle.pb_named.specs.inner.Numbering.{place_in, Gives, IsFew, IsOver}
use Rattle.pb_named.proofs.Appends.{all-front, all-behind}
use Rattle.pb_named.proofs.FirstsLemmas.{firsts-append, firsts-longer, firsts-place, firsts-found}
use Rattle.pb_named.proofs.Taking.{flat_map-append, cut-at, gives-push}

pub same_product-refl : (ls : List Lit) → same_product ls ls ≡ true
same_product-refl [] = refl
same_product-refl (l ∷ ls) = grind (arith, is_same-refl l, same_product-refl ls)

-- the products with more noted
abbrev pub noting : List (List Lit) → List (List Lit) → List (List Lit)
noting seen more = firsts_behind same_product seen more

abbrev IsFound : List (List Lit) → List Lit → Type 0
IsFound products ls = position_or_len (same_product ls) products < length products

by-stays : (t : Table) (products more : List (List Lit)) (coef : ℤ) (f : Factor) → AllByRecursion (IsFound products) (product_in f) → terms_by t products coef f ≡ terms_by t (noting products more) coef f
by-stays t products more coef Nought found = refl
by-stays t products more coef (Single l) found = refl
by-stays t products more coef (Product ls) found =
    let place = firsts-place same_product products more ls found.0 in
    λ i. record { coef = coef; lit = record { var = size t + 1 + sym place i; positive = true } } ∷ []

terms-stay : (t : Table) (products more : List (List Lit)) (ns : List NamedTerm) → AllByRecursion (IsFound products) (products_in t ns) → terms_of t products ns ≡ terms_of t (noting products more) ns
terms-stay t products more [] found = refl
terms-stay t products more (n ∷ ns) found =
    let here = by-stays t products more n.coef (factor t n) (all-front (IsFound products) (product_in (factor t n)) (products_in t ns) found) in
    let rest = terms-stay t products more ns (all-behind (IsFound products) (product_in (factor t n)) (products_in t ns) found) in
    λ i. here i ++ rest i

-- terms whose products were noted, however many more are
pub noted-stay : (t : Table) (seen more : List (List Lit)) (ns : List NamedTerm) → terms_of t (noting seen (products_in t ns)) ns ≡ terms_of t (noting (noting seen (products_in t ns)) more) ns
noted-stay t seen more ns = terms-stay t (noting seen (products_in t ns)) more ns (firsts-found same_product same_product-refl seen (products_in t ns))

statement-stays : (t : Table) (products more : List (List Lit)) (s : NamedStatement) → AllByRecursion (IsFound products) (products_in t s.terms) → statement_of t products s ≡ statement_of t (noting products more) s
statement-stays t products more s found = let same = terms-stay t products more s.terms found in λ i. record { terms = same i; relation = s.relation; right = s.right }

abbrev terms_in : List NamedStatement → List NamedTerm
terms_in ss = flat_map (λ s. s.terms) ss

statements-stay : (t : Table) (products more : List (List Lit)) (ss : List NamedStatement) → AllByRecursion (IsFound products) (products_in t (terms_in ss)) → map (statement_of t products) ss ≡ map (statement_of t (noting products more)) ss
statements-stay t products more [] found = refl
statements-stay t products more (s ∷ ss) found =
    let split = subst (AllByRecursion (IsFound products)) (flat_map-append (λ (n : NamedTerm). product_in (factor t n)) s.terms (terms_in ss)) found in
    let here = statement-stays t products more s (all-front (IsFound products) (products_in t s.terms) (products_in t (terms_in ss)) split) in
    let rest = statements-stay t products more ss (all-behind (IsFound products) (products_in t s.terms) (products_in t (terms_in ss)) split) in
    λ i. here i ∷ rest i

-- ---- the literals of a term

-- one literal more
pub lits-more : (t : Table) (front list more : List Lit) (xs : List NamedLit) (i : ℕ) (x : NamedLit) (l : Lit) → i < length xs → x ≡ get_or xs i x → list ≡ front ++ map (lit_of t) (take i xs) → l ≡ lit_of t x → more ≡ list ++ l ∷ [] → more ≡ front ++ map (lit_of t) (take (i + 1) xs)
lits-more t front list more xs i x l inside item before is pushed =
    let taken : take (i + 1) xs ≡ take i xs ++ x ∷ [] = take_more xs i x inside ∙ ap (λ (y : NamedLit). take i xs ++ y ∷ []) (sym item) in
    pushed ∙ (λ j. before j ++ is j ∷ []) ∙ append_assoc front (map (lit_of t) (take i xs)) (lit_of t x ∷ [])
    ∙ ap (λ (ls : List Lit). front ++ ls) (sym (map-append (lit_of t) (take i xs) (x ∷ [])) ∙ ap (map (lit_of t)) (sym taken))

pub when-ok : {X E : Type 0} {P : Type 0} (r : Result X E) → P → OnOk r P
when-ok (Ok x) p = p
when-ok (Err e) p = tt

-- ---- sums

-- these terms were numbered, from these products and places on
pub record Numbers (t : Table) (seen : List (List Lit)) (ks : List ℕ) (ns : List NamedTerm) (products : List (List Lit)) (places : List ℕ) (list : List Term) : Type 0 where
  pub gives : Gives (place_in t) ks (names_of ns) places
  pub noted : products ≡ noting seen (products_in t ns)
  pub terms : list ≡ terms_of t products ns
  pub few : IsFew t products

products-push : (t : Table) (ns : List NamedTerm) (n : NamedTerm) → products_in t (ns ++ n ∷ []) ≡ products_in t ns ++ product_in (factor t n)
products-push t ns n = sym (flat_map_more (λ (m : NamedTerm). product_in (factor t m)) [] ns n)

noted-push : (t : Table) (seen : List (List Lit)) (ns : List NamedTerm) (n : NamedTerm) → noting (noting seen (products_in t ns)) (product_in (factor t n)) ≡ noting seen (products_in t (ns ++ n ∷ []))
noted-push t seen ns n = sym (firsts-append same_product seen (products_in t ns) (product_in (factor t n))) ∙ ap (noting seen) (sym (products-push t ns n))

terms-push : (t : Table) (products : List (List Lit)) (ns : List NamedTerm) (n : NamedTerm) → terms_of t products ns ++ terms_by t products n.coef (factor t n) ≡ terms_of t products (ns ++ n ∷ [])
terms-push t products ns n = flat_map_more (λ (m : NamedTerm). terms_by t products m.coef (factor t m)) [] ns n

-- one term more
pub numbers-more : (t : Table) (seen : List (List Lit)) (ks : List ℕ) (ns : List NamedTerm) (n : NamedTerm) (products later : List (List Lit)) (places rest : List ℕ) (list more : List Term) →
    Numbers t seen ks ns products places list → Gives (place_in t) ks (names_of (ns ++ n ∷ [])) rest → later ≡ noting products (product_in (factor t n)) → more ≡ list ++ terms_by t (noting products (product_in (factor t n))) n.coef (factor t n) → IsFew t later →
    Numbers t seen ks (ns ++ n ∷ []) later rest more
numbers-more t seen ks ns n products later places rest list more before gives noted terms few =
    let own = product_in (factor t n) in
    let later_is : later ≡ noting seen (products_in t (ns ++ n ∷ [])) = noted ∙ ap (λ (ps : List (List Lit)). noting ps own) before.noted ∙ noted-push t seen ns n in
    let old : list ≡ terms_of t (noting products own) ns =
    before.terms ∙ ap (λ (ps : List (List Lit)). terms_of t ps ns) before.noted ∙ noted-stay t seen own ns ∙ ap (λ (ps : List (List Lit)). terms_of t (noting ps own) ns) (sym before.noted) in
    record {
      gives = gives;
      noted = later_is;
      terms = terms ∙ ap (λ (ts : List Term). ts ++ terms_by t (noting products own) n.coef (factor t n)) old ∙ terms-push t (noting products own) ns n ∙ ap (λ (ps : List (List Lit)). terms_of t ps (ns ++ n ∷ [])) (sym noted);
      few = few;
    }

pub numbers-item : (t : Table) (seen : List (List Lit)) (ks : List ℕ) (ns : List NamedTerm) (i : ℕ) (n : NamedTerm) (products later : List (List Lit)) (places rest : List ℕ) (list more : List Term) → i < length ns → n ≡ get_or ns i n →
    Numbers t seen ks (take i ns) products places list → Gives (place_in t) ks (names_of (take i ns ++ n ∷ [])) rest → later ≡ noting products (product_in (factor t n)) → more ≡ list ++ terms_by t (noting products (product_in (factor t n))) n.coef (factor t n) → IsFew t later →
    Numbers t seen ks (take (i + 1) ns) later rest more
numbers-item t seen ks ns i n products later places rest list more inside is before gives noted terms few =
    subst (λ (ms : List NamedTerm). Numbers t seen ks ms later rest more) (sym (take_more ns i n inside ∙ ap (λ (m : NamedTerm). take i ns ++ m ∷ []) (sym is)))
    (numbers-more t seen ks (take i ns) n products later places rest list more before gives noted terms few)

-- where there are too many products, there are with more terms
pub over-more : (t : Table) (products more : List (List Lit)) → IsOver t products → IsOver t (noting products more)
over-more t products more over = omega (arith, over, firsts-longer same_product products more)

pub over-item : (t : Table) (seen : List (List Lit)) (ns : List NamedTerm) (i : ℕ) (n : NamedTerm) (products : List (List Lit)) → i < length ns → n ≡ get_or ns i n → products ≡ noting seen (products_in t (take i ns)) →
    IsOver t (noting products (product_in (factor t n))) → IsOver t (noting seen (products_in t ns))
over-item t seen ns i n products inside is noted over =
    let own = product_in (factor t n) in
    let behind = products_in t (drop (i + 1) ns) in
    let split : products_in t ns ≡ products_in t (take i ns) ++ (own ++ behind) =
    ap (products_in t) (cut-at ns i n inside is) ∙ flat_map-append (λ (m : NamedTerm). product_in (factor t m)) (take i ns) (n ∷ drop (i + 1) ns) in
    subst (IsOver t)
    (ap (λ (ps : List (List Lit)). noting (noting ps own) behind) noted ∙ sym (firsts-append same_product (noting seen (products_in t (take i ns))) own behind) ∙ sym (firsts-append same_product seen (products_in t (take i ns)) (own ++ behind)) ∙ ap (noting seen) (sym split))
    (over-more t (noting products own) behind over)

-- ---- statements

pub record NumbersAll (t : Table) (seen : List (List Lit)) (ks : List ℕ) (ss : List NamedStatement) (products : List (List Lit)) (places : List ℕ) (list : List Raw) : Type 0 where
  pub gives : Gives (place_in t) ks (flat_map (λ s. names_of s.terms) ss) places
  pub noted : products ≡ noting seen (products_in t (terms_in ss))
  pub statements : list ≡ map (statement_of t products) ss
  pub few : IsFew t products

terms_in-push : (ss : List NamedStatement) (s : NamedStatement) → terms_in (ss ++ s ∷ []) ≡ terms_in ss ++ s.terms
terms_in-push ss s = sym (flat_map_more (λ (r : NamedStatement). r.terms) [] ss s)

pub products-append : (t : Table) (ns more : List NamedTerm) → products_in t (ns ++ more) ≡ products_in t ns ++ products_in t more
products-append t ns more = flat_map-append (λ (m : NamedTerm). product_in (factor t m)) ns more

noted-statement : (t : Table) (seen : List (List Lit)) (ss : List NamedStatement) (s : NamedStatement) → noting (noting seen (products_in t (terms_in ss))) (products_in t s.terms) ≡ noting seen (products_in t (terms_in (ss ++ s ∷ [])))
noted-statement t seen ss s =
    sym (firsts-append same_product seen (products_in t (terms_in ss)) (products_in t s.terms)) ∙ ap (noting seen) (sym (products-append t (terms_in ss) s.terms)) ∙ ap (λ (ns : List NamedTerm). noting seen (products_in t ns)) (sym (terms_in-push ss s))

-- one statement more
pub numbers-statement : (t : Table) (seen : List (List Lit)) (ks : List ℕ) (ss : List NamedStatement) (s : NamedStatement) (products later : List (List Lit)) (places rest : List ℕ) (list more : List Raw) (terms : List Term) →
    NumbersAll t seen ks ss products places list → Gives (place_in t) places (names_of s.terms) rest → later ≡ noting products (products_in t s.terms) → terms ≡ terms_of t (noting products (products_in t s.terms)) s.terms → more ≡ list ++ record { terms = terms; relation = s.relation; right = s.right } ∷ [] → IsFew t later →
    NumbersAll t seen ks (ss ++ s ∷ []) later rest more
numbers-statement t seen ks ss s products later places rest list more terms before gives noted terms_is pushed few =
    let own = products_in t s.terms in
    let old : list ≡ map (statement_of t (noting products own)) ss =
    before.statements ∙ ap (λ (ps : List (List Lit)). map (statement_of t ps) ss) before.noted
    ∙ statements-stay t (noting seen (products_in t (terms_in ss))) own ss (firsts-found same_product same_product-refl seen (products_in t (terms_in ss)))
    ∙ ap (λ (ps : List (List Lit)). map (statement_of t (noting ps own)) ss) (sym before.noted) in
    record {
      gives = gives-push (place_in t) (λ (r : NamedStatement). names_of r.terms) ks places rest ss s before.gives gives;
      noted = noted ∙ ap (λ (ps : List (List Lit)). noting ps own) before.noted ∙ noted-statement t seen ss s;
      statements = pushed
          ∙ (λ i. old i ++ record { terms = terms_is i; relation = s.relation; right = s.right } ∷ [])
          ∙ sym (map-append (statement_of t (noting products own)) ss (s ∷ []))
          ∙ ap (λ (ps : List (List Lit)). map (statement_of t ps) (ss ++ s ∷ [])) (sym noted);
      few = few;
    }

pub over-statement : (t : Table) (seen : List (List Lit)) (all before behind : List NamedStatement) (s : NamedStatement) (products : List (List Lit)) → before ++ s ∷ behind ≡ all → products ≡ noting seen (products_in t (terms_in before)) →
    IsOver t (noting products (products_in t s.terms)) → IsOver t (noting seen (products_in t (terms_in all)))
over-statement t seen all before behind s products whole noted over =
    let own = products_in t s.terms in
    let rest = products_in t (terms_in behind) in
    let split : products_in t (terms_in all) ≡ products_in t (terms_in before) ++ (own ++ rest) =
    ap (λ (ss : List NamedStatement). products_in t (terms_in ss)) (sym whole) ∙ ap (products_in t) (flat_map-append (λ (r : NamedStatement). r.terms) before (s ∷ behind)) ∙ products-append t (terms_in before) (s.terms ++ terms_in behind)
    ∙ ap (λ (ps : List (List Lit)). products_in t (terms_in before) ++ ps) (products-append t s.terms (terms_in behind)) in
    subst (IsOver t)
    (ap (λ (ps : List (List Lit)). noting (noting ps own) rest) noted ∙ sym (firsts-append same_product (noting seen (products_in t (terms_in before))) own rest) ∙ sym (firsts-append same_product seen (products_in t (terms_in before)) (own ++ rest)) ∙ ap (noting seen) (sym split))
    (over-more t (noting products own) rest over)

-- the statements in front of those that are left were numbered
pub record NumbersFront (t : Table) (seen : List (List Lit)) (ks : List ℕ) (all left : List NamedStatement) (products : List (List Lit)) (places : List ℕ) (list : List Raw) : Type 0 where
  pub front : List NamedStatement
  pub whole : front ++ left ≡ all
  pub numbers : NumbersAll t seen ks front products places list

-- ---- the whole

-- the products of a problem: the objective's, and then those of the statements
pub products_of-is : (t : Table) (p : NamedProblem) → noting (noting [] (products_in t (unwrap_or p.objective []))) (products_in t (terms_in p.statements)) ≡ products_of t p
products_of-is t p =
    sym (firsts-append same_product [] (products_in t (unwrap_or p.objective [])) (products_in t (terms_in p.statements))) ∙ ap (noting []) (sym (products-append t (unwrap_or p.objective []) (terms_in p.statements)))

pub objective-stays : (t : Table) (more : List (List Lit)) (o : Option (List NamedTerm)) → option_map (terms_of t (noting [] (products_in t (unwrap_or o [])))) o ≡ option_map (terms_of t (noting (noting [] (products_in t (unwrap_or o []))) more)) o
objective-stays t more None = refl
objective-stays t more (Some ns) = ap Some (noted-stay t [] more ns)

-- what was numbered from no product on is by the products of the problem
pub made-by_table : (t : Table) (p : NamedProblem) (none first all : List (List Lit)) (o : Option (List Term)) (ss : List Raw) → none ≡ [] → first ≡ noting none (products_in t (unwrap_or p.objective [])) → all ≡ noting first (products_in t (terms_in p.statements)) →
    o ≡ option_map (terms_of t (noting none (products_in t (unwrap_or p.objective [])))) p.objective → ss ≡ map (statement_of t (noting first (products_in t (terms_in p.statements)))) p.statements →
    (all ≡ products_of t p) × (o ≡ option_map (terms_of t (products_of t p)) p.objective) × (ss ≡ map (statement_of t (products_of t p)) p.statements)
made-by_table t p none first all o ss empty noted noted_all objective statements =
    let os = products_in t (unwrap_or p.objective []) in
    let rest = products_in t (terms_in p.statements) in
    let first_is : first ≡ noting [] os = noted ∙ ap (λ (ps : List (List Lit)). noting ps os) empty in
    let all_is : noting first rest ≡ products_of t p = ap (λ (ps : List (List Lit)). noting ps rest) first_is ∙ products_of-is t p in (
      noted_all ∙ all_is,
      objective ∙ ap (λ (ps : List (List Lit)). option_map (terms_of t (noting ps os)) p.objective) empty ∙ objective-stays t rest p.objective ∙ ap (λ (ps : List (List Lit)). option_map (terms_of t ps) p.objective) (products_of-is t p),
      statements ∙ ap (λ (ps : List (List Lit)). map (statement_of t ps) p.statements) all_is,
    )

-- too many products of the objective, or of all terms
pub over-objective : (t : Table) (p : NamedProblem) (none : List (List Lit)) → none ≡ [] → IsOver t (noting none (products_in t (unwrap_or p.objective []))) → IsOver t (products_of t p)
over-objective t p none empty over =
    subst (IsOver t) (products_of-is t p)
    (over-more t (noting [] (products_in t (unwrap_or p.objective []))) (products_in t (terms_in p.statements)) (subst (λ (ps : List (List Lit)). IsOver t (noting ps (products_in t (unwrap_or p.objective [])))) empty over))

pub over-all : (t : Table) (p : NamedProblem) (none first : List (List Lit)) → none ≡ [] → first ≡ noting none (products_in t (unwrap_or p.objective [])) → IsOver t (noting first (products_in t (terms_in p.statements))) → IsOver t (products_of t p)
over-all t p none first empty noted over =
    subst (IsOver t) (ap (λ (ps : List (List Lit)). noting ps (products_in t (terms_in p.statements))) (noted ∙ ap (λ (ps : List (List Lit)). noting ps (products_in t (unwrap_or p.objective []))) empty) ∙ products_of-is t p) over
