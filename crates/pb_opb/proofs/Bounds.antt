-- A problem that a text says within the limits is one that each call may take.
use Rattle.std.proofs.Common.{option_map, unsigned_abs, ◌≡◌, ℕ, ◌≤◌, ◌<◌, ◌+◌, ◌^◌, List, [], ◌∷◌, ◌++◌, map, Bool, true, false, cond, Option, Some, None, ℤ, sym, refl, ap, ◌∙◌, subst, arith}
use Rattle.std.specs.Option.{unwrap_or}
use Rattle.std.specs.Prelude.{codes, ◌==◌, All, IfSome, MatchOption, length}
use Rattle.std.specs.List.{AllByRecursion, flat_map, list_any, position_or_len}
use Rattle.std.specs.Str.{bytes_eq}
use Rattle.std.proofs.lemmas.Bool.Decides.{nat_tests}
use Rattle.std.proofs.lemmas.List.{map-append, length-append}
use Rattle.std.proofs.lemmas.List.Elements.{All-nil, All-cons, All-head, All-tail}
use Rattle.pb_base.specs.declared.limit.LimitKind.{LimitKind}
use Rattle.pb_base.specs.declared.limit.LimitKind.TheVariants.{Statements, Terms, Weight}
use Rattle.pb_named.specs.declared.named.NamedLit.{NamedLit}
use Rattle.pb_named.specs.NamedTerms.{NamedTerm, lits_of}
use Rattle.pb_base.specs.declared.problem.Relation.TheVariants.{AtLeast, AtMost, Equal}
use Rattle.pb_named.specs.declared.named.NamedStatement.{NamedStatement}
use Rattle.pb_named.specs.declared.named.NamedProblem.{NamedProblem}
use Rattle.pb_base.specs.declared.problem.Problem.{Problem}
use Rattle.pb_base.specs.declared.problem.Raw.{Raw}
use Rattle.pb_base.specs.Firsts.{with_item, firsts_behind}
use Rattle.pb_base.specs.declared.literal.Lit.{Lit}
use Rattle.pb_base.specs.declared.literal.Term.{Term}
use Rattle.pb_named.specs.Names.{Name, named, number_of, name_of, is_name}
use Rattle.pb_named.specs.Names.Name.{index, free}
use Rattle.pb_named.specs.declared.products.Factor.{Factor}
use Rattle.pb_named.specs.declared.products.Factor.TheVariants.{Nought, Single, Product}
use Rattle.pb_named.specs.Products.{product_in, same_product}
use Rattle.pb_named.specs.NamedProblems.{Table, size, table_of, all_names, all_terms, var_of, lit_of, factor, products_in, products_of, product_lit, terms_by, terms_of, statement_of, problem_of}
use Rattle.pb_named.specs.inner.Numbering.{IsKnown, IsTermKnown, AreKnown}
use Rattle.pb_named.proofs.Appends.{all-front, all-behind}
use Rattle.pb_named.proofs.FirstsLemmas.{firsts-found}
use Rattle.pb_named.proofs.NumberLemmas.{same_product-refl, products-append}
use Rattle.pb_named.proofs.SetLemmas.{IsLitWithin, IsFactorWithin, factor-within}
use Rattle.pb_named.proofs.TableLemmas.{known-objective, known-all_statements}
use Rattle.pb_opb.specs.FirstLine.{told_vars}
use Rattle.std.proofs.lemmas.List.Sums.{sum_by-append, sum_by-cons}
use Rattle.pb_base.specs.Numbers.{integer_of}
use Rattle.pb_base.specs.Problems.{originals, magnitude, StaysBelow, IsSumWithin, IsProductWithin, IsWithinLimits}
use Rattle.pb_base.specs.Tokens.{Piece, tokens_of}
use Rattle.pb_opb.specs.Grammar.{Kind, kind_of, with_sign, named_literal, spelled, term_kinds, sum_kinds, objective_kinds, statement_kinds, text_kinds}
use Rattle.pb_opb.specs.Grammar.Kind.{minimise, literal, relation, integer, semicolon, end}
use Rattle.pb_opb.specs.Limits.{named_magnitude, literal_count, Keeps}
use Rattle.pb_opb.specs.Faults.{Symbol, symbol, kinds, symbols_of, Spells, Reads}
use Rattle.pb_opb.proofs.Reading.{piece_kinds, kinds-symbols}

-- no index is 0
abbrev IsFromOne : Name → Type 0
IsFromOne (index n) = 1 ≤ n
IsFromOne (free text) = Unit {0}

abbrev AtName : Kind → Type 0
AtName (literal l) = IsFromOne l.name
AtName _ = Unit {0}

from-one : (o : Option ℕ) (word : List ℕ) → IfSome (named o word) IsFromOne
from-one (Some n) word = by-test (n == 0) refl
  where
    by-test : (b : Bool) → (n == 0) ≡ b → IfSome (cond b None (Some (index n))) IsFromOne
    by-test true e = tt
    by-test false e = grind (arith, nat_tests)
from-one None word = by-test (is_name word)
  where
    by-test : (b : Bool) → IfSome (cond b (Some (free word)) None) IsFromOne
    by-test true = tt
    by-test false = tt

with-sign : (positive : Bool) (o : Option Name) → IfSome o IsFromOne → IfSome (option_map (with_sign positive) o) (λ l. IsFromOne l.name)
with-sign positive None h = tt
with-sign positive (Some n) h = h

named-literal : (word : List ℕ) → IfSome (named_literal word) (λ l. IsFromOne l.name)
named-literal [] = tt
named-literal (b ∷ bs) = by-test (b == 126)
  where
    by-test : (c : Bool) → IfSome (cond c (option_map (with_sign false) (name_of bs)) (option_map (with_sign true) (name_of (b ∷ bs)))) (λ (l : NamedLit). IsFromOne l.name)
    by-test true = with-sign false (name_of bs) (from-one (number_of bs) bs)
    by-test false = with-sign true (name_of (b ∷ bs)) (from-one (number_of (b ∷ bs)) (b ∷ bs))

named-spelled : (z : Option ℤ) (o : Option NamedLit) → IfSome o (λ l. IsFromOne l.name) → AtName (spelled z o)
named-spelled (Some z) o h = tt
named-spelled None (Some l) h = h
named-spelled None None h = tt

-- the kinds of words that are written out
abbrev pub is_fixed : Kind → Bool
is_fixed minimise = true
is_fixed semicolon = true
is_fixed (relation _) = true
is_fixed _ = false

kind-if : (P : Kind → Type 0) (b : Bool) (k l : Kind) → P k → P l → P (cond b k l)
kind-if P true k l h i = h
kind-if P false k l h i = i

-- what holds of each kind that a word has
pub of-kind : (P : Kind → Type 0) (word : List ℕ) → ((k : Kind) → is_fixed k ≡ true → P k) → P (spelled (integer_of word) (named_literal word)) → P (kind_of word)
of-kind P word fixed h =
    let spelling = spelled (integer_of word) (named_literal word) in
    let is = bytes_eq word in
    let after_equal = kind-if P (is (codes "=")) (relation Equal) spelling (fixed (relation Equal) refl) h in
    let after_most = kind-if P (is (codes "<=")) (relation AtMost) _ (fixed (relation AtMost) refl) after_equal in
    let after_least = kind-if P (is (codes ">=")) (relation AtLeast) _ (fixed (relation AtLeast) refl) after_most in
    let after_semicolon = kind-if P (is (codes ";")) semicolon _ (fixed semicolon refl) after_least in
    kind-if P (is (codes "min:")) minimise _ (fixed minimise refl) after_semicolon

named-fixed : (k : Kind) → is_fixed k ≡ true → AtName k
named-fixed (literal l) h = cc
named-fixed _ h = tt

named-kind : (word : List ℕ) → AtName (kind_of word)
named-kind word = of-kind AtName word named-fixed (named-spelled (integer_of word) (named_literal word) (named-literal word))

all-named : (ts : List Piece) → AllByRecursion AtName (piece_kinds ts ++ end ∷ [])
all-named [] = (tt, tt)
all-named (t ∷ ts) = (named-kind t.text, all-named ts)

pub text-kinds : (text : List ℕ) → kinds (symbols_of text) ≡ piece_kinds (tokens_of text) ++ end ∷ []
text-kinds text = map-append (λ (s : Symbol). s.kind) (map symbol (tokens_of text)) _ ∙ ap (λ (ks : List Kind). ks ++ end ∷ []) (kinds-symbols (tokens_of text))

-- ---- the variables of names

low-var : (t : Table) (n : Name) → IsFromOne n → 1 ≤ var_of t n
low-var t (index n) h = h
low-var t (free text) h = omega arith

high-var : (t : Table) (n : Name) (vars : ℕ) → size t ≤ vars → IsKnown t n → var_of t n ≤ vars
high-var t (index n) vars some known = omega (arith, known)
high-var t (free text) vars some known = omega (arith, known)

-- ---- the literals of a term, and what they come to

lits-from : (ls : List NamedLit) → AllByRecursion AtName (map literal ls) → AllByRecursion (λ l. IsFromOne l.name) ls
lits-from [] h = tt
lits-from (l ∷ ls) h = (h.0, lits-from ls h.1)

lits-within : (t : Table) (ls : List NamedLit) → AllByRecursion (λ l. IsFromOne l.name) ls → All (λ l. IsKnown t l.name) ls → AllByRecursion (IsLitWithin (size t)) (map (lit_of t) ls)
lits-within t [] from known = tt
lits-within t (l ∷ ls) from known =
    let K = λ (m : NamedLit). IsKnown t m.name in
    let some : size t ≤ size t = omega arith in
    ((low-var t l.name from.0, high-var t l.name (size t) some (All-head K l ls known)), lits-within t ls from.1 (All-tail K l ls known))

same-length : {X Y : Type 0} (f : X → Y) (xs : List X) → length (map f xs) ≡ length xs
same-length f [] = refl
same-length f (x ∷ xs) = omega (arith, same-length f xs)

-- a term that is written within the limits
pub record IsTermWithin (t : Table) (n : NamedTerm) : Type 0 where
  pub from : AllByRecursion AtName (term_kinds n)
  pub known : IsTermKnown t n
  pub short : length (lits_of n) ≤ 2 ^ 20

term-factor : (t : Table) (n : NamedTerm) → IsTermWithin t n → IsFactorWithin (size t) (factor t n)
term-factor t n h =
    let from = lits-from (lits_of n) h.from.1 in
    let some : size t ≤ size t = omega arith in
    let first : IsLitWithin (size t) (lit_of t n.lit) = (low-var t n.lit.name from.0, high-var t n.lit.name (size t) some h.known.0) in
    factor-within (size t) (lit_of t n.lit) (map (lit_of t) n.more) (first, lits-within t n.more from.1 h.known.1) (omega (arith, h.short, same-length (lit_of t) n.more))

-- ---- terms in numbers

abbrev IsFound : List (List Lit) → List Lit → Type 0
IsFound products ls = position_or_len (same_product ls) products < length products

all-append : {A : Type 0} (P : A → Type 0) (xs ys : List A) → AllByRecursion P xs → AllByRecursion P ys → AllByRecursion P (xs ++ ys)
all-append P [] ys h i = i
all-append P (x ∷ xs) ys h i = (h.0, all-append P xs ys h.1 i)

abbrev IsVarWithin : ℕ → Term → Type 0
IsVarWithin vars u = IsLitWithin vars u.lit

module _ (t : Table) (products : List (List Lit)) where
  -- how many variables there are
  abbrev vars : ℕ
  vars = size t + length products

  by-vars : (coef : ℤ) (f : Factor) → IsFactorWithin (size t) f → AllByRecursion (IsFound products) (product_in f) → AllByRecursion (IsVarWithin vars) (terms_by t products coef f)
  by-vars coef Nought within found = tt
  by-vars coef (Single l) within found = ((within.0, (let high = within.1 in omega arith)), tt)
  by-vars coef (Product ls) within found = (((omega arith), (let place = found.0 in omega arith)), tt)

  by-count : (coef : ℤ) (f : Factor) → length (terms_by t products coef f) ≤ 1
  by-count coef Nought = omega arith
  by-count coef (Single l) = omega arith
  by-count coef (Product ls) = omega arith

  by-magnitude : (coef : ℤ) (f : Factor) → magnitude (terms_by t products coef f) ≤ unsigned_abs coef
  by-magnitude coef Nought = omega arith
  by-magnitude coef (Single l) = omega (arith, sum_by-cons (λ (u : Term). unsigned_abs u.coef) (record { coef = coef; lit = l }) [])
  by-magnitude coef (Product ls) = omega (arith, sum_by-cons (λ (u : Term). unsigned_abs u.coef) (record { coef = coef; lit = product_lit t products ls }) [])

  terms-vars : (ns : List NamedTerm) → AllByRecursion (IsTermWithin t) ns → AllByRecursion (IsFound products) (products_in t ns) → AllByRecursion (IsVarWithin vars) (terms_of t products ns)
  terms-vars [] within found = tt
  terms-vars (n ∷ ns) within found =
      all-append (IsVarWithin vars) (terms_by t products n.coef (factor t n)) (terms_of t products ns)
      (by-vars n.coef (factor t n) (term-factor t n within.0) (all-front (IsFound products) (product_in (factor t n)) (products_in t ns) found))
      (terms-vars ns within.1 (all-behind (IsFound products) (product_in (factor t n)) (products_in t ns) found))

  terms-count : (ns : List NamedTerm) → length (terms_of t products ns) ≤ literal_count ns
  terms-count [] = omega arith
  terms-count (n ∷ ns) =
      omega (arith, length-append (terms_by t products n.coef (factor t n)) (terms_of t products ns), by-count n.coef (factor t n), terms-count ns, sum_by-cons (λ (m : NamedTerm). length (lits_of m)) n ns)

  terms-magnitude : (ns : List NamedTerm) → magnitude (terms_of t products ns) ≤ named_magnitude ns
  terms-magnitude [] = omega arith
  terms-magnitude (n ∷ ns) =
      omega (arith, sum_by-append (λ (u : Term). unsigned_abs u.coef) (terms_by t products n.coef (factor t n)) (terms_of t products ns), by-magnitude n.coef (factor t n), terms-magnitude ns, sum_by-cons (λ (m : NamedTerm). unsigned_abs m.coef) n ns)

  lows : (us : List Term) → AllByRecursion (IsVarWithin vars) us → All (λ u. 1 ≤ u.lit.var) us
  lows [] h = All-nil (λ (u : Term). 1 ≤ u.lit.var)
  lows (u ∷ us) h = All-cons (λ (v : Term). 1 ≤ v.lit.var) u us h.0.0 (lows us h.1)

  highs : (us : List Term) → AllByRecursion (IsVarWithin vars) us → All (λ u. u.lit.var ≤ vars) us
  highs [] h = All-nil (λ (u : Term). u.lit.var ≤ vars)
  highs (u ∷ us) h = All-cons (λ (v : Term). v.lit.var ≤ vars) u us h.0.1 (highs us h.1)

  sum-within : (ns : List NamedTerm) → AllByRecursion (IsTermWithin t) ns → AllByRecursion (IsFound products) (products_in t ns) → literal_count ns ≤ 2 ^ 20 → IsSumWithin vars (terms_of t products ns)
  sum-within ns within found short =
      let all = terms-vars ns within found in
      record { vars_from = lows (terms_of t products ns) all; vars_within = highs (terms_of t products ns) all; count = omega (arith, short, terms-count ns) }

  statements-within : (ss : List NamedStatement) → AllByRecursion (IsTermWithin t) (flat_map (λ s. s.terms) ss) → AllByRecursion (IsFound products) (products_in t (flat_map (λ s. s.terms) ss)) → AllByRecursion (λ s. literal_count s.terms ≤ 2 ^ 20) ss →
      All (λ s. IsSumWithin vars s.terms) (map (statement_of t products) ss)
  statements-within [] within found short = All-nil (λ (s : Raw). IsSumWithin vars s.terms)
  statements-within (s ∷ ss) within found short =
      let behind = flat_map (λ (r : NamedStatement). r.terms) ss in
      let split = subst (AllByRecursion (IsFound products)) (products-append t s.terms behind) found in
      All-cons (λ (r : Raw). IsSumWithin vars r.terms) (statement_of t products s) (map (statement_of t products) ss)
      (sum-within s.terms (all-front (IsTermWithin t) s.terms behind within) (all-front (IsFound products) (products_in t s.terms) (products_in t behind) split) short.0)
      (statements-within ss (all-behind (IsTermWithin t) s.terms behind within) (all-behind (IsFound products) (products_in t s.terms) (products_in t behind) split) short.1)

  numbers-within : (ss : List NamedStatement) → AllByRecursion (λ s. named_magnitude s.terms + unsigned_abs s.right < 2 ^ 100) ss → All (StaysBelow (2 ^ 100)) (map (statement_of t products) ss)
  numbers-within [] light = All-nil (StaysBelow (2 ^ 100))
  numbers-within (s ∷ ss) light =
      let here = light.0 in
      All-cons (StaysBelow (2 ^ 100)) (statement_of t products s) (map (statement_of t products) ss) (omega (arith, here, terms-magnitude s.terms)) (numbers-within ss light.1)

  objective-within : (o : Option (List NamedTerm)) → AllByRecursion (IsTermWithin t) (unwrap_or o []) → AllByRecursion (IsFound products) (products_in t (unwrap_or o [])) → IfSome o (λ ts. literal_count ts ≤ 2 ^ 20) → IfSome o (λ ts. named_magnitude ts + 0 < 2 ^ 100) →
      MatchOption (option_map (terms_of t products) o) (Unit {0}) (λ ts. IsSumWithin vars ts × (magnitude ts < 2 ^ 100))
  objective-within None within found short light = tt
  objective-within (Some ns) within found short light = (sum-within ns within found short, omega (arith, light, terms-magnitude ns))

-- ---- products

abbrev IsProduct : Table → List Lit → Type 0
IsProduct t ls = IsProductWithin (size t) ls

with-all : (P : List Lit → Type 0) (seen : List (List Lit)) (ls : List Lit) → AllByRecursion P seen → P ls → AllByRecursion P (with_item same_product seen ls)
with-all P seen ls all here = by-test (list_any (same_product ls) seen)
  where
    by-test : (b : Bool) → AllByRecursion P (cond b seen (seen ++ ls ∷ []))
    by-test true = all
    by-test false = all-append P seen (ls ∷ []) all (here, tt)

firsts-all : (P : List Lit → Type 0) (seen xs : List (List Lit)) → AllByRecursion P seen → AllByRecursion P xs → AllByRecursion P (firsts_behind same_product seen xs)
firsts-all P seen [] all more = all
firsts-all P seen (x ∷ xs) all more = firsts-all P (with_item same_product seen x) xs (with-all P seen x all more.0) more.1

by-product : (t : Table) (f : Factor) → IsFactorWithin (size t) f → AllByRecursion (IsProduct t) (product_in f)
by-product t Nought within = tt
by-product t (Single l) within = tt
by-product t (Product ls) within = (within, tt)

products-within : (t : Table) (ns : List NamedTerm) → AllByRecursion (IsTermWithin t) ns → AllByRecursion (IsProduct t) (products_in t ns)
products-within t [] within = tt
products-within t (n ∷ ns) within = all-append (IsProduct t) (product_in (factor t n)) (products_in t ns) (by-product t (factor t n) (term-factor t n within.0)) (products-within t ns within.1)

to-all : (P : List Lit → Type 0) (xs : List (List Lit)) → AllByRecursion P xs → All P xs
to-all P [] h = All-nil P
to-all P (x ∷ xs) h = All-cons P x xs h.0 (to-all P xs h.1)

-- ---- what is written

terms-within : (t : Table) (ns : List NamedTerm) → AllByRecursion AtName (sum_kinds ns) → AreKnown t ns → literal_count ns ≤ 2 ^ 20 → AllByRecursion (IsTermWithin t) ns
terms-within t [] from known short = tt
terms-within t (n ∷ ns) from known short =
    let count = sum_by-cons (λ (m : NamedTerm). length (lits_of m)) n ns in (
      record { from = all-front AtName (term_kinds n) (sum_kinds ns) from; known = All-head (IsTermKnown t) n ns known; short = omega arith },
      terms-within t ns (all-behind AtName (term_kinds n) (sum_kinds ns) from) (All-tail (IsTermKnown t) n ns known) (omega arith),
    )

all-terms-within : (t : Table) (ss : List NamedStatement) → AllByRecursion AtName (flat_map statement_kinds ss) → All (λ s. AreKnown t s.terms) ss → AllByRecursion (λ s. literal_count s.terms ≤ 2 ^ 20) ss → AllByRecursion (IsTermWithin t) (flat_map (λ s. s.terms) ss)
all-terms-within t [] from known short = tt
all-terms-within t (s ∷ ss) from known short =
    let K = λ (r : NamedStatement). AreKnown t r.terms in
    let tail = relation s.relation ∷ integer s.right ∷ semicolon ∷ [] in
    all-append (IsTermWithin t) s.terms (flat_map (λ (r : NamedStatement). r.terms) ss)
    (terms-within t s.terms (all-front AtName (sum_kinds s.terms) tail (all-front AtName (statement_kinds s) (flat_map statement_kinds ss) from)) (All-head K s ss known) short.0)
    (all-terms-within t ss (all-behind AtName (statement_kinds s) (flat_map statement_kinds ss) from) (All-tail K s ss known) short.1)

objective-terms-within : (t : Table) (o : Option (List NamedTerm)) → AllByRecursion AtName (objective_kinds o) → AreKnown t (unwrap_or o []) → IfSome o (λ ts. literal_count ts ≤ 2 ^ 20) → AllByRecursion (IsTermWithin t) (unwrap_or o [])
objective-terms-within t None from known short = tt
objective-terms-within t (Some ns) from known short = terms-within t ns (all-front AtName (sum_kinds ns) (semicolon ∷ []) from.1) known short

written-within : (text : List ℕ) (told : ℕ) (w : NamedProblem) → Spells text w → ((which : LimitKind) → Keeps which w) → originals (problem_of told w) < 2 ^ 31 → IsWithinLimits (problem_of told w)
written-within text told w spells keeps few =
    let t = table_of told (all_names w) in
    let products = products_of t w in
    let statements = flat_map (λ (s : NamedStatement). s.terms) w.statements in
    let from : AllByRecursion AtName (text_kinds w) = subst (AllByRecursion AtName) (sym (text-kinds text) ∙ spells) (all-named (tokens_of text)) in
    let begin = all-front AtName (objective_kinds w.objective ++ flat_map statement_kinds w.statements) (end ∷ []) from in
    let first = objective-terms-within t w.objective (all-front AtName (objective_kinds w.objective) (flat_map statement_kinds w.statements) begin) (known-objective told w t refl) (keeps Terms).objective in
    let rest = all-terms-within t w.statements (all-behind AtName (objective_kinds w.objective) (flat_map statement_kinds w.statements) begin) (known-all_statements told w t refl) (keeps Terms).statements in
    let found = subst (AllByRecursion (IsFound products)) (products-append t (unwrap_or w.objective []) statements) (firsts-found same_product same_product-refl [] (products_in t (all_terms w))) in
    let count = (keeps Statements).count in
    record {
      vars = few;
      named = refl;
      products = to-all (IsProduct t) products (firsts-all (IsProduct t) [] (products_in t (all_terms w)) tt (products-within t (all_terms w) (all-append (IsTermWithin t) (unwrap_or w.objective []) statements first rest)));
      count = omega (arith, count, same-length (statement_of t products) w.statements);
      sums = statements-within t products w.statements rest (all-behind (IsFound products) (products_in t (unwrap_or w.objective [])) (products_in t statements) found) (keeps Terms).statements;
      numbers = numbers-within t products w.statements (keeps Weight).statements;
      objective = objective-within t products w.objective first (all-front (IsFound products) (products_in t (unwrap_or w.objective [])) (products_in t statements) found) (keeps Terms).objective (keeps Weight).objective;
    }

pub reads-within : (text : List ℕ) (p : Problem) → Reads text p → IsWithinLimits p
reads-within text p reads =
    subst IsWithinLimits (sym reads.says.means)
    (written-within text (told_vars text) reads.says.written reads.says.spells reads.keeps (subst (λ (q : Problem). originals q < 2 ^ 31) reads.says.means reads.few))
