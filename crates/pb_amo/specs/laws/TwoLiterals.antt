-- Clauses of two literals that follow by propagation from one constraint.
use Rattle.std.proofs.Common.{◌≡◌, ◌≢◌, ◌<◌, ◌≤◌, ◌-◌, ◌||◌, ℕ, Bool, false, cond, List, [], ◌∷◌, length, refl, ap, sym, arith, get_or}
use Rattle.std.specs.Prelude.{map, sum_by}
use Rattle.std.proofs.lemmas.Bool.{or_from}
use Rattle.std.proofs.lemmas.List.Elements.{All-cons, All-nil, All-head, All-tail}
use Rattle.pb_base.specs.declared.literal.Lit.{Lit}
use Rattle.pb_base.specs.Literals.{Assignment, negated, lit_value, is_same}
use Rattle.pb_base.proofs.LiteralLemmas.{is_same-negated, is_same-other_var}
use Rattle.pb_norm.specs.ClauseForm.{is_tautology}
use Rattle.pb_norm.specs.Constraints.{Weighted, weight, value, term_value}
use Rattle.pb_norm.specs.Reduction.{opposite}
use Rattle.pb_norm.proofs.AdditionValues.{value-cons}
use Rattle.pb_steps.specs.Database.{Database}
use Rattle.pb_derive.specs.Derivations.{as_constraint}
use Rattle.pb_derive.specs.Later.{IsNumbered, Knows}
use Rattle.pb_derive.specs.Ones.{unit_of, ones}
use Rattle.pb_derive.specs.Reifications.{Reification, reverse_of, spare}
use Rattle.pb_derive.specs.Rups.{by_rup}
use Rattle.pb_derive.specs.inner.Follows.{AllFalse}
use Rattle.pb_derive.specs.inner.Ran.{IsClaim}
use Rattle.pb_derive.specs.inner.Refuted.{IsClauseIn}
use Rattle.pb_derive.proofs.Opposites.{value-opposite, two_places-le, value_whole}
use Rattle.pb_derive.proofs.ShortRups.{short_claims}
use Rattle.pb_derive.proofs.UnitTerms.{ones-sum}
use Rattle.pb_family.specs.Fresh.{positive_of}
use Rattle.pb_amo.specs.inner.AtMostOne.{at_most_one}
use Rattle.pb_amo.specs.laws.PairwiseLaws.{pair_clause}

-- two variables are no tautology
two_plain : (m n : Lit) → m.var ≢ n.var → is_tautology (m ∷ n ∷ []) ≡ false
two_plain m n other =
    or_from (is_same m (negated m) || (is_same n (negated m) || false)) ((is_same m (negated n) || (is_same n (negated n) || false)) || false)
    (or_from (is_same m (negated m)) (is_same n (negated m) || false) (is_same-negated m) (or_from (is_same n (negated m)) false (is_same-other_var n (negated m) (λ e. other (sym e))) refl))
    (or_from (is_same m (negated n) || (is_same n (negated n) || false)) false
    (or_from (is_same m (negated n)) (is_same n (negated n) || false) (is_same-other_var m (negated n) other) (or_from (is_same n (negated n)) false (is_same-negated n) refl)) refl)

-- a variable that a database has, and that may be named
abbrev pub MayName : (ℕ → Type 0) → Database → ℕ → Type 0
MayName P db v = P v × (v ≤ db.vars)

two_in : (P : ℕ → Type 0) (db : Database) (k l : Lit) → MayName P db k.var → MayName P db l.var → IsClauseIn P db (k ∷ l ∷ [])
two_in P db k l h m = record {
  named = All-cons (λ (l : Lit). P l.var) k (l ∷ []) h.0 (All-cons (λ (l : Lit). P l.var) l [] m.0 (All-nil (λ (l : Lit). P l.var)));
  vars = All-cons (λ (l : Lit). l.var ≤ db.vars) k (l ∷ []) h.1 (All-cons (λ (l : Lit). l.var ≤ db.vars) l [] m.1 (All-nil (λ (l : Lit). l.var ≤ db.vars)));
  few = omega arith;
}

-- the two are false
two_false : (a : Assignment) (k l : Lit) → AllFalse a (k ∷ l ∷ []) → (lit_value a k ≡ false) × (lit_value a l ≡ false)
two_false a k l falses =
    let False : Lit → Type 0 = λ l. lit_value a l ≡ false in
    (All-head False k (l ∷ []) falses, All-head False l [] (All-tail False k (l ∷ []) falses))

-- ---- at most one literal is true

-- where two are, the constraint falls short
pair_short : (ms : List Lit) (d : Lit) (i j : ℕ) → i < j → j < length ms → (a : Assignment) → AllFalse a (pair_clause (get_or ms i d) (get_or ms j d)) → value a (map opposite (ones ms)) < weight (ones ms) - 1
pair_short ms d i j before within a falses =
    let k : Lit = get_or ms i d in
    let l : Lit = get_or ms j d in
    let both = two_false a (negated k) (negated l) falses in
    omega (
      arith,
      value-opposite a (ones ms),
      ones-sum (term_value a) ms,
      two_places-le (λ (l : Lit). term_value a (unit_of l)) ms d i j before within,
      value_whole a (unit_of k) both.0,
      value_whole a (unit_of l) both.1,
    )

pub pair_claims : (P : ℕ → Type 0) (db : Database) (id : ℕ) (ms : List Lit) (d : Lit) (i j : ℕ) → IsNumbered db → Knows db id (as_constraint (at_most_one ms)) → i < j → j < length ms → (get_or ms i d).var ≢ (get_or ms j d).var
    → MayName P db (get_or ms i d).var → MayName P db (get_or ms j d).var → IsClaim P db (by_rup (id ∷ []) (pair_clause (get_or ms i d) (get_or ms j d)))
pair_claims P db id ms d i j numbered known before within other one two =
    let k : Lit = negated (get_or ms i d) in
    let l : Lit = negated (get_or ms j d) in
    short_claims P db id (as_constraint (at_most_one ms)) (k ∷ l ∷ []) numbered known (two_plain k l other) (pair_short ms d i j before within) (two_in P db k l one two)

-- ---- a variable says that some literal is true

-- the literal is one of them
abbrev pub Has : List Lit → Lit → Type 0
Has ls l = (f : Weighted → ℕ) → f (unit_of l) ≤ sum_by f (ones ls)

abbrev pub some_of : ℕ → List Lit → Reification
some_of v ls = record { var = v; sum = ones ls; least = 1 }

-- where the literal is true and the variable is not, the second constraint falls short
some_short : (v : ℕ) (ls : List Lit) (l : Lit) → Has ls l → (a : Assignment) → AllFalse a (negated l ∷ positive_of v ∷ []) → value a (reverse_of (some_of v ls)).terms < (reverse_of (some_of v ls)).degree
some_short v ls l has a falses =
    let y : Weighted = record { coef = spare (some_of v ls); lit = positive_of v } in
    let both = two_false a (negated l) (positive_of v) falses in
    let none : term_value a y ≡ 0 = ap (λ (b : Bool). cond b (spare (some_of v ls)) 0) both.1 in
    omega (arith, value-cons a y (map opposite (ones ls)), none, value-opposite a (ones ls), has (term_value a), value_whole a (unit_of l) both.0, has (λ t. t.coef))

pub some_claims : (P : ℕ → Type 0) (db : Database) (id v : ℕ) (ls : List Lit) (l : Lit) → IsNumbered db → Knows db id (reverse_of (some_of v ls)) → Has ls l → l.var ≢ v → MayName P db l.var → MayName P db v
    → IsClaim P db (by_rup (id ∷ []) (negated l ∷ positive_of v ∷ []))
some_claims P db id v ls l numbered known has other one two =
    short_claims P db id (reverse_of (some_of v ls)) (negated l ∷ positive_of v ∷ []) numbered known (two_plain (negated l) (positive_of v) other) (some_short v ls l has) (two_in P db (negated l) (positive_of v) one two)
