-- What the loops over a clause's literals and over hints have found so far.
use Rattle.std.proofs.Common.{◌≡◌, ◌⊎◌, ◌<◌, ◌+◌, ℕ, Bool, true, false, not, List, [], ◌∷◌, ◌++◌, length, eqb, ◌&&◌, ◌||◌, refl, ap, sym, ◌∙◌, inl, inr, drop, suc, drop-cons, arith, rules, get_or}
use Rattle.std.specs.Prelude.{if◌then◌else◌}
use Rattle.std.specs.List.{list_any, list_all}
use Rattle.std.proofs.lemmas.Bool.{cases_Bool, false≢true}
use mathlib.Core.Bool.{beq}
use Rattle.pb_base.specs.declared.literal.Lit.{Lit}
use Rattle.pb_base.specs.Literals.{negated, is_same, is_among}
use Rattle.pb_base.proofs.LiteralLemmas.{is_same-negated, same_lit}
use Rattle.pb_norm.specs.ClauseForm.{is_tautology}
use Rattle.pb_lrat.specs.declared.judge.ClauseStatus.{ClauseStatus}
use Rattle.pb_lrat.specs.declared.judge.ClauseStatus.TheVariants.{Nothing, Single, More}
use Rattle.pb_lrat.specs.Hints.{Kept, is_nothing, with_true, left_of}
use Rattle.pb_lrat.specs.LratStates.{numbered}
use Rattle.pb_lrat.specs.inner.Looks.{kind_of, left_with}

-- ---- opposite literals

-- whether a literal is true once those before it are false
abbrev pub clashes : List Lit → List Lit → Bool
clashes held [] = false
clashes held (l ∷ ls) = is_among held l || clashes (with_true (negated l) held) ls

any_or : (p q : Lit → Bool) (ls : List Lit) → list_any (λ k. p k || q k) ls ≡ (list_any p ls || list_any q ls)
any_or p q [] = refl
any_or p q (l ∷ ls) = ap (λ (b : Bool). (p l || q l) || b) (any_or p q ls) ∙ mixed (p l) (q l) (list_any p ls) (list_any q ls)
  where
    mixed : (a b s t : Bool) → ((a || b) || (s || t)) ≡ ((a || s) || (b || t))
    mixed true b s t = refl
    mixed false true true t = refl
    mixed false true false t = refl
    mixed false false s t = refl

any_agree : (p q : Lit → Bool) (ls : List Lit) → ((k : Lit) → p k ≡ q k) → list_any p ls ≡ list_any q ls
any_agree p q [] e = refl
any_agree p q (l ∷ ls) e = ap (λ (b : Bool). b || list_any p ls) (e l) ∙ ap (λ (b : Bool). q l || b) (any_agree p q ls e)

beq_turned : (p q : Bool) → beq p (not q) ≡ beq (not p) q
beq_turned true true = refl
beq_turned true false = refl
beq_turned false true = refl
beq_turned false false = refl

same_turned : (k l : Lit) → is_same k (negated l) ≡ is_same (negated k) l
same_turned k l = ap (λ (b : Bool). eqb k.var l.var && b) (beq_turned k.positive l.positive)

beq_flip : (p q : Bool) → beq p q ≡ beq q p
beq_flip true true = refl
beq_flip true false = refl
beq_flip false true = refl
beq_flip false false = refl

eqb_flip : (m n : ℕ) → eqb m n ≡ eqb n m
eqb_flip m n = search rules

same_flip : (k l : Lit) → is_same k l ≡ is_same l k
same_flip k l = ap (λ (b : Bool). b && beq k.positive l.positive) (eqb_flip k.var l.var) ∙ ap (λ (b : Bool). eqb l.var k.var && b) (beq_flip k.positive l.positive)

pub among_with : (held : List Lit) (m k : Lit) → is_among (with_true m held) k ≡ (is_same m k || is_among held k)
among_with held m k =
    elim (cases_Bool (is_among held m)) as (λ _. is_among (with_true m held) k ≡ (is_same m k || is_among held k)) [
      | inl there ↦ rw there (by_same (cases_Bool (is_same m k)) there)
      | inr absent ↦ rw absent refl
    ]
  where
    by_same : (is_same m k ≡ true) ⊎ (is_same m k ≡ false) → is_among held m ≡ true → is_among held k ≡ (is_same m k || is_among held k)
    by_same (inl e) there = let found : is_among held k ≡ true = ap (is_among held) (sym (same_lit m k e)) ∙ there in rw (e, found) refl
    by_same (inr e) there = rw e refl

algebra : (a b t u : Bool) → (a || ((t || b) || u)) ≡ ((a || b) || (t || (t || u)))
algebra true b t u = refl
algebra false true true u = refl
algebra false true false u = refl
algebra false false true u = refl
algebra false false false u = refl

clash_cases : (held ls : List Lit) → clashes held ls ≡ (list_any (is_among held) ls || is_tautology ls)
clash_cases held [] = refl
clash_cases held (l ∷ ls) =
    let tail : clashes (with_true (negated l) held) ls ≡ ((list_any (is_same (negated l)) ls || list_any (is_among held) ls) || is_tautology ls) =
    clash_cases (with_true (negated l) held) ls ∙
    ap (λ (b : Bool). b || is_tautology ls) (any_agree (is_among (with_true (negated l) held)) (λ k. is_same (negated l) k || is_among held k) ls (among_with held (negated l)) ∙ any_or (is_same (negated l)) (is_among held) ls) in
    let first : is_among (l ∷ ls) (negated l) ≡ list_any (is_same (negated l)) ls =
    ap (λ (b : Bool). b || is_among ls (negated l)) (is_same-negated l) ∙
    any_agree (λ k. is_same k (negated l)) (is_same (negated l)) ls (λ k. same_flip k (negated l)) in
    let others : list_any (λ k. is_among (l ∷ ls) (negated k)) ls ≡ (list_any (is_same (negated l)) ls || is_tautology ls) =
    any_or (λ k. is_same l (negated k)) (λ k. is_among ls (negated k)) ls ∙
    ap (λ (b : Bool). b || is_tautology ls) (any_agree (λ k. is_same l (negated k)) (is_same (negated l)) ls (same_turned l)) in
    ap (λ (b : Bool). is_among held l || b) tail ∙
    (algebra (is_among held l) (list_any (is_among held) ls) (list_any (is_same (negated l)) ls) (is_tautology ls) ∙
    (ap (λ (b : Bool). (is_among held l || list_any (is_among held) ls) || (b || (list_any (is_same (negated l)) ls || is_tautology ls))) (sym first) ∙
    ap (λ (b : Bool). (is_among held l || list_any (is_among held) ls) || (is_among (l ∷ ls) (negated l) || b)) (sym others)))

pub clash_tautology : (ls : List Lit) → clashes [] ls ≡ is_tautology ls
clash_tautology ls = clash_cases [] ls ∙ ap (λ (b : Bool). b || is_tautology ls) (none ls)
  where
    none : (ks : List Lit) → list_any (is_among []) ks ≡ false
    none [] = refl
    none (k ∷ ks) = none ks

-- ---- what is left of a clause

-- what is left with more literals
abbrev pub left_after : ClauseStatus → List Lit → ClauseStatus
left_after left [] = left
left_after left (l ∷ ls) = left_after (left_with left l) ls

pub more_stays : (ls : List Lit) → left_after More ls ≡ More
more_stays [] = refl
more_stays (l ∷ ls) = more_stays ls

single_after : (k : Lit) (ls : List Lit) → left_after (Single k) ls ≡ (if list_all (is_same k) ls then Single k else More)
single_after k [] = refl
single_after k (l ∷ ls) =
    elim (cases_Bool (is_same k l)) as (λ _. left_after (Single k) (l ∷ ls) ≡ (if list_all (is_same k) (l ∷ ls) then Single k else More)) [
      | inl same ↦ rw same (single_after k ls)
      | inr other ↦ rw other (more_stays ls)
    ]

pub kind_after : (ls : List Lit) → kind_of ls ≡ left_after Nothing ls
kind_after [] = refl
kind_after (l ∷ ls) = sym (single_after l ls)

-- one more literal of a clause
pub left_next : (held : List Lit) (left : ClauseStatus) (l : Lit) (ls : List Lit) → left_after left (left_of held (l ∷ ls)) ≡ left_after (if is_among held (negated l) then left else left_with left l) (left_of held ls)
left_next held left l ls =
    elim (cases_Bool (is_among held (negated l))) as (λ _. left_after left (left_of held (l ∷ ls)) ≡ left_after (if is_among held (negated l) then left else left_with left l) (left_of held ls)) [
      | inl there ↦ rw there refl
      | inr absent ↦ rw absent refl
    ]

-- a literal by what is left, or another one
literal_or : Lit → ClauseStatus → Lit
literal_or d Nothing = d
literal_or d (Single l) = l
literal_or d More = d

is_single : ClauseStatus → Bool
is_single Nothing = false
is_single (Single l) = true
is_single More = false

singles : (l k : Lit) → Single l ≡ Single k → l ≡ k
unfolding literal_or
singles l k e = ap (literal_or l) e

pub nothing_no : (k : Lit) → Nothing ≡ Single k → ⊥
unfolding is_single
nothing_no k e = let no : false ≡ true = ap is_single e in false≢true no

-- once more is left, it stays
pub settled : (held clause : List Lit) (i : ℕ) (l : Lit) (left next : ClauseStatus) → i < length clause → l ≡ get_or clause i l → kind_of (left_of held clause) ≡ left_after left (left_of held (drop i clause)) → next ≡ (if is_among held (negated l) then left else left_with left l) → next ≡ More → next ≡ kind_of (left_of held clause)
settled held clause i l left next below is so_far step more =
    let rest : drop i clause ≡ l ∷ drop (suc i) clause = drop-cons clause i l below ∙ ap (λ (k : Lit). k ∷ drop (suc i) clause) (sym is) in
    more ∙ sym (so_far ∙
    (ap (λ (ls : List Lit). left_after left (left_of held ls)) rest ∙
    (left_next held left l (drop (suc i) clause) ∙
    (ap (λ (k : ClauseStatus). left_after k (left_of held (drop (suc i) clause))) (sym step ∙ more) ∙ more_stays (left_of held (drop (suc i) clause))))))

-- ---- the clauses of a CNF

abbrev kept : ℕ → List Lit → Kept
kept id ls = record { id = id; clause = ls }

pub numbered_more : (id : ℕ) (clauses : List (List Lit)) (ls : List Lit) → numbered id (clauses ++ ls ∷ []) ≡ numbered id clauses ++ (kept (id + length clauses) ls) ∷ []
numbered_more id [] ls =
    let e : id ≡ id + length {A = List Lit} [] = omega arith in
    ap (λ (n : ℕ). (kept n ls) ∷ []) e
numbered_more id (c ∷ clauses) ls =
    let place : id + 1 + length clauses ≡ id + length (c ∷ clauses) = omega arith in
    ap (λ (ks : List Kept). (kept id c) ∷ ks) (numbered_more (id + 1) clauses ls ∙
    ap (λ (n : ℕ). numbered (id + 1) clauses ++ (kept n ls) ∷ []) place)

pub nothing_more : (clauses : List (List Lit)) (ls : List Lit) → list_any is_nothing (clauses ++ ls ∷ []) ≡ (list_any is_nothing clauses || is_nothing ls)
nothing_more [] ls = one (is_nothing ls)
  where
    one : (b : Bool) → (b || false) ≡ b
    one true = refl
    one false = refl
nothing_more (c ∷ clauses) ls = ap (λ (b : Bool). is_nothing c || b) (nothing_more clauses ls) ∙ sides (is_nothing c) (list_any is_nothing clauses) (is_nothing ls)
  where
    sides : (a b d : Bool) → (a || (b || d)) ≡ ((a || b) || d)
    sides true b d = refl
    sides false b d = refl
