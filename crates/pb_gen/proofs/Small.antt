-- How great the numbers of generated statements are.
use Rattle.std.proofs.Common.{◌≡◌, ◌≤◌, ◌<◌, ◌+◌, ◌*◌, ◌%◌, ℕ, zero, suc, Bool, true, false, List, [], ◌∷◌, length, map, refl, ap, arith}
use Rattle.std.specs.Prelude.{pos, unsigned_abs}
use Rattle.std.specs.List.{AllByRecursion, range_with_len}
use Rattle.std.proofs.lemmas.List.FromFn.{length-map-range_with_len}
use Rattle.std.proofs.lemmas.List.Sums.{sum_by-cons}
use Rattle.pb_base.specs.declared.literal.Term.{Term}
use Rattle.pb_base.specs.declared.problem.Raw.{Raw}
use Rattle.pb_base.specs.Problems.{magnitude}
use Rattle.pb_gen.specs.declared.drawn.Kind.{Kind}
use Rattle.pb_gen.specs.declared.drawn.Kind.TheVariants as kind
use Rattle.pb_gen.specs.Draws.{draw, state_after}
use Rattle.pb_gen.specs.Drawn.{drawn_count, drawn_kind, drawn_right, drawn_statement, drawn_term, drawn_terms, drawn_weight, is_weighted, term_draws, weight_draws}
use Rattle.pb_gen.specs.Generated.{drawn_statements}

pub record IsSmallTerm (vars : ℕ) (t : Term) : Type 0 where
  pub weight : ℕ
  pub is : t.coef ≡ pos weight
  pub most : weight ≤ 20
  pub low : 1 ≤ t.lit.var
  pub near : t.lit.var ≤ 65536
  pub within : t.lit.var ≤ vars

pub record IsSmall (vars : ℕ) (s : Raw) : Type 0 where
  pub terms : AllByRecursion (IsSmallTerm vars) s.terms
  pub count : length s.terms ≤ 11
  pub right : ℕ
  pub is : s.right ≡ pos right
  pub most : right ≤ 220

draw_small : (seed place : ℕ) → draw seed place < 65536
draw_small seed place = omega arith

weight_small : (weighted : Bool) (seed : ℕ) → drawn_weight weighted seed ≤ 20
weight_small true seed = omega arith
weight_small false seed = omega arith

remainder_small : (d m : ℕ) → 1 ≤ m → d < 65536 → (d % m < m) × (d % m < 65536)
remainder_small d m some near = (omega arith, omega arith)

term_small : (vars : ℕ) (weighted : Bool) (seed : ℕ) → 1 ≤ vars → IsSmallTerm vars (drawn_term vars weighted seed)
term_small vars weighted seed some =
    let drawn = draw (state_after (weight_draws weighted) seed) 0 in
    let small = remainder_small drawn vars some (draw_small (state_after (weight_draws weighted) seed) 0) in
    record { weight = drawn_weight weighted seed; is = refl; most = weight_small weighted seed; low = omega arith; near = omega arith; within = omega arith }

all_mapped : (P : Term → Type 0) (f : ℕ → Term) (a n : ℕ) → ((i : ℕ) → P (f i)) → AllByRecursion P (map f (range_with_len a n))
all_mapped P f a zero holds = tt
all_mapped P f a (suc n) holds = (holds a, all_mapped P f (a + 1) n holds)

pub terms_small : (vars : ℕ) (weighted : Bool) (count seed : ℕ) → 1 ≤ vars → AllByRecursion (IsSmallTerm vars) (drawn_terms vars weighted count seed)
terms_small vars weighted count seed some = all_mapped (IsSmallTerm vars) (λ i. drawn_term vars weighted (state_after (i * term_draws weighted) seed)) 0 count (λ i. term_small vars weighted (state_after (i * term_draws weighted) seed) some)

pub magnitude_small : (vars : ℕ) (ts : List Term) → AllByRecursion (IsSmallTerm vars) ts → magnitude ts ≤ 20 * length ts
magnitude_small vars [] are = omega arith
magnitude_small vars (t ∷ ts) are =
    let head : unsigned_abs t.coef ≡ are.0.weight = ap unsigned_abs are.0.is in
    omega (arith, head, are.0.most, magnitude_small vars ts are.1, sum_by-cons (λ (u : Term). unsigned_abs u.coef) t ts)

right_small : (k : Kind) (count sum seed : ℕ) → count ≤ 11 → sum ≤ 220 → drawn_right k count sum seed ≤ 220
right_small kind.AllButOne count sum seed few small = omega arith
right_small kind.Half count sum seed few small = omega arith
right_small kind.AtLeast count sum seed few small = omega (arith, (remainder_small (draw seed 0) (sum + 1) (omega arith) (draw_small seed 0)).0)
right_small kind.AtMost count sum seed few small = omega (arith, (remainder_small (draw seed 0) (sum + 1) (omega arith) (draw_small seed 0)).0)

pub statement_small : (vars seed : ℕ) → 1 ≤ vars → IsSmall vars (drawn_statement vars seed)
statement_small vars seed some =
    let k = drawn_kind seed in
    let n = drawn_count seed in
    let w = is_weighted k in
    let first = state_after 2 seed in
    let ts = drawn_terms vars w n first in
    let are = terms_small vars w n first some in
    let few : n ≤ 11 = omega arith in
    let size : length ts ≡ n = length-map-range_with_len (λ i. drawn_term vars w (state_after (i * term_draws w) first)) 0 n in
    let sum : magnitude ts ≤ 220 = omega (arith, magnitude_small vars ts are, size, few) in
    record {
      terms = are;
      count = omega (arith, size, few);
      right = drawn_right k n (magnitude ts) (state_after (n * term_draws w) first);
      is = refl;
      most = right_small k n (magnitude ts) (state_after (n * term_draws w) first) few sum;
    }

pub statements_small : (vars n seed : ℕ) → 1 ≤ vars → AllByRecursion (IsSmall vars) (drawn_statements vars n seed)
statements_small vars zero seed some = tt
statements_small vars (suc n) seed some = (statement_small vars seed some, statements_small vars n _ some)

pub statements_count : (vars n seed : ℕ) → length (drawn_statements vars n seed) ≡ n
statements_count vars zero seed = refl
statements_count vars (suc n) seed = ap suc (statements_count vars n _)
