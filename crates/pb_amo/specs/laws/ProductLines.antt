-- The lines of a grid's side are derived.
use Rattle.std.proofs.Common.{◌≡◌, ◌≢◌, ◌≤◌, ◌<◌, ◌+◌, ◌*◌, ◌^◌, ◌++◌, ℕ, Bool, true, List, [], ◌∷◌, length, refl, subst, arith}
use Rattle.std.specs.Prelude.{All, map, count_by}
use Rattle.std.specs.List.{range_with_len}
use Rattle.std.proofs.lemmas.Bool.{eq-eqb}
use Rattle.pb_norm.specs.Reduction.{opposite}
use Rattle.std.proofs.lemmas.List.Elements.{All-nil, All-cons, All-map, All-weaker}
use Rattle.pb_base.specs.declared.literal.Lit.{Lit}
use Rattle.pb_norm.specs.Constraints.{Weighted, Constraint, weight}
use Rattle.pb_steps.specs.Database.{Database}
use Rattle.pb_steps.specs.declared.step.Step.{Step}
use Rattle.pb_derive.specs.Derivations.{as_constraint, IsReadyFor}
use Rattle.pb_derive.specs.Deletions.{deletion_steps}
use Rattle.pb_steps.specs.Steps.{takes_id}
use Rattle.pb_derive.specs.Later.{IsNumbered, IsUnnamed, Knows}
use Rattle.pb_derive.specs.Reifications.{forward_of}
use Rattle.pb_derive.specs.Ones.{unit_of, ones}
use Rattle.pb_derive.specs.inner.Ran.{RanSwept, IsClaim}
use Rattle.pb_derive.specs.inner.Meant.{IsMeant}
use Rattle.pb_derive.specs.inner.Follows.{AllKnown}
use Rattle.pb_derive.proofs.ClauseClaims.{ones-apart}
use Rattle.pb_derive.proofs.FollowedBy.{swept_counted, later_wider}
use Rattle.pb_derive.proofs.InRow.{IsFitReification}
use Rattle.pb_derive.proofs.KnownRanges.{known_range}
use Rattle.pb_derive.proofs.PinLemmas.{AreApartLits}
use Rattle.pb_derive.proofs.Rups.{ones-weight}
use Rattle.pb_derive.proofs.Scoped.{Scoped, scoped}
use Rattle.pb_derive.proofs.Summed.{Summed, summed}
use Rattle.pb_derive.proofs.UnitTerms.{ones-all, ones-sum}
use Rattle.pb_family.specs.Fresh.{positive_of, literal_at, fresh_at}
use Rattle.pb_family.proofs.Ranges.{range_each}
use Rattle.pb_amo.specs.laws.GridCases.{HoldsWithin}
use Rattle.pb_amo.specs.laws.LineLaws.{length-line}
use Rattle.pb_amo.specs.laws.LineSums.{line-other, lines-sum}
use Rattle.pb_amo.specs.Passing.{passing, in_line}
use Rattle.pb_amo.specs.laws.PassingSums.{passing-all, passing-pairs, passing-le, passing-at}
use Rattle.pb_amo.specs.Product.{line, fresh_within, clauses_within}
use Rattle.pb_amo.specs.inner.AtMostOne.{at_most_one}
use Rattle.pb_amo.specs.ProductSteps.{line_reification, line_claim, line_sum, side_steps, steps_within}
use Rattle.pb_amo.specs.laws.TwoLiterals.{Has, some_claims}

module _ (side : ℕ → ℕ) (ms : List Lit) (other : AreApartLits ms) (few : length ms < 2 ^ 31) (first : ℕ) (below : All (λ l. l.var < first) ms) where
  abbrev some_weight : (ℕ → Bool) → ℕ
  some_weight p = weight (ones (passing p 0 ms))

  light : (p : ℕ → Bool) → some_weight p < 2 ^ 31
  light p =
      let c : Weighted → ℕ = λ t. t.coef in
      omega (arith, ones-sum c (passing p 0 ms), passing-le (λ (l : Lit). c (unit_of l)) p 0 ms, ones-sum c ms, ones-weight ms, few)

  pub line_fit : (from k : ℕ) → IsFitReification first (line_reification side ms from k)
  line_fit from k = record {
    below = ones-all (λ (t : Weighted). t.lit.var < first) (passing (in_line side k) 0 ms) (passing-all (λ (l : Lit). l.var < first) (in_line side k) 0 ms below);
    apart = ones-apart (passing (in_line side k) 0 ms) (passing-pairs (λ (k l : Lit). k.var ≢ l.var) (in_line side k) 0 ms other);
    positive = ones-all (λ (t : Weighted). 0 < t.coef) (passing (in_line side k) 0 ms) (λ i d h. omega arith);
    some = omega arith;
    light = omega (arith, light (in_line side k));
  }

  -- ---- a literal makes its line true

  line_has : (e : ℕ) → e < length ms → Has (passing (in_line side (side e)) 0 ms) (literal_at ms e)
  line_has e within f =
      omega (
        arith,
        passing-at (λ (l : Lit). f (unit_of l)) (in_line side (side e)) e 0 e ms (positive_of 0) (omega arith) within (eq-eqb (side e) (side e) refl),
        ones-sum f (passing (in_line side (side e)) 0 ms),
      )

  pub line_claims : (P : ℕ → Type 0) (db : Database) (from w base : ℕ) → IsNumbered db → first ≤ from → ((v : ℕ) → v < from + w → P v) → from + w ≤ db.vars + 1 →
      ((e : ℕ) → e < length ms → side e < w) → ((k : ℕ) → k < w → IsMeant db (base + 2 * k) (line_reification side ms from k)) → (e : ℕ) → e < length ms → IsClaim P db (line_claim side ms from base e)
  line_claims P db from w base numbered low named vars inside meant e within =
      let l : Lit = literal_at ms e in
      let has = line_has e within in
      let count : side e < w = inside e within in
      let under : l.var < first = below e (positive_of 0) within in
      some_claims P db (base + 2 * side e + 1) (from + side e) (passing (in_line side (side e)) 0 ms) l numbered ((meant (side e) count).second (has (λ t. t.coef))) has
      (λ e. omega (arith, e, under, low)) (named l.var (omega (arith, under, low)), omega (arith, under, low, vars, count)) (named (from + side e) (omega (arith, count)), omega (arith, vars, count))

-- ---- at most one line

-- from each database that is ready, the steps run
abbrev pub Derivable : List Lit → ℕ → ℕ → (ℕ → List (List Lit)) → (ℕ → ℕ → ℕ → List Step) → Type 1
Derivable ms fresh count clauses steps =
    AreApartLits ms → length ms < 2 ^ 31 → (first id : ℕ) → All (λ l. l.var < first) ms → (db : Database) → IsReadyFor (at_most_one ms) first fresh id db
    → RanSwept (λ v. v < first + fresh) db (steps first id db.next) (clauses first) (count_by takes_id (steps first id db.next))

pub side_swept : (k : ℕ) → HoldsWithin Derivable k → (side : ℕ → ℕ) (ms : List Lit) (other : AreApartLits ms) (few : length ms < 2 ^ 31) (some : 0 < length ms) (first : ℕ) (below : All (λ l. l.var < first) ms)
    (from w inner id base : ℕ) (db : Database) → IsNumbered db → Knows db id (as_constraint (at_most_one ms)) → ((j : ℕ) → j < w → Knows db (base + 2 * j) (forward_of (line_reification side ms from j)))
    → ((e : ℕ) → e < length ms → side e < w) → w < 2 ^ 31 → first ≤ from → from + w ≤ inner → db.original < inner → inner + fresh_within k w ≤ db.vars + 1
    → ((v : ℕ) → inner ≤ v → v < inner + fresh_within k w → IsUnnamed v db)
    → RanSwept (λ v. v < inner + fresh_within k w) db (side_steps (line_sum id base w) (steps_within k (line from w) inner) db.next) (clauses_within k (line from w) inner) (count_by takes_id (side_steps (line_sum id base w) (steps_within k (line from w) inner) db.next))
side_swept k inductive side [] other few some first below from w inner id base db numbered own lines within narrow low high original vars unnamed = absurd (omega arith)
side_swept k inductive side (m ∷ others) other few some first below from w inner id base db numbered own lines within narrow low high original vars unnamed =
    let ms : List Lit = m ∷ others in
    let P : ℕ → Type 0 = λ v. v < inner + fresh_within k w in
    let Q : ℕ → Type 0 = λ v. v < inner in
    let ids : List ℕ = map (λ j. base + 2 * j) (range_with_len 0 w) in
    let ss : List Constraint = map (λ j. forward_of (line_reification side ms from j)) (range_with_len 0 w) in
    let known : AllKnown (Knows db) ids ss = known_range db (λ j. base + 2 * j) (λ j. forward_of (line_reification side ms from j)) 0 w (λ j below above. lines j (omega arith)) in
    let size = length-line from w in
    let under_line : All (λ l. l.var < inner) (line from w) = range_each (λ (l : Lit). l.var < inner) (fresh_at from) 0 w (λ j below above. omega arith) in
    let t : Constraint = as_constraint (at_most_one (line from w)) in
    let sum : Summed Q db (id ∷ ids) t = summed Q db id ids (as_constraint (at_most_one ms) ∷ ss) t numbered (own, known)
    (lines-sum side m others from w other (All-weaker (λ (l : Lit). l.var < first) (λ (l : Lit). l.var < from) (λ l h. omega (arith, h, low)) ms below) within few narrow)
    (All-map (λ (u : Weighted). Q u.lit.var) opposite (ones (line from w)) (ones-all (λ (u : Weighted). Q u.lit.var) (line from w) under_line)) in
    let mid : Database = sum.ran.end in
    let cs : List (List Lit) = clauses_within k (line from w) inner in
    let deeper = subst (λ (n : ℕ). IsReadyFor (at_most_one (line from w)) inner (fresh_within k n) db.next mid → RanSwept (λ v. v < inner + fresh_within k n) mid (steps_within k (line from w) inner db.next mid.next) cs (count_by takes_id (steps_within k (line from w) inner db.next mid.next))) size
    (inductive (line from w) (line-other from w) (omega (arith, size, narrow)) inner db.next under_line mid) (record {
      original = omega (arith, sum.ran.later.original, original);
      vars = omega (arith, sum.ran.later.vars, vars);
      numbered = sum.ran.later.numbered;
      stands = sum.known;
      unnamed = λ v from_inner to. sum.ran.later.unnamed v (λ h. omega (arith, h, from_inner)) (unnamed v from_inner to);
    }) in
    let steps : ℕ → List Step = λ n. line_sum id base w ∷ (steps_within k (line from w) inner db.next n ++ deletion_steps 1 db.next 1) in
    let ids_of : ℕ = 1 + count_by takes_id (steps_within k (line from w) inner db.next mid.next) in
    let whole : Scoped P db (steps mid.next) cs ids_of 1 =
    scoped P db (line_sum id base w ∷ []) (steps_within k (line from w) inner db.next mid.next) cs 1 (count_by takes_id (steps_within k (line from w) inner db.next mid.next)) 1 1
    (record { end = mid; runs = sum.ran.runs; later = later_wider Q P (λ v h. omega (arith, h)) db mid sum.ran.later; next = sum.ran.next }) numbered
    (All-cons (λ (s : Step). takes_id s ≡ true) (line_sum id base w) [] refl (All-nil (λ (s : Step). takes_id s ≡ true))) deeper refl in
    subst (λ (n : ℕ). RanSwept P db (steps n) cs (count_by takes_id (steps n))) sum.ran.next (swept_counted P db (steps mid.next) cs ids_of whole.all)
