-- What the variables of a ladder mean, and that at most one of the literals up to a place and its variable is true, run and are known.
use Rattle.std.proofs.Common.{◌≡◌, ◌≢◌, ◌≤◌, ◌<◌, ◌+◌, ◌-◌, ◌*◌, ◌^◌, ◌++◌, ◌∙◌, ℕ, zero, suc, List, [], ◌∷◌, length, take, take_all, length-append, length-take, get_or, get_or-take, refl, ap, sym, subst, arith, append_assoc}
use Rattle.std.specs.Prelude.{All, map}
use Rattle.std.proofs.Math.Seq.{take-suc}
use Rattle.std.proofs.lemmas.List.Elements.{All-nil, All-cons, All-head, All-tail, All-append, All-map, All-take, All-weaker}
use Rattle.std.proofs.lemmas.List.FromFn.{length-map-range_with_len, get_or-map-range_with_len}
use Rattle.std.proofs.lemmas.List.Kept.{AllPairs-cons}
use Rattle.std.proofs.lemmas.List.Sums.{sum_by-append}
use Rattle.pb_base.specs.declared.literal.Lit.{Lit}
use Rattle.pb_base.proofs.Pairs.{AllPairs-nil, AllPairs-head, AllPairs-tail, AllPairs-map}
use Rattle.pb_norm.specs.Addition.{sum_of}
use Rattle.pb_norm.specs.Constraints.{Weighted, Constraint, AllPositive, term_value}
use Rattle.pb_norm.specs.Reduction.{opposite}
use Rattle.pb_norm.proofs.AdditionValues.{value-cons}
use Rattle.pb_norm.proofs.AdditionSizes.{weight-cons}
use Rattle.pb_steps.specs.Database.{Database}
use Rattle.pb_steps.specs.declared.step.Step.TheVariants.{Pol}
use Rattle.pb_derive.specs.Derivations.{as_constraint}
use Rattle.pb_derive.specs.Forms.{AreApartTerms, IsFormOf}
use Rattle.pb_derive.specs.Justifications.{adding}
use Rattle.pb_derive.specs.Later.{IsNumbered, IsLater, IsOther, IsUnnamed, Knows}
use Rattle.pb_derive.specs.Ones.{unit_of, ones}
use Rattle.pb_derive.specs.Reifications.{Reification, reification_steps, forward_of}
use Rattle.pb_derive.specs.inner.Meant.{IsReification, NamesNot, AreReifications, IsMeant, AreMeant}
use Rattle.pb_derive.proofs.ClauseClaims.{ones-apart}
use Rattle.pb_derive.proofs.Expressions.{known, plus, expression_adds}
use Rattle.pb_derive.proofs.FormOperations.{form_sum}
use Rattle.pb_derive.proofs.Laters.{known_below, later_knows}
use Rattle.pb_derive.proofs.Lines.{AreKnown, Adds, Added, added_as, added_then, meant_from, lines_ran}
use Rattle.pb_derive.proofs.Meant.{reifications_ran, meant_all, meant_at}
use Rattle.pb_derive.proofs.Opposites.{value-opposite, weight-opposite}
use Rattle.pb_derive.proofs.PinLemmas.{AreApartLits}
use Rattle.pb_derive.proofs.Rups.{ones-weight}
use Rattle.pb_derive.proofs.UnitTerms.{ones-all, ones-sum}
use Rattle.pb_family.specs.Fresh.{positive_of, literal_at, fresh_at}
use Rattle.pb_family.proofs.Ranges.{range_each}
use Rattle.pb_amo.specs.LadderSteps.{behind, rung, rungs, front_before, front_line, front_lines, fronts_at}
use Rattle.pb_amo.specs.inner.AtMostOne.{at_most_one}
use Rattle.pb_amo.specs.laws.TwoLiterals.{some_of}

-- ---- a variable says that some of some literals is true: it may stand for them

abbrev pub AtMostOne : List Lit → Constraint
AtMostOne ls = as_constraint (at_most_one ls)

abbrev Apart : Lit → Lit → Type 0
Apart k l = k.var ≢ l.var

-- literals of lower variables, and a variable
apart_last : (us : List Lit) (v : ℕ) → AreApartLits us → All (λ l. l.var < v) us → AreApartLits (us ++ positive_of v ∷ [])
apart_last [] v h low = AllPairs-cons Apart (positive_of v) [] (All-nil (Apart (positive_of v))) (AllPairs-nil Apart)
apart_last (u ∷ us) v h low =
    let below : u.var < v = All-head (λ (l : Lit). l.var < v) u us low in
    AllPairs-cons Apart u (us ++ positive_of v ∷ []) (All-append (Apart u) us (positive_of v ∷ []) (AllPairs-head Apart u us h) (All-cons (Apart u) (positive_of v) [] (λ e. omega (arith, below, e)) (All-nil (Apart u))))
    (apart_last us v (AllPairs-tail Apart u us h) (All-tail (λ (l : Lit). l.var < v) u us low))

opposites_apart : (ls : List Lit) → AreApartLits ls → AreApartTerms (map opposite (ones ls))
opposites_apart ls h = AllPairs-map (λ (s t : Weighted). s.lit.var ≢ t.lit.var) (λ (s t : Weighted). s.lit.var ≢ t.lit.var) opposite (λ s t ne. ne) (ones ls) (ones-apart ls h)

opposites_positive : (ls : List Lit) → AllPositive (map opposite (ones ls))
opposites_positive ls = All-map (λ (t : Weighted). 0 < t.coef) opposite (ones ls) (ones-all (λ (t : Weighted). 0 < t.coef) ls (λ i d h. omega arith))

module _ (us vs : List Lit) (v : ℕ) where
  abbrev y : Lit
  y = positive_of v

  narrowed : (c d : Constraint) → AreApartLits (us ++ y ∷ []) → 1 ≤ length us + length vs → IsFormOf (AtMostOne (us ++ vs)) c → IsFormOf (forward_of (some_of v vs)) d → IsFormOf (AtMostOne (us ++ y ∷ [])) (sum_of c d)
  narrowed c d apart some hc hd =
      let x : Weighted = opposite (unit_of y) in
      let one : List Lit = y ∷ [] in
      form_sum (AtMostOne (us ++ vs)) (forward_of (some_of v vs)) (AtMostOne (us ++ one)) c d (length vs) hc hd (opposites_apart (us ++ one) apart) (opposites_positive (us ++ one))
      (λ a.
      let g : Lit → ℕ = λ l. term_value a (unit_of l) in
      omega (
        arith,
        value-opposite a (ones (us ++ vs)),
        ones-weight (us ++ vs),
        length-append us vs,
        ones-sum (term_value a) (us ++ vs),
        sum_by-append g us vs,
        value-opposite a (ones (us ++ one)),
        ones-weight (us ++ one),
        length-append us one,
        ones-sum (term_value a) (us ++ one),
        sum_by-append g us one,
        value-cons a x (ones vs),
        ones-sum (term_value a) vs,
        value-opposite a (ones one),
        value-cons a x [],
        value-cons a (unit_of y) [],
      ))
      (omega (arith, ones-weight (us ++ vs), length-append us vs, ones-weight (us ++ one), length-append us one, some))

  front_adds : (P : ℕ → Type 0) (db : Database) (i j : ℕ) → AreApartLits (us ++ y ∷ []) → 1 ≤ length us + length vs → length us + length vs < 2 ^ 40 → All (λ l. P l.var) (us ++ y ∷ []) → Knows db i (AtMostOne (us ++ vs)) → Knows db j (forward_of (some_of v vs))
      → Adds P db (Pol (adding (i ∷ j ∷ []))) (AtMostOne (us ++ y ∷ []))
  front_adds P db i j apart some few named one other =
      expression_adds P db (plus (known i (AtMostOne (us ++ vs)) one) (known j (forward_of (some_of v vs)) other)) (AtMostOne (us ++ y ∷ [])) (tt, tt) (omega arith)
      (omega (arith, weight-opposite (ones (us ++ vs)), ones-weight (us ++ vs), length-append us vs, weight-cons (opposite (unit_of y)) (ones vs), ones-weight vs, few))
      (narrowed one.0 other.0 apart some one.2 other.2)
      (record {
        apart = opposites_apart (us ++ y ∷ []) apart;
        positive = opposites_positive (us ++ y ∷ []);
        named = All-map (λ (u : Weighted). P u.lit.var) opposite (ones (us ++ y ∷ [])) (ones-all (λ (u : Weighted). P u.lit.var) (us ++ y ∷ []) named);
      })

-- ---- a ladder's

module _ (ms : List Lit) (other : AreApartLits ms) (two : 2 ≤ length ms) (few : length ms < 2 ^ 31) (first : ℕ) (below : All (λ l. l.var < first) ms) where
  abbrev n : ℕ
  n = length ms

  -- the literals up to a place, counted from the end, and its variable
  abbrev pub front_of : ℕ → List Lit
  front_of i = take (n - 1 - i) ms ++ fresh_at first (n - 2 - i) ∷ []

  abbrev bit : ℕ → ℕ
  bit i = first + (n - 2 - i)

  apart_front : (i : ℕ) → AreApartLits (front_of i)
  apart_front i =
      apart_last (take (n - 1 - i) ms) (bit i)
      (λ j k d less within. let size : k < n - 1 - i = omega (arith, within, length-take (n - 1 - i) ms) in rw (get_or-take (n - 1 - i) ms j d (omega (arith, less, size)), get_or-take (n - 1 - i) ms k d size) (other j k d less (omega (arith, size))))
      (All-weaker (λ (l : Lit). l.var < first) (λ (l : Lit). l.var < bit i) (λ l h. omega (arith, h)) (take (n - 1 - i) ms) (All-take (λ (l : Lit). l.var < first) (n - 1 - i) ms below))

  -- the front before it has the literals behind its place
  front_more : (k : ℕ) → k < n → take (suc k) ms ≡ take k ms ++ literal_at ms k ∷ []
  front_more k within = take-suc ms k (positive_of 0) within

  first_front : take (n - 1 - 0) ms ++ behind ms first 0 ≡ ms
  first_front = sym (front_more (n - 1 - 0) (omega (arith, two))) ∙ take_all (suc (n - 1 - 0)) ms (omega (arith, two))

  next_front : (i : ℕ) → suc i < n - 1 → take (n - 1 - suc i) ms ++ behind ms first (suc i) ≡ front_of i
  next_front i within =
      let y : List Lit = fresh_at first (n - 2 - i) ∷ [] in
      sym (append_assoc (take (n - 1 - suc i) ms) (literal_at ms (n - 1 - suc i) ∷ []) y)
      ∙ ap (λ (ls : List Lit). ls ++ y) (sym (front_more (n - 1 - suc i) (omega (arith, two))) ∙ ap (λ (k : ℕ). take k ms) (let e : suc (n - 1 - suc i) ≡ n - 1 - i = omega (arith, within) in e))

  -- ---- what the variables mean

  module _ (db : Database) (numbered : IsNumbered db) (original : db.original < first) (vars : first + (n - 1) ≤ db.vars + 1) (unnamed : (v : ℕ) → first ≤ v → v < first + (n - 1) → IsUnnamed v db) where
    abbrev P : ℕ → Type 0
    P v = v < first + (n - 1)

    abbrev Low : ℕ → Weighted → Type 0
    Low top t = t.lit.var < top

    -- what is summed has lower variables, but for that of the next place
    summed_all : (Q : ℕ → Type 0) (i : ℕ) → i < n - 1 → ((v : ℕ) → v < first → Q v) → ((j : ℕ) → suc j ≡ i → Q (bit j)) → All (λ t. Q t.lit.var) (rung ms first i).sum
    summed_all Q zero within low next =
        let l : Lit = literal_at ms (n - 1 - 0) in
        All-cons (λ (t : Weighted). Q t.lit.var) (unit_of l) [] (low l.var (below (n - 1 - 0) (positive_of 0) (omega (arith, two)))) (All-nil (λ (t : Weighted). Q t.lit.var))
    summed_all Q (suc j) within low next =
        let l : Lit = literal_at ms (n - 1 - suc j) in
        let z : Lit = fresh_at first (n - 2 - j) in
        All-cons (λ (t : Weighted). Q t.lit.var) (unit_of l) (unit_of z ∷ []) (low l.var (below (n - 1 - suc j) (positive_of 0) (omega (arith, two))))
        (All-cons (λ (t : Weighted). Q t.lit.var) (unit_of z) [] (next j refl) (All-nil (λ (t : Weighted). Q t.lit.var)))

    behind_apart : (i : ℕ) → i < n - 1 → AreApartLits (behind ms first i)
    behind_apart zero within = AllPairs-cons Apart (literal_at ms (n - 1 - 0)) [] (All-nil (Apart (literal_at ms (n - 1 - 0)))) (AllPairs-nil Apart)
    behind_apart (suc j) within =
        let l : Lit = literal_at ms (n - 1 - suc j) in
        let z : Lit = fresh_at first (n - 2 - j) in
        let low : l.var < first = below (n - 1 - suc j) (positive_of 0) (omega (arith, two)) in
        AllPairs-cons Apart l (z ∷ []) (All-cons (Apart l) z [] (λ e. omega (arith, e, low)) (All-nil (Apart l))) (AllPairs-cons Apart z [] (All-nil (Apart z)) (AllPairs-nil Apart))

    behind_size : (i : ℕ) → (1 ≤ length (behind ms first i)) × (length (behind ms first i) ≤ 2)
    behind_size zero = (omega arith, omega arith)
    behind_size (suc j) = (omega arith, omega arith)

    rung_is : (i : ℕ) → i < n - 1 → IsReification db.original db.vars (rung ms first i)
    rung_is i within = record {
      fresh = omega (arith, original);
      known = omega (arith, vars, within, two);
      sum_known = summed_all (λ v. v ≤ db.vars) i within (λ v h. omega (arith, h, vars, two)) (λ j e. omega (arith, vars, two));
      apart = ones-apart (behind ms first i) (behind_apart i within);
      positive = ones-all (λ (t : Weighted). 0 < t.coef) (behind ms first i) (λ j d h. omega arith);
      other = summed_all (λ v. bit i ≢ v) i within (λ v h e. omega (arith, h, e)) (λ j is e. omega (arith, is, e, within));
      some = omega arith;
      light = let size = behind_size i in omega (arith, ones-weight (behind ms first i), size.1);
    }

    rung_named : (i : ℕ) → i < n - 1 → All (λ t. P t.lit.var) (forward_of (rung ms first i)).terms
    rung_named i within =
        All-cons (λ (t : Weighted). P t.lit.var) (opposite (unit_of (positive_of (bit i)))) (rung ms first i).sum (omega (arith, within, two))
        (summed_all P i within (λ v h. omega (arith, h)) (λ j e. omega (arith, two)))

    in_order : (i j : ℕ) → i < j → j < n - 1 → NamesNot (rung ms first i) (rung ms first j)
    in_order i j less within =
        All-cons (IsOther (bit j)) (opposite (unit_of (positive_of (bit i)))) (rung ms first i).sum (λ e. omega (arith, less, within, e))
        (summed_all (λ v. bit j ≢ v) i (omega (arith, less, within)) (λ v h e. omega (arith, h, e)) (λ k is e. omega (arith, is, less, within, e)))

    are_rungs : AreReifications P db (rungs ms first)
    are_rungs = record {
      each = range_each (IsReification db.original db.vars) (rung ms first) 0 (n - 1) (λ i low high. rung_is i (omega (arith, high)));
      named = range_each (λ m. All (λ t. P t.lit.var) (forward_of m).terms) (rung ms first) 0 (n - 1) (λ i low high. rung_named i (omega (arith, high)));
      unnamed = range_each (λ m. IsUnnamed m.var db) (rung ms first) 0 (n - 1) (λ i low high. unnamed (bit i) (omega arith) (omega (arith, high, two)));
      in_order = λ i j d less within.
          let size : j < n - 1 = omega (arith, within, length-map-range_with_len (rung ms first) 0 (n - 1)) in
          let one : get_or (rungs ms first) i d ≡ rung ms first i = get_or-map-range_with_len (rung ms first) 0 (n - 1) i i d (omega (arith, less, size)) (omega arith) in
          let two : get_or (rungs ms first) j d ≡ rung ms first j = get_or-map-range_with_len (rung ms first) 0 (n - 1) j j d size (omega arith) in
          subst (λ (m : Reification). NamesNot m (get_or (rungs ms first) j d)) (sym one) (subst (NamesNot (rung ms first i)) (sym two) (in_order i j less size));
    }

    at_rung : (end : Database) (base : ℕ) → AreMeant end base (rungs ms first) → (i : ℕ) → i < n - 1 → IsMeant end (base + 2 * i) (rung ms first i)
    at_rung end base meant i within =
        subst (IsMeant end (base + 2 * i)) (get_or-map-range_with_len (rung ms first) 0 (n - 1) i i (rung ms first i) within (omega arith))
        (meant_at end base (rungs ms first) i (rung ms first i) (omega (arith, within, length-map-range_with_len (rung ms first) 0 (n - 1))) meant)

    -- ---- all lines run

    -- what they leave: what the variables mean, and the fronts
    pub record LadderLeft (id : ℕ) : Type 0 where
      pub added : Added P db ((reification_steps db.next (rungs ms first)) ++ front_lines n id db.next) (3 * (n - 1))
      pub meant : (i : ℕ) → i < n - 1 → IsMeant added.ran.end (db.next + 2 * i) (rung ms first i)
      pub fronts : (i : ℕ) → i < n - 1 → Knows added.ran.end (fronts_at n db.next + i) (AtMostOne (front_of i))

    pub ladder_left : (id : ℕ) → Knows db id (AtMostOne ms) → LadderLeft id
    ladder_left id own =
        let base : ℕ = db.next in
        let size : length (rungs ms first) ≡ n - 1 = length-map-range_with_len (rung ms first) 0 (n - 1) in
        let one = meant_from P db base (rungs ms first) refl (reifications_ran P db (rungs ms first) numbered are_rungs) in
        let mid : Database = one.added.ran.end in
        let later = one.added.ran.later in
        let stands : Knows mid id (AtMostOne ms) = later_knows P db mid id (AtMostOne ms) later (known_below db id (AtMostOne ms) numbered own) own in
        let lines = lines_ran P mid (fronts_at n base) (front_line id base (fronts_at n base)) (λ i. AtMostOne (front_of i)) (n - 1) later.numbered (omega (arith, one.added.ran.next, size))
        (λ i within end more there. front_by i within mid end (at_rung mid base one.meant i within) later more stands there) in
        let end : Database = lines.added.ran.end in
        let more = lines.added.ran.later in
        record {
          added = added_as P db (reification_steps base (rungs ms first) ++ front_lines n id base) (2 * length (rungs ms first) + (n - 1)) (3 * (n - 1)) (omega (arith, size))
              (added_then P db (reification_steps base (rungs ms first)) (front_lines n id base) (2 * length (rungs ms first)) (n - 1) one.added lines.added);
          meant = at_rung end base (meant_all P mid end base (rungs ms first) more later.numbered one.meant);
          fronts = lines.known;
        }
      where
        front_by : (i : ℕ) → i < n - 1 → (mid end : Database) → IsMeant mid (db.next + 2 * i) (rung ms first i) → IsLater P db mid → IsLater P mid end → Knows mid id (AtMostOne ms) → AreKnown end (fronts_at n db.next) (λ i. AtMostOne (front_of i)) i
            → Adds P end (front_line id db.next (fronts_at n db.next) i) (AtMostOne (front_of i))
        front_by i within mid end is later more own there =
            let size = behind_size i in
            let forward : Knows end (db.next + 2 * i) (forward_of (rung ms first i)) = later_knows P mid end (db.next + 2 * i) (forward_of (rung ms first i)) more (known_below mid (db.next + 2 * i) (forward_of (rung ms first i)) later.numbered is.first) is.first in
            front_adds (take (n - 1 - i) ms) (behind ms first i) (bit i) P end (front_before id (fronts_at n db.next) i) (db.next + 2 * i) (apart_front i) (omega (arith, size.0)) (omega (arith, length-take (n - 1 - i) ms, size.1, few))
            (All-append (λ (l : Lit). P l.var) (take (n - 1 - i) ms) (fresh_at first (n - 2 - i) ∷ [])
            (All-weaker (λ (l : Lit). l.var < first) (λ (l : Lit). P l.var) (λ l h. omega (arith, h)) (take (n - 1 - i) ms) (All-take (λ (l : Lit). l.var < first) (n - 1 - i) ms below))
            (All-cons (λ (l : Lit). P l.var) (fresh_at first (n - 2 - i)) [] (omega (arith, within, two)) (All-nil (λ (l : Lit). P l.var))))
            (before i within (later_knows P mid end id (AtMostOne ms) more (known_below mid id (AtMostOne ms) later.numbered own) own) there) forward
          where
            before : (i : ℕ) → i < n - 1 → Knows end id (AtMostOne ms) → AreKnown end (fronts_at n db.next) (λ i. AtMostOne (front_of i)) i → Knows end (front_before id (fronts_at n db.next) i) (AtMostOne (take (n - 1 - i) ms ++ behind ms first i))
            before zero within own there = subst (λ (ls : List Lit). Knows end id (AtMostOne ls)) (sym first_front) own
            before (suc j) within own there = subst (λ (ls : List Lit). Knows end (fronts_at n db.next + j) (AtMostOne ls)) (sym (next_front j within)) (there j (omega arith))
