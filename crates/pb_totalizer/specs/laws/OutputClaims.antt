-- The clauses of a node follow from what is known of its own outputs and of its parts.
use Rattle.std.proofs.Common.{◌≡◌, ◌≢◌, ◌≤◌, ◌<◌, ◌+◌, ◌-◌, ◌*◌, ◌^◌, ◌++◌, ℕ, zero, suc, List, [], ◌∷◌, refl, ap, sym, ◌∙◌, subst, arith}
use Rattle.std.specs.Prelude.{All, Contains, map}
use Rattle.std.proofs.lemmas.List.Elements.{All-nil, All-cons, All-append, All-map, All-weaker, All-contains, Contains-get_or}
use Rattle.std.proofs.lemmas.List.Kept.{AllPairs-cons}
use Rattle.pb_base.specs.declared.literal.Lit.{Lit}
use Rattle.pb_base.specs.Literals.{negated}
use Rattle.pb_base.proofs.Members.{Contains-map}
use Rattle.pb_base.proofs.Pairs.{AllPairs-nil, AllPairs-map}
use Rattle.pb_norm.specs.Constraints.{Weighted, Constraint, weight}
use Rattle.pb_norm.specs.Reduction.{opposite}
use Rattle.pb_norm.proofs.AdditionSizes.{weight-cons}
use Rattle.pb_steps.specs.declared.step.Step.{Step}
use Rattle.pb_steps.specs.Database.{Database}
use Rattle.pb_steps.specs.Operations.{shrunk}
use Rattle.pb_derive.specs.Forms.{AreApartTerms}
use Rattle.pb_derive.specs.Later.{Knows}
use Rattle.pb_derive.specs.Ones.{unit_of, ones}
use Rattle.pb_derive.specs.Reifications.{spare, reverse_of}
use Rattle.pb_derive.specs.inner.Ran.{StepGives}
use Rattle.pb_derive.proofs.Appends.{weight-append}
use Rattle.pb_derive.proofs.ClauseClaims.{claim_of}
use Rattle.pb_derive.proofs.Closed.{units-imply}
use Rattle.pb_derive.proofs.Expressions.{known, plus, over, expression_adds}
use Rattle.pb_derive.proofs.FormOperations.{form_all}
use Rattle.pb_derive.proofs.Lines.{Adds}
use Rattle.pb_derive.proofs.Opposites.{weight-opposite}
use Rattle.pb_derive.proofs.UnaryRows.{Other, weighing}
use Rattle.pb_derive.proofs.UnitTerms.{ones-all}
use Rattle.pb_family.specs.Fresh.{positive_of}
use Rattle.pb_tree.specs.Pairs.{unless_none}
use Rattle.pb_totalizer.specs.OutputSteps.{pair_step}
use Rattle.pb_totalizer.specs.laws.CountForms.{both-apart}
use Rattle.pb_totalizer.specs.laws.OutputAdds.{Below, Named}
use Rattle.pb_totalizer.specs.laws.OutputForms.{meaning_at, IsOthers}
use Rattle.pb_totalizer.specs.laws.OutputParts.{ones-some}
use Rattle.pb_totalizer.specs.laws.PairForms.{left_with, divided, pair_form}

-- ---- a step that adds the claim of a clause gives the clause

pub claim_gives : (P : ℕ → Type 0) (db : Database) (step : Step) (clause : List Lit) → AreApartTerms (ones clause) → Adds P db step (claim_of clause) → StepGives db step clause
claim_gives P db step clause apart adds =
    let c : Constraint = adds.constraint in
    let Among : Weighted → Type 0 = λ t. (t.coef ≤ 1) × Contains clause t.lit in
    let among : All Among (ones clause) = ones-all Among clause (λ i d w. (omega arith, Contains-get_or clause i d w)) in
    let of : All Among c.terms = form_all Among (claim_of clause) c apart (ones-some clause) adds.form among in
    record {
      constraint = c;
      allowed = adds.allowed;
      implies = units-imply c clause of (λ plain. omega (arith, adds.form.degree));
      among = All-weaker Among (λ (t : Weighted). Contains clause t.lit) (λ t h. h.1) c.terms of;
    }

-- ---- the clause of two numbers

module _ (top p row m : ℕ) (f g : ℕ → Lit) (lls rls : List Lit) (i j : ℕ) where
  abbrev lts : List Weighted
  lts = ones lls

  abbrev rts : List Weighted
  rts = ones rls

  abbrev k : ℕ
  k = i + j - 1

  abbrev o : Lit
  o = positive_of (p + k)

  -- what is known of the two parts
  pub record MayPair : Type 0 where
    pub left_in : i ≢ 0 → Contains lls (f i)
    pub right_in : j ≢ 0 → Contains rls (g j)
    pub left : i ≤ weight (ones lls)
    pub right : j ≤ weight (ones rls)
    pub some : 1 ≤ i + j
    pub count : weight (ones lls) + weight (ones rls) ≡ m
    pub few : m ≤ 2 ^ 32
    pub lefts_low : All (λ t. t.lit.var < p) (ones lls)
    pub rights_low : All (λ t. t.lit.var < p) (ones rls)
    pub rights_apart : AreApartTerms (ones rls)
    pub cross : All (λ t. All (Other t) (ones rls)) (ones lls)
    pub under : p + (i + j - 1) < top

  module _ (h : MayPair) where
    abbrev c : ℕ
    c = spare (meaning_at p (lts ++ rts) k)

    abbrev own : List Weighted
    own = weighing c o ∷ []

    left_unit : i ≢ 0 → Contains lts (unit_of (f i))
    left_unit some = Contains-map unit_of lls (f i) (h.left_in some)

    right_unit : j ≢ 0 → Contains rts (unit_of (g j))
    right_unit some = Contains-map unit_of rls (g j) (h.right_in some)

    left_low : i ≢ 0 → (f i).var < p
    left_low some = All-contains (λ (t : Weighted). t.lit.var < p) lts (unit_of (f i)) h.lefts_low (left_unit some)

    right_low : j ≢ 0 → (g j).var < p
    right_low some = All-contains (λ (t : Weighted). t.lit.var < p) rts (unit_of (g j)) h.rights_low (right_unit some)

    left_cross : i ≢ 0 → All (Other (unit_of (f i))) rts
    left_cross some = All-contains (λ (t : Weighted). All (Other t) rts) lts (unit_of (f i)) h.cross (left_unit some)

    own-apart : AreApartTerms own
    own-apart = AllPairs-cons Other (weighing c o) [] (All-nil (Other (weighing c o))) (AllPairs-nil Other)

    rest-apart : AreApartTerms (map opposite rts ++ own)
    rest-apart =
        both-apart (map opposite rts) own (AllPairs-map Other Other opposite (λ t u ne. ne) rts h.rights_apart) own-apart
        (All-map (λ (t : Weighted). All (Other t) own) opposite rts
        (All-weaker (λ (t : Weighted). t.lit.var < p) (λ (t : Weighted). All (Other (opposite t)) own) (λ t low. All-cons (Other (opposite t)) (weighing c o) [] (λ e. omega (arith, low, e)) (All-nil (Other (opposite t)))) rts h.rights_low))

    middle_by : (n : ℕ) → i ≡ n → AreApartTerms (left_with f n ++ (map opposite rts ++ own))
    middle_by zero same = rest-apart
    middle_by (suc n) same =
        let some : i ≢ 0 = λ e. omega (arith, e, same) in
        let x : Weighted = weighing (suc n) (negated (f (suc n))) in
        let e : (f i).var ≡ (f (suc n)).var = ap (λ (u : ℕ). (f u).var) same in
        AllPairs-cons Other x (map opposite rts ++ own)
        (All-append (Other x) (map opposite rts) own
        (All-map (Other x) opposite rts (All-weaker (Other (unit_of (f i))) (λ (t : Weighted). Other x (opposite t)) (λ t ne q. ne (e ∙ q)) rts (left_cross some)))
        (All-cons (Other x) (weighing c o) [] (λ q. omega (arith, left_low some, e, q)) (All-nil (Other x)))) rest-apart

    last_by : (n : ℕ) → j ≡ n → AreApartTerms (left_with g n ++ own)
    last_by zero same = own-apart
    last_by (suc n) same =
        let some : j ≢ 0 = λ e. omega (arith, e, same) in
        let y : Weighted = weighing (suc n) (negated (g (suc n))) in
        let e : (g j).var ≡ (g (suc n)).var = ap (λ (u : ℕ). (g u).var) same in
        AllPairs-cons Other y own (All-cons (Other y) (weighing c o) [] (λ q. omega (arith, right_low some, e, q)) (All-nil (Other y))) own-apart

    cross_by : (n q : ℕ) → i ≡ suc n → j ≡ q → All (Other (weighing (suc n) (negated (f (suc n))))) (left_with g q)
    cross_by n zero one two = All-nil (Other (weighing (suc n) (negated (f (suc n)))))
    cross_by n (suc q) one two =
        let x : Weighted = weighing (suc n) (negated (f (suc n))) in
        let some : i ≢ 0 = λ e. omega (arith, e, one) in
        let more : j ≢ 0 = λ e. omega (arith, e, two) in
        let apart : (f i).var ≢ (g j).var = All-contains (Other (unit_of (f i))) rts (unit_of (g j)) (left_cross some) (right_unit more) in
        All-cons (Other x) (weighing (suc q) (negated (g (suc q)))) [] (λ e. apart (ap (λ (u : ℕ). (f u).var) one ∙ e ∙ sym (ap (λ (u : ℕ). (g u).var) two))) (All-nil (Other x))

    end_by : (n : ℕ) → i ≡ n → AreApartTerms (left_with f n ++ (left_with g j ++ own))
    end_by zero same = last_by j refl
    end_by (suc n) same =
        let x : Weighted = weighing (suc n) (negated (f (suc n))) in
        AllPairs-cons Other x (left_with g j ++ own)
        (All-append (Other x) (left_with g j) own (cross_by n j same refl)
        (All-cons (Other x) (weighing c o) [] (λ q. omega (arith, left_low (λ e. omega (arith, e, same)), ap (λ (u : ℕ). (f u).var) same, q)) (All-nil (Other x)))) (last_by j refl)

    abbrev pub clause : List Lit
    clause = unless_none f i ++ (unless_none g j ++ o ∷ [])

    sum : c + i + j ≡ m + 1
    sum = omega (arith, weight-append lts rts, h.count, h.left, h.right, h.some)

    module _ (s t : Constraint) (lefts : IsOthers lts (f i) i s) (rights : IsOthers rts (g j) j t) where
      reduced_terms : map (shrunk m) (left_with f i ++ (left_with g j ++ own)) ≡ ones clause
      reduced_terms = divided f g o lts rts i j c m h.count sum h.some h.left h.right s t lefts rights (middle_by i refl) (end_by i refl) (ones-some rls)

      pub clause-apart : AreApartTerms (ones clause)
      clause-apart = subst AreApartTerms reduced_terms (AllPairs-map Other Other (shrunk m) (λ t u ne. ne) (left_with f i ++ (left_with g j ++ own)) (end_by i refl))

    low_by : (e : ℕ → Lit) (n : ℕ) → (n ≢ 0 → (e n).var < p) → All (λ l. l.var < top) (unless_none e n)
    low_by e zero low = All-nil (λ (l : Lit). l.var < top)
    low_by e (suc n) low = All-cons (λ (l : Lit). l.var < top) (negated (e (suc n))) [] (omega (arith, low (λ z. omega (arith, z)), h.under)) (All-nil (λ (l : Lit). l.var < top))

    pub clause-named : All (λ l. l.var < top) clause
    clause-named =
        All-append (λ (l : Lit). l.var < top) (unless_none f i) (unless_none g j ++ o ∷ []) (low_by f i left_low)
        (All-append (λ (l : Lit). l.var < top) (unless_none g j) (o ∷ []) (low_by g j right_low) (All-cons (λ (l : Lit). l.var < top) o [] h.under (All-nil (λ (l : Lit). l.var < top))))

    -- where the output's second constraint is known, and what the parts' other outputs say
    pub pair_gives : (db : Database) (left right : ℕ) (s t : Constraint) → IsOthers lts (f i) i s → IsOthers rts (g j) j t → weight s.terms + s.degree ≤ 2 ^ 40 → weight t.terms + t.degree ≤ 2 ^ 40
        → Knows db (row + 2 * k + 1) (reverse_of (meaning_at p (lts ++ rts) k)) → Knows db left s → Knows db right t → StepGives db (pair_step (row + 2 * k + 1) left right m) clause
    pair_gives db left right s t lefts rights small less reverse one other =
        let apart = clause-apart s t lefts rights in
        let rev = reverse_of (meaning_at p (lts ++ rts) k) in
        claim_gives (Below top) db (pair_step (row + 2 * k + 1) left right m) clause apart
        (expression_adds (Below top) db (over m (plus (plus (known (row + 2 * k + 1) rev reverse) (known left s one)) (known right t other))) (claim_of clause)
        (omega (arith, h.count, h.left, h.right, h.some), ((tt, tt), tt)) (omega arith)
        (omega (arith, small, less, weight-cons (weighing c o) (map opposite (lts ++ rts)), weight-opposite (lts ++ rts), weight-append lts rts, h.count, h.few))
        (pair_form f g o lts rts i j c m h.count sum h.some h.left h.right s t lefts rights (middle_by i refl) (end_by i refl) (ones-some rls) reverse.0 one.0 other.0 reverse.2 one.2 other.2)
        (record { apart = apart; positive = ones-some clause; named = ones-all (Named top) clause clause-named }))
