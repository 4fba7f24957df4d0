-- The clauses of an equality say what its two halves say, and unit propagation over them reaches what they force.
use Rattle.std.proofs.Common.{◌≡◌, ◌<◌, ◌≤◌, ◌+◌, ◌↔◌, ◌⊎◌, ℕ, Bool, true, false, cond, List, ◌++◌, map, refl, sym, ◌∙◌, subst, arith, inl, inr, length-append}
use Rattle.std.specs.Prelude.{All, Contains}
use Rattle.std.proofs.lemmas.Bool.{both_ways}
use Rattle.std.proofs.lemmas.List.Elements.{All-append, All-map, All-weaker, Contains-append_left, Contains-append_right}
use Rattle.pb_base.specs.declared.literal.Lit.{Lit}
use Rattle.pb_base.specs.Literals.{Assignment, AgreeBelow, IsModel}
use Rattle.pb_base.proofs.Members.{All-append_both}
use Rattle.pb_norm.specs.BoundedSums.{StaysWithin, vars_of}
use Rattle.pb_norm.specs.ClausePropagation.{ClausesPropagate}
use Rattle.pb_norm.specs.Constraints.{Weighted, Constraint, Holds}
use Rattle.pb_norm.specs.Reduction.{opposite}
use Rattle.pb_norm.proofs.Agreement.{IsModel-agree}
use Rattle.pb_norm.proofs.PropagationMore.{ClausesPropagate-more}
use Rattle.pb_norm.proofs.UnitPropagation.{propagates_same}
use Rattle.pb_norm.proofs.Variables.{OfLit, OfTerm}
use Rattle.pb_family.specs.Families.{NamesOnly, VarsBelow}
use Rattle.pb_family.specs.Pairs.{StayWithinBoth}
use Rattle.pb_totalizer.specs.Exact.{at_least, exact_clauses, exact_fresh, exact_size}
use Rattle.pb_totalizer.specs.laws.ExactLaws.{exact_counts, exact_names, exact_outputs, exact_propagates, exact_propagates_least, exact_propagates_most, pair_extends, pair_sound}
use Rattle.pb_base.specs.declared.options.Options.{Options}
use Rattle.pb_choice.specs.Choice.{IsSentToAdder}
use Rattle.pb_choice.specs.Clauses.{constraint_clauses, constraint_count, constraint_fresh}
use Rattle.pb_choice.specs.Equals.{asks_for_number, equality_clauses, equality_count, equality_fresh, is_joint, literals_asked}
use Rattle.pb_choice.specs.EqualityLaws.{BothHold, EncodesBoth, EqualitiesEncode, EqualitiesForce, ForcesBoth, ForcesHalves, IsEquality, JointEqualitiesForce}
use Rattle.pb_choice.proofs.Composition.{holds-agree}
use Rattle.pb_choice.proofs.Encoded.{clauses-count, clauses-extend, clauses-name, clauses-sound, own_vars}
use Rattle.pb_choice.proofs.Forced.{clauses-propagate}
use Rattle.pb_choice.proofs.JointSums.{asked_proper, asked_units, joint_asks, lower_says, ones_over, upper_says, vars_same}
use Rattle.pb_choice.proofs.RestLaws.{IsOf, IsTrueClause, named_over}

-- over the same variables
pub upper_over : (P : ℕ → Type 0) (c d : Constraint) → d.terms ≡ map opposite c.terms → All (λ t. P t.lit.var) c.terms → All (λ t. P t.lit.var) d.terms
upper_over P c d turned h = subst (λ (ts : List Weighted). All (λ t. P t.lit.var) ts) (sym turned) (All-map (λ (t : Weighted). P t.lit.var) opposite c.terms h)

-- ---- as one

module _ (c d : Constraint) (equality : IsEquality c d) (number : asks_for_number c ≡ true) (first : ℕ) where
  abbrev joint : List (List Lit)
  joint = exact_clauses (literals_asked c) first

  joint_encodes : VarsBelow first c.terms → EncodesBoth c d first (exact_fresh (literals_asked c)) (exact_size (literals_asked c)) joint
  joint_encodes below =
      let m = literals_asked c in
      let units = asked_units c d equality number in
      let proper = asked_proper c d equality number in
      record {
        sound = λ v model.
            let both = pair_sound m units proper first v model in
            ((lower_says c d equality number v).1 both.1, (upper_says c d equality number v).1 both.0);
        extends = λ v both.
            pair_extends m units proper first (ones_over (λ v. v < first) c.terms below) v ((upper_says c d equality number v).0 both.1, (lower_says c d equality number v).0 both.0);
        names = subst (λ (vs : List ℕ). All (All (λ (l : Lit). Contains vs l.var ⊎ ((first ≤ l.var) × (l.var < first + exact_fresh m)))) joint) (vars_same c.terms) (exact_names m units proper first);
        counts = exact_counts m first;
      }

  joint_lower : ClausesPropagate joint (λ v. Holds v c)
  joint_lower =
      propagates_same joint (λ v. StaysWithin v (at_least (literals_asked c))) (λ v. Holds v c) (lower_says c d equality number)
      (exact_propagates_least (literals_asked c) (asked_units c d equality number) (asked_proper c d equality number) first)

  joint_upper : ClausesPropagate joint (λ v. Holds v d)
  joint_upper =
      propagates_same joint (λ v. StaysWithin v (literals_asked c)) (λ v. Holds v d) (upper_says c d equality number)
      (exact_propagates_most (literals_asked c) (asked_units c d equality number) (asked_proper c d equality number) first)

  joint_both : ClausesPropagate joint (BothHold c d)
  joint_both =
      let lower = lower_says c d equality number in
      let upper = upper_says c d equality number in
      let same : (v : Assignment) → BothHold c d v ↔ StayWithinBoth (literals_asked c) (at_least (literals_asked c)) v = λ v.
      ((λ (h : BothHold c d v). ((upper v).0 h.1, (lower v).0 h.0)), (λ (h : StayWithinBoth (literals_asked c) (at_least (literals_asked c)) v). ((lower v).1 h.1, (upper v).1 h.0))) in
      propagates_same joint (StayWithinBoth (literals_asked c) (at_least (literals_asked c))) (BothHold c d) same
      (exact_propagates (literals_asked c) (asked_units c d equality number) (asked_proper c d equality number) first)

-- ---- one after the other

module _ (o : Options) (c d : Constraint) (equality : IsEquality c d) (first : ℕ) where
  abbrev after : ℕ
  after = first + constraint_fresh o c

  abbrev lower_clauses : List (List Lit)
  lower_clauses = constraint_clauses o c first

  abbrev upper_clauses : List (List Lit)
  upper_clauses = constraint_clauses o d (first + constraint_fresh o c)

  abbrev split : List (List Lit)
  split = lower_clauses ++ upper_clauses

  split_extends : VarsBelow first c.terms → (v : Assignment) → BothHold c d v → (w : Assignment) × AgreeBelow first v w × IsModel w split
  split_extends below v both =
      let is_more : first ≤ after = omega arith in
      let over : VarsBelow first d.terms = upper_over (λ v. v < first) c d equality.halves.turned below in
      let one = clauses-extend o c first equality.lower_linear below v both.0 in
      let still = holds-agree first v one.0 one.1 d over both.1 in
      let two = clauses-extend o d after equality.upper_linear (All-weaker (λ (t : Weighted). t.lit.var < first) (λ (t : Weighted). t.lit.var < after) (λ t h. omega (arith, h, is_more)) d.terms over) one.0 still in
      let here = All-weaker (λ (t : Weighted). t.lit.var < first) (λ (t : Weighted). t.lit.var < after) (λ t h. omega (arith, h, is_more)) c.terms below in
      let low = named_over (λ v. v < after) c.terms first (constraint_fresh o c) lower_clauses here (λ v from to. to) (clauses-name o c first equality.lower_linear) in
      let own = IsModel-agree after one.0 two.0 two.1 lower_clauses low one.2 in
      (two.0, (λ v h. one.1 v h ∙ two.1 v (omega (arith, h, is_more))), All-append (IsTrueClause two.0) lower_clauses upper_clauses own two.2)

  split_names : NamesOnly c.terms first (constraint_fresh o c + constraint_fresh o d) split
  split_names =
      let Of : ℕ → Type 0 = IsOf c.terms first (constraint_fresh o c + constraint_fresh o d) in
      let own : All (OfTerm Of) c.terms = All-weaker (OfTerm (Contains (vars_of c.terms))) (OfTerm Of) (λ t among. inl among) c.terms (own_vars c.terms) in
      All-append (All (OfLit Of)) lower_clauses upper_clauses
      (named_over Of c.terms first (constraint_fresh o c) lower_clauses own (λ v from to. inr (from, omega (arith, to))) (clauses-name o c first equality.lower_linear))
      (named_over Of d.terms after (constraint_fresh o d) upper_clauses (upper_over Of c d equality.halves.turned own) (λ v from to. inr (omega (arith, from), omega (arith, to))) (clauses-name o d after equality.upper_linear))

  split_encodes : VarsBelow first c.terms → EncodesBoth c d first (constraint_fresh o c + constraint_fresh o d) (constraint_count o c + constraint_count o d) split
  split_encodes below = record {
    sound = λ v model.
        let parts = All-append_both (IsTrueClause v) lower_clauses upper_clauses model in
        (clauses-sound o c first equality.lower_linear v parts.0, clauses-sound o d after equality.upper_linear v parts.1);
    extends = split_extends below;
    names = split_names;
    counts = omega (arith, length-append lower_clauses upper_clauses, clauses-count o c first equality.lower_linear, clauses-count o d after equality.upper_linear);
  }

  split_lower : ¬ IsSentToAdder o c → ClausesPropagate split (λ v. Holds v c)
  split_lower other =
      ClausesPropagate-more lower_clauses split (Contains-append_left lower_clauses upper_clauses) (λ v. Holds v c) (clauses-propagate o c first equality.lower_linear other)

  split_upper : ¬ IsSentToAdder o d → ClausesPropagate split (λ v. Holds v d)
  split_upper other =
      ClausesPropagate-more upper_clauses split (Contains-append_right lower_clauses upper_clauses) (λ v. Holds v d) (clauses-propagate o d after equality.upper_linear other)

-- ---- either way

module _ (o : Options) (c d : Constraint) (equality : IsEquality c d) (first : ℕ) where
  abbrev joint_list : List (List Lit)
  joint_list = exact_clauses (literals_asked c) first

  abbrev split_list : List (List Lit)
  split_list = constraint_clauses o c first ++ constraint_clauses o d (first + constraint_fresh o c)

  encodes : VarsBelow first c.terms → EncodesBoth c d first (equality_fresh o c d) (equality_count o c d) (equality_clauses o c d first)
  encodes below = by_test (is_joint o c) refl
    where
      by_test : (b : Bool) → is_joint o c ≡ b
          → EncodesBoth c d first (cond b (exact_fresh (literals_asked c)) (constraint_fresh o c + constraint_fresh o d)) (cond b (exact_size (literals_asked c)) (constraint_count o c + constraint_count o d)) (cond b joint_list split_list)
      by_test true is = joint_encodes c d equality (joint_asks o c is) first below
      by_test false is = split_encodes o c d equality first below

  forces : ForcesHalves o c d (equality_clauses o c d first)
  forces = by_test (is_joint o c) refl
    where
      by_test : (b : Bool) → is_joint o c ≡ b → ForcesHalves o c d (cond b joint_list split_list)
      by_test true is = record {
        lower_forces = λ other. joint_lower c d equality (joint_asks o c is) first;
        upper_forces = λ other. joint_upper c d equality (joint_asks o c is) first;
      }
      by_test false is = record {
        lower_forces = λ other. split_lower o c d equality first (λ sent. other (is, sent));
        upper_forces = λ other. split_upper o c d equality first (λ sent. other (is, sent));
      }

  forces_both : is_joint o c ≡ true → ForcesBoth c d first (equality_clauses o c d first)
  forces_both is = by_test (is_joint o c) is
    where
      by_test : (b : Bool) → b ≡ true → ForcesBoth c d first (cond b joint_list split_list)
      by_test true e = record { both_force = joint_both c d equality (joint_asks o c is) first; outputs = exact_outputs (literals_asked c) first }
      by_test false e = absurd (both_ways false refl e)

pub equalities_encode : EqualitiesEncode
equalities_encode o lower upper first equality below = encodes o lower upper equality first below

pub equalities_force : EqualitiesForce
equalities_force o lower upper first equality below = forces o lower upper equality first

pub joint_equalities_force : JointEqualitiesForce
joint_equalities_force o lower upper first equality is = forces_both o lower upper equality first is
