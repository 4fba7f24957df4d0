-- The clauses of several groups, one after another, with fresh variables of their own.
use Rattle.std.proofs.Common.{◌≡◌, ◌≤◌, ◌<◌, ◌+◌, ℕ, List, [], ◌∷◌, length, All, refl, ◌∙◌, arith}
use Rattle.std.proofs.lemmas.List.{length-append}
use Rattle.std.proofs.lemmas.List.Elements.{All-nil, All-cons, All-head, All-tail, All-append, All-weaker}
use Rattle.std.proofs.lemmas.List.Sums.{sum_by-cons}
use Rattle.pb_base.specs.declared.literal.Lit.{Lit}
use Rattle.pb_base.specs.Literals.{Assignment, AgreeBelow, IsModel}
use Rattle.pb_base.proofs.Members.{All-append_both}
use Rattle.pb_norm.specs.Constraints.{Holds, Solves}
use Rattle.pb_norm.proofs.Agreement.{IsModel-agree}
use Rattle.pb_norm.proofs.Variables.{OfLit}
use Rattle.pb_base.specs.declared.options.Options.{Options}
use Rattle.pb_choice.proofs.Composition.{IsOneBelow, holds-agree}
use Rattle.pb_choice.proofs.RestLaws.{IsTrueClause}
use Rattle.pb_encode.specs.Clauses.{clauses_from, clause_total, fresh_total}
use Rattle.pb_encode.specs.declared.groups.Group.{Group}
use Rattle.pb_encode.specs.Groups.{all_members, group_clauses, group_count, group_fresh, members}
use Rattle.pb_encode.specs.declared.groups.Group.TheVariants.{Alone, Paired}
use Rattle.pb_encode.proofs.GroupClauses.{IsGroupReady, constraint-below, group-count, group-extend, group-sound, group-within}

-- the constraints of a group hold under an assignment with the same values
group-agree : (o : Options) (n : ℕ) (a b : Assignment) → AgreeBelow n a b → (g : Group) → IsGroupReady o n g → Solves a (members g) → Solves b (members g)
group-agree o n a b agree (Alone c) ready holds =
    All-cons (Holds b) c [] (holds-agree n a b agree c (constraint-below o n n c (omega arith) ready) (All-head (Holds a) c [] holds)) (All-nil (Holds b))
group-agree o n a b agree (Paired c d) ready holds =
    All-cons (Holds b) c (d ∷ []) (holds-agree n a b agree c (constraint-below o n n c (omega arith) ready.lower) (All-head (Holds a) c (d ∷ []) holds))
    (All-cons (Holds b) d [] (holds-agree n a b agree d (constraint-below o n n d (omega arith) ready.upper) (All-head (Holds a) d [] (All-tail (Holds a) c (d ∷ []) holds))) (All-nil (Holds b)))

members-agree : (o : Options) (n : ℕ) (a b : Assignment) → AgreeBelow n a b → (gs : List Group) → All (IsGroupReady o n) gs → Solves a (all_members gs) → Solves b (all_members gs)
members-agree o n a b agree [] ready holds = All-nil (Holds b)
members-agree o n a b agree (g ∷ gs) ready holds =
    let parts = All-append_both (Holds a) (members g) (all_members gs) holds in
    All-append (Holds b) (members g) (all_members gs)
    (group-agree o n a b agree g (All-head (IsGroupReady o n) g gs ready) parts.0)
    (members-agree o n a b agree gs (All-tail (IsGroupReady o n) g gs ready) parts.1)

module _ (o : Options) (n : ℕ) where
  -- a model satisfies each constraint
  pub all-sound : (gs : List Group) (first : ℕ) → n ≤ first → All (IsGroupReady o n) gs → (a : Assignment) → IsModel a (clauses_from o first gs) → Solves a (all_members gs)
  all-sound [] first le ready a model = All-nil (Holds a)
  all-sound (g ∷ gs) first le ready a model =
      let next = first + group_fresh o g in
      let parts = All-append_both (IsTrueClause a) (group_clauses o g first) (clauses_from o next gs) model in
      All-append (Holds a) (members g) (all_members gs)
      (group-sound o n first g le (All-head (IsGroupReady o n) g gs ready) a parts.0)
      (all-sound gs next (omega (arith, le)) (All-tail (IsGroupReady o n) g gs ready) a parts.1)

  -- where each holds, a model extends the assignment
  pub all-extend : (gs : List Group) (first : ℕ) → 1 ≤ first → n ≤ first → All (IsGroupReady o n) gs → (a : Assignment) → Solves a (all_members gs) → (b : Assignment) × AgreeBelow first a b × IsModel b (clauses_from o first gs)
  all-extend [] first from le ready a holds = (a, (λ v h. refl), All-nil (IsTrueClause a))
  all-extend (g ∷ gs) first from le ready a holds =
      let next = first + group_fresh o g in
      let is_more : first ≤ next = omega arith in
      let here : IsGroupReady o n g = All-head (IsGroupReady o n) g gs ready in
      let others = All-tail (IsGroupReady o n) g gs ready in
      let parts = All-append_both (Holds a) (members g) (all_members gs) holds in
      let own_extended = group-extend o n first g le here a parts.0 in
      let still = members-agree o n a own_extended.0 (λ v h. own_extended.1 v (omega (arith, le, h))) gs others parts.1 in
      let rest = all-extend gs next (omega (arith, from, is_more)) (omega (arith, le, is_more)) others own_extended.0 still in
      let Low : Lit → Type 0 = λ l. l.var < next in
      let low = All-weaker (All (OfLit (IsOneBelow next))) (All Low) (λ ls k. All-weaker (OfLit (IsOneBelow next)) Low (λ l h. h.1) ls k) (group_clauses o g first) (group-within o n first g from le here) in
      let own = IsModel-agree next own_extended.0 rest.0 rest.1 (group_clauses o g first) low own_extended.2 in
      (rest.0, (λ v h. own_extended.1 v h ∙ rest.1 v (omega (arith, h, is_more))), All-append (IsTrueClause rest.0) (group_clauses o g first) (clauses_from o next gs) own rest.2)

  -- the variables are from 1 and below the first number after all fresh ones
  pub all-within : (gs : List Group) (first last : ℕ) → 1 ≤ first → n ≤ first → first + fresh_total o gs ≤ last → All (IsGroupReady o n) gs → All (All (OfLit (IsOneBelow last))) (clauses_from o first gs)
  all-within [] first last from le fits ready = All-nil (All (OfLit (IsOneBelow last)))
  all-within (g ∷ gs) first last from le fits ready =
      let next = first + group_fresh o g in
      let sum = sum_by-cons (group_fresh o) g gs in
      let is_more : first ≤ next = omega arith in
      let is_last : next ≤ last = omega (arith, fits, sum) in
      let here : IsGroupReady o n g = All-head (IsGroupReady o n) g gs ready in
      let own = All-weaker (All (OfLit (IsOneBelow next))) (All (OfLit (IsOneBelow last))) (λ ls k. All-weaker (OfLit (IsOneBelow next)) (OfLit (IsOneBelow last)) (λ l h. (h.0, omega (arith, h.1, is_last))) ls k) (group_clauses o g first) (group-within o n first g from le here) in
      let rest = all-within gs next last (omega (arith, from, is_more)) (omega (arith, le, is_more)) (omega (arith, fits, sum)) (All-tail (IsGroupReady o n) g gs ready) in
      All-append (All (OfLit (IsOneBelow last))) (group_clauses o g first) (clauses_from o next gs) own rest

  -- so many clauses
  pub all-count : (gs : List Group) (first : ℕ) → n ≤ first → All (IsGroupReady o n) gs → length (clauses_from o first gs) ≡ clause_total o gs
  all-count [] first le ready = refl
  all-count (g ∷ gs) first le ready =
      let next = first + group_fresh o g in
      omega (
        arith,
        length-append (group_clauses o g first) (clauses_from o next gs),
        group-count o n first g le (All-head (IsGroupReady o n) g gs ready),
        all-count gs next (omega (arith, le)) (All-tail (IsGroupReady o n) g gs ready),
        sum_by-cons (group_count o) g gs,
      )
