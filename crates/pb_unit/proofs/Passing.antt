-- Given literals, and passes over constraints.
use Rattle.std.proofs.Common.{◌≡◌, ◌≤◌, ◌<◌, ◌+◌, ◌-◌, ◌^◌, ◌⊎◌, inl, inr, ℕ, Bool, true, false, cond, List, [], ◌∷◌, ◌++◌, ◌∙◌, Option, Some, None, arith, length, length-append, map, take, get_or, ap, sym, subst}
use Rattle.std.specs.Bool.{OnTrue}
use Rattle.std.specs.Prelude.{All, Contains, IfSome}
use Rattle.std.proofs.lemmas.Bool.{cases_lt}
use Rattle.std.proofs.lemmas.List.{nil_from_length, take_more}
use Rattle.std.proofs.lemmas.List.Elements.{All-contains, All-weaker, Contains-push_cases}
use Rattle.pb_base.specs.declared.literal.Lit.{Lit}
use Rattle.pb_base.specs.Literals.{negated, is_among}
use Rattle.pb_base.proofs.Members.{Contains-nil, among_from, from_among, not_among_from}
use Rattle.pb_norm.specs.Constraints.{Constraint, IsLinear, weight}
use Rattle.pb_norm.specs.Forced.{IsConsistent}
use Rattle.pb_norm.specs.Propagation.{room, Reached}
use Rattle.pb_norm.proofs.Rooms.{IsPart, room-le}
use Rattle.pb_unit.specs.declared.engine.Outcome.{Outcome}
use Rattle.pb_unit.specs.Ends.{Ends}
use Rattle.pb_unit.specs.Outcomes.{AnswersOf}
use Rattle.pb_unit.specs.States.{EngineState, Stands, IsReached, with_lit}
use Rattle.pb_unit.specs.Steps.{IsAtRest, IsCalm, Advances}
use Rattle.pb_unit.proofs.Answering.{answers_from, with_lit-has, with_lit-keeps, with_lit-cases}
use Rattle.pb_unit.proofs.Standing.{standing_all, stands_contains}
use Rattle.pb_unit.proofs.Visits.{calm_more}

-- ---- given literals, one after another

pub none_part : (held given : List Lit) → held ≡ [] → IsPart held given
none_part held given none k h = absurd (Contains-nil k (from_among [] k (subst (λ (ls : List Lit). is_among ls k ≡ true) none h)))

pub none_reached : (cs : List Constraint) (held given : List Lit) → held ≡ [] → Reached cs given held
none_reached cs held given none = subst (Reached cs given) (sym none) tt

pub given_part : (l : Lit) (held given : List Lit) → Contains given l → IsPart held given → IsPart (with_lit l held) given
given_part l held given here part k h = elim (with_lit-cases l held k h) as (λ _. is_among given k ≡ true) [
  | inl same ↦ subst (λ (m : Lit). is_among given m ≡ true) same (among_from given l here)
  | inr old ↦ part k old
]

pub given_reached : (cs : List Constraint) (l : Lit) (held given : List Lit) → Contains given l → Reached cs given held → Reached cs given (with_lit l held)
given_reached cs l held given here reached = by_test (is_among held l)
  where
    by_test : (b : Bool) → Reached cs given (cond b held (l ∷ held))
    by_test true = reached
    by_test false = (inl here, reached)

pub given_more : (l : Lit) (held given : List Lit) (i : ℕ) → i < length given → l ≡ get_or given i l → IsPart (take i given) held → IsPart (take (i + 1) given) (with_lit l held)
given_more l held given i below at part k h =
    let next : take (i + 1) given ≡ take i given ++ l ∷ [] = take_more given i l below ∙ ap (λ (m : Lit). take i given ++ m ∷ []) (sym at) in
    elim (Contains-push_cases (take i given) l k (from_among (take i given ++ l ∷ []) k (subst (λ (ls : List Lit). is_among ls k ≡ true) next h))) as (λ _. is_among (with_lit l held) k ≡ true) [
      | inl old ↦ with_lit-keeps l held k (part k (among_from (take i given) k old))
      | inr same ↦ subst (λ (m : Lit). is_among (with_lit l held) m ≡ true) same (with_lit-has l held)
    ]

pub given_undecided : (l : Lit) (held given : List Lit) → IsConsistent given → Contains given l → IsPart held given → is_among held (negated l) ≡ false
given_undecided l held given consistent here part =
    not_among_from held (negated l) (λ h. consistent l here (from_among given (negated l) (part (negated l) (among_from held (negated l) h))))

pub part_consistent : (held given : List Lit) → IsConsistent given → IsPart held given → IsConsistent held
part_consistent held given consistent part l h opposite =
    consistent l (from_among given l (part l (among_from held l h))) (from_among given (negated l) (part (negated l) (among_from held (negated l) opposite)))

-- ---- a pass

-- what is calm is so with more room
pub calm_wider : (r r' : ℕ) (c : Constraint) (ls : List Lit) → r ≤ r' → IsCalm r ls c → IsCalm r' ls c
calm_wider r r' c ls le h = record {
  enough = omega (arith, le, h.enough);
  closed = All-weaker (IsAtRest ls (r - c.degree)) (IsAtRest ls (r' - c.degree)) (λ t rest more. rest (omega (arith, le, h.enough, more))) c.terms h.closed;
}

last_or_before : (q p : ℕ) → q < p + 1 → (q < p) ⊎ (q ≡ p)
last_or_before q p below = grind arith

-- one more place was looked at, with the room that what stands there had
pub pass_more : (ps : List (Option Constraint)) (p : ℕ) (start before after : List Lit) → IsPart start before → IsPart before after → ((c : Constraint) → Stands ps p c → IsCalm (room before c.terms) after c) → ((q : ℕ) (c : Constraint) → q < p → Stands ps q c → IsCalm (room start c.terms) before c) → (q : ℕ) (c : Constraint) → q < p + 1 → Stands ps q c → IsCalm (room start c.terms) after c
pass_more ps p start before after part more here so_far q c below at = elim (last_or_before q p below) [
  | inl old ↦ calm_more (room start c.terms) c before after more (so_far q c old at)
  | inr last ↦
      let there : Stands ps p c = subst (λ (k : ℕ). Stands ps k c) last at in
      calm_wider (room before c.terms) (room start c.terms) c after (room-le start before part c.terms) (here c there)
]

-- what was looked at with its room
pub looked_calm : (b : Bool) (ps : List (Option Constraint)) (p left : ℕ) (before after : List Lit) → ((c : Constraint) → Stands ps p c → left ≡ room before c.terms) → OnTrue b ((c : Constraint) → Stands ps p c → IsCalm left after c) → OnTrue b ((c : Constraint) → Stands ps p c → IsCalm (room before c.terms) after c)
looked_calm true ps p left before after is h = λ c at. subst (λ (r : ℕ). IsCalm r after c) (is c at) (h c at)
looked_calm false ps p left before after is h = tt

-- ---- passes

-- where no more hold than before, the same do
pub unmoved : (cs : List Constraint) (given before after : List Lit) → Advances cs given before after → length after ≡ length before → after ≡ before
unmoved cs given before after f same =
    let none : f.more ≡ [] = nil_from_length f.more (omega (arith, same, ap (λ (ls : List Lit). length ls) f.extends, length-append f.more before)) in
    f.extends ∙ ap (λ (ls : List Lit). ls ++ before) none

-- a pass in which no literal joined
pub still_fixed : (ps : List (Option Constraint)) (before after : List Lit) → after ≡ before → ((p : ℕ) (c : Constraint) → Stands ps p c → IsCalm (room before c.terms) after c) → (p : ℕ) (c : Constraint) → Stands ps p c → IsCalm (room after c.terms) after c
still_fixed ps before after same calm p c at = subst (λ (ls : List Lit). IsCalm (room ls c.terms) after c) (sym same) (calm p c at)

-- one more pass, in which a literal joined
pub grown : (start n before after : ℕ) → before ≤ after → ¬ (after ≡ before) → start + n ≤ before → start + (n + 1) ≤ after
grown start n before after le other so_far = elim (cases_lt before after) [
  | inl more ↦ omega (arith, more, so_far)
  | inr no_more ↦ absurd (other (omega (arith, le, no_more)))
]

pub narrow_all : (cs : List Constraint) → All IsLinear cs → (p : ℕ) (c : Constraint) → Stands (map Some cs) p c → weight c.terms ≤ 2 ^ 126
narrow_all cs linear p c at = (All-contains IsLinear cs c linear (subst (λ (ds : List Constraint). Contains ds c) (standing_all cs) (stands_contains (map Some cs) p c at))).weight_fits

-- the answer, if passes ended
pub answered : (s : EngineState) (o : Option Outcome) → IsReached s → IfSome o (Ends s.places s.held) → IfSome o (AnswersOf s)
answered s (Some o) reached ends = answers_from s o reached ends
answered s None reached ends = tt
