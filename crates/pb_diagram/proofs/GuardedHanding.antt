-- Steps of levels that are handed over one after another.
use Rattle.std.proofs.Common.{◌≡◌, ◌≤◌, ◌<◌, ◌+◌, ◌-◌, ◌*◌, ◌∙◌, ℕ, List, [], ◌∷◌, ◌++◌, drop, length, refl, ap, sym, append-nil, append_assoc, subst, arith}
use Rattle.std.specs.Prelude.{Option, None, Some, Result, IsErrAnd, count_by}
use Rattle.std.specs.List.{range_with_len}
use Rattle.std.proofs.lemmas.List.{drop_all, map-append}
use Rattle.std.proofs.lemmas.List.Sums.{sum_by-append}
use Rattle.pb_base.specs.declared.literal.Lit.{Lit}
use Rattle.pb_base.specs.declared.literal.Term.{Term}
use Rattle.pb_norm.specs.Constraints.{Weighted, weight, weighted, weights}
use Rattle.pb_norm.proofs.AdditionSizes.{weight-cons}
use Rattle.pb_steps.specs.declared.op.PolOp.{PolOp}
use Rattle.pb_steps.specs.declared.op.PolOp.TheVariants.{Push}
use Rattle.pb_steps.specs.declared.step.Step.{Step}
use Rattle.pb_steps.specs.declared.step.Step.TheVariants.{Del, Pol}
use Rattle.pb_steps.specs.Steps.{takes_id}
use Rattle.pb_derive.specs.Claims.{Claim, claim_steps}
use Rattle.pb_derive.specs.Reifications.{reification_steps}
use Rattle.pb_family.specs.StepSinks.{HandsSteps, StepState, StopsInSteps, TakesSteps}
use Rattle.pb_family.specs.declared.sink.SinkFault.{SinkFault}
use Rattle.pb_family.proofs.Deriving.{Deriving, deriving_as, deriving_ends, deriving_from, deriving_starts, deriving_step, steps_fault, steps_last}
use Rattle.pb_family.proofs.Sequence.{claims_split}
use Rattle.pb_diagram.specs.declared.node.Node.{Node}
use Rattle.pb_diagram.specs.Guards.{Rung, climb_line, guard, guard_width, last_top, missed_of, own_of, rises, split_line, weighing}
use Rattle.pb_family.specs.Fresh.{positive_of}
use Rattle.pb_diagram.specs.GuardedSteps.{level_claims, off_claims, off_claims_by, on_claim}
use Rattle.pb_diagram.specs.inner.Parts.{climb_piece, off_ids, off_steps, on_steps}
use Rattle.pb_diagram.specs.inner.Tiers.{node_at}
use Rattle.pb_diagram.specs.laws.LevelWorths.{climbed}
use Rattle.pb_diagram.specs.laws.RungLines.{climbed-last, rises-weight}
use Rattle.pb_diagram.specs.laws.StepSums.{AreUp}
use Rattle.pb_diagram.proofs.GuardedOps.{nodes_left_from}
use Rattle.pb_diagram.proofs.GuardedPieces.{claims_left}

-- ---- two parts

module _ {R T : Type 0} (r : Result T SinkFault) (a b : List Step) (old : StepState R) where
  pub first_fault : (f : SinkFault) (after : StepState R) → IsErrAnd r (λ g. g ≡ f) → StopsInSteps a old after f → HandsSteps (a ++ b) r old after
  first_fault f after is part = steps_fault r f a b after is (deriving_starts (a ++ b) old) part

  pub then_others : (mid after : StepState R) → TakesSteps a old mid → HandsSteps b r mid after → HandsSteps (a ++ b) r old after
  then_others mid after taken h = steps_last r b after (deriving_step {left = b} a mid (deriving_starts (a ++ b) old) taken) h

pub stops_as : {R : Type 0} {a b : List Step} {old new : StepState R} {f : SinkFault} → a ≡ b → StopsInSteps a old new f → StopsInSteps b old new f
stops_as {old = old} {new} {f} same h = subst (λ (ss : List Step). StopsInSteps ss old new f) same h

-- a line takes an id
pub line_next : {R : Type 0} {ops : List PolOp} {old new : StepState R} → TakesSteps (Pol ops ∷ []) old new → new.next ≡ old.next + 1
line_next {ops = ops} h = let one : count_by takes_id (Pol ops ∷ []) ≡ 1 = refl in omega (arith, h.ids, one)

-- what is pushed where nothing was
pub pushed_first : {X : Type 0} {start made xs : List X} → made ≡ start ++ xs → start ≡ [] → made ≡ xs
pushed_first {X} {xs = xs} h e = h ∙ ap (λ (os : List X). os ++ xs) e

-- nothing is left
pub all_made : {X : Type 0} (made left all : List X) → left ≡ [] → made ++ left ≡ all → made ≡ all
all_made {X} made left all none so_far = sym (append-nil made) ∙ (ap (λ (xs : List X). made ++ xs) (sym none) ∙ so_far)

pub three_joined : {X : Type 0} (start a b c one two made : List X) → one ≡ start ++ a → two ≡ one ++ b → made ≡ two ++ c → made ≡ start ++ (a ++ (b ++ c))
three_joined {X} start a b c one two made h k l =
    l ∙ (ap (λ (xs : List X). xs ++ c) (k ∙ ap (λ (xs : List X). xs ++ b) h)
    ∙ (append_assoc (start ++ a) b c ∙ append_assoc start a (b ++ c)))

-- ---- a level's sum

-- by the ids as they were counted
abbrev pub climb_by : ℕ → Rung → ℕ → ℕ → ℕ → List Step
climb_by v r next id before =
    reification_steps next (guard v r ∷ []) ++ (split_line r (Push (id + 1) ∷ []) (guard_width r) ∷ climb_line r id (id + 2) before ∷ Del (range_with_len before 4) ∷ [])

pub climb_same : (v : ℕ) (r : Rung) (next id before : ℕ) → id ≡ next → before ≡ id - 1 → climb_by v r next id before ≡ climb_piece v r next
climb_same v r next id before e b =
    ap (climb_by v r next id) b ∙ ap (λ (k : ℕ). climb_by v r next k (k - 1)) e

-- ---- what a guard says

climbed-all : (ns : List Node) → AreUp 0 ns → climbed 0 ns ≡ last_top ns
climbed-all [] up = refl
climbed-all (n ∷ ns) up = omega (arith, climbed-last 0 n ns up)

pub guard-weight : (v : ℕ) (r : Rung) → AreUp 0 r.nodes → AreUp 0 r.next → weight (guard v r).sum ≡ own_of r + last_top r.next + last_top r.nodes
guard-weight v r up rise =
    let head = weighing (own_of r) r.term.lit in
    let off = rises missed_of r.after 0 r.next in
    let on = rises positive_of r.var 0 r.nodes in
    omega (
      arith,
      weight-cons head (off ++ on),
      sum_by-append (λ (t : Weighted). t.coef) off on,
      rises-weight missed_of r.after 0 r.next,
      rises-weight positive_of r.var 0 r.nodes,
      climbed-all r.next rise,
      climbed-all r.nodes up,
    )

-- what each node adds, from one on
pub rises_left : (lit : ℕ → Lit) (first low i : ℕ) (ns : List Node) → i < length ns → rises lit (first + i) low (drop i ns) ≡ weighing ((node_at ns i).top - low) (lit (first + i)) ∷ rises lit (first + (i + 1)) (node_at ns i).top (drop (i + 1) ns)
rises_left lit first low i ns within =
    let n = node_at ns i in
    ap (rises lit (first + i) low) (nodes_left_from ns i within)
    ∙ ap (λ (v : ℕ). weighing (n.top - low) (lit (first + i)) ∷ rises lit v n.top (drop (i + 1) ns)) (let e : first + i + 1 ≡ first + (i + 1) = omega arith in e)

pub rises_begun : (lit : ℕ → Lit) (first : ℕ) (ns : List Node) → rises lit first 0 ns ≡ rises lit (first + 0) 0 (drop 0 ns)
rises_begun lit first ns = ap (λ (v : ℕ). rises lit v 0 ns) (let e : first ≡ first + 0 = omega arith in e)

pub rises_done : (lit : ℕ → Lit) (v low i : ℕ) (ns : List Node) → length ns ≤ i → rises lit v low (drop i ns) ≡ []
rises_done lit v low i ns all = ap (rises lit v low) (drop_all i ns all)

-- one more term
pub term_pushed : (items more : List Term) (t : Term) (w : Weighted) (rest left all : List Weighted) → more ≡ items ++ t ∷ [] → weighted t ≡ w → left ≡ w ∷ rest → weights items ++ left ≡ all → weights more ++ rest ≡ all
term_pushed items more t w rest left all pushed is here so_far =
    ap (λ (ts : List Term). weights ts ++ rest) pushed
    ∙ (ap (λ (us : List Weighted). us ++ rest) (map-append weighted items (t ∷ []))
    ∙ (append_assoc (weights items) (weighted t ∷ []) rest
    ∙ (ap (λ (u : Weighted). weights items ++ (u ∷ rest)) is ∙ (ap (λ (us : List Weighted). weights items ++ us) (sym here) ∙ so_far))))

-- ---- the clauses of a level, node by node

by_off : (l : Lit) (q p forward next : ℕ) (f t : Option ℕ) → claim_steps next (off_claims_by l q p forward f t) ≡ off_steps l q forward f t next
by_off l q p forward next None t = refl
by_off l q p forward next (Some f) t = refl

off_length : (l : Lit) (q p forward : ℕ) (f t : Option ℕ) → length (off_claims_by l q p forward f t) ≡ off_ids f
off_length l q p forward None t = refl
off_length l q p forward (Some f) t = refl

module _ (l : Lit) (q p counts : ℕ) (ns : List Node) where
  abbrev all : List Claim
  all = level_claims l q p counts ns

  abbrev left : ℕ → List Claim
  left i = level_claims l q (p + i) (counts + 2 * i) (drop i ns)

  -- those of the nodes from one on are left
  pub record Claiming {R : Type 0} (i : ℕ) (old now : StepState R) : Type 0 where
    pub taken : Deriving (claim_steps old.next all) (claim_steps now.next (left i)) old now
    pub ids : now.next + length (left i) ≡ old.next + length all

  begun : all ≡ left 0
  begun = λ x. level_claims l q ((let e : p ≡ p + 0 = omega arith in e) x) ((let e : counts ≡ counts + 2 * 0 = omega arith in e) x) ns

  pub claiming_from : {R : Type 0} (a : StepState R) → Claiming 0 a a
  claiming_from a = record { taken = deriving_from a (ap (claim_steps a.next) begun); ids = omega (arith, ap (length {A = Claim}) begun) }

  pub claiming_ends : {R : Type 0} (i : ℕ) (old now : StepState R) → length ns ≤ i → Claiming i old now → TakesSteps (claim_steps old.next all) old now
  claiming_ends i old now done h = deriving_ends (deriving_as (ap (λ (ms : List Node). claim_steps now.next (level_claims l q (p + i) (counts + 2 * i) ms)) (drop_all i ns done)) h.taken)

  module _ {R : Type 0} (i : ℕ) (old now : StepState R) (within : i < length ns) (h : Claiming i old now) where
    abbrev n : Node
    n = node_at ns i

    abbrev forward : ℕ
    forward = counts + 2 * i

    abbrev offs : List Claim
    offs = off_claims l q (p + i) forward n

    abbrev on : Claim
    on = on_claim l q (p + i) forward n

    abbrev later : List Claim
    later = left (i + 1)

    split_left : left i ≡ offs ++ (on ∷ later)
    split_left = claims_left l q p counts i ns within ∙ append_assoc offs (on ∷ []) later

    size : length (left i) ≡ off_ids n.off + (1 + length later)
    size = omega (arith, ap (length {A = Claim}) split_left, length-two offs (on ∷ later), off_length l q (p + i) forward n.off n.on)
      where
        length-two : (xs ys : List Claim) → length (xs ++ ys) ≡ length xs + length ys
        length-two [] ys = omega arith
        length-two (x ∷ xs) ys = omega (arith, length-two xs ys)

    abbrev rest : List Step
    rest = claim_steps (now.next + length offs) (on ∷ later)

    here : Deriving (claim_steps old.next all) (off_steps l q forward n.off n.on now.next ++ rest) old now
    here = deriving_as (ap (claim_steps now.next) split_left ∙ (claims_split now.next offs (on ∷ later) ∙ ap (λ (ss : List Step). ss ++ rest) (by_off l q (p + i) forward now.next n.off n.on))) h.taken

    pub off_few : (m : ℕ) → old.next + length all < m → now.next + off_ids n.off < m
    off_few m few = omega (arith, few, h.ids, size)

    pub off_fault : {T : Type 0} (r : Result T SinkFault) (f : SinkFault) (after : StepState R) → IsErrAnd r (λ g. g ≡ f) → StopsInSteps (off_steps l q forward n.off n.on now.next) now after f → HandsSteps (claim_steps old.next all) r old after
    off_fault r f after is part = steps_fault r f (off_steps l q forward n.off n.on now.next) rest after is here part

    module _ (mid : StepState R) (taken : TakesSteps (off_steps l q forward n.off n.on now.next) now mid) where
      at_mid : now.next + off_ids n.off ≡ mid.next
      at_mid = omega (arith, taken.ids, off_counts n.off)
        where
          off_counts : (f : Option ℕ) → count_by takes_id (off_steps l q forward f n.on now.next) ≡ off_ids f
          off_counts None = refl
          off_counts (Some f) = refl

      there : Deriving (claim_steps old.next all) (on_steps q forward n.off n.on mid.next ++ claim_steps (mid.next + 1) later) old mid
      there =
          deriving_as (ap (λ (k : ℕ). claim_steps k (on ∷ later)) (let e : now.next + length offs ≡ mid.next = omega (arith, at_mid, off_length l q (p + i) forward n.off n.on) in e))
          (deriving_step {left = rest} (off_steps l q forward n.off n.on now.next) mid here taken)

      pub on_few : (m : ℕ) → old.next + length all < m → mid.next + 1 < m
      on_few m few = omega (arith, few, h.ids, size, at_mid)

      pub on_fault : {T : Type 0} (r : Result T SinkFault) (f : SinkFault) (after : StepState R) → IsErrAnd r (λ g. g ≡ f) → StopsInSteps (on_steps q forward n.off n.on mid.next) mid after f → HandsSteps (claim_steps old.next all) r old after
      on_fault r f after is part = steps_fault r f (on_steps q forward n.off n.on mid.next) (claim_steps (mid.next + 1) later) after is there part

      pub claiming_next : (after : StepState R) → TakesSteps (on_steps q forward n.off n.on mid.next) mid after → Claiming (i + 1) old after
      claiming_next after then =
          let count : count_by takes_id (on_steps q forward n.off n.on mid.next) ≡ 1 = refl in
          let one : mid.next + 1 ≡ after.next = omega (arith, then.ids, count) in
          record {
            taken = deriving_as (ap (λ (k : ℕ). claim_steps k later) one) (deriving_step {left = claim_steps (mid.next + 1) later} (on_steps q forward n.off n.on mid.next) after there then);
            ids = omega (arith, h.ids, size, at_mid, one);
          }
