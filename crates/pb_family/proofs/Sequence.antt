-- Reifications, clauses and deletions that are handed over part by part.
use Rattle.std.proofs.Common.{◌≡◌, ◌+◌, ◌*◌, ◌++◌, ℕ, zero, suc, Bool, true, false, cond, List, [], ◌∷◌, length, refl, sym, ap, ◌∙◌, arith, append_assoc, ltb, pos}
use Rattle.std.specs.Prelude.{map, All, count_by, Result, IsErrAnd}
use Rattle.std.specs.List.{range_with_len, flat_map}
use Rattle.std.proofs.lemmas.List.Elements.{All-head, All-tail}
use Rattle.std.proofs.lemmas.List.Sums.{sum_by-cons, sum_by-append}
use Rattle.pb_norm.specs.Constraints.{weight}
use Rattle.pb_steps.specs.declared.step.Step.{Step}
use Rattle.pb_steps.specs.declared.step.Step.TheVariants.{Rup, Del, Out}
use Rattle.pb_steps.specs.Steps.{takes_id}
use Rattle.pb_derive.specs.Claims.{Claim, claim_steps}
use Rattle.pb_derive.specs.Deletions.{deletion_steps}
use Rattle.pb_derive.specs.FollowedBy.{followed_by}
use Rattle.pb_derive.specs.Reifications.{Reification, reification_steps, forward_of, reverse_of, redundant}
use Rattle.pb_derive.specs.Phases.{phases}
use Rattle.pb_derive.specs.Justifications.{Justification, by_justification}
use Rattle.pb_family.specs.Derivations.{pieces}
use Rattle.pb_family.specs.StepSinks.{StepState, TakesSteps, StopsInSteps, HandsSteps}
use Rattle.pb_family.specs.declared.sink.SinkFault.{SinkFault}
use Rattle.pb_family.proofs.Deriving.{Deriving, deriving_as, deriving_step, steps_fault}

-- ---- how many ids

reification_counts : (id : ℕ) (m : Reification) (ms : List Reification) → count_by takes_id (reification_steps id (m ∷ ms)) ≡ 2 + count_by takes_id (reification_steps (id + 2) ms)
reification_counts id m ms =
    let bit : Step → ℕ = λ s. cond (takes_id s) 1 0 in
    let one : Step = redundant (forward_of m) m.var false in
    let two : Step = cond {A = Step} (ltb (weight m.sum) m.least) (Rup [] (pos 0) (id ∷ [])) (redundant (reverse_of m) m.var true) in
    omega (arith, sum_by-cons bit one (two ∷ reification_steps (id + 2) ms), sum_by-cons bit two (reification_steps (id + 2) ms), by_test (ltb (weight m.sum) m.least))
  where
    by_test : (b : Bool) → cond {A = ℕ} (takes_id (cond {A = Step} b (Rup [] (pos 0) (id ∷ [])) (redundant (reverse_of m) m.var true))) 1 0 ≡ 1
    by_test true = refl
    by_test false = refl

pub reification_ids : (id : ℕ) (m : Reification) → count_by takes_id (reification_steps id (m ∷ [])) ≡ 2
reification_ids id m = let none : count_by takes_id (reification_steps (id + 2) []) ≡ 0 = refl in omega (arith, reification_counts id m [], none)

pub reifications_ids : (id : ℕ) (ms : List Reification) → count_by takes_id (reification_steps id ms) ≡ 2 * length ms
reifications_ids id [] = refl
reifications_ids id (m ∷ ms) = omega (arith, reification_counts id m ms, reifications_ids (id + 2) ms)

pub claims_ids : (id : ℕ) (cs : List Claim) → All (λ c. takes_id c.step ≡ true) cs → count_by takes_id (claim_steps id cs) ≡ length cs
claims_ids id [] h = refl
claims_ids id (c ∷ cs) h =
    let Takes : Claim → Type 0 = λ c. takes_id c.step ≡ true in
    let bit : Step → ℕ = λ s. cond (takes_id s) 1 0 in
    let own : cond {A = ℕ} (takes_id c.step) 1 0 ≡ 1 = ap (λ (b : Bool). cond {A = ℕ} b 1 0) (All-head Takes c cs h) in
    omega (arith, sum_by-cons bit c.step (Out id ∷ claim_steps (id + 1) cs), sum_by-cons bit (Out id) (claim_steps (id + 1) cs), own, claims_ids (id + 1) cs (All-tail Takes c cs h))

pub justifications_ids : (id : ℕ) (rs : List Justification) → count_by takes_id (claim_steps id (map by_justification rs)) ≡ length rs
justifications_ids id [] = refl
justifications_ids id (r ∷ rs) =
    let bit : Step → ℕ = λ s. cond (takes_id s) 1 0 in
    omega (arith, sum_by-cons bit (by_justification r).step (Out id ∷ claim_steps (id + 1) (map by_justification rs)), sum_by-cons bit (Out id) (claim_steps (id + 1) (map by_justification rs)), justifications_ids (id + 1) rs)

pub deletions_ids : (width id n : ℕ) → count_by takes_id (deletion_steps width id n) ≡ 0
deletions_ids width id zero = refl
deletions_ids width id (suc n) =
    let bit : Step → ℕ = λ s. cond (takes_id s) 1 0 in
    omega (arith, sum_by-cons bit (Del (range_with_len id width)) (deletion_steps width (id + width) n), deletions_ids width (id + width) n)

-- ---- a range that grows

pub range_more : (a n j : ℕ) → a + n ≡ j → range_with_len a n ++ j ∷ [] ≡ range_with_len a (suc n)
range_more a zero j e = ap (λ (i : ℕ). i ∷ []) (let same : j ≡ a = omega (arith, e) in same)
range_more a (suc n) j e = ap (λ (is : List ℕ). a ∷ is) (range_more (a + 1) n j (omega (arith, e)))

-- ---- parts

pub reifications_split : (id : ℕ) (xs ys : List Reification) → reification_steps id (xs ++ ys) ≡ reification_steps id xs ++ reification_steps (id + 2 * length xs) ys
reifications_split id [] ys = ap (λ (n : ℕ). reification_steps n ys) (let e : id ≡ id + 2 * 0 = omega arith in e)
reifications_split id (x ∷ xs) ys =
    ap (λ (ss : List Step). redundant (forward_of x) x.var false ∷ cond {A = Step} (ltb (weight x.sum) x.least) (Rup [] (pos 0) (id ∷ [])) (redundant (reverse_of x) x.var true) ∷ ss)
    (reifications_split (id + 2) xs ys ∙ ap (λ (n : ℕ). reification_steps (id + 2) xs ++ reification_steps n ys) (let e : id + 2 + 2 * length xs ≡ id + 2 * length (x ∷ xs) = omega arith in e))

pub claims_split : (id : ℕ) (xs ys : List Claim) → claim_steps id (xs ++ ys) ≡ claim_steps id xs ++ claim_steps (id + length xs) ys
claims_split id [] ys = ap (λ (n : ℕ). claim_steps n ys) (let e : id ≡ id + 0 = omega arith in e)
claims_split id (x ∷ xs) ys =
    ap (λ (ss : List Step). x.step ∷ Out id ∷ ss)
    (claims_split (id + 1) xs ys ∙ ap (λ (n : ℕ). claim_steps (id + 1) xs ++ claim_steps n ys) (let e : id + 1 + length xs ≡ id + length (x ∷ xs) = omega arith in e))

pub justifications_split : (id : ℕ) (xs ys : List Justification) → claim_steps id (map by_justification (xs ++ ys)) ≡ claim_steps id (map by_justification xs) ++ claim_steps (id + length xs) (map by_justification ys)
justifications_split id [] ys = ap (λ (n : ℕ). claim_steps n (map by_justification ys)) (let e : id ≡ id + 0 = omega arith in e)
justifications_split id (x ∷ xs) ys =
    ap (λ (ss : List Step). (by_justification x).step ∷ Out id ∷ ss)
    (justifications_split (id + 1) xs ys ∙ ap (λ (n : ℕ). claim_steps (id + 1) (map by_justification xs) ++ claim_steps n (map by_justification ys)) (let e : id + 1 + length xs ≡ id + length (x ∷ xs) = omega arith in e))

module _ {R : Type 0} {all : List Step} (old now : StepState R) where
  -- the reifications were taken, and the clauses and the deletions are left
  pub after_reifications : (ms : List Reification) (cs : List Claim) (after : StepState R) → Deriving all (phases now.next ms cs) old now → TakesSteps (reification_steps now.next ms) now after
      → Deriving all (claim_steps after.next cs ++ deletion_steps 2 now.next (length ms)) old after
  after_reifications ms cs after e h =
      deriving_as (ap (λ (n : ℕ). claim_steps n cs ++ deletion_steps 2 now.next (length ms)) (let same : now.next + 2 * length ms ≡ after.next = omega (arith, h.ids, reifications_ids now.next ms) in same))
      (deriving_step {left = claim_steps (now.next + 2 * length ms) cs ++ deletion_steps 2 now.next (length ms)} (reification_steps now.next ms) after e h)

  justifications_left : (xs ys : List Justification) (rest : List Step) → Deriving all (claim_steps now.next (map by_justification (xs ++ ys)) ++ rest) old now
      → Deriving all (claim_steps now.next (map by_justification xs) ++ (claim_steps (now.next + length xs) (map by_justification ys) ++ rest)) old now
  justifications_left xs ys rest e =
      deriving_as (ap (λ (ss : List Step). ss ++ rest) (justifications_split now.next xs ys) ∙ append_assoc (claim_steps now.next (map by_justification xs)) (claim_steps (now.next + length xs) (map by_justification ys)) rest) e

  -- some clauses were taken, and others are left
  pub after_justifications : (xs ys : List Justification) (rest : List Step) (after : StepState R) → Deriving all (claim_steps now.next (map by_justification (xs ++ ys)) ++ rest) old now → TakesSteps (claim_steps now.next (map by_justification xs)) now after
      → Deriving all (claim_steps after.next (map by_justification ys) ++ rest) old after
  after_justifications xs ys rest after e h =
      deriving_as (ap (λ (n : ℕ). claim_steps n (map by_justification ys) ++ rest) (let same : now.next + length xs ≡ after.next = omega (arith, h.ids, justifications_ids now.next xs) in same))
      (deriving_step {left = claim_steps (now.next + length xs) (map by_justification ys) ++ rest} (claim_steps now.next (map by_justification xs)) after (justifications_left xs ys rest e) h)

  -- the fault in some clauses is handed on
  pub justifications_fault : {T : Type 0} (r : Result T SinkFault) (f : SinkFault) (xs ys : List Justification) (rest : List Step) (after : StepState R) → IsErrAnd r (λ g. g ≡ f)
      → Deriving all (claim_steps now.next (map by_justification (xs ++ ys)) ++ rest) old now → StopsInSteps (claim_steps now.next (map by_justification xs)) now after f → HandsSteps all r old after
  justifications_fault r f xs ys rest after is e h =
      steps_fault r f (claim_steps now.next (map by_justification xs)) (claim_steps (now.next + length xs) (map by_justification ys) ++ rest) after is (justifications_left xs ys rest e) h

-- ---- lists as pieces

abbrev pub reification_piece : (ℕ → Reification) → ℕ → ℕ → List Step
reification_piece f id k = reification_steps id (f k ∷ [])

pub reification_pieces : (f : ℕ → Reification) (next a n : ℕ) → reification_steps next (map f (range_with_len a n)) ≡ pieces (reification_piece f) 2 next a n
reification_pieces f next a zero = refl
reification_pieces f next a (suc n) = ap (λ (ss : List Step). reification_steps next (f a ∷ []) ++ ss) (reification_pieces f (next + 2) (a + 1) n)

abbrev pub justification_piece : (ℕ → Justification) → ℕ → ℕ → List Step
justification_piece f id k = claim_steps id (by_justification (f k) ∷ [])

pub justification_pieces : (f : ℕ → Justification) (next a n : ℕ) → claim_steps next (map by_justification (map f (range_with_len a n))) ≡ pieces (justification_piece f) 1 next a n
justification_pieces f next a zero = refl
justification_pieces f next a (suc n) = ap (λ (ss : List Step). claim_steps next (by_justification (f a) ∷ []) ++ ss) (justification_pieces f (next + 1) (a + 1) n)

-- of one step each
pub one_each : (f : ℕ → Step) (next a n : ℕ) → pieces (λ id k. f k ∷ []) 1 next a n ≡ map f (range_with_len a n)
one_each f next a zero = refl
one_each f next a (suc n) = ap (λ (ss : List Step). f a ∷ ss) (one_each f (next + 1) (a + 1) n)

pub claim_pieces : (f : ℕ → Claim) (next a n : ℕ) → claim_steps next (map f (range_with_len a n)) ≡ pieces (λ id k. claim_steps id (f k ∷ [])) 1 next a n
claim_pieces f next a zero = refl
claim_pieces f next a (suc n) = ap (λ (ss : List Step). claim_steps next (f a ∷ []) ++ ss) (claim_pieces f (next + 1) (a + 1) n)

-- as many claims for each place
pub flat_claims : (f : ℕ → List Claim) (width : ℕ) → ((k : ℕ) → length (f k) ≡ width) → (next a n : ℕ) → claim_steps next (flat_map f (range_with_len a n)) ≡ pieces (λ id k. claim_steps id (f k)) width next a n
flat_claims f width each next a zero = refl
flat_claims f width each next a (suc n) =
    claims_split next (f a) (flat_map f (range_with_len (a + 1) n))
    ∙ ap (λ (ss : List Step). claim_steps next (f a) ++ ss)
    (ap (λ (w : ℕ). claim_steps (next + w) (flat_map f (range_with_len (a + 1) n))) (each a) ∙ flat_claims f width each (next + width) (a + 1) n)

-- a deletion takes no id
pub deletion_pieces : (width id next a n : ℕ) → deletion_steps width (id + width * a) n ≡ pieces (λ next k. Del (range_with_len (id + width * k) width) ∷ []) 0 next a n
deletion_pieces width id next a zero = refl
deletion_pieces width id next a (suc n) =
    ap (λ (ss : List Step). Del (range_with_len (id + width * a) width) ∷ ss)
    (ap (λ (i : ℕ). deletion_steps width i n) (let e : id + width * a + width ≡ id + width * (a + 1) = omega arith in e)
    ∙ deletion_pieces width id next (a + 1) n ∙ ap (λ (i : ℕ). pieces (λ next k. Del (range_with_len (id + width * k) width) ∷ []) 0 i (a + 1) n) (let e : next ≡ next + 0 = omega arith in e))

-- ---- pieces, each of which takes as many ids

pub pieces_ids : (piece : ℕ → ℕ → List Step) (width : ℕ) → ((id k : ℕ) → count_by takes_id (piece id k) ≡ width) → (next a n : ℕ) → count_by takes_id (pieces piece width next a n) ≡ width * n
pieces_ids piece width each next a zero = omega arith
pieces_ids piece width each next a (suc n) =
    omega (
      arith,
      sum_by-append (λ (s : Step). cond (takes_id s) 1 0) (piece next a) (pieces piece width (next + width) (a + 1) n),
      each next a,
      pieces_ids piece width each (next + width) (a + 1) n,
    )

-- ---- steps that are followed by others

module _ {R : Type 0} {all : List Step} {old now : StepState R} (f g : ℕ → List Step) (rest : List Step) (e : Deriving all (followed_by f g now.next ++ rest) old now) where
  abbrev behind : List Step
  behind = g (now.next + count_by takes_id (f now.next)) ++ rest

  followed_left : Deriving all (f now.next ++ behind) old now
  followed_left = deriving_as (append_assoc (f now.next) (g (now.next + count_by takes_id (f now.next))) rest) e

  -- the first ones were taken
  pub after_followed : (after : StepState R) → TakesSteps (f now.next) now after → Deriving all (g after.next ++ rest) old after
  after_followed after h = deriving_as (ap (λ (n : ℕ). g n ++ rest) (sym h.ids)) (deriving_step {left = behind} (f now.next) after followed_left h)

  -- their fault is handed on
  pub followed_fault : {T : Type 0} (r : Result T SinkFault) (k : SinkFault) (after : StepState R) → IsErrAnd r (λ j. j ≡ k) → StopsInSteps (f now.next) now after k → HandsSteps all r old after
  followed_fault r k after is part = steps_fault r k (f now.next) behind after is followed_left part
