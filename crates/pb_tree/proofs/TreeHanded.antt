-- Clauses along a tree that are handed over part by part.
use Rattle.std.proofs.Common.{◌≡◌, ◌≤◌, ◌<◌, ◌+◌, ◌-◌, ◌*◌, ◌++◌, ℕ, zero, suc, List, [], ◌∷◌, length, map, refl, sym, ap, ◌∙◌, subst, arith, append-nil, length-append}
use Rattle.std.specs.Prelude.{Result, IsErrAnd}
use Rattle.std.specs.List.{flat_map, range_with_len}
use Rattle.std.proofs.lemmas.List.{length-map}
use Rattle.std.proofs.lemmas.List.Concat.{flat_map-cons}
use Rattle.pb_steps.specs.declared.step.Step.{Step}
use Rattle.pb_steps.specs.declared.step.Step.TheVariants.{Out}
use Rattle.pb_derive.specs.Claims.{claim_steps}
use Rattle.pb_derive.specs.Justifications.{Justification, by_justification}
use Rattle.pb_family.specs.StepSinks.{StepState, TakesSteps, StopsInSteps, HandsSteps}
use Rattle.pb_family.specs.declared.sink.SinkFault.{SinkFault}
use Rattle.pb_family.proofs.Deriving.{Deriving, deriving_from, deriving_as, deriving_step, deriving_ends, steps_fault}
use Rattle.pb_family.proofs.SameSteps.{HaveSameSteps, same_none, same_append}
use Rattle.pb_family.proofs.Sequence.{justifications_ids, justifications_split}
use Rattle.pb_tree.specs.Pairs.{Pair}
use Rattle.pb_tree.specs.Scheme.{Scheme, values, fresh_of}
use Rattle.pb_tree.specs.Tree.{Tree, empty, leaf, node}
use Rattle.pb_tree.specs.TreeSteps.{pair_justification, pair_justifications, justifications_along, justifications, root_justification, tree_justifications}

pub steps_stopped : {R T : Type 0} (r : Result T SinkFault) (f : SinkFault) (ss : List Step) (a b : StepState R) → IsErrAnd r (λ g. g ≡ f) → StopsInSteps ss a b f → HandsSteps ss r a b
steps_stopped r f ss a b is part = steps_fault r f ss [] b is (deriving_from a (sym (append-nil ss))) part

-- steps that were stopped, written another way
pub stopped_as : {R : Type 0} {ss ts : List Step} {a b : StepState R} {f : SinkFault} → ss ≡ ts → StopsInSteps ss a b f → StopsInSteps ts a b f
stopped_as {a = a} {b} {f} same part = subst (λ (xs : List Step). StopsInSteps xs a b f) same part

-- ---- rows of clauses

-- of n rows of justifications, the first k were taken
pub record Rowing {R : Type 0} (row : ℕ → List Justification) (n k : ℕ) (old now : StepState R) : Type 0 where
  pub taken : Deriving (claim_steps old.next (map by_justification (flat_map row (range_with_len 0 n)))) (claim_steps now.next (map by_justification (flat_map row (range_with_len k (n - k))))) old now
  pub room : now.next + length (flat_map row (range_with_len k (n - k))) ≡ old.next + length (flat_map row (range_with_len 0 n))

pub rowing_from : {R : Type 0} (row : ℕ → List Justification) (n : ℕ) (a : StepState R) → Rowing row n 0 a a
rowing_from row n a =
    let e : n ≡ n - 0 = omega arith in
    record { taken = deriving_from a (ap (λ (m : ℕ). claim_steps a.next (map by_justification (flat_map row (range_with_len 0 m)))) e); room = ap (λ (m : ℕ). a.next + length (flat_map row (range_with_len 0 m))) (sym e) }

module _ {R : Type 0} (row : ℕ → List Justification) (n k : ℕ) (old now : StepState R) (within : k < n) (h : Rowing row n k old now) where
  abbrev rest : List Justification
  rest = flat_map row (range_with_len (k + 1) (n - (k + 1)))

  next_row : flat_map row (range_with_len k (n - k)) ≡ row k ++ rest
  next_row = ap (λ (m : ℕ). flat_map row (range_with_len k m)) (let e : n - k ≡ suc (n - (k + 1)) = omega arith in e) ∙ flat_map-cons row k (range_with_len (k + 1) (n - (k + 1)))

  row_left : Deriving (claim_steps old.next (map by_justification (flat_map row (range_with_len 0 n)))) (claim_steps now.next (map by_justification (row k)) ++ claim_steps (now.next + length (row k)) (map by_justification rest)) old now
  row_left = deriving_as (ap (λ (rs : List Justification). claim_steps now.next (map by_justification rs)) next_row ∙ justifications_split now.next (row k) rest) h.taken

  pub rowing_room : now.next + length (row k) ≤ old.next + length (flat_map row (range_with_len 0 n))
  rowing_room = omega (arith, h.room, ap length next_row, length-append (row k) rest)

  -- the next row was taken
  pub rowing_next : (after : StepState R) → TakesSteps (claim_steps now.next (map by_justification (row k))) now after → Rowing row n (k + 1) old after
  rowing_next after handed =
      let counts : now.next + length (row k) ≡ after.next = omega (arith, handed.ids, justifications_ids now.next (row k)) in
      record {
        taken = deriving_as (ap (λ (i : ℕ). claim_steps i (map by_justification rest)) counts)
            (deriving_step {left = claim_steps (now.next + length (row k)) (map by_justification rest)} (claim_steps now.next (map by_justification (row k))) after row_left handed);
        room = omega (arith, counts, h.room, ap length next_row, length-append (row k) rest);
      }

  -- the fault in the next row is handed on
  pub rowing_fault : {T : Type 0} (r : Result T SinkFault) (f : SinkFault) (after : StepState R) → IsErrAnd r (λ g. g ≡ f) → StopsInSteps (claim_steps now.next (map by_justification (row k))) now after f
      → HandsSteps (claim_steps old.next (map by_justification (flat_map row (range_with_len 0 n)))) r old after
  rowing_fault r f after is part = steps_fault r f (claim_steps now.next (map by_justification (row k))) (claim_steps (now.next + length (row k)) (map by_justification rest)) after is row_left part

-- all rows were taken
pub rowing_ends : {R : Type 0} (row : ℕ → List Justification) (n k : ℕ) (old now : StepState R) → k ≡ n → Rowing row n k old now → TakesSteps (claim_steps old.next (map by_justification (flat_map row (range_with_len 0 n)))) old now
rowing_ends row n k old now all h =
    deriving_ends (deriving_as (ap (λ (m : ℕ). claim_steps now.next (map by_justification (flat_map row (range_with_len k m)))) (let e : n - k ≡ 0 = omega (arith, all) in e)) h.taken)

-- places that are counted from another number
pub range_shift : {X : Type 0} (f : ℕ → X) (low a n : ℕ) → map f (range_with_len (low + a) n) ≡ map (λ k. f (low + k)) (range_with_len a n)
range_shift f low a zero = refl
range_shift {X} f low a (suc n) =
    ap (λ (xs : List X). f (low + a) ∷ xs) (ap (λ (i : ℕ). map f (range_with_len i n)) (let e : low + a + 1 ≡ low + (a + 1) = omega arith in e) ∙ range_shift f low (a + 1) n)

-- ---- justifications without their clauses

abbrev pub bare : Justification → Justification
bare r = record { clause = []; ids = r.ids; weakened = r.weakened }

pub bare_same : (rs : List Justification) → HaveSameSteps (map bare rs) rs
bare_same rs = record { count = length-map rs bare; steps = λ next. each next rs }
  where
    each : (next : ℕ) (rs : List Justification) → claim_steps next (map by_justification (map bare rs)) ≡ claim_steps next (map by_justification rs)
    each next [] = refl
    each next (r ∷ rs) = ap (λ (ss : List Step). (by_justification r).step ∷ Out next ∷ ss) (each (next + 1) rs)

-- of each the steps are the same
pub same_each : {X : Type 0} (f g : X → Justification) → ((x : X) → (by_justification (f x)).step ≡ (by_justification (g x)).step) → (xs : List X) → HaveSameSteps (map f xs) (map g xs)
same_each {X} f g same xs = record { count = omega (arith, length-map xs f, length-map xs g); steps = λ next. each next xs }
  where
    each : (next : ℕ) (xs : List X) → claim_steps next (map by_justification (map f xs)) ≡ claim_steps next (map by_justification (map g xs))
    each next [] = refl
    each next (x ∷ xs) = λ i. same x i ∷ Out next ∷ each (next + 1) xs i

-- a node's own steps do not depend on the numbers of the variables
abbrev pub IsFirstFree : (Tree → Tree → ℕ → ℕ → List Justification) → Type 0
IsFirstFree own = (l r : Tree) (f g id : ℕ) → HaveSameSteps (own l r f id) (own l r g id)

pub along_first_free : (s : Scheme) (own : Tree → Tree → ℕ → ℕ → List Justification) → IsFirstFree own → (t : Tree) (f g id : ℕ) → HaveSameSteps (justifications_along s own t f id) (justifications_along s own t g id)
along_first_free s own free empty f g id = same_none
along_first_free s own free (leaf t) f g id = same_none
along_first_free s own free (node l r) f g id =
    let next = id + 2 * fresh_of s l in
    same_append (justifications_along s own l f id) (justifications_along s own l g id) (justifications_along s own r (f + fresh_of s l) next ++ own l r f id) (justifications_along s own r (g + fresh_of s l) next ++ own l r g id)
    (along_first_free s own free l f g id)
    (same_append (justifications_along s own r (f + fresh_of s l) next) (justifications_along s own r (g + fresh_of s l) next) (own l r f id) (own l r g id)
    (along_first_free s own free r (f + fresh_of s l) (g + fresh_of s l) next) (free l r f g id))

pub pairs_first_free : (s : Scheme) (pairs : List ℕ → List ℕ → List Pair) → IsFirstFree (pair_justifications s pairs)
pairs_first_free s pairs l r f g id = same_each (pair_justification s l r f id) (pair_justification s l r g id) (λ p. refl) (pairs (values s l) (values s r))

pub all_first_free : (s : Scheme) (pairs : List ℕ → List ℕ → List Pair) (t : Tree) (f g id own : ℕ) → HaveSameSteps (tree_justifications s pairs t f id own) (tree_justifications s pairs t g id own)
all_first_free s pairs t f g id own =
    same_append (justifications s pairs t f id) (justifications s pairs t g id) (root_justification s t f id own ∷ []) (root_justification s t g id own ∷ []) (along_first_free s (pair_justifications s pairs) (pairs_first_free s pairs) t f g id) (record { count = refl; steps = λ next. refl })

-- from the sink's next id on
pub all_from : (s : Scheme) (pairs : List ℕ → List ℕ → List Pair) (t : Tree) (first own base next : ℕ) → base ≡ next → HaveSameSteps (tree_justifications s pairs t 0 base own) (tree_justifications s pairs t first next own)
all_from s pairs t first own base next is = subst (λ (b : ℕ). HaveSameSteps (tree_justifications s pairs t 0 base own) (tree_justifications s pairs t first b own)) is (all_first_free s pairs t 0 first base own)
