-- The lines of the derivation of an adder network are within their limits, and short.
use Rattle.std.proofs.Common.{◌≡◌, ◌≤◌, ◌<◌, ◌+◌, ◌-◌, ◌*◌, ◌^◌, ℕ, zero, suc, List, [], ◌∷◌, ◌++◌, length, min, take, drop, refl, ap, sym, subst, arith, get_or, leb, pos, length-append}
use Rattle.std.specs.Prelude.{All, map, flat_map, sum_by, ◌≤ℤ◌}
use Rattle.std.specs.List.{AllByRecursion}
use Rattle.std.proofs.lemmas.Bool.{cond_both, leb-false}
use Rattle.std.proofs.lemmas.Int.{ints}
use Rattle.std.proofs.lemmas.Nat.{pow_pos}
use Rattle.std.proofs.lemmas.List.{length-map, length-take, length-take-le, length-drop, take-append-drop}
use Rattle.std.proofs.lemmas.List.Sums.{sum_by-cons, sum_by-append}
use Rattle.std.proofs.lemmas.List.Elements.{All-nil, All-cons, All-head, All-tail, All-append, All-map, All-weaker}
use Rattle.pb_base.specs.declared.literal.Lit.{Lit}
use Rattle.pb_base.specs.Literals.{negated}
use Rattle.pb_base.proofs.Members.{All-append_both}
use Rattle.pb_norm.specs.BoundedSums.{BoundedSum}
use Rattle.pb_norm.specs.Constraints.{Weighted}
use Rattle.pb_steps.specs.declared.op.PolOp.{PolOp}
use Rattle.pb_steps.specs.declared.op.PolOp.TheVariants.{Push, Add}
use Rattle.pb_steps.specs.declared.step.Step.{Step}
use Rattle.pb_steps.specs.declared.step.Step.TheVariants.{Pol, Del}
use Rattle.pb_steps.specs.Sayable.{IsId, IsVariable, IsFactor, IsOp, IsSayable}
use Rattle.pb_steps.specs.StepSizes.{op_size, step_size}
use Rattle.pb_derive.specs.Claims.{Claim, claim_steps}
use Rattle.pb_derive.specs.Deletions.{deletion_steps}
use Rattle.pb_derive.specs.Reifications.{Reification, reification_steps}
use Rattle.pb_derive.specs.Ones.{unit_of, ones}
use Rattle.pb_derive.specs.Rups.{by_rup}
use Rattle.pb_derive.specs.Short.{AreShort}
use Rattle.pb_derive.proofs.Phases.{length-reifications, length-claims, length-deletions}
use Rattle.pb_derive.proofs.Rups.{ones-weight}
use Rattle.pb_derive.proofs.Appends.{weight-append}
use Rattle.pb_derive.proofs.Sayable.{IsSlimTerm, IsSlimReification, reifications_sayable, claims_sayable, deletions_sayable, rup_sayable}
use Rattle.pb_derive.proofs.Short.{lines_sized, line_sized}
use Rattle.pb_derive.proofs.Sizes.{rup-size, reifications_each, claims_each, deletions_each, each_all}
use Rattle.pb_family.specs.Derivations.{AreOriginal, MayStart}
use Rattle.pb_family.specs.Fresh.{positive_of}
use Rattle.pb_adder.specs.declared.gate.Gate.{Gate}
use Rattle.pb_adder.specs.declared.gate.Gate.TheVariants.{Full, Half}
use Rattle.pb_adder.specs.declared.gate.Wire.{Wire}
use Rattle.pb_adder.specs.declared.gate.Wire.TheVariants.{Input, Made}
use Rattle.pb_adder.specs.Adder.{adder_clauses}
use Rattle.pb_adder.specs.AdderSteps.{line_ops, tree_ops, blocks_within, blocks, sum_ops, later_sums, sum_steps, last_sum, last_deletion, gate_ids, gate_claims, row_claims, levels_of, adder_claims, proving_steps, adder_steps}
use Rattle.pb_adder.specs.Comparator.{comparator}
use Rattle.pb_adder.specs.Counts.{adder_fresh, adder_size}
use Rattle.pb_adder.specs.GateReifications.{carry_reification, sum_reification, input_lits, sum_var, carry_var, gate_reifications, twice_off}
use Rattle.pb_adder.specs.Gates.{gate_clauses, gate_inputs, wire_lit}
use Rattle.pb_adder.specs.LeveledGates.{Leveled, leveled_gates}
use Rattle.pb_adder.specs.Network.{level_count, network_gates, network_ends}
use Rattle.pb_adder.specs.laws.AdderDerives.{IsForAdder, reifications-length}
use Rattle.pb_adder.specs.laws.AdderLaws.{adder_variables}
use Rattle.pb_adder.specs.laws.AdderReifications.{all_reifications}
use Rattle.pb_adder.specs.laws.CountLaws.{network_fresh}
use Rattle.pb_adder.specs.laws.GateClaims.{gate_few}
use Rattle.pb_adder.specs.laws.GateTables.{few_inputs}
use Rattle.pb_adder.specs.laws.Leveling.{few_levels, network_low}
use Rattle.pb_adder.specs.laws.Names.{AllNamed, named_gates}
use Rattle.pb_adder.specs.laws.RowLengths.{comparator_short, comparator_few, ends_length}
use Rattle.pb_adder.specs.laws.StepCounts.{claims-length, few_blocks, last_count, levels-length}
use Rattle.pb_adder.specs.laws.Wired.{Known, network_wired}

-- a line can say the step, in few bytes
abbrev IsFine : Step → Type 0
IsFine s = IsSayable s × (step_size s ≤ 8192)

both_fine : (ss : List Step) → All IsSayable ss → All (λ s. step_size s ≤ 8192) ss → All IsFine ss
both_fine ss h k = λ i d w. (h i d w, k i d w)

abbrev AreVariables : List Lit → Type 0
AreVariables ls = All (λ l. IsVariable l.var) ls

-- ---- the variables of adders

wire_variable : (first fresh : ℕ) (w : Wire) → 1 ≤ first → first + fresh ≤ 2 ^ 31 → Known (λ l. IsVariable l.var) fresh w → IsVariable (wire_lit first w).var
wire_variable first fresh (Input l) low fits h = h
wire_variable first fresh (Made k) low fits h = ((let from : 1 ≤ first + k = omega (arith, low) in from), (let below : first + k < 2 ^ 31 = omega (arith, h, fits) in below))

-- ---- the reifications

-- what lines can say of a reification, and how many terms it has
abbrev IsSmallReification : Reification → Type 0
IsSmallReification m = IsSlimReification m × (length m.sum ≤ 4)

inputs_slim : (ls : List Lit) → AreVariables ls → All IsSlimTerm (ones ls)
inputs_slim ls h =
    let small : 1 < 2 ^ 126 = omega arith in
    All-map IsSlimTerm unit_of ls (All-weaker (λ (l : Lit). IsVariable l.var) (λ (l : Lit). IsSlimTerm (unit_of l)) (λ l v. (small, v)) ls h)

sum_slim : (ls : List Lit) (d : ℕ) → AreVariables ls → IsVariable d → All IsSlimTerm (ones ls ++ record { coef = 2; lit = negated (positive_of d) } ∷ [])
sum_slim ls d h v =
    let small : 2 < 2 ^ 126 = omega arith in
    let last : Weighted = record { coef = 2; lit = negated (positive_of d) } in
    All-append IsSlimTerm (ones ls) (last ∷ []) (inputs_slim ls h) (All-cons IsSlimTerm last [] (small, v) (All-nil IsSlimTerm))

gate_small : (first : ℕ) (g : Gate) → AllNamed IsVariable first g → IsSmallReification (carry_reification (input_lits first g) (carry_var first g)) × IsSmallReification (sum_reification (input_lits first g) (sum_var first g) (carry_var first g))
gate_small first g h =
    let ls = input_lits first g in
    let d = carry_var first g in
    let few : length ls ≤ 3 = omega (arith, length-map (gate_inputs g) (wire_lit first), few_inputs g) in
    let size = length-map ls unit_of in
    let heavy = ones-weight ls in (
      (record { sum = inputs_slim ls h.0; var = h.2; light = omega (arith, few, heavy) }, omega (arith, few, size)),
      (
        record { sum = sum_slim ls d h.0 h.2; var = h.1; light = omega (arith, few, heavy, weight-append (ones ls) (twice_off d ∷ [])) },
        omega (arith, few, size, length-append (ones ls) (twice_off d ∷ [])),
      ),
    )

-- ---- the sums

abbrev IsLow : ℕ → Type 0
IsLow level = 2 ^ level ≤ 2 ^ 100

no_ids : (id : ℕ) → id ∷ [] ≡ [] → ⊥
no_ids id e = cc

gone_fine : (id : ℕ) → IsId id → IsFine (Del (id ∷ []))
gone_fine id h = let size : step_size (Del (id ∷ [])) ≡ 24 = refl in (((h, tt), no_ids id), omega (arith, size))

-- the ids from one on, so many
abbrev Fits : ℕ → ℕ → Type 0
Fits id n = (1 ≤ id) × (id + n < 2 ^ 63)

id_at : (id n k : ℕ) → Fits id n → k ≤ n → IsId (id + k)
id_at id n k h le = let from = h.0 in let below = h.1 in ((let a : 1 ≤ id + k = omega (arith, from) in a), (let b : id + k < 2 ^ 63 = omega (arith, below, le) in b))

fits_from : (id n k m : ℕ) → Fits id n → k + m ≤ n → Fits (id + k) m
fits_from id n k m h le = let from = h.0 in let below = h.1 in ((let a : 1 ≤ id + k = omega (arith, from) in a), (let b : id + k + m < 2 ^ 63 = omega (arith, below, le) in b))

front_fits : (id k n : ℕ) → Fits id n → k ≤ n → Fits id k
front_fits id k n h le = let from = h.0 in let below = h.1 in (from, (let b : id + k < 2 ^ 63 = omega (arith, below, le) in b))

own_id : (id n : ℕ) → Fits id n → IsId id
own_id id n h = let from = h.0 in let below = h.1 in (from, (let b : id < 2 ^ 63 = omega (arith, below) in b))

ops_append : (us vs : List PolOp) → AllByRecursion IsOp us → AllByRecursion IsOp vs → AllByRecursion IsOp (us ++ vs)
ops_append [] vs h k = k
ops_append (u ∷ us) vs h k = (h.0, ops_append us vs h.1 k)

line_said : (level id : ℕ) → IsLow level → IsId id → IsId (id + 2) → AllByRecursion IsOp (line_ops level id)
line_said level id low c s =
    let two : IsFactor (pos 2) = ((let h : pos 1 ≤ℤ pos 2 = omega (arith, ints) in h), (let h : 2 < 2 ^ 126 = omega arith in h)) in
    let three : IsFactor (pos 3) = ((let h : pos 1 ≤ℤ pos 3 = omega (arith, ints) in h), (let h : 3 < 2 ^ 126 = omega arith in h)) in
    let times : IsFactor (pos (2 ^ level)) = ((let h : pos 1 ≤ℤ pos (2 ^ level) = omega (arith, ints, pow_pos level) in h), (let h : 2 ^ level < 2 ^ 126 = omega (arith, low) in h)) in
    (c, (two, (s, (tt, (three, (times, tt))))))

-- a tree's parts
tree_said : (n id : ℕ) (levels : List ℕ) → All IsLow levels → Fits id (4 * length levels) → AllByRecursion IsOp (tree_ops n id levels)
unfolding tree_ops
tree_said zero id [] low ids = tt
tree_said zero id (level ∷ levels) low ids = line_said level id (All-head IsLow level levels low) (own_id id (4 * length (level ∷ levels)) ids) (id_at id (4 * length (level ∷ levels)) 2 ids (omega arith))
tree_said (suc n) id levels low ids =
    let k = 2 ^ n in
    let both = All-append_both IsLow (take k levels) (drop k levels) (subst (All IsLow) (sym (take-append-drop k levels)) low) in
    cond_both (leb (length levels) k) (tree_ops n id levels) (tree_ops n id (take k levels) ++ (tree_ops n (id + 4 * k) (drop k levels) ++ Add ∷ [])) (AllByRecursion IsOp)
    (λ e. tree_said n id levels low ids)
    (λ e.
    let more : k < length levels = leb-false (length levels) k e in
    let one : length (take k levels) ≡ k = length-take-le k levels (omega (arith, more)) in
    let other : length (drop k levels) ≡ length levels - k = length-drop k levels in
    let from = ids.0 in
    let below = ids.1 in
    ops_append (tree_ops n id (take k levels)) (tree_ops n (id + 4 * k) (drop k levels) ++ Add ∷ [])
    (tree_said n id (take k levels) both.0 (from, (let b : id + 4 * length (take k levels) < 2 ^ 63 = omega (arith, below, one, more) in b)))
    (ops_append (tree_ops n (id + 4 * k) (drop k levels)) (Add ∷ [])
    (tree_said n (id + 4 * k) (drop k levels) both.1 ((let f : 1 ≤ id + 4 * k = omega (arith, from) in f), (let b : id + 4 * k + 4 * length (drop k levels) < 2 ^ 63 = omega (arith, below, other, more) in b)))
    (tt, tt)))

tree_size : (n id : ℕ) (levels : List ℕ) → sum_by op_size (tree_ops n id levels) + 2 * min 1 (length levels) ≤ 167 * length levels
unfolding tree_ops
tree_size zero id [] = omega arith
tree_size zero id (level ∷ levels) = let size : sum_by op_size (line_ops level id) ≡ 165 = refl in omega (arith, size)
tree_size (suc n) id levels =
    let k = 2 ^ n in
    let front = take k levels in
    let back = drop k levels in
    cond_both (leb (length levels) k) (tree_ops n id levels) (tree_ops n id front ++ (tree_ops n (id + 4 * k) back ++ Add ∷ [])) (λ ops. sum_by op_size ops + 2 * min 1 (length levels) ≤ 167 * length levels)
    (λ e. tree_size n id levels)
    (λ e.
    let last : sum_by op_size (Add ∷ []) ≡ 2 = refl in
    let more : k < length levels = leb-false (length levels) k e in
    let left = tree_size n id front in
    let right = tree_size n (id + 4 * k) back in
    let both = sum_by-append op_size (tree_ops n id front) (tree_ops n (id + 4 * k) back ++ Add ∷ []) in
    let rest = sum_by-append op_size (tree_ops n (id + 4 * k) back) (Add ∷ []) in
    omega (arith, both, rest, last, left, right, more, length-take-le k levels (omega (arith, more)), length-drop k levels, pow_pos n))

-- a block's line
block_size : (id running : ℕ) (block : List ℕ) → step_size (Pol (sum_ops id block running)) ≤ 26 + 167 * length block
block_size id running block =
    let last : sum_by op_size (Push running ∷ Add ∷ []) ≡ 22 = refl in
    omega (arith, sum_by-append op_size (tree_ops 16 id block) (Push running ∷ Add ∷ []), last, tree_size 16 id block)

abbrev IsBlock : List ℕ → Type 0
IsBlock block = All IsLow block × (length block ≤ 2 ^ 16)

within_blocks : (n more : ℕ) (levels : List ℕ) → 2 ^ n ≤ 2 ^ 16 → All IsLow levels → All IsBlock (blocks_within n more levels)
unfolding blocks_within
within_blocks n zero levels few low = All-nil IsBlock
within_blocks n (suc more) [] few low = All-nil IsBlock
within_blocks n (suc more) (level ∷ levels) few low =
    let k = 2 ^ n in
    let all = level ∷ levels in
    let both = All-append_both IsLow (take k all) (drop k all) (subst (All IsLow) (sym (take-append-drop k all)) low) in
    All-cons IsBlock (take k all) (blocks_within n more (drop k all)) (both.0, (let h : length (take k all) ≤ 2 ^ 16 = omega (arith, length-take k all, few) in h)) (within_blocks n more (drop k all) few both.1)

within_size : (n more : ℕ) (levels : List ℕ) → sum_by length (blocks_within n more levels) ≤ length levels
unfolding blocks_within
within_size n zero levels = omega arith
within_size n (suc more) [] = omega arith
within_size n (suc more) (level ∷ levels) =
    let k = 2 ^ n in
    let all = level ∷ levels in
    omega (arith, sum_by-cons {X = List ℕ} length (take k all) (blocks_within n more (drop k all)), within_size n more (drop k all), length-append (take k all) (drop k all), ap length (take-append-drop k all))

-- a line can say the step, in no more bytes than a line may have
abbrev IsLong : Step → Type 0
IsLong s = IsSayable s × (step_size s ≤ 2 ^ 28)

fine_long : (s : Step) → IsFine s → IsLong s
fine_long s h = let small = h.1 in (h.0, omega (arith, small))

one_long : (id running : ℕ) (block : List ℕ) → IsBlock block → Fits id (4 * length block) → IsId running → IsLong (Pol (sum_ops id block running))
one_long id running block is ids r =
    let few = is.1 in
    (ops_append (tree_ops 16 id block) (Push running ∷ Add ∷ []) (tree_said 16 id block is.0 ids) (r, (tt, tt)), omega (arith, block_size id running block, few))

later_long : (id running next : ℕ) (parts : List (List ℕ)) → All IsBlock parts → Fits id (4 * sum_by length parts) → IsId running → Fits next (length parts) → All IsLong (later_sums id running next parts)
later_long id running next [] are ids r nexts = All-nil IsLong
later_long id running next (block ∷ parts) are ids r nexts =
    let rest = later_sums (id + 4 * length block) next (next + 1) parts in
    let whole = sum_by-cons {X = List ℕ} length block parts in
    All-cons IsLong (Pol (sum_ops id block running)) (Del (running ∷ []) ∷ rest)
    (one_long id running block (All-head IsBlock block parts are) (front_fits id (4 * length block) (4 * sum_by length (block ∷ parts)) ids (omega (arith, whole))) r)
    (All-cons IsLong (Del (running ∷ [])) rest (fine_long (Del (running ∷ [])) (gone_fine running r))
    (later_long (id + 4 * length block) next (next + 1) parts (All-tail IsBlock block parts are) (fits_from id (4 * sum_by length (block ∷ parts)) (4 * length block) (4 * sum_by length parts) ids (omega (arith, whole)))
    (own_id next (length (block ∷ parts)) nexts) (fits_from next (length (block ∷ parts)) 1 (length parts) nexts (omega arith))))

sums_long : (id running next : ℕ) (parts : List (List ℕ)) → All IsBlock parts → Fits id (4 * sum_by length parts) → IsId running → Fits next (length parts) → All IsLong (sum_steps id running next parts)
sums_long id running next [] are ids r nexts = All-nil IsLong
sums_long id running next (block ∷ parts) are ids r nexts =
    let step = Pol (sum_ops id block running) in
    let gone = Del (running ∷ []) in
    let rest = later_sums (id + 4 * length block) next (next + 1) parts in
    let all = later_long id running next (block ∷ parts) are ids r nexts in
    All-cons IsLong step rest (All-head IsLong step (gone ∷ rest) all) (All-tail IsLong gone rest (All-tail IsLong step (gone ∷ rest) all))

-- all of them together
later_size : (id running next : ℕ) (parts : List (List ℕ)) → sum_by step_size (later_sums id running next parts) ≤ 50 * length parts + 167 * sum_by length parts
later_size id running next [] = omega arith
later_size id running next (block ∷ parts) =
    let rest = later_sums (id + 4 * length block) next (next + 1) parts in
    let gone : step_size (Del (running ∷ [])) ≡ 24 = refl in
    omega (
      arith,
      sum_by-cons step_size (Pol (sum_ops id block running)) (Del (running ∷ []) ∷ rest),
      sum_by-cons step_size (Del (running ∷ [])) rest,
      gone,
      block_size id running block,
      later_size (id + 4 * length block) next (next + 1) parts,
      sum_by-cons {X = List ℕ} length block parts,
    )

sums_size : (id running next : ℕ) (parts : List (List ℕ)) → sum_by step_size (sum_steps id running next parts) ≤ 50 * length parts + 167 * sum_by length parts
sums_size id running next [] = omega arith
sums_size id running next (block ∷ parts) =
    let step = Pol (sum_ops id block running) in
    let gone = Del (running ∷ []) in
    let rest = later_sums (id + 4 * length block) next (next + 1) parts in
    omega (arith, sum_by-cons step_size step rest, sum_by-cons step_size step (gone ∷ rest), sum_by-cons step_size gone rest, later_size id running next (block ∷ parts))

last_id : (running next : ℕ) (parts : List (List ℕ)) → IsId running → Fits next (length parts) → IsId (last_sum running next parts)
last_id running next [] r nexts = r
last_id running next (block ∷ parts) r nexts = last_id next (next + 1) parts (own_id next (length (block ∷ parts)) nexts) (fits_from next (length (block ∷ parts)) 1 (length parts) nexts (omega arith))

last_gone : (last : ℕ) (levels : List ℕ) → IsId last → All IsFine (last_deletion last levels)
last_gone last [] h = All-nil IsFine
last_gone last (level ∷ levels) h = All-cons IsFine (Del (last ∷ [])) [] (gone_fine last h) (All-nil IsFine)

-- ---- the clauses

abbrev IsFineClaim : Claim → Type 0
IsFineClaim c = IsFine c.step

gate_claims_fine : (first id : ℕ) (gs : List Gate) → All AreVariables (flat_map (gate_clauses first) gs) → Fits id (4 * length gs) → All IsFineClaim (gate_claims first id gs)
gate_claims_fine first id [] vars ids = All-nil IsFineClaim
gate_claims_fine first id (g ∷ gs) vars ids =
    let parts = All-append_both AreVariables (gate_clauses first g) (flat_map (gate_clauses first) gs) vars in
    let few = gate_few first g in
    let n : ℕ = 4 * length (g ∷ gs) in
    let four : All IsId (gate_ids id) =
    All-cons IsId id ((id + 1) ∷ (id + 2) ∷ (id + 3) ∷ []) (own_id id n ids)
    (All-cons IsId (id + 1) ((id + 2) ∷ (id + 3) ∷ []) (id_at id n 1 ids (omega arith))
    (All-cons IsId (id + 2) ((id + 3) ∷ []) (id_at id n 2 ids (omega arith)) (All-cons IsId (id + 3) [] (id_at id n 3 ids (omega arith)) (All-nil IsId)))) in
    All-append IsFineClaim (map (by_rup (gate_ids id)) (gate_clauses first g)) (gate_claims first (id + 4) gs)
    (All-map IsFineClaim (by_rup (gate_ids id)) (gate_clauses first g) (λ k d h.
    let clause : List Lit = get_or (gate_clauses first g) k d in
    (rup_sayable (gate_ids id) clause four (parts.0 k d h), omega (arith, rup-size (gate_ids id) clause, few k d h))))
    (gate_claims_fine first (id + 4) gs parts.1 (fits_from id n 4 (4 * length gs) ids (omega arith)))

row_claims_fine : (last : ℕ) (rows : List (List Lit)) → IsId last → All AreVariables rows → All (λ (c : List Lit). length c ≤ 100) rows → All IsFineClaim (row_claims last rows)
row_claims_fine last rows id vars few =
    let one : All IsId (last ∷ []) = All-cons IsId last [] id (All-nil IsId) in
    All-map IsFineClaim (by_rup (last ∷ [])) rows (λ k d h.
    let clause : List Lit = get_or rows k d in
    (rup_sayable (last ∷ []) clause one (vars k d h), omega (arith, rup-size (last ∷ []) clause, few k d h)))

pub gate_count : (first : ℕ) (g : Gate) → length (gate_clauses first g) ≤ 14
gate_count first (Full a b c made) = omega arith
gate_count first (Half a b made) = omega arith

pub gate_claims_few : (first id : ℕ) (gs : List Gate) → length (gate_claims first id gs) ≤ 14 * length gs
gate_claims_few first id [] = omega arith
gate_claims_few first id (g ∷ gs) =
    omega (
      arith,
      length-append (map (by_rup (gate_ids id)) (gate_clauses first g)) (gate_claims first (id + 4) gs),
      length-map (gate_clauses first g) (by_rup (gate_ids id)),
      gate_count first g,
      gate_claims_few first (id + 4) gs,
    )

-- ---- all steps

module _ (m : BoundedSum) (suits : IsForAdder m) (first id next : ℕ) (original : AreOriginal first m.terms) (start : MayStart first (adder_fresh m.terms) id next) where
  abbrev ts : List Weighted
  ts = m.terms

  abbrev gates : List Gate
  gates = network_gates ts

  abbrev ms : List Reification
  ms = flat_map (gate_reifications first) gates

  abbrev count : ℕ
  count = length gates

  abbrev levels : List ℕ
  levels = levels_of ts

  abbrev sums_from : ℕ
  sums_from = next + 4 * count

  abbrev parts : List (List ℕ)
  parts = blocks levels

  abbrev last : ℕ
  last = last_sum id sums_from parts

  abbrev claims : List Claim
  claims = adder_claims ts m.bound first next last

  abbrev steps : List Step
  steps = adder_steps ts m.bound first id next

  room : 2 * count ≤ 2 ^ 31
  room = omega (arith, start.fits, network_fresh ts)

  from_one : 1 ≤ next
  from_one = omega (arith, start.given, start.known)

  within : next ≤ 2 ^ 61
  within = start.few

  constraint_id : IsId id
  constraint_id = (start.given, (let below : id < 2 ^ 63 = omega (arith, start.known, start.few) in below))

  low : All IsLow levels
  low = All-map IsLow (λ (x : Leveled). x.level) (leveled_gates ts) (network_low ts suits.small)

  size : length levels ≡ count
  size = levels-length ts

  reification_ids : Fits next (4 * count)
  reification_ids = (from_one, (let below : next + 4 * count < 2 ^ 63 = omega (arith, within, room) in below))

  few_parts : length parts ≤ count
  few_parts = omega (arith, few_blocks levels, size)

  sum_ids : Fits sums_from (length parts)
  sum_ids = ((let from : 1 ≤ sums_from = omega (arith, from_one) in from), (let below : sums_from + length parts < 2 ^ 63 = omega (arith, within, room, few_parts) in below))

  last_is : IsId last
  last_is = last_id id sums_from parts constraint_id sum_ids

  variables : All (λ t. IsVariable t.lit.var) ts
  variables = All-weaker (λ (t : Weighted). (1 ≤ t.lit.var) × (t.lit.var < first)) (λ (t : Weighted). IsVariable t.lit.var) (λ t h. (h.0, (let b : t.lit.var < 2 ^ 31 = omega (arith, h.1, start.fits) in b))) ts original

  gates_are_named : All (AllNamed IsVariable first) gates
  gates_are_named =
      let V : Lit → Type 0 = λ l. IsVariable l.var in
      named_gates IsVariable V first (adder_fresh ts) 0 gates (network_wired V ts variables) (omega (arith, network_fresh ts)) (λ w known. wire_variable first (adder_fresh ts) w start.low start.fits known)

  reifications_small : All IsSmallReification ms
  reifications_small = all_reifications IsSmallReification first gates (λ k d h. gate_small first (get_or gates k d) (gates_are_named k d h))

  clause_variables : All AreVariables (adder_clauses ts m.bound first)
  clause_variables =
      adder_variables IsVariable ts m.bound first variables
      (λ v from below. ((let a : 1 ≤ v = omega (arith, from, start.low) in a), (let b : v < 2 ^ 31 = omega (arith, below, start.fits) in b)))

  rows_few : All (λ (c : List Lit). length c ≤ 100) (comparator first m.bound (network_ends ts))
  rows_few =
      All-weaker (λ (c : List Lit). length c ≤ length (network_ends ts)) (λ (c : List Lit). length c ≤ 100) (λ c h. omega (arith, h, ends_length (level_count ts) 0 ts [] 0, few_levels ts suits.small))
      (comparator first m.bound (network_ends ts)) (comparator_short first m.bound (network_ends ts))

  claims_fine : All IsFineClaim claims
  claims_fine =
      let parts = All-append_both AreVariables (flat_map (gate_clauses first) gates) (comparator first m.bound (network_ends ts)) clause_variables in
      All-append IsFineClaim (gate_claims first next gates) (row_claims last (comparator first m.bound (network_ends ts)))
      (gate_claims_fine first next gates parts.0 reification_ids) (row_claims_fine last (comparator first m.bound (network_ends ts)) last_is parts.1 rows_few)

  claims_few : length claims ≤ 14 * count + 100
  claims_few =
      omega (
        arith,
        length-append (gate_claims first next gates) (row_claims last (comparator first m.bound (network_ends ts))),
        gate_claims_few first next gates,
        length-map (comparator first m.bound (network_ends ts)) (by_rup (last ∷ [])),
        comparator_few first m.bound (network_ends ts),
        ends_length (level_count ts) 0 ts [] 0,
        few_levels ts suits.small,
      )

  -- ---- the parts

  abbrev reifications : List Step
  reifications = reification_steps next ms

  abbrev sums : List Step
  sums = sum_steps next id sums_from parts

  abbrev outs : List Step
  outs = claim_steps (sums_from + length parts) claims

  abbrev rest : List Step
  rest = last_deletion last levels

  abbrev gone : List Step
  gone = deletion_steps 2 next (2 * count)

  reifications_fine : All IsFine reifications
  reifications_fine =
      let slim : All IsSlimReification ms = All-weaker IsSmallReification IsSlimReification (λ m h. h.0) ms reifications_small in
      let sizes : All (λ m. 119 + 53 * length m.sum ≤ 8192) ms = All-weaker IsSmallReification (λ (m : Reification). 119 + 53 * length m.sum ≤ 8192) (λ m h. let few = h.1 in omega (arith, few)) ms reifications_small in
      both_fine reifications (reifications_sayable next ms from_one (omega (arith, reifications-length first gates, within, room)) slim) (reifications_each 8192 (omega arith) next ms sizes)

  outs_fine : All IsFine outs
  outs_fine =
      let out : ℕ = sums_from + length parts in
      let said : All (λ (c : Claim). IsSayable c.step) claims = All-weaker IsFineClaim (λ (c : Claim). IsSayable c.step) (λ c h. h.0) claims claims_fine in
      let sized : All (λ (c : Claim). step_size c.step ≤ 8192) claims = All-weaker IsFineClaim (λ (c : Claim). step_size c.step ≤ 8192) (λ c h. h.1) claims claims_fine in
      both_fine outs (claims_sayable out claims (omega (arith, from_one)) (omega (arith, within, room, few_parts, claims_few)) said) (claims_each 8192 (omega arith) out claims sized)

  rest_fine : All IsFine rest
  rest_fine = last_gone last levels last_is

  gone_all : All IsFine gone
  gone_all = both_fine gone (deletions_sayable next (2 * count) from_one (omega (arith, within, room))) (deletions_each 8192 (omega arith) next (2 * count))

  all_sums : sum_by length parts ≤ count
  all_sums = omega (arith, within_size 16 (length levels) levels, size)

  sums_fit : All IsLong sums
  sums_fit = sums_long next id sums_from parts (within_blocks 16 (length levels) levels (omega arith) low) (front_fits next (4 * sum_by length parts) (4 * count) reification_ids (omega (arith, all_sums))) constraint_id sum_ids

  -- ---- all together

  all_long : All IsLong steps
  all_long =
      let long = λ (ss : List Step) (h : All IsFine ss). All-weaker IsFine IsLong fine_long ss h in
      All-append IsLong reifications (proving_steps ts m.bound first id next sums_from ++ gone) (long reifications reifications_fine)
      (All-append IsLong (proving_steps ts m.bound first id next sums_from) gone
      (All-append IsLong sums (outs ++ rest) sums_fit (All-append IsLong outs rest (long outs outs_fine) (long rest rest_fine)))
      (long gone gone_all))

  says : All IsSayable steps
  says = All-weaker IsLong IsSayable (λ s h. h.0) steps all_long

  bytes : (ss : List Step) → All IsFine ss → sum_by step_size ss ≤ 8192 * length ss
  bytes ss h = omega (arith, each_all 8192 ss (All-weaker IsFine (λ (s : Step). step_size s ≤ 8192) (λ s h. h.1) ss h))

  size_all : sum_by step_size steps ≤ 2 ^ 20 * (adder_fresh ts + adder_size ts m.bound + 3)
  size_all =
      omega (
        arith,
        sum_by-append step_size reifications (proving_steps ts m.bound first id next sums_from ++ gone),
        sum_by-append step_size (proving_steps ts m.bound first id next sums_from) gone,
        sum_by-append step_size sums (outs ++ rest),
        sum_by-append step_size outs rest,
        bytes reifications reifications_fine,
        length-reifications next ms,
        reifications-length first gates,
        bytes outs outs_fine,
        length-claims (sums_from + length parts) claims,
        claims-length ts m.bound first next last,
        bytes rest rest_fine,
        last_count last levels,
        bytes gone gone_all,
        length-deletions 2 next (2 * count),
        sums_size next id sums_from parts,
        few_parts,
        all_sums,
        network_fresh ts,
      )

  short : AreShort (length m.terms) (adder_fresh ts) (adder_size ts m.bound) steps
  short = record {
    each = line_sized (2 ^ 28) steps says (All-weaker IsLong (λ (s : Step). step_size s ≤ 2 ^ 28) (λ s h. h.1) steps all_long);
    all = omega (arith, lines_sized steps says, size_all);
  }

pub adder_sayable : (m : BoundedSum) (first id next : ℕ) → IsForAdder m → AreOriginal first m.terms → MayStart first (adder_fresh m.terms) id next → All IsSayable (adder_steps m.terms m.bound first id next)
adder_sayable m first id next suits original start = says m suits first id next original start

pub adder_short : (m : BoundedSum) (first id next : ℕ) → IsForAdder m → AreOriginal first m.terms → MayStart first (adder_fresh m.terms) id next
    → AreShort (length m.terms) (adder_fresh m.terms) (adder_size m.terms m.bound) (adder_steps m.terms m.bound first id next)
adder_short m first id next suits original start = short m suits first id next original start
