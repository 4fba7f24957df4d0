-- A network that is built level by level.
use Rattle.std.proofs.Common.{◌≡◌, ◌<◌, ◌≤◌, ◌+◌, ◌-◌, ◌*◌, ◌++◌, ◌∙◌, ℕ, List, [], ◌∷◌, zero, suc, length, take, drop, sym, ap, subst, arith, length-append, append_assoc, append-nil, ◌/◌, replicate, refl}
use Rattle.std.specs.Prelude.{All, Option, map}
use Rattle.std.proofs.Math.Seq.{drop-append_seam}
use Rattle.std.proofs.lemmas.List.{length-drop, map-append, take_all, length-replicate}
use Rattle.std.proofs.lemmas.List.Elements.{All-nil, All-cons, All-append}
use Rattle.pb_base.specs.declared.literal.Term.{Term}
use Rattle.pb_norm.specs.BoundedSums.{BoundedSum, IsProper, sum_within}
use Rattle.pb_norm.specs.Constraints.{Weighted, weights}
use Rattle.pb_adder.specs.declared.gate.Wire.{Wire}
use Rattle.pb_adder.specs.declared.gate.Gate.{Gate}
use Rattle.pb_adder.specs.AdderSteps.{levels_of}
use Rattle.pb_adder.specs.Gates.{carry_wire, made_of}
use Rattle.pb_adder.specs.LeveledGates.{Leveled, at_level, filled_up, leveled_from}
use Rattle.pb_adder.specs.laws.TreeOps.{levels_in}
use Rattle.pb_adder.specs.Network.{ends_from, gates_from, gates_of, level_count, level_end, network_ends, network_gates, queue_at, level_gates}
use Rattle.pb_adder.specs.declared.gate.Wire.TheVariants.{Made}
use Rattle.pb_adder.specs.declared.gate.Gate.TheVariants.{Full, Half}

-- ---- the numbers of the adders, and their levels

level_made : (n : ℕ) (queue : List Wire) (made total : ℕ) → made + 2 * length (level_gates n queue made) ≤ total → All (λ g. made_of g + 1 < total) (level_gates n queue made)
level_made zero queue made total within = All-nil (λ g. made_of g + 1 < total)
level_made (suc n) [] made total within = All-nil (λ g. made_of g + 1 < total)
level_made (suc n) (a ∷ []) made total within = All-nil (λ g. made_of g + 1 < total)
level_made (suc n) (a ∷ b ∷ []) made total within = All-cons (λ g. made_of g + 1 < total) (Half a b made) [] (let h : made + 1 < total = omega arith in h) (All-nil (λ g. made_of g + 1 < total))
level_made (suc n) (a ∷ b ∷ c ∷ rest) made total within =
    let later = level_gates n (rest ++ Made made ∷ []) (made + 2) in
    All-cons (λ g. made_of g + 1 < total) (Full a b c made) later (let h : made + 1 < total = omega arith in h) (level_made n (rest ++ Made made ∷ []) (made + 2) total (omega arith))

pub level_numbered : (gates more : List Gate) (queue : List Wire) → more ≡ gates ++ gates_of queue (2 * length gates) → All (λ g. made_of g + 1 < 2 * length gates) gates → All (λ g. made_of g + 1 < 2 * length more) more
level_numbered gates more queue added all =
    let made = 2 * length gates in
    let here = gates_of queue made in
    let size : 2 * length more ≡ made + 2 * length here = omega (arith, ap length added, length-append gates here) in
    subst (λ (gs : List Gate). All (λ g. made_of g + 1 < 2 * length more) gs) (sym added)
    (All-append (λ g. made_of g + 1 < 2 * length more) gates here (λ k d h. let below = all k d h in omega arith) (level_made (length queue / 2) queue made (2 * length more) (omega arith)))

-- the adders of one level have its number
levels_at : (level : ℕ) (gs : List Gate) → levels_in (at_level level gs) ≡ replicate (length gs) level
levels_at level [] = refl
levels_at level (g ∷ gs) = ap (λ (ls : List ℕ). level ∷ ls) (levels_at level gs)

-- the levels of more adders
pub heights_filled : (level : ℕ) (heights others : List ℕ) (gates more here : List Gate) → length heights ≡ length gates → more ≡ gates ++ here → others ≡ filled_up heights (length more) level → others ≡ heights ++ levels_in (at_level level here)
heights_filled level heights others gates more here same grown filled =
    let size : length more ≡ length gates + length here = ap length grown ∙ length-append gates here in
    let count : length more - length heights ≡ length here = omega (arith, size, same) in
    filled
    ∙ ap (λ (n : ℕ). heights ++ replicate n level) count
    ∙ ap (λ (ls : List ℕ). heights ++ ls) (sym (levels_at level here))

-- so many adders have a level
pub heights_count : (level : ℕ) (heights others : List ℕ) (gates more here : List Gate) → length heights ≡ length gates → more ≡ gates ++ here → others ≡ filled_up heights (length more) level
    → length others ≡ length more
heights_count level heights others gates more here same grown filled =
    let size : length more ≡ length gates + length here = ap length grown ∙ length-append gates here in
    omega (arith, ap length filled, length-append heights (replicate (length more - length heights) level), length-replicate (length more - length heights) level, size, same)

-- ---- level by level

-- what is built below a level, where the carries into it are those of the adders from a number on
pub record IsBuilt (ts : List Weighted) (levels level below : ℕ) (gates : List Gate) (heights : List ℕ) (ends : List (Option Wire)) : Type 0 where
  pub all_gates : gates ++ gates_from (levels - level) level ts (map carry_wire (drop below gates)) (2 * length gates) ≡ network_gates ts
  pub all_heights : heights ++ levels_in (leveled_from (levels - level) level ts (map carry_wire (drop below gates)) (2 * length gates)) ≡ levels_of ts
  pub all_ends : ends ++ ends_from (levels - level) level ts (map carry_wire (drop below gates)) (2 * length gates) ≡ network_ends ts
  pub sized : length heights ≡ length gates
  pub numbered : All (λ g. made_of g + 1 < 2 * length gates) gates
  pub within : below ≤ length gates

built_empty : (ts : List Weighted) (levels : ℕ) → levels ≡ level_count ts → IsBuilt ts levels 0 0 [] [] []
built_empty ts levels count =
    let whole : levels - 0 ≡ level_count ts = omega arith in
    record {
      all_gates = ap (λ (n : ℕ). gates_from n 0 ts [] 0) whole;
      all_heights = ap (λ (n : ℕ). levels_in (leveled_from n 0 ts [] 0)) whole;
      all_ends = ap (λ (n : ℕ). ends_from n 0 ts [] 0) whole;
      sized = omega arith;
      numbered = All-nil (λ (g : Gate). made_of g + 1 < 0);
      within = omega arith;
    }

-- nothing at first
pub built_none : (ts : List Weighted) (levels : ℕ) (gates : List Gate) (heights : List ℕ) (ends : List (Option Wire)) → levels ≡ level_count ts → gates ≡ [] → heights ≡ [] → ends ≡ [] → IsBuilt ts levels 0 0 gates heights ends
built_none ts levels gates heights ends count no_gate no_height no_end =
    subst (λ (gs : List Gate). IsBuilt ts levels 0 0 gs heights ends) (sym no_gate)
    (subst (λ (hs : List ℕ). IsBuilt ts levels 0 0 [] hs ends) (sym no_height) (subst (λ (es : List (Option Wire)). IsBuilt ts levels 0 0 [] [] es) (sym no_end) (built_empty ts levels count)))

-- one level more
module _ (ts : List Weighted) (levels level below : ℕ) (gates more : List Gate) (queue : List Wire) (inside : level < levels) (filled : queue ≡ queue_at ts level (map carry_wire (drop below gates)))
    (added : more ≡ gates ++ gates_of queue (2 * length gates)) where
  abbrev carried : List Wire
  carried = map carry_wire (drop below gates)

  abbrev made : ℕ
  made = 2 * length gates

  abbrev here : List Gate
  here = gates_of queue made

  abbrev next : ℕ
  next = made + 2 * length here

  -- any list that goes on with a part of the level
  longer : {X : Type 0} (f : ℕ → ℕ → List Wire → ℕ → List X) (firsts others part all : List X) → ((n : ℕ) → f (suc n) level carried made ≡ part ++ f n (level + 1) (map carry_wire here) next)
      → others ≡ firsts ++ part → firsts ++ f (levels - level) level carried made ≡ all
      → others ++ f (levels - (level + 1)) (level + 1) (map carry_wire (drop (length gates) more)) (2 * length more) ≡ all
  longer {X} f firsts others part all goes_on pushed left =
      let n = levels - (level + 1) in
      let count : levels - level ≡ suc n = omega (arith, inside) in
      let size : 2 * length more ≡ next = omega (arith, ap length added, length-append gates here) in
      let new : drop (length gates) more ≡ here = ap (drop (length gates)) added ∙ drop-append_seam gates here in
      let rest = f n (level + 1) (map carry_wire here) next in
      (λ i. others ++ f n (level + 1) (map carry_wire (new i)) (size i))
      ∙ ap (λ (xs : List X). xs ++ rest) pushed
      ∙ append_assoc firsts part rest
      ∙ ap (λ (xs : List X). firsts ++ xs) (sym (goes_on n))
      ∙ ap (λ (k : ℕ). firsts ++ f k level carried made) (sym count)
      ∙ left

  gates_on : (n : ℕ) → gates_from (suc n) level ts carried made ≡ here ++ gates_from n (level + 1) ts (map carry_wire here) next
  gates_on n = ap (λ (ws : List Wire). gates_of ws made ++ gates_from n (level + 1) ts (map carry_wire (gates_of ws made)) (made + 2 * length (gates_of ws made))) (sym filled)

  ends_on : (n : ℕ) → ends_from (suc n) level ts carried made ≡ level_end queue made ∷ ends_from n (level + 1) ts (map carry_wire here) next
  ends_on n = ap (λ (ws : List Wire). level_end ws made ∷ ends_from n (level + 1) ts (map carry_wire (gates_of ws made)) (made + 2 * length (gates_of ws made))) (sym filled)

  heights_on : (n : ℕ) → levels_in (leveled_from (suc n) level ts carried made) ≡ levels_in (at_level level here) ++ levels_in (leveled_from n (level + 1) ts (map carry_wire here) next)
  heights_on n =
      ap (λ (ws : List Wire). levels_in (at_level level (gates_of ws made) ++ leveled_from n (level + 1) ts (map carry_wire (gates_of ws made)) (made + 2 * length (gates_of ws made)))) (sym filled)
      ∙ map-append (λ (x : Leveled). x.level) (at_level level here) (leveled_from n (level + 1) ts (map carry_wire here) next)

  pub built_more : (heights others : List ℕ) (ends news : List (Option Wire)) → others ≡ filled_up heights (length more) level → news ≡ ends ++ level_end queue made ∷ []
      → IsBuilt ts levels level below gates heights ends → IsBuilt ts levels (level + 1) (length gates) more others news
  built_more heights others ends news leveled ended built = record {
    all_gates = longer (λ n level carried made. gates_from n level ts carried made) gates more here (network_gates ts) gates_on added built.all_gates;
    all_heights = longer (λ n level carried made. levels_in (leveled_from n level ts carried made)) heights others (levels_in (at_level level here)) (levels_of ts) heights_on (heights_filled level heights others gates more here built.sized added leveled) built.all_heights;
    all_ends = longer (λ n level carried made. ends_from n level ts carried made) ends news (level_end queue made ∷ []) (network_ends ts) ends_on ended built.all_ends;
    sized = heights_count level heights others gates more here built.sized added leveled;
    numbered = level_numbered gates more queue added built.numbered;
    within = omega (arith, ap length added, length-append gates here);
  }

-- no level is left
module _ {ts : List Weighted} {levels level below : ℕ} {gates : List Gate} {heights : List ℕ} {ends : List (Option Wire)} (done : levels ≤ level) (built : IsBuilt ts levels level below gates heights ends) where
  none : zero ≡ levels - level
  none = omega (arith, done)

  pub built_gates : gates ≡ network_gates ts
  built_gates = sym (append-nil gates) ∙ ap (λ (n : ℕ). gates ++ gates_from n level ts (map carry_wire (drop below gates)) (2 * length gates)) none ∙ built.all_gates

  pub built_heights : heights ≡ levels_of ts
  built_heights = sym (append-nil heights) ∙ ap (λ (n : ℕ). heights ++ levels_in (leveled_from n level ts (map carry_wire (drop below gates)) (2 * length gates))) none ∙ built.all_heights

  pub built_ends : ends ≡ network_ends ts
  built_ends = sym (append-nil ends) ∙ ap (λ (n : ℕ). ends ++ ends_from n level ts (map carry_wire (drop below gates)) (2 * length gates)) none ∙ built.all_ends

-- what stands from a number on
pub slice_whole : {X : Type 0} (below : ℕ) (all slice : List X) → slice ≡ all → take (length slice - below) (drop below slice) ≡ drop below all
slice_whole {X} below all slice same = take_all (length slice - below) (drop below slice) (omega (arith, length-drop below slice)) ∙ ap (λ (xs : List X). drop below xs) same

-- what a sum keeps when its terms and its bound are copied
abbrev pub sum_of : List Weighted → ℕ → BoundedSum
sum_of ts bound = record { terms = ts; bound = bound }

pub proper_of : (m : BoundedSum) (terms : List Term) (bound : ℕ) → weights terms ≡ m.terms → bound ≡ m.bound → IsProper m → IsProper (sum_within terms bound)
proper_of m terms bound same value proper = subst (λ (ts : List Weighted). IsProper (sum_of ts bound)) (sym same) (subst (λ (b : ℕ). IsProper (sum_of m.terms b)) (sym value) proper)
