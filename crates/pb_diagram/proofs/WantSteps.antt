-- What the steps of a search do to the residues that it keeps.
use Rattle.std.proofs.Common.{◌≡◌, ◌<◌, ◌+◌, ◌-◌, ◌++◌, ℕ, List, [], ◌∷◌, length, get_or, take, set, refl, sym, ap, ◌∙◌, subst, arith, length-append, zero, suc, true, false}
use Rattle.std.specs.Prelude.{Option, Some, None, IfSome}
use Rattle.std.proofs.lemmas.Bool.{both_ways}
use Rattle.std.proofs.lemmas.List.{get_or-map, length-map, map-append, map-set, take-map}
use Rattle.std.proofs.Math.Seq.{map-set_same}
use Rattle.pb_norm.specs.BoundedSums.{BoundedSum}
use Rattle.pb_diagram.specs.declared.interval.Interval.{Interval}
use Rattle.pb_diagram.specs.declared.search.Top.{Top}
use Rattle.pb_diagram.specs.declared.search.Want.{Want}
use Rattle.pb_diagram.specs.inner.Wants.{residues, sides}
use Rattle.pb_diagram.specs.Levels.{coefs_of}
use Rattle.pb_diagram.specs.laws.Search.{nodes_at, IsOff, IsJoined, IsMissing, IsGrown, IsTop, IsSearching, IsSideAt, IsKept, Advanced}
use Rattle.pb_diagram.proofs.SearchReads.{side_at, wants, joins, popped, advances}
use Rattle.pb_diagram.proofs.SideSteps.{sides_want, sides_join}

-- ---- the start

first_side : (c : BoundedSum) (known : List (List Interval)) (r i : ℕ) → i < length (r ∷ []) → IsSideAt c known (r ∷ []) i (get_or (None ∷ []) i None)
first_side c known r zero below = tt
first_side c known r (suc i) below = absurd (omega arith)

-- the bound alone is wanted
pub begun : (c : BoundedSum) (known : List (List Interval)) (ws : List Want) (w : Want) (left : ℕ) → ws ≡ w ∷ [] → w.residue ≡ c.bound → w.off ≡ None → IsSearching c known (c.bound ∷ []) left
    → IsSearching c known (residues ws) left × IsKept c known (residues ws) (sides ws) None
begun c known ws w left only residue_is off_is searching =
    let rs : residues ws ≡ c.bound ∷ [] = ap residues only ∙ ap (λ (r : ℕ). r ∷ []) residue_is in
    let ss : sides ws ≡ None ∷ [] = ap sides only ∙ ap (λ (o : Option Interval). o ∷ []) off_is in
    let kept : IsKept c known (c.bound ∷ []) (None ∷ []) None = record { each = refl; offs = first_side c known c.bound; among = tt } in (
      subst (λ (l : List ℕ). IsSearching c known l left) (sym rs) searching,
      subst (λ (l : List ℕ). IsKept c known l (sides ws) None) (sym rs) (subst (λ (l : List (Option Interval)). IsKept c known (c.bound ∷ []) l None) (sym ss) kept),
    )

-- ---- a step

-- what is read of the last that is wanted
pub last_read : (ws now : List Want) (d : Want) → now ≡ ws → 0 < length ws
    → ((get_or now (length now - 1) d).off ≡ get_or (sides ws) (length now - 1) None) × (length now - 1 + 1 ≡ length (residues ws)) × ((get_or now (length now - 1) d).residue ≡ get_or (residues ws) (length now - 1) 0)
last_read ws now d same some =
    let place = length now - 1 in
    let long = ap length same in
    let within : place < length ws = omega arith in
    let read : get_or now place d ≡ get_or ws place d = ap (λ (l : List Want). get_or l place d) same in (
      ap (λ (w : Want). w.off) read ∙ sym (get_or-map (λ (w : Want). w.off) ws place d None within),
      omega (arith, length-map ws (λ w. w.residue)),
      ap (λ (w : Want). w.residue) read ∙ sym (get_or-map (λ (w : Want). w.residue) ws place d 0 within),
    )

module _ (c : BoundedSum) (known : List (List Interval)) (ws : List Want) (left : ℕ) (last : Option Interval) (top : Top) (searching : IsSearching c known (residues ws) left) (kept : IsKept c known (residues ws) (sides ws) last) (at : IsTop c known (residues ws) left top) where
  -- the false child of the last residue's node is kept, and a child's residue is wanted too
  pub one_more : (now : List Want) (old put new : Want) (less : ℕ) → IsMissing top.coef left (nodes_at known (top.place + 1)) top.residue new.residue → IfSome put.off (IsOff top.coef left (nodes_at known (top.place + 1)) top.residue)
      → old ≡ get_or ws top.place old → put.residue ≡ old.residue → new.off ≡ None → now ≡ set ws top.place put ++ new ∷ [] → less + get_or (coefs_of c.terms) (top.place + 1) 0 ≡ left
      → IsSearching c known (residues now) less × IsKept c known (residues now) (sides now) None × Advanced false known known (residues ws) (residues now)
  one_more now old put new less missing side old_is same none now_is less_is =
      let i = top.place in
      let rs : residues now ≡ residues ws ++ new.residue ∷ [] = ap residues now_is
      ∙ map-append (λ (w : Want). w.residue) (set ws i put) (new ∷ [])
      ∙ ap (λ (l : List ℕ). l ++ new.residue ∷ []) (map-set_same (λ (w : Want). w.residue) ws i put old (same ∙ ap (λ (w : Want). w.residue) old_is)) in
      let ss : sides now ≡ set (sides ws) i put.off ++ None ∷ [] = ap sides now_is
      ∙ map-append (λ (w : Want). w.off) (set ws i put) (new ∷ [])
      ∙ ap (λ (l : List (Option Interval)). l ++ new.off ∷ []) (map-set (λ (w : Want). w.off) ws i put)
      ∙ ap (λ (o : Option Interval). set (sides ws) i put.off ++ o ∷ []) none in
      let keeps = sides_want c known (residues ws) (sides ws) i new.residue put.off last kept at.depth (side_at c known (residues ws) left top searching at put.off side) in (
        subst (λ (l : List ℕ). IsSearching c known l less) (sym rs) (wants c known (residues ws) left top searching at less new.residue missing less_is),
        subst (λ (l : List ℕ). IsKept c known l (sides now) None) (sym rs) (subst (λ (l : List (Option Interval)). IsKept c known (residues ws ++ new.residue ∷ []) l None) (sym ss) keeps),
        record { found = λ is. absurd (both_ways false refl is); wants = λ is_not. (refl, omega (arith, ap length rs, length-append (residues ws) (new.residue ∷ []))) },
      )

  -- the node of the last residue becomes known
  pub one_less : (less : List Want) (g : Interval) (more : List Interval) → IsJoined top.coef left (nodes_at known (top.place + 1)) top.residue g → less ≡ take (length ws - 1) ws → IsGrown (nodes_at known top.place) g more
      → IsSearching c (set known top.place more) (residues less) (left + top.coef) × IsKept c (set known top.place more) (residues less) (sides less) (Some g) × Advanced true known (set known top.place more) (residues ws) (residues less)
  one_less less g more joined cut grown =
      let i = top.place in
      let bounded = at.seen.bounded in
      let rs : residues less ≡ take (length (residues ws) - 1) (residues ws) = ap residues cut ∙ sym (take-map (λ (w : Want). w.residue) (length ws - 1) ws) ∙ ap (λ (n : ℕ). take (n - 1) (residues ws)) (sym (length-map ws (λ w. w.residue))) in
      let ss : sides less ≡ take (length (sides ws) - 1) (sides ws) = ap sides cut ∙ sym (take-map (λ (w : Want). w.off) (length ws - 1) ws) ∙ ap (λ (n : ℕ). take (n - 1) (sides ws)) (sym (length-map ws (λ w. w.off))) in
      let split = popped (residues ws) (residues less) i top.residue rs at.depth at.residue_is in (
        joins c known (residues ws) left top searching at g joined (residues less) more split grown,
        sides_join c known (residues ws) (residues less) (sides ws) (sides less) i top.residue g more last kept at.depth bounded split ss grown,
        advances known (residues ws) (residues less) i top.residue g more bounded split grown,
      )
