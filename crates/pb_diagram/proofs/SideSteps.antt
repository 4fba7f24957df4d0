-- What the steps of a search keep of false children, and of the last node.
use Rattle.std.proofs.Common.{◌≡◌, ◌<◌, ◌+◌, ◌-◌, ◌++◌, ℕ, List, [], ◌∷◌, Option, Some, None, IfSome, length, get_or, drop, take, set, sym, ap, ◌∙◌, subst, arith, inl, inr, length-append, length-set, length-take-le, get_or-take, get_or-set_same, get_or-set_other}
use Rattle.std.specs.Prelude.{Contains, sum}
use Rattle.std.proofs.lemmas.Bool.{cases_lt, cases_eq}
use Rattle.std.proofs.lemmas.List.{get_or_append_left, get_or_push}
use Rattle.pb_norm.specs.BoundedSums.{BoundedSum}
use Rattle.pb_diagram.specs.declared.interval.Interval.{Interval}
use Rattle.pb_diagram.specs.Levels.{coefs_of}
use Rattle.pb_diagram.specs.laws.Search.{nodes_at, IsOff, IsGrown, IsSideAt, IsKept}
use Rattle.pb_diagram.proofs.SearchSteps.{at_set_keeps}

-- what a false child says stays true where more nodes are known
still_off : (a whole : ℕ) (next more : List Interval) (residue : ℕ) (side : Option Interval) → ((h : Interval) → Contains next h → Contains more h) → IfSome side (IsOff a whole next residue) → IfSome side (IsOff a whole more residue)
still_off a whole next more residue None keeps is = tt
still_off a whole next more residue (Some s) keeps is = record { ends = is.ends; node = λ under. let found = is.node under in (keeps s found.0, found.1) }

-- the same at another residue that is equal
side_of : (c : BoundedSum) (known : List (List Interval)) (wanted now : List ℕ) (i : ℕ) (side : Option Interval) → get_or now i 0 ≡ get_or wanted i 0 → IsSideAt c known wanted i side → IsSideAt c known now i side
side_of c known wanted now i side same is =
    subst (λ (r : ℕ). IfSome side (IsOff (get_or (coefs_of c.terms) i 0) (sum (drop (i + 1) (coefs_of c.terms))) (nodes_at known (i + 1)) r)) (sym same) is

-- one more residue is wanted, and of the one before it is kept what its false child says
pub sides_want : (c : BoundedSum) (known : List (List Interval)) (wanted : List ℕ) (sides : List (Option Interval)) (i child : ℕ) (off last : Option Interval) → IsKept c known wanted sides last → i + 1 ≡ length wanted → IsSideAt c known wanted i off
    → IsKept c known (wanted ++ child ∷ []) (set sides i off ++ None ∷ []) None
sides_want c known wanted sides i child off last kept depth side =
    let now = set sides i off in
    let long = length-set sides i off in
    let same = kept.each in
    let more = wanted ++ child ∷ [] in
    record {
      each = omega (arith, length-append now (None ∷ []), length-append wanted (child ∷ []));
      offs = λ k below.
          elim (cases_lt k (length wanted)) as (λ _. IsSideAt c known more k (get_or (now ++ None ∷ []) k None)) [
            | inl old ↦
                let read : get_or (now ++ None ∷ []) k None ≡ get_or now k None = get_or_append_left now (None ∷ []) None k (omega arith) in
                let here : IsSideAt c known wanted k (get_or now k None) = elim (cases_eq k i) as (λ _. IsSideAt c known wanted k (get_or now k None)) [
                  | inl e ↦ subst (λ (n : ℕ). IsSideAt c known wanted n (get_or now n None)) (sym e) (subst (λ (o : Option Interval). IsSideAt c known wanted i o) (sym (get_or-set_same sides i off None (omega arith))) side)
                  | inr other ↦ subst (λ (o : Option Interval). IsSideAt c known wanted k o) (sym (get_or-set_other sides i k off None other)) (kept.offs k old)
                ] in
                subst (λ (o : Option Interval). IsSideAt c known more k o) (sym read) (side_of c known wanted more k (get_or now k None) (get_or_append_left wanted (child ∷ []) 0 k old) here)
            | inr new ↦
                let read : get_or (now ++ None ∷ []) k None ≡ None = get_or_push now None None k (omega (arith, length-append wanted (child ∷ []))) in
                subst (λ (o : Option Interval). IsSideAt c known more k o) (sym read) tt
          ];
      among = tt;
    }

-- the node of the last residue becomes known
pub sides_join : (c : BoundedSum) (known : List (List Interval)) (wanted less : List ℕ) (sides front : List (Option Interval)) (i residue : ℕ) (g : Interval) (more : List Interval) (last : Option Interval) → IsKept c known wanted sides last → i + 1 ≡ length wanted → i < length known
    → wanted ≡ less ++ residue ∷ [] → front ≡ take (length sides - 1) sides → IsGrown (nodes_at known i) g more
    → IsKept c (set known i more) less front (Some g)
sides_join c known wanted less sides front i residue g more last kept depth within split fewer grown =
    let same = kept.each in
    let one = ap length split ∙ length-append less (residue ∷ []) in
    let cut = ap length fewer ∙ length-take-le (length sides - 1) sides (omega arith) in
    let place : i ≡ length less = omega arith in
    record {
      each = omega arith;
      offs = λ k below.
          let read : get_or front k None ≡ get_or sides k None = ap (λ (l : List (Option Interval)). get_or l k None) fewer ∙ get_or-take (length sides - 1) sides k None (omega arith) in
          let wants : get_or wanted k 0 ≡ get_or less k 0 = ap (λ (l : List ℕ). get_or l k 0) split ∙ get_or_append_left less (residue ∷ []) 0 k below in
          let old = side_of c known wanted less k (get_or sides k None) (sym wants) (kept.offs k (omega arith)) in
          subst (λ (o : Option Interval). IsSideAt c (set known i more) less k o) (sym read)
          (still_off (get_or (coefs_of c.terms) k 0) (sum (drop (k + 1) (coefs_of c.terms))) (nodes_at known (k + 1)) (nodes_at (set known i more) (k + 1)) (get_or less k 0) (get_or sides k None) (at_set_keeps known i g more within grown (k + 1)) old);
      among = subst (λ (n : ℕ). Contains (nodes_at (set known i more) n) g) place (subst (λ (l : List Interval). Contains l g) (sym (get_or-set_same known i more [] within)) grown.here);
    }
