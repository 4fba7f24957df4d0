-- The steps by guards, level by level, the last level first. Lists and numbers alone.
use Rattle.std.proofs.Common.{◌≡◌, ◌+◌, ◌*◌, ◌∙◌, ℕ, suc, List, [], ◌∷◌, ◌++◌, drop, length, refl, ap, sym, append-nil, append_assoc, arith}
use Rattle.std.specs.List.{flat_map}
use Rattle.std.proofs.lemmas.Grind.{flat_map-append}
use Rattle.pb_norm.specs.Constraints.{Weighted}
use Rattle.pb_steps.specs.declared.step.Step.{Step}
use Rattle.pb_derive.specs.Claims.{Claim}
use Rattle.pb_derive.specs.Reifications.{Reification}
use Rattle.pb_diagram.specs.declared.node.Node.{Node}
use Rattle.pb_diagram.specs.Guards.{Rung, level_reifications, order_lines, rung_steps}
use Rattle.pb_diagram.specs.GuardedSteps.{all_claims, all_orders, all_reifications, climbs_at, level_claims, rung_of, sums_steps, terms_line}
use Rattle.pb_diagram.specs.inner.Rungs.{behind, risen, rungs}

-- ---- lists

pub one_more : {X Y : Type 0} (f : X → List Y) (xs : List X) (x : X) → flat_map f (xs ++ x ∷ []) ≡ flat_map f xs ++ f x
one_more {Y = Y} f xs x = flat_map-append f xs (x ∷ []) ∙ ap (λ (ys : List Y). flat_map f xs ++ ys) (append-nil (f x))

-- from the last item to the first
abbrev pub flat_back : {X Y : Type 0} → (X → List Y) → List X → List Y
flat_back f [] = []
flat_back f (x ∷ xs) = flat_back f xs ++ f x

one_before : {X Y : Type 0} (f : X → List Y) (xs : List X) (x : X) → flat_back f (xs ++ x ∷ []) ≡ f x ++ flat_back f xs
one_before f [] x = sym (append-nil (f x))
one_before {Y = Y} f (y ∷ xs) x = ap (λ (zs : List Y). zs ++ f y) (one_before f xs x) ∙ append_assoc (f x) (flat_back f xs) (f y)

-- ---- all levels, the last one first

abbrev pub meanings : Rung → List Reification
meanings r = level_reifications r.term.lit r.after r.var r.nodes

abbrev pub order_of_rung : Rung → List Step
order_of_rung r = order_lines r.order r.after r.counts r.nodes

abbrev pub claims_of_rung : Rung → List Claim
claims_of_rung r = level_claims r.term.lit r.after r.var r.counts r.nodes

-- the sums of levels, by the guard's variable and the id of the sum before
abbrev pub climbs : ℕ → List Rung → ℕ → List Step
climbs v [] before = []
climbs v (r ∷ rs) before = rung_steps v r before ++ climbs v rs (before + 4)

climbs_more : (v : ℕ) (rs : List Rung) (r : Rung) (before last : ℕ) → before + 4 * length rs ≡ last → climbs v (rs ++ r ∷ []) before ≡ climbs v rs before ++ rung_steps v r last
climbs_more v [] r before last e = append-nil (rung_steps v r before) ∙ ap (rung_steps v r) (let here : before ≡ last = omega (arith, e) in here)
climbs_more v (s ∷ rs) r before last e =
    ap (λ (ss : List Step). rung_steps v s before ++ ss) (climbs_more v rs r (before + 4) last (omega (arith, e)))
    ∙ sym (append_assoc (rung_steps v s before) (climbs v rs (before + 4)) (rung_steps v r last))

length_more : (rs : List Rung) (r : Rung) → length (rs ++ r ∷ []) ≡ length rs + 1
length_more [] r = omega arith
length_more (s ∷ rs) r = omega (arith, length_more rs r)

module _ (base orders : ℕ) where
  pub all_meanings : (p : ℕ) (ts : List Weighted) (ls : List (List Node)) → all_reifications p ts ls ≡ flat_map meanings (rungs base orders p ts ls)
  all_meanings p [] ls = refl
  all_meanings p (t ∷ ts) [] = refl
  all_meanings p (t ∷ ts) (ns ∷ ls) =
      ap (λ (ms : List Reification). ms ++ level_reifications t.lit (p + length ns) p ns) (all_meanings (p + length ns) ts ls)
      ∙ sym (one_more meanings (rungs base orders (p + length ns) ts ls) (rung_of t ns ls p base orders))

  pub all_in_order : (p : ℕ) (ts : List Weighted) (ls : List (List Node)) → all_orders base p ts ls orders ≡ flat_map order_of_rung (rungs base orders p ts ls)
  all_in_order p [] ls = refl
  all_in_order p (t ∷ ts) [] = refl
  all_in_order p (t ∷ ts) (ns ∷ ls) =
      let r = rung_of t ns ls p base orders in
      ap (λ (ss : List Step). ss ++ order_of_rung r) (all_in_order (p + length ns) ts ls) ∙ sym (one_more order_of_rung (rungs base orders (p + length ns) ts ls) r)

  -- the clauses of the first level come first
  pub all_claimed_back : (p : ℕ) (ts : List Weighted) (ls : List (List Node)) → all_claims base p ts ls ≡ flat_back claims_of_rung (rungs base orders p ts ls)
  all_claimed_back p [] ls = refl
  all_claimed_back p (t ∷ ts) [] = refl
  all_claimed_back p (t ∷ ts) (ns ∷ ls) =
      let r = rung_of t ns ls p base orders in
      ap (λ (cs : List Claim). claims_of_rung r ++ cs) (all_claimed_back (p + length ns) ts ls) ∙ sym (one_before claims_of_rung (rungs base orders (p + length ns) ts ls) r)

  -- ---- the sums, of the levels before the first one without nodes

  -- the next id behind the sums
  pub climbs_end : (next p : ℕ) (ts : List Weighted) (ls : List (List Node)) → length ts ≡ length ls → climbs_at next ls ≡ next + 4 * length (risen base orders p ts ls)
  climbs_end next p [] [] same = omega arith
  climbs_end next p [] (ns ∷ ls) same = absurd (omega (arith, same))
  climbs_end next p (t ∷ ts) [] same = absurd (omega (arith, same))
  climbs_end next p (t ∷ ts) ([] ∷ ls) same = omega arith
  climbs_end next p (t ∷ ts) ((n ∷ ns) ∷ ls) same =
      let rest = risen base orders (p + length (n ∷ ns)) ts ls in
      omega (arith, climbs_end next (p + length (n ∷ ns)) ts ls (omega (arith, same)), length_more rest (rung_of t (n ∷ ns) ls p base orders))

  pub all_sums : (v p : ℕ) (ts : List Weighted) (ls : List (List Node)) (next : ℕ) → length ts ≡ length ls → sums_steps v base orders p ts ls next ≡ terms_line v (behind ts ls) ∷ climbs v (risen base orders p ts ls) next
  all_sums v p [] ls next same = refl
  all_sums v p (t ∷ ts) [] next same = refl
  all_sums v p (t ∷ ts) ([] ∷ ls) next same = refl
  all_sums v p (t ∷ ts) ((n ∷ ns) ∷ ls) next same =
      let q : ℕ = p + length (n ∷ ns) in
      let r = rung_of t (n ∷ ns) ls p base orders in
      let first : length ts ≡ length ls = omega (arith, same) in
      ap (λ (ss : List Step). ss ++ rung_steps v r (climbs_at next ls)) (all_sums v q ts ls next first)
      ∙ ap (λ (ss : List Step). terms_line v (behind ts ls) ∷ ss) (sym (climbs_more v (risen base orders q ts ls) r next (climbs_at next ls) (sym (climbs_end next q ts ls first))))

  -- how many levels have a sum
  pub behind_is : (p : ℕ) (ts : List Weighted) (ls : List (List Node)) → length ts ≡ length ls → behind ts ls ≡ drop (length (risen base orders p ts ls)) ts
  behind_is p [] ls same = refl
  behind_is p (t ∷ ts) [] same = refl
  behind_is p (t ∷ ts) ([] ∷ ls) same = refl
  behind_is p (t ∷ ts) ((n ∷ ns) ∷ ls) same =
      let q : ℕ = p + length (n ∷ ns) in
      behind_is q ts ls (omega (arith, same))
      ∙ ap (λ (k : ℕ). drop k (t ∷ ts)) (let e : suc (length (risen base orders q ts ls)) ≡ length (risen base orders p (t ∷ ts) ((n ∷ ns) ∷ ls)) = omega (arith, length_more (risen base orders q ts ls) (rung_of t (n ∷ ns) ls p base orders)) in e)
