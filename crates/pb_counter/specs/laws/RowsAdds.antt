-- The lines that are about many rows: totals and sums of rows, each where the constraints that it names are known.
use Rattle.std.proofs.Common.{◌≡◌, ◌≤◌, ◌<◌, ◌+◌, ◌-◌, ◌*◌, ◌^◌, ◌++◌, ℕ, get_or, true, false, List, [], ◌∷◌, refl, ap, sym, subst, arith}
use Rattle.std.specs.Prelude.{All, map, sum_by}
use Rattle.std.proofs.lemmas.List.Elements.{All-nil, All-cons, All-head, All-tail, All-append, All-map, All-weaker}
use Rattle.std.proofs.lemmas.List.Kept.{AllPairs-cons}
use Rattle.std.proofs.lemmas.List.Sums.{sum_by-append}
use Rattle.pb_base.specs.declared.literal.Lit.{Lit}
use Rattle.pb_base.proofs.Members.{All-append_both}
use Rattle.pb_base.proofs.Pairs.{AllPairs-nil, AllPairs-head, AllPairs-tail}
use Rattle.pb_norm.specs.BoundedSums.{vars_of}
use Rattle.pb_norm.specs.Constraints.{Weighted, Constraint, weight}
use Rattle.pb_norm.specs.Reduction.{opposite}
use Rattle.pb_steps.specs.Database.{Database}
use Rattle.pb_derive.specs.Forms.{AreSameTerms, AreApartTerms, IsFormOf}
use Rattle.pb_derive.specs.Later.{Knows}
use Rattle.pb_derive.specs.Ones.{ones}
use Rattle.pb_derive.proofs.Appends.{weight-append}
use Rattle.pb_derive.proofs.Closing.{weaken_from}
use Rattle.pb_derive.proofs.Expressions.{known, plus, IsNormal, expression_adds, weakened_adds}
use Rattle.pb_derive.proofs.FormOperations.{form_weakenings, form_as}
use Rattle.pb_derive.proofs.Lines.{Adds}
use Rattle.pb_derive.proofs.Opposites.{opposite-append, vars-opposite, weight-opposite}
use Rattle.pb_derive.proofs.UnaryRows.{Other, places_of, places-weight}
use Rattle.pb_counter.specs.CounterHalves.{narrow_line, both_line}
use Rattle.pb_counter.specs.laws.RowAdds.{Below, places-named}
use Rattle.pb_counter.specs.laws.RowTotals.{AreLow, total_of, climb_of, total-apart, total-positive, climb-apart, climb-positive, total_step, climb_step}

-- ---- parts of a list whose variables are different

abbrev Cross : List Weighted → Weighted → Type 0
Cross us t = All (Other t) us

apart_parts : (ts us : List Weighted) → AreApartTerms (ts ++ us) → AreApartTerms ts × AreApartTerms us × All (Cross us) ts
apart_parts [] us h = (AllPairs-nil Other, h, All-nil (Cross us))
apart_parts (t ∷ ts) us h =
    let heads = All-append_both (Other t) ts us (AllPairs-head Other t (ts ++ us) h) in
    let rest = apart_parts ts us (AllPairs-tail Other t (ts ++ us) h) in
    (AllPairs-cons Other t ts heads.0 rest.0, rest.1, All-cons (Cross us) t ts heads.1 rest.2)

apart_join : (ts us : List Weighted) → AreApartTerms ts → AreApartTerms us → All (Cross us) ts → AreApartTerms (ts ++ us)
apart_join [] us h k cross = k
apart_join (t ∷ ts) us h k cross =
    AllPairs-cons Other t (ts ++ us) (All-append (Other t) ts us (AllPairs-head Other t ts h) (All-head (Cross us) t ts cross)) (apart_join ts us (AllPairs-tail Other t ts h) k (All-tail (Cross us) t ts cross))

apart_swap : (ts us : List Weighted) → AreApartTerms (ts ++ us) → AreApartTerms (us ++ ts)
apart_swap ts us h =
    let parts = apart_parts ts us h in
    apart_join us ts parts.1 parts.0 (λ i d w j e v same. parts.2 j e v i d w (sym same))

abbrev Some : Weighted → Type 0
Some t = 0 < t.coef

abbrev Low : ℕ → Weighted → Type 0
Low p t = t.lit.var < p

pub low_parts : (us vs : List Weighted) (p : ℕ) → AreLow (us ++ vs) p → AreLow us p × AreLow vs p
low_parts us vs p h =
    let apart = apart_parts us vs h.apart in
    let positive = All-append_both Some us vs h.positive in
    let below = All-append_both (Low p) us vs h.below in
    (record { apart = apart.0; positive = positive.0; below = below.0 }, record { apart = apart.1; positive = positive.1; below = below.1 })

pub low_more : (us : List Weighted) (p q : ℕ) → p ≤ q → AreLow us p → AreLow us q
low_more us p q le h = record { apart = h.apart; positive = h.positive; below = All-weaker (Low p) (Low q) (λ t under. omega (arith, under, le)) us h.below }

pub ones-vars : (ls : List Lit) → vars_of (ones ls) ≡ map (λ l. l.var) ls
ones-vars [] = refl
ones-vars (l ∷ ls) = ap (λ (vs : List ℕ). l.var ∷ vs) (ones-vars ls)

-- ---- totals

pub total-normal : (top : ℕ) (us : List Weighted) (p width : ℕ) → AreLow us p → p + width ≤ top → IsNormal (Below top) (total_of us p width)
total-normal top us p width low le = record {
  apart = total-apart us p width low;
  positive = total-positive us p width low;
  named = All-append (Low top) (map opposite us) (places_of false 1 p width) (All-map (Low top) opposite us (All-weaker (Low p) (Low top) (λ t under. omega (arith, under, le)) us low.below)) (places-named top 1 p width le).1;
}

total-size : (us : List Weighted) (p width : ℕ) → weight (total_of us p width).terms + (total_of us p width).degree ≡ 2 * weight us + width
total-size us p width = omega (arith, weight-append (map opposite us) (places_of false 1 p width), weight-opposite us, places-weight false 1 p width)

climb-size : (us : List Weighted) (p q width : ℕ) → weight (climb_of us p q width).terms + (climb_of us p q width).degree ≡ weight us + 3 * width
climb-size us p q width =
    let ps = places_of true 1 p width in
    let qs = places_of false 1 q width in
    omega (arith, weight-append us (ps ++ qs), weight-append ps qs, places-weight true 1 p width, places-weight false 1 q width)

-- the numbers have room
pub record AreFew (us : List Weighted) (width : ℕ) : Type 0 where
  pub light : weight us < 2 ^ 40
  pub narrow : width < 2 ^ 40

total_weakened : (us vs : List Weighted) (p width : ℕ) (c : Constraint) → AreLow (us ++ vs) p → IsFormOf (total_of (us ++ vs) p width) c → IsFormOf (total_of us p width) (weaken_from c (vars_of vs))
total_weakened us vs p width c low h =
    let ps = places_of false 1 p width in
    let rest = map opposite us ++ ps in
    let same : AreSameTerms (total_of (us ++ vs) p width).terms (map opposite vs ++ rest) = λ f.
    omega (
      arith,
      sum_by-append f (map opposite (us ++ vs)) ps,
      ap (λ (ts : List Weighted). sum_by f ts) (opposite-append us vs),
      sum_by-append f (map opposite us) (map opposite vs),
      sum_by-append f (map opposite vs) rest,
      sum_by-append f (map opposite us) ps,
    ) in
    let whole = total-apart (us ++ vs) p width low in
    let parts = apart_parts (map opposite (us ++ vs)) ps whole in
    let cross = All-append_both (Cross ps) (map opposite us) (map opposite vs) (subst (λ (ts : List Weighted). All (Cross ps) ts) (opposite-append us vs) parts.2) in
    let swapped = apart_parts (map opposite vs) (map opposite us) (apart_swap (map opposite us) (map opposite vs) (subst AreApartTerms (opposite-append us vs) parts.0)) in
    let apart : AreApartTerms (map opposite vs ++ rest) =
    apart_join (map opposite vs) rest swapped.0 (apart_join (map opposite us) ps swapped.1 parts.1 cross.0) (λ i d w. All-append (Other (get_or (map opposite vs) i d)) (map opposite us) ps (swapped.2 i d w) (cross.1 i d w)) in
    let form = form_weakenings (map opposite vs) rest (weight (us ++ vs)) c apart (form_as (total_of (us ++ vs) p width) (record { terms = map opposite vs ++ rest; degree = weight (us ++ vs) }) c same refl h) in
    let degree : weight (us ++ vs) - weight (map opposite vs) ≡ weight us = omega (arith, weight-append us vs, weight-opposite vs) in
    subst (λ (xs : List ℕ). IsFormOf (total_of us p width) (weaken_from c xs)) (vars-opposite vs)
    (subst (λ (n : ℕ). IsFormOf (record { terms = rest; degree = n }) (weaken_from c (vars_of (map opposite vs)))) degree form)

-- of the first literals
pub narrow_adds : (top : ℕ) (db : Database) (whole : ℕ) (us : List Weighted) (vs : List Lit) (p width : ℕ) → AreLow (us ++ ones vs) p → AreFew (us ++ ones vs) width → p + width ≤ top → p ≤ db.vars + 1 → Knows db whole (total_of (us ++ ones vs) p width)
    → Adds (Below top) db (narrow_line whole vs) (total_of us p width)
narrow_adds top db whole us vs p width low few le vars total =
    let parts = low_parts us (ones vs) p low in
    let Known : ℕ → Type 0 = λ v. v ≤ db.vars in
    let known_vars : All Known (map (λ (l : Lit). l.var) vs) =
    subst (λ (xs : List ℕ). All Known xs) (ones-vars vs) (All-map Known (λ (t : Weighted). t.lit.var) (ones vs) (All-weaker (Low p) (λ (t : Weighted). t.lit.var ≤ db.vars) (λ t under. omega (arith, under, vars)) (ones vs) parts.1.below)) in
    weakened_adds (Below top) db (known whole (total_of (us ++ ones vs) p width) total) (map (λ (l : Lit). l.var) vs) (total_of us p width) tt known_vars (omega arith) (omega (arith, total-size (us ++ ones vs) p width, few.light, few.narrow))
    (subst (λ (xs : List ℕ). IsFormOf (total_of us p width) (weaken_from total.0 xs)) (ones-vars vs) (total_weakened us (ones vs) p width total.0 low total.2)) (total-normal top us p width parts.0 le)

-- of the literals behind some rows
pub total_adds : (top : ℕ) (db : Database) (a b : ℕ) (us vs : List Weighted) (p q width : ℕ) → AreLow vs q → AreFew (us ++ vs) width → q + width ≤ top → Knows db a (total_of (us ++ vs) p width) → Knows db b (climb_of us p q width)
    → Adds (Below top) db (both_line a b) (total_of vs q width)
total_adds top db a b us vs p q width low few le total climb =
    expression_adds (Below top) db (plus (known a (total_of (us ++ vs) p width) total) (known b (climb_of us p q width) climb)) (total_of vs q width) (tt, tt) (omega arith)
    (omega (arith, total-size (us ++ vs) p width, climb-size us p q width, weight-append us vs, few.light, few.narrow)) (total_step us vs p q width total.0 climb.0 low total.2 climb.2) (total-normal top vs q width low le)

-- ---- sums of rows

pub climb_adds : (top : ℕ) (db : Database) (a b : ℕ) (us vs : List Weighted) (p q r width : ℕ) → AreLow (us ++ vs) p → AreFew (us ++ vs) width → p + width ≤ r → r + width ≤ top → Knows db a (climb_of us p q width) → Knows db b (climb_of vs q r width)
    → Adds (Below top) db (both_line a b) (climb_of (us ++ vs) p r width)
climb_adds top db a b us vs p q r width low few le within one other =
    expression_adds (Below top) db (plus (known a (climb_of us p q width) one) (known b (climb_of vs q r width) other)) (climb_of (us ++ vs) p r width) (tt, tt) (omega arith)
    (omega (arith, climb-size us p q width, climb-size vs q r width, weight-append us vs, few.light, few.narrow)) (climb_step us vs p q r width one.0 other.0 low le one.2 other.2)
    (record {
      apart = climb-apart (us ++ vs) p r width low le;
      positive = climb-positive (us ++ vs) p r width low;
      named = All-append (Low top) (us ++ vs) (places_of true 1 p width ++ places_of false 1 r width) (All-weaker (Low p) (Low top) (λ t under. omega (arith, under, le, within)) (us ++ vs) low.below)
          (All-append (Low top) (places_of true 1 p width) (places_of false 1 r width) (places-named top 1 p width (omega (arith, le, within))).0 (places-named top 1 r width within).1);
    })
