-- What the nodes of a level are, and how they are linked to those of the next. It serves proofs alone.
use Rattle.std.proofs.Common.{◌≡◌, ◌<◌, ◌≤◌, ◌+◌, ◌-◌, ◌&&◌, ℕ, Bool, true, ltb, leb, List, [], ◌∷◌, length, get_or, refl, sym, ap, ◌∙◌, subst, arith, inl, inr}
use Rattle.std.specs.Prelude.{Contains, map, sum}
use Rattle.std.specs.List.{filter, list_any, position_or_len}
use Rattle.std.proofs.lemmas.Bool.{cases_lt, lt-ltb, le-leb, ltb-true, leb-true, both_ways, and_parts, and_from, cond_both}
use Rattle.std.proofs.lemmas.List.{get_or_default}
use Rattle.std.proofs.lemmas.List.Elements.{Contains-get_or}
use Rattle.std.proofs.lemmas.List.Folds.{list_any-from_Any}
use Rattle.std.proofs.lemmas.List.Sums.{passes_at_first, fails_before_first, sum-map}
use Rattle.pb_norm.specs.Constraints.{Weighted, weight}
use Rattle.pb_base.proofs.Members.{Contains-nil, Contains-here, Contains-there, Contains-cons_cases}
use Rattle.pb_family.proofs.Filters.{Contains-filter, Contains-filter_cases}
use Rattle.pb_family.proofs.Models.{any_passes}
use Rattle.pb_diagram.specs.declared.interval.Interval.{Interval}
use Rattle.pb_diagram.specs.Clauses.{head_level}
use Rattle.pb_diagram.specs.Levels.{interval_from, lies_in, intervals_after, intervals, is_reached, level, levels_from}
use Rattle.pb_diagram.specs.Intervals.{AreApart}
use Rattle.pb_diagram.specs.inner.Links.{Linked, AreLinked, IsRootNode}
use Rattle.pb_diagram.specs.inner.Nodes.{LiesIn, IsInterval, IsResidue, IsNode}
use Rattle.pb_diagram.specs.Sums.{sums}
use Rattle.pb_diagram.specs.laws.SumFacts.{Ascends, sums_without, sums_with, sums_ascend, sums_none, sums_all, sums-le, sum-cons}

pub lies_in_true : (residue : ℕ) (g : Interval) → lies_in residue g ≡ true → LiesIn residue g
lies_in_true residue g h =
    let parts = and_parts (leb g.low residue) (ltb residue g.top) h in
    (leb-true g.low residue parts.0, ltb-true residue g.top parts.1)

pub lies_in_from : (residue : ℕ) (g : Interval) → LiesIn residue g → lies_in residue g ≡ true
lies_in_from residue g h = and_from (leb g.low residue) (ltb residue g.top) (le-leb g.low residue h.0) (lt-ltb residue g.top h.1)

-- ---- neighbouring sums

IsInterval-after : (x : ℕ) (ss : List ℕ) (g : Interval) → ((y : ℕ) → Contains ss y → x < y) → IsInterval ss g → IsInterval (x ∷ ss) g
IsInterval-after x ss g least interval = record {
  low_in = Contains-there x ss g.low interval.low_in;
  top_in = Contains-there x ss g.top interval.top_in;
  rises = interval.rises;
  next = λ s h above.
      elim (Contains-cons_cases x ss s h) as (λ _. g.top ≤ s) [
        | inl e ↦ let low = least g.low interval.low_in in absurd (omega arith)
        | inr later ↦ interval.next s later above
      ];
}

interval_of_after : (x : ℕ) (ss : List ℕ) (g : Interval) → Ascends (x ∷ ss) → Contains (intervals_after x ss) g → IsInterval (x ∷ ss) g
interval_of_after x [] g up h = absurd (Contains-nil g h)
interval_of_after x (y ∷ ys) g up h =
    elim (Contains-cons_cases (interval_from x y) (intervals_after y ys) g h) as (λ _. IsInterval (x ∷ y ∷ ys) g) [
      | inl e ↦ subst (λ (k : Interval). IsInterval (x ∷ y ∷ ys) k) e (record {
        low_in = Contains-here x (y ∷ ys);
        top_in = Contains-there x (y ∷ ys) y (Contains-here y ys);
        rises = up.0 y (Contains-here y ys);
        next = λ s h above.
            elim (Contains-cons_cases x (y ∷ ys) s h) as (λ _. y ≤ s) [
              | inl same ↦ absurd (omega arith)
              | inr later ↦ elim (Contains-cons_cases y ys s later) as (λ _. y ≤ s) [
                | inl same ↦ omega arith
                | inr last ↦ let low = up.1.0 s last in omega arith
              ]
            ];
      })
      | inr later ↦ IsInterval-after x (y ∷ ys) g up.0 (interval_of_after y ys g up.1 later)
    ]

pub interval_of : (ss : List ℕ) (g : Interval) → Ascends ss → Contains (intervals ss) g → IsInterval ss g
interval_of [] g up h = absurd (Contains-nil g h)
interval_of (x ∷ ss) g up h = interval_of_after x ss g up h

-- the interval of a residue that is not below the first sum and is below some sum
interval_around_after : (x : ℕ) (ss : List ℕ) (residue high : ℕ) → x ≤ residue → Contains (x ∷ ss) high → residue < high → (g : Interval) × Contains (intervals_after x ss) g × LiesIn residue g
interval_around_after x [] residue high low h above =
    elim (Contains-cons_cases x [] high h) as (λ _. (g : Interval) × Contains (intervals_after x []) g × LiesIn residue g) [
      | inl e ↦ absurd (omega arith)
      | inr none ↦ absurd (Contains-nil high none)
    ]
interval_around_after x (y ∷ ys) residue high low h above =
    elim (cases_lt residue y) as (λ _. (g : Interval) × Contains (intervals_after x (y ∷ ys)) g × LiesIn residue g) [
      | inl below ↦ (interval_from x y, Contains-here (interval_from x y) (intervals_after y ys), (low, below))
      | inr later ↦
          let among : Contains (y ∷ ys) high = elim (Contains-cons_cases x (y ∷ ys) high h) as (λ _. Contains (y ∷ ys) high) [
            | inl e ↦ absurd (omega arith)
            | inr rest ↦ rest
          ] in
          let found = interval_around_after y ys residue high later among above in
          (found.0, Contains-there (interval_from x y) (intervals_after y ys) found.0 found.1, found.2)
    ]

interval_around : (ss : List ℕ) → Ascends ss → Contains ss 0 → (residue high : ℕ) → Contains ss high → residue < high → (g : Interval) × Contains (intervals ss) g × LiesIn residue g
interval_around [] up none residue high h above = absurd (Contains-nil 0 none)
interval_around (x ∷ ss) up none residue high h above =
    let first : x ≤ 0 = elim (Contains-cons_cases x ss 0 none) as (λ _. x ≤ 0) [
      | inl e ↦ omega arith
      | inr later ↦ let low = up.0 0 later in absurd (omega arith)
    ] in
    interval_around_after x ss residue high (omega arith) h above

-- a interval between given neighbours is listed
pub same_interval : (ss : List ℕ) (g h : Interval) (residue : ℕ) → IsInterval ss g → IsInterval ss h → LiesIn residue g → LiesIn residue h → g ≡ h
same_interval ss g h residue is_g is_h in_g in_h =
    let low : g.low ≡ h.low = elim (cases_lt g.low h.low) as (λ _. g.low ≡ h.low) [
      | inl below ↦ let up = is_g.next h.low is_h.low_in below in absurd (omega arith)
      | inr above ↦ elim (cases_lt h.low g.low) as (λ _. g.low ≡ h.low) [
        | inl below ↦ let up = is_h.next g.low is_g.low_in below in absurd (omega arith)
        | inr same ↦ omega arith
      ]
    ] in
    let one = is_g.next h.top is_h.top_in (omega arith) in
    let two = is_h.next g.top is_g.top_in (omega arith) in
    let top : g.top ≡ h.top = omega arith in
    ap (λ (n : ℕ). interval_from n g.top) low ∙ ap (interval_from h.low) top

pub listed_interval : (ss : List ℕ) → Ascends ss → Contains ss 0 → (g : Interval) → IsInterval ss g → Contains (intervals ss) g
listed_interval ss up none g interval =
    let found = interval_around ss up none g.low g.top interval.top_in interval.rises in
    let same = same_interval ss found.0 g g.low (interval_of ss found.0 up found.1) interval found.2 (omega arith, interval.rises) in
    subst (λ (h : Interval). Contains (intervals ss) h) same found.1

-- ---- intervals in order

intervals_after_begin : (x : ℕ) (ss : List ℕ) → Ascends (x ∷ ss) → (g : Interval) → Contains (intervals_after x ss) g → x ≤ g.low
intervals_after_begin x ss up g h =
    elim (Contains-cons_cases x ss g.low (interval_of_after x ss g up h).low_in) as (λ _. x ≤ g.low) [
      | inl e ↦ omega arith
      | inr later ↦ let low = up.0 g.low later in omega arith
    ]

intervals_after_apart : (x : ℕ) (ss : List ℕ) → Ascends (x ∷ ss) → AreApart (intervals_after x ss)
intervals_after_apart x [] up = tt
intervals_after_apart x (y ∷ ys) up = (intervals_after_begin y ys up.1, intervals_after_apart y ys up.1)

intervals_apart : (ss : List ℕ) → Ascends ss → AreApart (intervals ss)
intervals_apart [] up = tt
intervals_apart (x ∷ ss) up = intervals_after_apart x ss up

-- ---- what passes a test

filter_apart : (p : Interval → Bool) (gs : List Interval) → AreApart gs → AreApart (filter p gs)
filter_apart p [] apart = tt
filter_apart p (g ∷ gs) apart =
    let rest = filter_apart p gs apart.1 in
    cond_both (p g) (g ∷ filter p gs) (filter p gs) AreApart (λ _. ((λ h among. apart.0 h (Contains-filter_cases p gs h among).0), rest)) (λ _. rest)

to_any : (p : ℕ → Bool) (xs : List ℕ) (x : ℕ) → Contains xs x → p x ≡ true → list_any p xs ≡ true
to_any p xs x h passes = list_any-from_Any p xs (h.0, x, h.1, h.2, passes)

-- ---- the nodes of a level

pub node_of : (bound : ℕ) (before rest : List ℕ) (g : Interval) → Contains (level bound before rest) g → IsNode bound before rest g
node_of bound before rest g h =
    let parts = Contains-filter_cases (is_reached bound before) (intervals (sums rest)) g h in
    let found = any_passes (λ s. leb s bound && lies_in (bound - s) g) (sums before) parts.1 in
    let tests = and_parts (leb found.0 bound) (lies_in (bound - found.0) g) found.2 in
    let within = leb-true found.0 bound tests.0 in
    record {
      interval = interval_of (sums rest) g (sums_ascend rest) parts.0;
      residue = bound - found.0;
      reached = record { spent = found.0; is_sum = found.1; whole = omega arith };
      inside = lies_in_true (bound - found.0) g tests.1;
    }

pub listed_node : (bound : ℕ) (before rest : List ℕ) (g : Interval) → IsNode bound before rest g → Contains (level bound before rest) g
listed_node bound before rest g node =
    let spent = node.reached.spent in
    let whole = node.reached.whole in
    let left : node.residue ≡ bound - spent = omega arith in
    let test : (leb spent bound && lies_in (bound - spent) g) ≡ true = and_from (leb spent bound) (lies_in (bound - spent) g) (le-leb spent bound (omega arith)) (lies_in_from (bound - spent) g (subst (λ (n : ℕ). LiesIn n g) left node.inside)) in
    Contains-filter (is_reached bound before) (intervals (sums rest)) g (listed_interval (sums rest) (sums_ascend rest) (sums_none rest) g node.interval)
    (to_any (λ s. leb s bound && lies_in (bound - s) g) (sums before) spent node.reached.is_sum test)

pub level_apart : (bound : ℕ) (before rest : List ℕ) → AreApart (level bound before rest)
level_apart bound before rest = filter_apart (is_reached bound before) (intervals (sums rest)) (intervals_apart (sums rest) (sums_ascend rest))

-- a residue below the rest's sum lies in a node
pub node_around : (bound : ℕ) (before rest : List ℕ) (residue : ℕ) → IsResidue bound before residue → residue < sum rest → (g : Interval) × IsNode bound before rest g × LiesIn residue g
node_around bound before rest residue reached below =
    let found = interval_around (sums rest) (sums_ascend rest) (sums_none rest) residue (sum rest) (sums_all rest) below in
    (found.0, record { interval = interval_of (sums rest) found.0 (sums_ascend rest) found.1; residue = residue; reached = reached; inside = found.2 }, found.2)

-- ---- links

-- the residues of the two children
pub residue_off : (bound a : ℕ) (before : List ℕ) (residue : ℕ) → IsResidue bound before residue → IsResidue bound (a ∷ before) residue
residue_off bound a before residue reached = record { spent = reached.spent; is_sum = sums_without a before reached.spent reached.is_sum; whole = reached.whole }

pub residue_on : (bound a : ℕ) (before : List ℕ) (residue : ℕ) → IsResidue bound before residue → a ≤ residue → IsResidue bound (a ∷ before) (residue - a)
residue_on bound a before residue reached room =
    let whole = reached.whole in
    record { spent = a + reached.spent; is_sum = sums_with a before reached.spent reached.is_sum; whole = omega arith }

-- a node that holds a residue stands where the residue is looked for
node_place : (nodes : List Interval) (residue : ℕ) (g : Interval) → Contains nodes g → LiesIn residue g
    → (h : Interval) × Contains nodes h × LiesIn residue h × (position_or_len (lies_in residue) nodes < length nodes) × (get_or nodes (position_or_len (lies_in residue) nodes) h ≡ h)
node_place nodes residue g among inside =
    let p = position_or_len (lies_in residue) nodes in
    let within : p < length nodes = elim (cases_lt p (length nodes)) as (λ _. p < length nodes) [
      | inl below ↦ below
      | inr past ↦ absurd (both_ways (lies_in residue (get_or nodes among.0 g)) (fails_before_first (lies_in residue) nodes among.0 g (omega (arith, among.1))) (ap (lies_in residue) among.2 ∙ lies_in_from residue g inside))
    ] in
    let h = get_or nodes p g in
    (h, Contains-get_or nodes p g within, lies_in_true residue h (passes_at_first (lies_in residue) nodes g within), within, get_or_default nodes p h g within)

linked_node : (bound a : ℕ) (before rest : List ℕ) (g : Interval) → IsNode bound before (a ∷ rest) g → Linked a (sum rest) (level bound (a ∷ before) rest) g
linked_node bound a before rest g node =
    let next = level bound (a ∷ before) rest in
    let r = node.residue in
    let starts = node.inside.0 in
    let ends = node.inside.1 in
    let interval = node.interval in
    record {
      off = λ inner.
          let up = interval.next (sum rest) (sums_without a rest (sum rest) (sums_all rest)) inner in
          let around = node_around bound (a ∷ before) rest r (residue_off bound a before r node.reached) (omega arith) in
          let bounds = around.2 in
          let child_interval = around.1.interval in
          let low : around.0.low ≤ g.low = elim (cases_lt g.low around.0.low) as (λ _. around.0.low ≤ g.low) [
            | inl below ↦ let over = interval.next around.0.low (sums_without a rest around.0.low child_interval.low_in) below in absurd (omega arith)
            | inr le ↦ le
          ] in
          let found = node_place next g.low around.0 (listed_node bound (a ∷ before) rest around.0 around.1) (low, omega arith) in
          let child = node_of bound (a ∷ before) rest found.0 found.1 in
          let top = interval.next found.0.top (sums_without a rest found.0.top child.interval.top_in) found.2.1 in
          record { interval = found.0; within = found.3; is = found.4; starts = found.2.0; ends = omega arith };
      on = λ room.
          let reached = residue_on bound a before r node.reached (omega arith) in
          let le = sums-le (a ∷ rest) g.top interval.top_in in
          let all = sum-cons a rest in
          let around = node_around bound (a ∷ before) rest (r - a) reached (omega arith) in
          let bounds = around.2 in
          let child_interval = around.1.interval in
          let low : around.0.low ≤ g.low - a = elim (cases_lt (g.low - a) around.0.low) as (λ _. around.0.low ≤ g.low - a) [
            | inl below ↦ let over = interval.next (a + around.0.low) (sums_with a rest around.0.low child_interval.low_in) (omega arith) in absurd (omega arith)
            | inr le ↦ le
          ] in
          let found = node_place next (g.low - a) around.0 (listed_node bound (a ∷ before) rest around.0 around.1) (low, omega arith) in
          let child = node_of bound (a ∷ before) rest found.0 found.1 in
          let above = found.2.1 in
          let top = interval.next (a + found.0.top) (sums_with a rest found.0.top child.interval.top_in) (omega arith) in
          record { interval = found.0; within = found.3; is = found.4; starts = found.2.0; ends = top };
      full = λ below.
          let one : a + 0 ≡ a = omega arith in
          interval.next a (subst (λ (s : ℕ). Contains (sums (a ∷ rest)) s) one (sums_with a rest 0 (sums_none rest))) below;
    }

pub head_is : (bound : ℕ) (before rest : List ℕ) → head_level (levels_from bound before rest) ≡ level bound before rest
head_is bound before [] = refl
head_is bound before (a ∷ rest) = refl

pub levels_linked : (bound : ℕ) (before : List ℕ) (ts : List Weighted) → AreLinked ts (levels_from bound before (map (λ t. t.coef) ts))
levels_linked bound before [] = tt
levels_linked bound before (t ∷ ts) =
    let rest = map (λ (t : Weighted). t.coef) ts in
    let next = head_is bound (t.coef ∷ before) rest in
    let whole : sum rest ≡ weight ts = sum-map (λ t. t.coef) ts in (
      (λ k d within.
          let nodes = level bound before (t.coef ∷ rest) in
          let node = node_of bound before (t.coef ∷ rest) (get_or nodes k d) (Contains-get_or nodes k d within) in
          subst (λ (n : ℕ). Linked t.coef n (head_level (levels_from bound (t.coef ∷ before) rest)) (get_or nodes k d)) whole
          (subst (λ (l : List Interval). Linked t.coef (sum rest) l (get_or nodes k d)) (sym next) (linked_node bound t.coef before rest (get_or nodes k d) node))),
      levels_linked bound (t.coef ∷ before) ts,
    )

-- ---- the root

one_holds : (residue : ℕ) (nodes : List Interval) → AreApart nodes → ((g : Interval) → Contains nodes g → LiesIn residue g) → (g : Interval) → Contains nodes g → nodes ≡ g ∷ []
one_holds residue [] apart all g h = absurd (Contains-nil g h)
one_holds residue (k ∷ []) apart all g h =
    elim (Contains-cons_cases k [] g h) as (λ _. (k ∷ []) ≡ (g ∷ [])) [
      | inl e ↦ ap (λ (j : Interval). j ∷ []) e
      | inr none ↦ absurd (Contains-nil g none)
    ]
one_holds residue (k ∷ j ∷ nodes) apart all g h =
    let order = apart.0 j (Contains-here j nodes) in
    let one = all k (Contains-here k (j ∷ nodes)) in
    let two = all j (Contains-there k (j ∷ nodes) j (Contains-here j nodes)) in
    absurd (omega (arith, one.1, two.0))

pub first_residue : (bound residue : ℕ) → IsResidue bound [] residue → residue ≡ bound
first_residue bound residue reached =
    let whole = reached.whole in
    elim (Contains-cons_cases 0 [] reached.spent reached.is_sum) as (λ _. residue ≡ bound) [
      | inl e ↦ omega arith
      | inr none ↦ absurd (Contains-nil reached.spent none)
    ]

pub levels_root : (bound : ℕ) (ts : List Weighted) → bound < weight ts → IsRootNode bound (levels_from bound [] (map (λ t. t.coef) ts))
levels_root bound ts above =
    let rest = map (λ (t : Weighted). t.coef) ts in
    let whole : sum rest ≡ weight ts = sum-map (λ t. t.coef) ts in
    let reached : IsResidue bound [] bound = record { spent = 0; is_sum = Contains-here 0 []; whole = omega arith } in
    let around = node_around bound [] rest bound reached (omega arith) in
    let bounds = around.2 in
    record {
      root = around.0;
      is = head_is bound [] rest ∙ one_holds bound (level bound [] rest) (level_apart bound [] rest) (λ g h.
          let node = node_of bound [] rest g h in
          subst (λ (n : ℕ). LiesIn n g) (first_residue bound node.residue node.reached) node.inside) around.0 (listed_node bound [] rest around.0 around.1);
      starts = bounds.0;
      ends = bounds.1;
    }
