-- Runs of intervals in order: to which of them a residue belongs, and what they are after an insertion and a division.
use Rattle.std.proofs.Common.{◌≡◌, ◌<◌, ◌≤◌, ◌+◌, ◌-◌, ◌⊎◌, ◌++◌, ℕ, true, false, leb, List, [], ◌∷◌, length, get_or, set, sym, ap, ◌∙◌, subst, arith, inl, inr, zero, suc, refl, Option, None, Some, length-append}
use Rattle.std.specs.Prelude.{All, Contains}
use Rattle.std.specs.List.{insert}
use Rattle.std.specs.List.Sorted.{IsPartitionedBy, IsPartitionPoint}
use Rattle.std.proofs.lemmas.Bool.{cases_lt, le-leb, leb-true, both_ways}
use Rattle.std.proofs.lemmas.List.{append_assoc, append-nil, set-get_or}
use Rattle.std.proofs.lemmas.List.Elements.{All-cons, All-contains, All-set, Contains-append_left, Contains-append_right, Contains-append_cases, Contains-get_or}
use Rattle.std.proofs.lemmas.List.Sorted.{All-permutation, IsPermutation-insert}
use Rattle.pb_base.proofs.Members.{Contains-nil, Contains-here, Contains-there, Contains-cons_cases}
use Rattle.pb_diagram.specs.declared.interval.Interval.{Interval}
use Rattle.pb_diagram.specs.inner.Known.{Rise, AreFull, AreParts, AreRuns, IsRunOf, begins_by, intervals_in}
use Rattle.pb_diagram.specs.Intervals.{AreApart}
use Rattle.pb_diagram.specs.laws.Search.{IsFound, IsGrown, IsUnknown}
use Rattle.pb_diagram.proofs.RunFacts.{apart_append, apart_parts}

-- ---- where a residue belongs

pub among_runs : (runs : List (List Interval)) (place : ℕ) (d : List Interval) (h : Interval) → place < length runs → Contains (get_or runs place d) h → Contains (intervals_in runs) h
among_runs [] place d h within among = absurd (omega arith)
among_runs (r ∷ rs) zero d h within among = Contains-append_left r (intervals_in rs) h among
among_runs (r ∷ rs) (suc place) d h within among = Contains-append_right r (intervals_in rs) h (among_runs rs place d h (omega arith) among)

begin_of : (run : List Interval) (residue : ℕ) → begins_by run residue ≡ true → (x : Interval) × Contains run x × x.low ≤ residue
begin_of [] residue begins = absurd (both_ways false refl begins)
begin_of (g ∷ gs) residue begins = (g, Contains-here g gs, leb-true g.low residue begins)

rest_runs : (r : List Interval) (rs : List (List Interval)) → AreRuns (r ∷ rs) → AreRuns rs
rest_runs r rs runs = record {
  apart = (apart_parts r (intervals_in rs) runs.apart).1;
  rise = λ g among. runs.rise g (Contains-append_right r (intervals_in rs) g among);
  full = λ run among. runs.full run (Contains-there r rs run among);
}

-- the runs that end before a residue, and those that begin above it
abbrev IsAround : List (List Interval) → ℕ → ℕ → Type 0
IsAround [] residue place = ⊥
IsAround (r ∷ rs) residue zero = (h : Interval) → Contains (intervals_in rs) h → residue < h.low
IsAround (r ∷ rs) residue (suc place) = ((h : Interval) → Contains r h → h.top ≤ residue) × IsAround rs residue place

past : (rs : List (List Interval)) (residue : ℕ) → AreRuns rs → ((d : List Interval) → 0 < length rs → begins_by (get_or rs 0 d) residue ≡ false) → (h : Interval) → Contains (intervals_in rs) h → residue < h.low
past [] residue runs ends h among = absurd (Contains-nil h among)
past ([] ∷ rs) residue runs ends h among = absurd (omega (arith, runs.full [] (Contains-here [] rs)))
past ((g ∷ gs) ∷ rs) residue runs ends h among =
    let begin : residue < g.low = elim (cases_lt residue g.low) as (λ _. residue < g.low) [
      | inl above ↦ above
      | inr le ↦ absurd (both_ways (leb g.low residue) (ends [] (omega arith)) (le-leb g.low residue le))
    ] in
    elim (Contains-cons_cases g (gs ++ intervals_in rs) h among) as (λ _. residue < h.low) [
      | inl is_g ↦ subst (λ (j : Interval). residue < j.low) is_g begin
      | inr later ↦ let order = runs.apart.0 h later in let up = runs.rise g (Contains-here g (gs ++ intervals_in rs)) in omega arith
    ]

around : (rs : List (List Interval)) (residue place : ℕ) → AreRuns rs → place < length rs
    → ((d : List Interval) → 0 < place → begins_by (get_or rs place d) residue ≡ true) → ((d : List Interval) → suc place < length rs → begins_by (get_or rs (suc place) d) residue ≡ false)
    → IsAround rs residue place
around [] residue place runs within begins ends = absurd (omega arith)
around (r ∷ rs) residue zero runs within begins ends = past rs residue (rest_runs r rs runs) (λ d some. ends d (omega arith))
around (r ∷ rs) residue (suc place) runs within begins ends =
    let x = begin_of (get_or rs place []) residue (begins [] (omega arith)) in (
      (λ h among.
          let order = (apart_parts r (intervals_in rs) runs.apart).2 h x.0 among (among_runs rs place [] x.0 (omega arith) x.1) in
          let low = x.2 in
          omega arith),
      around rs residue place (rest_runs r rs runs) (omega arith) (λ d some. begins d (omega arith)) (λ d some. ends d (omega arith)),
    )

around_of : (rs : List (List Interval)) (residue place : ℕ) → AreRuns rs → place < length rs → IsRunOf rs residue place → IsAround rs residue place
around_of rs residue place runs within is =
    let next : place + 1 ≡ suc place = omega arith in
    around rs residue place runs within is.begins (λ d inside. subst (λ (n : ℕ). begins_by (get_or rs n d) residue ≡ false) next (is.ends d (omega arith)))

pub begins_part : (rs : List (List Interval)) (residue : ℕ) → AreRuns rs → IsPartitionedBy (λ run. begins_by run residue) rs
begins_part [] residue runs i j d le within begins = absurd (omega arith)
begins_part (r ∷ rs) residue runs zero zero d le within begins = begins
begins_part (r ∷ rs) residue runs (suc i) zero d le within begins = absurd (omega arith)
begins_part (r ∷ rs) residue runs (suc i) (suc j) d le within begins = begins_part rs residue (rest_runs r rs runs) i j d (omega arith) (omega arith) begins
begins_part ([] ∷ rs) residue runs zero (suc j) d le within begins = absurd (omega (arith, runs.full [] (Contains-here [] rs)))
begins_part ((g ∷ gs) ∷ rs) residue runs zero (suc j) d le within begins =
    let x = begin_of (get_or rs j d) residue begins in
    let order = (apart_parts (g ∷ gs) (intervals_in rs) runs.apart).2 g x.0 (Contains-here g gs) (among_runs rs j d x.0 (omega arith) x.1) in
    let up = runs.rise g (Contains-here g (gs ++ intervals_in rs)) in
    let low = x.2 in
    le-leb g.low residue (omega arith)

pub run_found : (runs : List (List Interval)) (residue point : ℕ) → point ≤ length runs → IsPartitionPoint (λ run. begins_by run residue ≡ true) (λ run. begins_by run residue ≡ false) runs point → IsRunOf runs residue (point - 1)
run_found runs residue point bound is = record {
  within = λ some. omega arith;
  begins = λ d some. is.0 (point - 1) d (omega arith) (omega arith);
  ends = λ d within. is.1 (point - 1 + 1) d (omega arith) within;
}

-- ---- find

module _ (residue : ℕ) where
  unknown_at : (rs : List (List Interval)) (place : ℕ) (d : List Interval) → place < length rs → IsAround rs residue place → IsUnknown (get_or rs place d) residue → IsUnknown (intervals_in rs) residue
  unknown_at [] place d within is here h among inside = absurd (omega arith)
  unknown_at (r ∷ rs) zero d within is here h among inside =
      elim (Contains-append_cases r (intervals_in rs) h among) as (λ _. ⊥) [
        | inl mine ↦ here h mine inside
        | inr later ↦ let above = is h later in omega (arith, inside.0)
      ]
  unknown_at (r ∷ rs) (suc place) d within is here h among inside =
      elim (Contains-append_cases r (intervals_in rs) h among) as (λ _. ⊥) [
        | inl early ↦ let ended = is.0 h early in omega (arith, inside.1)
        | inr mine ↦ unknown_at rs place d (omega arith) is.1 here h mine inside
      ]

  -- what is found in the residue's run is found in all
  pub found_in : (rs : List (List Interval)) (place : ℕ) (d : List Interval) (found : Option Interval) → AreRuns rs → place < length rs → IsRunOf rs residue place → IsFound (get_or rs place d) residue found → IsFound (intervals_in rs) residue found
  found_in rs place d None runs within is here = unknown_at rs place d within (around_of rs residue place runs within is) here
  found_in rs place d (Some g) runs within is here = (among_runs rs place d g within here.0, here.1)

-- ---- insert

module _ (g : Interval) (r more : List Interval) (grown : IsGrown r g more) where
  grown_before : (rest : List Interval) → AreApart (r ++ rest) → ((h : Interval) → Contains rest h → g.top ≤ h.low) → IsGrown (r ++ rest) g (more ++ rest)
  grown_before rest apart after =
      let parts = apart_parts r rest apart in
      record {
        here = Contains-append_left more rest g grown.here;
        keeps = λ h among.
            elim (Contains-append_cases r rest h among) as (λ _. Contains (more ++ rest) h) [
              | inl mine ↦ Contains-append_left more rest h (grown.keeps h mine)
              | inr later ↦ Contains-append_right more rest h later
            ];
        cases = λ h among.
            elim (Contains-append_cases more rest h among) as (λ _. (g ≡ h) ⊎ Contains (r ++ rest) h) [
              | inl mine ↦ elim (grown.cases h mine) as (λ _. (g ≡ h) ⊎ Contains (r ++ rest) h) [
                | inl is_g ↦ inl is_g
                | inr old ↦ inr (Contains-append_left r rest h old)
              ]
              | inr later ↦ inr (Contains-append_right r rest h later)
            ];
        apart = apart_append more rest grown.apart parts.1
            (λ x y in_x in_y. elim (grown.cases x in_x) as (λ _. x.top ≤ y.low) [
              | inl is_g ↦ subst (λ (j : Interval). j.top ≤ y.low) is_g (after y in_y)
              | inr old ↦ parts.2 x y old in_y
            ]);
        longer = let count = grown.longer in omega (arith, length-append r rest, length-append more rest);
      }

  grown_after : (front : List Interval) → AreApart (front ++ r) → ((h : Interval) → Contains front h → h.top ≤ g.low) → IsGrown (front ++ r) g (front ++ more)
  grown_after front apart before =
      let parts = apart_parts front r apart in
      record {
        here = Contains-append_right front more g grown.here;
        keeps = λ h among.
            elim (Contains-append_cases front r h among) as (λ _. Contains (front ++ more) h) [
              | inl early ↦ Contains-append_left front more h early
              | inr mine ↦ Contains-append_right front more h (grown.keeps h mine)
            ];
        cases = λ h among.
            elim (Contains-append_cases front more h among) as (λ _. (g ≡ h) ⊎ Contains (front ++ r) h) [
              | inl early ↦ inr (Contains-append_left front r h early)
              | inr mine ↦ elim (grown.cases h mine) as (λ _. (g ≡ h) ⊎ Contains (front ++ r) h) [
                | inl is_g ↦ inl is_g
                | inr old ↦ inr (Contains-append_right front r h old)
              ]
            ];
        apart = apart_append front more parts.0 grown.apart
            (λ x y in_x in_y. elim (grown.cases y in_y) as (λ _. x.top ≤ y.low) [
              | inl is_g ↦ subst (λ (j : Interval). x.top ≤ j.low) is_g (before x in_x)
              | inr old ↦ parts.2 x y in_x old
            ]);
        longer = let count = grown.longer in omega (arith, length-append front r, length-append front more);
      }

module _ (g : Interval) (more : List Interval) where
  grown_at : (rs : List (List Interval)) (place : ℕ) (d : List Interval) → AreApart (intervals_in rs) → Rise (intervals_in rs) → ((h : Interval) → Contains (intervals_in rs) h → (h.top ≤ g.low) ⊎ (g.top ≤ h.low))
      → place < length rs → IsAround rs g.low place → IsGrown (get_or rs place d) g more → IsGrown (intervals_in rs) g (intervals_in (set rs place more))
  grown_at [] place d apart rise elsewhere within is grown = absurd (omega arith)
  grown_at (r ∷ rs) zero d apart rise elsewhere within is grown =
      grown_before g r more grown (intervals_in rs) apart
      (λ h among. let late = Contains-append_right r (intervals_in rs) h among in elim (elsewhere h late) as (λ _. g.top ≤ h.low) [
        | inl under ↦ let above = is h among in let up = rise h late in absurd (omega arith)
        | inr over ↦ over
      ])
  grown_at (r ∷ rs) (suc place) d apart rise elsewhere within is grown =
      let later : (h : Interval) → Contains (intervals_in rs) h → Contains (r ++ intervals_in rs) h = λ h among. Contains-append_right r (intervals_in rs) h among in
      grown_after g (intervals_in rs) (intervals_in (set rs place more))
      (grown_at rs place d (apart_parts r (intervals_in rs) apart).1 (λ h among. rise h (later h among)) (λ h among. elsewhere h (later h among)) (omega arith) is.1 grown) r apart is.0

-- all rise where an interval that rises joined others that do
rise_grown : (nodes more : List Interval) (g : Interval) → IsGrown nodes g more → g.low < g.top → Rise nodes → Rise more
rise_grown nodes more g grown rises rise h among =
    elim (grown.cases h among) as (λ _. h.low < h.top) [
      | inl is_g ↦ subst (λ (j : Interval). j.low < j.top) is_g rises
      | inr old ↦ rise h old
    ]

abbrev IsFull : List Interval → Type 0
IsFull run = 0 < length run

each_full : (rs : List (List Interval)) → AreFull rs → All IsFull rs
each_full rs full k d within = full (get_or rs k d) (Contains-get_or rs k d within)

full_set : (rs : List (List Interval)) (place : ℕ) (more : List Interval) → AreFull rs → 0 < length more → AreFull (set rs place more)
full_set rs place more full some run among = All-contains IsFull (set rs place more) run (All-set IsFull rs place more some (each_full rs full)) among

-- ---- two runs of one

module _ (lower upper : List Interval) where
  -- what stays after the lower part went is in order
  cut_in : (rs : List (List Interval)) (place : ℕ) (d : List Interval) (h : Interval) → get_or rs place d ≡ lower ++ upper → Contains (intervals_in (set rs place upper)) h → Contains (intervals_in rs) h
  cut_in [] place d h is among = absurd (Contains-nil h among)
  cut_in (r ∷ rs) zero d h is among =
      subst (λ (l : List Interval). Contains l h) (sym (append_assoc lower upper (intervals_in rs)) ∙ ap (λ (l : List Interval). l ++ intervals_in rs) (sym is)) (Contains-append_right lower (upper ++ intervals_in rs) h among)
  cut_in (r ∷ rs) (suc place) d h is among =
      elim (Contains-append_cases r (intervals_in (set rs place upper)) h among) as (λ _. Contains (r ++ intervals_in rs) h) [
        | inl mine ↦ Contains-append_left r (intervals_in rs) h mine
        | inr later ↦ Contains-append_right r (intervals_in rs) h (cut_in rs place d h is later)
      ]

  cut_apart : (rs : List (List Interval)) (place : ℕ) (d : List Interval) → get_or rs place d ≡ lower ++ upper → AreApart (intervals_in rs) → AreApart (intervals_in (set rs place upper))
  cut_apart [] place d is apart = tt
  cut_apart (r ∷ rs) zero d is apart = (apart_parts lower (upper ++ intervals_in rs) (subst AreApart (ap (λ (l : List Interval). l ++ intervals_in rs) is ∙ append_assoc lower upper (intervals_in rs)) apart)).1
  cut_apart (r ∷ rs) (suc place) d is apart =
      let parts = apart_parts r (intervals_in rs) apart in
      apart_append r (intervals_in (set rs place upper)) parts.0 (cut_apart rs place d is parts.1) (λ x y in_x in_y. parts.2 x y in_x (cut_in rs place d y is in_y))

  halved : (rs : List (List Interval)) (place : ℕ) (d : List Interval) → place < length rs → get_or rs place d ≡ lower ++ upper → intervals_in (insert (set rs place upper) place lower) ≡ intervals_in rs
  halved [] place d within is = absurd (omega arith)
  halved (r ∷ rs) zero d within is = sym (append_assoc lower upper (intervals_in rs)) ∙ ap (λ (l : List Interval). l ++ intervals_in rs) (sym is)
  halved (r ∷ rs) (suc place) d within is = ap (λ (l : List Interval). r ++ l) (halved rs place d (omega arith) is)

  module _ (rs : List (List Interval)) (place : ℕ) (run : List Interval) (within : place < length rs) (read : run ≡ get_or rs place run) (parts : AreParts run lower upper) where
    -- what was one run are two
    pub same_split : intervals_in (insert (set rs place upper) place lower) ≡ intervals_in rs
    same_split = halved rs place run within (sym read ∙ parts.joined)

    pub runs_cut : AreRuns rs → AreRuns (set rs place upper)
    runs_cut runs = record {
      apart = cut_apart rs place run (sym read ∙ parts.joined) runs.apart;
      rise = λ h among. runs.rise h (cut_in rs place run h (sym read ∙ parts.joined) among);
      full = full_set rs place upper runs.full parts.others;
    }

    pub runs_split : AreRuns rs → AreRuns (insert (set rs place upper) place lower)
    runs_split runs = record {
      apart = subst AreApart (sym same_split) runs.apart;
      rise = subst Rise (sym same_split) runs.rise;
      full = λ r among. All-contains IsFull (insert (set rs place upper) place lower) r (All-permutation IsFull (lower ∷ set rs place upper) (insert (set rs place upper) place lower) (IsPermutation-insert (set rs place upper) place lower) (All-cons IsFull lower (set rs place upper) parts.some (each_full (set rs place upper) (full_set rs place upper runs.full parts.others)))) among;
    }

pub intervals_push : (rs : List (List Interval)) (run : List Interval) → intervals_in (rs ++ run ∷ []) ≡ intervals_in rs ++ run
intervals_push [] run = append-nil run
intervals_push (r ∷ rs) run = ap (λ (l : List Interval). r ++ l) (intervals_push rs run) ∙ sym (append_assoc r (intervals_in rs) run)

-- ---- an insertion

-- the run in which an interval goes, beside which all others stand
pub record IsAt (rs : List (List Interval)) (g : Interval) (place : ℕ) (run : List Interval) : Type 0 where
  pub runs : AreRuns rs
  pub within : place < length rs
  pub around : IsAround rs g.low place
  pub is : run ≡ get_or rs place run
  pub rises : g.low < g.top
  pub elsewhere : (h : Interval) → Contains (intervals_in rs) h → (h.top ≤ g.low) ⊎ (g.top ≤ h.low)

-- as the code finds it
pub is_at : (rs seen : List (List Interval)) (now run : List Interval) (g : Interval) (place : ℕ) → AreRuns rs → seen ≡ rs → intervals_in rs ≡ now → 0 < length rs → IsRunOf seen g.low place
    → run ≡ get_or rs place run → g.low < g.top → ((h : Interval) → Contains now h → (h.top ≤ g.low) ⊎ (g.top ≤ h.low)) → IsAt rs g place run
is_at rs seen now run g place runs same view some is read rises elsewhere =
    let found : IsRunOf rs g.low place = subst (λ (l : List (List Interval)). IsRunOf l g.low place) same is in
    record {
      runs = runs;
      within = found.within some;
      around = around_of rs g.low place runs (found.within some) found;
      is = read;
      rises = rises;
      elsewhere = λ h among. elsewhere h (subst (λ (l : List Interval). Contains l h) view among);
    }

module _ (rs : List (List Interval)) (g : Interval) (place : ℕ) (run more : List Interval) (at : IsAt rs g place run) where
  pub run_elsewhere : (h : Interval) → Contains run h → (h.top ≤ g.low) ⊎ (g.top ≤ h.low)
  run_elsewhere h among = at.elsewhere h (among_runs rs place run h at.within (subst (λ (l : List Interval). Contains l h) at.is among))

  pub run_kept : more ≡ run → AreRuns (set rs place more)
  run_kept same = subst AreRuns (sym (ap (set rs place) (same ∙ at.is) ∙ set-get_or rs place run)) at.runs

  pub run_grown : IsGrown run g more → IsGrown (intervals_in rs) g (intervals_in (set rs place more))
  run_grown grown = grown_at g more rs place run at.runs.apart at.runs.rise at.elsewhere at.within at.around (subst (λ (l : List Interval). IsGrown l g more) at.is grown)

  pub run_joined : IsGrown run g more → AreRuns (set rs place more)
  run_joined grown = record {
    apart = (run_grown grown).apart;
    rise = rise_grown (intervals_in rs) (intervals_in (set rs place more)) g (run_grown grown) at.rises at.runs.rise;
    full = full_set rs place more at.runs.full (let count = grown.longer in omega arith);
  }

-- ---- the first interval of all

-- an interval alone
alone : (g : Interval) → IsGrown [] g (g ∷ [])
alone g = record {
  here = Contains-here g [];
  keeps = λ h among. absurd (Contains-nil h among);
  cases = λ h among. Contains-cons_cases g [] h among;
  apart = ((λ h among. absurd (Contains-nil h among)), tt);
  longer = omega arith;
}

module _ (more : List (List Interval)) (run : List Interval) (g : Interval) (run_is : run ≡ g ∷ []) (rs : List (List Interval)) (none : rs ≡ []) (more_is : more ≡ rs ++ run ∷ []) where
  -- a run of its own, where there was none
  one_run : more ≡ (g ∷ []) ∷ []
  one_run = more_is ∙ (λ x. none x ++ run_is x ∷ [])

  pub first_grown : (now : List Interval) → intervals_in rs ≡ now → IsGrown now g (intervals_in more)
  first_grown now view = subst (λ (l : List Interval). IsGrown l g (intervals_in more)) (ap intervals_in (sym none) ∙ view)
      (subst (λ (ls : List (List Interval)). IsGrown [] g (intervals_in ls)) (sym one_run) (alone g))

  pub first_runs : g.low < g.top → AreRuns more
  first_runs rises = subst AreRuns (sym one_run) (record {
    apart = (alone g).apart;
    rise = rise_grown [] (g ∷ []) g (alone g) rises (λ h among. absurd (Contains-nil h among));
    full = λ l among. elim (Contains-cons_cases (g ∷ []) [] l among) as (λ _. 0 < length l) [
      | inl is ↦ subst (λ (k : List Interval). 0 < length k) is (omega arith)
      | inr other ↦ absurd (Contains-nil l other)
    ];
  })
