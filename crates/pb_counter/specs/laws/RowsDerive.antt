-- The clauses of a counter are derived row by row.
use Rattle.std.proofs.Common.{◌≡◌, ◌≢◌, ◌≤◌, ◌<◌, ◌+◌, ◌-◌, ◌*◌, ◌^◌, inl, inr, ◌++◌, ◌==◌, ℕ, suc, Bool, true, cond, List, [], ◌∷◌, length, take, refl, ap, sym, ◌∙◌, subst, arith, append-nil, append_assoc, length-append}
use Rattle.std.specs.Prelude.{map}
use Rattle.std.specs.List.{range_with_len}
use Rattle.std.proofs.Math.Nat.{mul-le-mul_right}
use Rattle.std.proofs.lemmas.Bool.{ne_eqb}
use Rattle.std.proofs.lemmas.List.{map-append, length-map}
use Rattle.std.proofs.lemmas.List.Elements.{All-nil, All-cons, All-head}
use Rattle.std.proofs.lemmas.List.Kept.{AllPairs-cons}
use Rattle.pb_base.specs.declared.literal.Lit.{Lit}
use Rattle.pb_base.proofs.Pairs.{AllPairs-nil}
use Rattle.pb_norm.specs.BoundedSums.{BoundedSum, IsProper}
use Rattle.pb_norm.specs.Constraints.{Weighted, weight}
use Rattle.pb_norm.specs.Reduction.{lits_of, all_weigh, opposite}
use Rattle.pb_steps.specs.declared.step.Step.{Step}
use Rattle.pb_steps.specs.Database.{Database}
use Rattle.pb_steps.specs.Runs.{Runs}
use Rattle.pb_derive.specs.Derivations.{as_constraint, IsReadyFor, Derives}
use Rattle.pb_derive.specs.Later.{IsUnnamed, Knows}
use Rattle.pb_derive.specs.Ones.{unit_of, ones}
use Rattle.pb_derive.proofs.Appends.{weight-append}
use Rattle.pb_derive.proofs.IdRanges.{IsOff}
use Rattle.pb_derive.proofs.Justified.{apart_from_vars}
use Rattle.pb_derive.proofs.Laters.{known_below}
use Rattle.pb_derive.proofs.Rups.{ones-weight}
use Rattle.pb_derive.proofs.Running.{runs_append}
use Rattle.pb_derive.proofs.UnitTerms.{ones-lits}
use Rattle.pb_family.specs.Families.{VarsBelow}
use Rattle.pb_family.specs.Fresh.{literal_at}
use Rattle.pb_family.proofs.UnitSums.{coefficients_one, more_than_bound}
use Rattle.pb_counter.specs.Counter.{counter_clauses, counter_fresh}
use Rattle.pb_counter.specs.CounterRows.{stop_clause}
use Rattle.pb_counter.specs.CounterHalves.{RowsEnd, rows_end, rows_steps, narrow_line, both_line, first_clause, first_steps, first_order_at, total_at, last_steps, further_steps, other_steps, all_steps, counter_row_steps}
use Rattle.pb_counter.specs.laws.FirstRow.{MayCount}
use Rattle.pb_counter.specs.laws.FirstStage.{FirstStaged, first_staged}
use Rattle.pb_counter.specs.laws.LastClause.{MayEnd, last_derives}
use Rattle.pb_counter.specs.laws.RowOrder.{counter-clauses-by_rows}
use Rattle.pb_counter.specs.laws.RowStages.{OrId, AreBeside}
use Rattle.pb_counter.specs.laws.RowTotals.{AreLow, total_of}
use Rattle.pb_counter.specs.laws.RowsAdds.{AreFew, low_parts, low_more, narrow_adds, total_adds}
use Rattle.pb_counter.specs.laws.RowsEnds.{IsEnd, end_is, ends_beside}
use Rattle.pb_counter.specs.laws.RowsHalves.{Four, four-once, rows_climb}
use Rattle.pb_counter.specs.laws.RowsRun.{rows_clauses, MayClimb, Climbs, LineHeld, line_held, beside_more}

module _ (l k : Lit) (ls : List Lit) (last p id : ℕ) (db : Database) (h : MayCount db l (ls ++ k ∷ []) p last id db.next)
    (vars : p + (length ls + 1) * suc last ≤ db.vars + 1) (unnamed : (v : ℕ) → p ≤ v → v < p + (length ls + 1) * suc last → IsUnnamed v db) where
  abbrev width : ℕ
  width = suc last

  abbrev us : List Lit
  us = ls ++ k ∷ []

  abbrev q : ℕ
  q = p + length ls * width

  abbrev order : ℕ
  order = first_order_at last db.next

  abbrev total : ℕ
  total = total_at last db.next

  abbrev start : ℕ
  start = total + 1

  abbrev R : ℕ → Type 0
  R i = i ≡ total

  below_q : p ≤ q
  below_q = omega arith

  limit : q + width ≡ p + (length ls + 1) * width
  limit = omega arith

  low_us : AreLow (ones us) p
  low_us = (low_parts (unit_of l ∷ []) (ones us) p h.low).1

  split : ones us ≡ ones ls ++ ones (k ∷ [])
  split = map-append unit_of ls (k ∷ [])

  low : AreLow (ones ls ++ ones (k ∷ [])) p
  low = subst (λ (ts : List Weighted). AreLow ts p) split low_us

  low_k : k.var < p
  low_k = All-head (λ (t : Weighted). t.lit.var < p) (unit_of k) [] (low_parts (ones ls) (ones (k ∷ [])) p low).1.below

  size : length us ≡ length ls + 1
  size = length-append ls (k ∷ [])

  few : AreFew (ones ls ++ ones (k ∷ [])) width
  few = record { light = omega (arith, weight-append (ones ls) (ones (k ∷ [])), ones-weight ls, ones-weight (k ∷ []), size, h.few); narrow = omega (arith, h.fits, h.few) }

  first : FirstStaged db l us p last id db.next
  first = first_staged db l us p last id db.next h

  abbrev first_clauses : List (List Lit)
  first_clauses = map (first_clause l p) (range_with_len 0 width)

  beside_total : AreBeside R last order start
  beside_total i same = (omega (arith, same), inr (omega (arith, same)))

  clauses_same : first_clauses ++ (rows_clauses ls p last ++ stop_clause k q last ∷ []) ≡ counter_clauses (l ∷ us) width p
  clauses_same = counter-clauses-by_rows l k ls last p

  -- ---- rows between the first and the last one

  module _ (some : 1 ≤ length ls) where
    total_1 : Knows first.end total (total_of (ones ls ++ ones (k ∷ [])) p width)
    total_1 = subst (λ (ts : List Weighted). Knows first.end total (total_of ts p width)) split first.total

    within : p + width ≤ q
    within = let more : 1 * width ≤ length ls * width = mul-le-mul_right width some in omega (arith, more)

    narrowed : LineHeld db first.end R p last order start (narrow_line total (k ∷ []) ∷ []) (total_of (ones ls) p width)
    narrowed = line_held db first.end R p last order start (narrow_line total (k ∷ [])) (total_of (ones ls) p width) first.holding first.at (omega arith) first.row
        (narrow_adds (p + width) first.end total (ones ls) (k ∷ []) p width low few (omega arith) (omega (arith, vars, limit, within, first.holding.later.vars)) total_1)

    may : MayClimb db narrowed.end (OrId R start) ls p q last order start (start + 1)
    may = record {
      some = some;
      few = omega (arith, size, h.few);
      narrow = omega (arith, h.fits, h.few);
      to = refl;
      low = (low_parts (ones ls) (ones (k ∷ [])) p low).0;
      original = h.original;
      vars = omega (arith, vars, limit);
      unnamed = λ v from under above. unnamed v from (omega (arith, under, limit));
      at = narrowed.at;
      holding = narrowed.holding;
      others = beside_more R last order start (omega arith) beside_total;
      row = narrowed.row;
      row_before = omega arith;
      total_held = inr refl;
      total = narrowed.known;
    }

    abbrev end : RowsEnd
    end = rows_end 31 (length ls) last (start + 1)

    end_holds : IsEnd end last (start + 1)
    end_holds = end_is 31 (length ls) last (start + 1)

    abbrev rows : List Step
    rows = rows_steps 31 ls p last order start (start + 1)

    climbs : Climbs db narrowed.end (OrId R start) ls p q last rows end
    climbs = rows_climb 31 db narrowed.end (OrId R start) ls p q last order start (start + 1) (omega (arith, size, h.few)) may

    total_3 : Knows climbs.end total (total_of (ones ls ++ ones (k ∷ [])) p width)
    total_3 = (total_1.0, climbs.stands total (inl refl) ∙ narrowed.stands total (omega arith) ∙ total_1.1, total_1.2)

    joined : LineHeld db climbs.end (OrId (OrId R start) end.climb) q last end.order end.next (both_line total end.climb ∷ []) (total_of (ones (k ∷ [])) q width)
    joined = line_held db climbs.end (OrId (OrId R start) end.climb) q last end.order end.next (both_line total end.climb) (total_of (ones (k ∷ [])) q width) climbs.holding climbs.at end_holds.order_before climbs.row
        (total_adds (q + width) climbs.end total end.climb (ones ls) (ones (k ∷ [])) p q width (low_more (ones (k ∷ [])) p q below_q (low_parts (ones ls) (ones (k ∷ [])) p low).1) few (omega arith) total_3 climbs.climb)

    abbrev S : ℕ → Type 0
    S = OrId (OrId (OrId R start) end.climb) end.next

    abbrev others : List ℕ
    others = Four total start end.climb end.next

    all_off : (i : ℕ) → S i → IsOff others i → ⊥
    all_off i (inl (inl (inl same))) off = off 0 i (omega arith) (sym same)
    all_off i (inl (inl (inr same))) off = off 1 i (omega arith) (sym same)
    all_off i (inl (inr same)) off = off 2 i (omega arith) (sym same)
    all_off i (inr same) off = off 3 i (omega arith) (sym same)

    ends : MayEnd db joined.end S k q last end.order end.next (end.next + 1) others
    ends = record {
      low = omega (arith, low_k, below_q);
      narrow = omega (arith, h.fits, h.few);
      vars = omega (arith, vars, limit);
      numbered = h.numbered;
      at = joined.at;
      holding = joined.holding;
      apart = beside_more (OrId (OrId R start) end.climb) last end.order end.next end_holds.order_before (ends_beside R last order start end end_holds beside_total);
      row = joined.row;
      row_before = omega (arith, end_holds.order_before);
      total = joined.known;
      held = All-cons S total (start ∷ end.climb ∷ end.next ∷ []) (inl (inl (inl refl))) (All-cons S start (end.climb ∷ end.next ∷ []) (inl (inl (inr refl))) (All-cons S end.climb (end.next ∷ []) (inl (inr refl)) (All-cons S end.next [] (inr refl) (All-nil S))));
      all = all_off;
      once = four-once total start end.climb end.next (omega arith) (omega (arith, end_holds.climb_from)) end_holds.climb_before;
    }

    abbrev ending : List Step
    ending = last_steps k q last end.order end.next (end.next + 1) others

    abbrev middle : List Step
    middle = narrow_line total (k ∷ []) ∷ (rows ++ both_line total end.climb ∷ [])

    front_runs : Runs db (first_steps l p last id db.next ++ middle) (first_clauses ++ rows_clauses ls p last) joined.end
    front_runs =
        let cs = rows_clauses ls p last in
        let tail = runs_append narrowed.end climbs.end joined.end rows (both_line total end.climb ∷ []) cs [] climbs.runs joined.runs in
        let back = runs_append first.end narrowed.end joined.end (narrow_line total (k ∷ []) ∷ []) (rows ++ both_line total end.climb ∷ []) [] (cs ++ []) narrowed.runs tail in
        subst (λ (ds : List (List Lit)). Runs db (first_steps l p last id db.next ++ middle) ds joined.end) (ap (λ (ds : List (List Lit)). first_clauses ++ ds) (append-nil cs))
        (runs_append db first.end joined.end (first_steps l p last id db.next) middle first_clauses (cs ++ []) first.runs back)

    further_derives : Derives db (first_steps l p last id db.next ++ further_steps ls k p last order total start) (counter_clauses (l ∷ us) width p) (p + (length ls + 1) * width)
    further_derives =
        let same : (first_steps l p last id db.next ++ middle) ++ ending ≡ first_steps l p last id db.next ++ further_steps ls k p last order total start =
        append_assoc (first_steps l p last id db.next) middle ending ∙ ap (λ (ss : List Step). first_steps l p last id db.next ++ narrow_line total (k ∷ []) ∷ ss) (append_assoc rows (both_line total end.climb ∷ []) ending) in
        subst (λ (ss : List Step). Derives db ss (counter_clauses (l ∷ us) width p) (p + (length ls + 1) * width)) same
        (subst (λ (cs : List (List Lit)). Derives db ((first_steps l p last id db.next ++ middle) ++ ending) cs (p + (length ls + 1) * width)) (append_assoc first_clauses (rows_clauses ls p last) (stop_clause k q last ∷ []) ∙ clauses_same)
        (last_derives db joined.end S k q last end.order end.next (end.next + 1) others ends (first_steps l p last id db.next ++ middle) (first_clauses ++ rows_clauses ls p last) (p + (length ls + 1) * width) (sym limit) front_runs))

-- ---- no row between them

only_derives : (l k : Lit) (last p id : ℕ) (db : Database) → MayCount db l (k ∷ []) p last id db.next → p + 1 * suc last ≤ db.vars + 1
    → Derives db (first_steps l p last id db.next ++ last_steps k p last (first_order_at last db.next) (total_at last db.next) (total_at last db.next + 1) (total_at last db.next ∷ [])) (counter_clauses (l ∷ k ∷ []) (suc last) p) (p + 1 * suc last)
only_derives l k last p id db h vars =
    let total : ℕ = total_at last db.next in
    let R : ℕ → Type 0 = λ i. i ≡ total in
    let first = first_staged db l (k ∷ []) p last id db.next h in
    let others : List ℕ = total ∷ [] in
    let low = low_parts (unit_of l ∷ []) (ones (k ∷ [])) p h.low in
    let ends : MayEnd db first.end R k p last (first_order_at last db.next) total (total + 1) others = record {
      low = All-head (λ (t : Weighted). t.lit.var < p) (unit_of k) [] low.1.below;
      narrow = omega (arith, h.fits, h.few);
      vars = h.vars;
      numbered = h.numbered;
      at = first.at;
      holding = first.holding;
      apart = λ i same. (omega (arith, same), inr (omega (arith, same)));
      row = first.row;
      row_before = omega arith;
      total = first.total;
      held = All-cons R total [] refl (All-nil R);
      all = λ i same off. All-head (λ (j : ℕ). j ≢ i) total [] off (sym same);
      once = AllPairs-cons (λ (i j : ℕ). i ≢ j) total [] (All-nil (λ (j : ℕ). total ≢ j)) (AllPairs-nil (λ (i j : ℕ). i ≢ j));
    } in
    let clauses = map (first_clause l p) (range_with_len 0 (suc last)) in
    let same : clauses ++ stop_clause k p last ∷ [] ≡ counter_clauses (l ∷ k ∷ []) (suc last) p =
    ap (λ (v : ℕ). clauses ++ stop_clause k v last ∷ []) (let e : p ≡ p + 0 * suc last = omega arith in e) ∙ counter-clauses-by_rows l k [] last p in
    subst (λ (cs : List (List Lit)). Derives db (first_steps l p last id db.next ++ last_steps k p last (first_order_at last db.next) total (total + 1) others) cs (p + 1 * suc last)) same
    (last_derives db first.end R k p last (first_order_at last db.next) total (total + 1) others ends (first_steps l p last id db.next) clauses (p + 1 * suc last) (omega arith) first.runs)

-- ---- the other literals by the last one of them

take-front : (ls vs : List Lit) → take (length ls) (ls ++ vs) ≡ ls
take-front [] vs = refl
take-front (l ∷ ls) vs = ap (λ (ks : List Lit). l ∷ ks) (take-front ls vs)

last-literal : (ls : List Lit) (k : Lit) → literal_at (ls ++ k ∷ []) (length ls) ≡ k
last-literal [] k = refl
last-literal (l ∷ ls) k = last-literal ls k

pub other-steps-further : (ls : List Lit) (k : Lit) (p last order total next : ℕ) → 1 ≤ length ls → other_steps (ls ++ k ∷ []) p last order total next ≡ further_steps ls k p last order total next
other-steps-further ls k p last order total next some =
    let us : List Lit = ls ++ k ∷ [] in
    let by_count : ℕ → List Step = λ count. cond {A = List Step} (count == 0) (last_steps (literal_at us 0) p last order total next (total ∷ [])) (further_steps (take count us) (literal_at us count) p last order total next) in
    let e : length us - 1 ≡ length ls = omega (arith, length-append ls (k ∷ [])) in
    ap by_count e
    ∙ ap (λ (b : Bool). cond {A = List Step} b (last_steps (literal_at us 0) p last order total next (total ∷ [])) (further_steps (take (length ls) us) (literal_at us (length ls)) p last order total next)) (ne_eqb (length ls) 0 (λ none. omega (arith, none, some)))
    ∙ (λ x. further_steps (take-front ls (k ∷ []) x) (last-literal ls k x) p last order total next)

all_derive : (l k : Lit) (ls : List Lit) (last p id : ℕ) (db : Database) → MayCount db l (ls ++ k ∷ []) p last id db.next → p + (length ls + 1) * suc last ≤ db.vars + 1 → ((v : ℕ) → p ≤ v → v < p + (length ls + 1) * suc last → IsUnnamed v db)
    → Derives db (all_steps l (ls ++ k ∷ []) last p id db.next) (counter_clauses (l ∷ (ls ++ k ∷ [])) (suc last) p) (p + (length ls + 1) * suc last)
all_derive l k [] last p id db h vars unnamed = only_derives l k last p id db h vars
all_derive l k (j ∷ ls) last p id db h vars unnamed =
    subst (λ (ss : List Step). Derives db (first_steps l p last id db.next ++ ss) (counter_clauses (l ∷ ((j ∷ ls) ++ k ∷ [])) (suc last) p) (p + (length (j ∷ ls) + 1) * suc last))
    (sym (other-steps-further (j ∷ ls) k p last (first_order_at last db.next) (total_at last db.next) (total_at last db.next + 1) (omega arith)))
    (further_derives l k (j ∷ ls) last p id db h vars unnamed (omega arith))

-- ---- any sum

-- a list by its last element
by_last : (l : Lit) (us : List Lit) → (ls : List Lit) × (k : Lit) × (l ∷ us ≡ ls ++ k ∷ [])
by_last l [] = ([], l, refl)
by_last l (u ∷ us) = let rest = by_last u us in (l ∷ rest.0, rest.1, ap (λ (ks : List Lit). l ∷ ks) rest.2)

-- the first literal, the last one and those between
pub by_ends : (ms : List Lit) → 2 ≤ length ms → (l : Lit) × (ls : List Lit) × (k : Lit) × (ms ≡ l ∷ (ls ++ k ∷ []))
by_ends [] two = absurd (omega (arith, two))
by_ends (l ∷ []) two = absurd (omega (arith, two))
by_ends (l ∷ m ∷ ms) two = let rest = by_last m ms in (l, rest.0, rest.1, ap (λ (ks : List Lit). l ∷ ks) rest.2)

-- from each database that is ready, the steps run and put out the clauses
pub rows_derive : (m : BoundedSum) → all_weigh 1 m.terms ≡ true → IsProper m → length m.terms < 2 ^ 31 → (first id : ℕ) (db : Database) → VarsBelow first m.terms → IsReadyFor m first (counter_fresh (length m.terms) m.bound) id db
    → Derives db (counter_row_steps (lits_of m.terms) m.bound first id db.next) (counter_clauses (lits_of m.terms) m.bound first) (first + counter_fresh (length m.terms) m.bound)
rows_derive m units proper few first id db below ready =
    let ms : List Lit = lits_of m.terms in
    let last : ℕ = m.bound - 1 in
    let wide : suc last ≡ m.bound = omega (arith, proper.bound_from) in
    let size : length ms ≡ length m.terms = length-map m.terms (λ (t : Weighted). t.lit) in
    let fits : m.bound < length m.terms = more_than_bound m units proper in
    let ends = by_ends ms (omega (arith, size, fits, proper.bound_from)) in
    let l : Lit = ends.0 in
    let ls : List Lit = ends.1 in
    let k : Lit = ends.2 in
    let is : ms ≡ l ∷ (ls ++ k ∷ []) = ends.3 in
    let count : length ms ≡ length ls + 2 = omega (arith, ap (λ (ks : List Lit). length ks) is, length-append ls (k ∷ [])) in
    let terms : m.terms ≡ ones (l ∷ (ls ++ k ∷ [])) = sym (ones-lits m.terms (coefficients_one m.terms units)) ∙ ap ones is in
    let fresh : first + counter_fresh (length m.terms) m.bound ≡ first + (length ls + 1) * suc last = ap (λ (n : ℕ). first + n * m.bound) (let e : length m.terms - 1 ≡ length ls + 1 = omega (arith, size, count) in e) ∙ ap (λ (w : ℕ). first + (length ls + 1) * w) (sym wide) in
    let low : AreLow m.terms first = record { apart = apart_from_vars m.terms proper.distinct; positive = proper.positive; below = below } in
    let more : 1 * suc last ≤ (length ls + 1) * suc last = mul-le-mul_right (suc last) (omega arith) in
    let may : MayCount db l (ls ++ k ∷ []) first last id db.next = record {
      low = subst (λ (ts : List Weighted). AreLow ts first) terms low;
      fits = omega (arith, length-append ls (k ∷ []), count, size, fits, wide);
      few = omega (arith, length-append ls (k ∷ []), count, size, few);
      original = ready.original;
      vars = omega (arith, ready.vars, fresh, more);
      numbered = ready.numbered;
      at = refl;
      whole = subst (λ (w : ℕ). Knows db id (record { terms = map opposite (ones (l ∷ (ls ++ k ∷ []))); degree = weight (ones (l ∷ (ls ++ k ∷ []))) - w })) (sym wide)
          (subst (λ (ts : List Weighted). Knows db id (record { terms = map opposite ts; degree = weight ts - m.bound })) terms ready.stands);
      whole_before = known_below db id (as_constraint m) ready.numbered ready.stands;
      unnamed = λ v from under. ready.unnamed v from (omega (arith, under, fresh, more));
    } in
    let all = all_derive l k ls last first id db may (omega (arith, ready.vars, fresh)) (λ v from under. ready.unnamed v from (omega (arith, under, fresh))) in
    subst (λ (n : ℕ). Derives db (counter_row_steps ms m.bound first id db.next) (counter_clauses ms m.bound first) n) (sym fresh)
    (subst (λ (ks : List Lit). Derives db (counter_row_steps ks m.bound first id db.next) (counter_clauses ks m.bound first) (first + (length ls + 1) * suc last)) (sym is)
    (subst (λ (w : ℕ). Derives db (all_steps l (ls ++ k ∷ []) last first id db.next) (counter_clauses (l ∷ (ls ++ k ∷ [])) w first) (first + (length ls + 1) * suc last)) wide all))
