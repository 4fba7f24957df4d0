-- The rows of some literals run, by halves.
use Rattle.std.proofs.Common.{◌≡◌, ◌≤◌, ◌<◌, ◌+◌, ◌*◌, ◌^◌, inl, inr, ◌++◌, ℕ, suc, List, [], ◌∷◌, length, refl, ap, sym, ◌∙◌, subst, arith, append-nil, append_assoc}
use Rattle.std.specs.List.{range_with_len, flat_map}
use Rattle.std.proofs.lemmas.List.{map-append}
use Rattle.std.proofs.lemmas.List.Elements.{All-head}
use Rattle.pb_base.specs.declared.literal.Lit.{Lit}
use Rattle.pb_norm.specs.Constraints.{Weighted, Constraint}
use Rattle.pb_steps.specs.declared.step.Step.{Step}
use Rattle.pb_steps.specs.Database.{Database, constraint_at}
use Rattle.pb_steps.specs.Runs.{Runs}
use Rattle.pb_derive.specs.Later.{IsUnnamed, Knows}
use Rattle.pb_derive.specs.Ones.{unit_of, ones}
use Rattle.pb_derive.specs.Outputs.{Output, clauses_of}
use Rattle.pb_derive.proofs.Holding.{IsHolding, OrBetween, before, between, holding_same, holding_added}
use Rattle.pb_derive.proofs.Lines.{Adds, line_ran, still_known}
use Rattle.pb_derive.proofs.UnaryRows.{order_of, front_of}
use Rattle.pb_counter.specs.CounterRows.{more_clause, keep_clause, stop_clause, place_outputs, row_outputs, row_steps, order_at, climb_at, row_end}
use Rattle.pb_counter.specs.CounterHalves.{RowsEnd}
use Rattle.pb_counter.specs.laws.RowAdds.{Below}
use Rattle.pb_counter.specs.laws.RowRuns.{IsRow, MayFollow}
use Rattle.pb_counter.specs.laws.RowStages.{WithRow, beside, of_row, OrId, AreBeside, row_staged}
use Rattle.pb_counter.specs.laws.RowTotals.{AreLow, total_of, climb_of}

-- ---- the clauses of rows

abbrev pub place_clauses : Lit → ℕ → ℕ → ℕ → List (List Lit)
place_clauses l p q j = more_clause l p q j ∷ keep_clause p q j ∷ []

abbrev pub row_clauses : Lit → ℕ → ℕ → List (List Lit)
row_clauses l p last = flat_map (place_clauses l p (p + suc last)) (range_with_len 0 (suc last)) ++ stop_clause l p last ∷ []

abbrev pub rows_clauses : List Lit → ℕ → ℕ → List (List Lit)
rows_clauses [] p last = []
rows_clauses (l ∷ ls) p last = row_clauses l p last ++ rows_clauses ls (p + suc last) last

clauses-flat : (f : ℕ → List Output) (js : List ℕ) → clauses_of (flat_map f js) ≡ flat_map (λ j. clauses_of (f j)) js
clauses-flat f [] = refl
clauses-flat f (j ∷ js) = map-append (λ (u : Output). u.clause) (f j) (flat_map f js) ∙ ap (λ (cs : List (List Lit)). clauses_of (f j) ++ cs) (clauses-flat f js)

row-outputs-clauses : (l : Lit) (p last next : ℕ) → clauses_of (row_outputs l p last next) ≡ row_clauses l p last
row-outputs-clauses l p last next =
    map-append (λ (u : Output). u.clause) (flat_map (place_outputs l p last next) (range_with_len 0 (suc last))) _
    ∙ ap (λ (cs : List (List Lit)). cs ++ stop_clause l p last ∷ []) (clauses-flat (place_outputs l p last next) (range_with_len 0 (suc last)))

pub rows_clauses-append : (us vs : List Lit) (p last : ℕ) → rows_clauses (us ++ vs) p last ≡ rows_clauses us p last ++ rows_clauses vs (p + length us * suc last) last
rows_clauses-append [] vs p last = ap (λ (q : ℕ). rows_clauses vs q last) (let e : p ≡ p + 0 * suc last = omega arith in e)
rows_clauses-append (u ∷ us) vs p last =
    ap (λ (cs : List (List Lit)). row_clauses u p last ++ cs)
    (rows_clauses-append us vs (p + suc last) last
    ∙ ap (λ (q : ℕ). rows_clauses us (p + suc last) last ++ rows_clauses vs q last) (let e : p + suc last + length us * suc last ≡ p + length (u ∷ us) * suc last = omega arith in e))
    ∙ sym (append_assoc (row_clauses u p last) (rows_clauses us (p + suc last) last) (rows_clauses vs (p + length (u ∷ us) * suc last) last))

-- ---- what rows start from, and what they leave

-- all is said of the rows of the literals `ls`, of which the last starts at q, beside what is held with ids that meet R, as the total is
pub record MayClimb (base db : Database) (R : ℕ → Type 0) (ls : List Lit) (p q last order whole next : ℕ) : Type 1 where
  pub some : 1 ≤ length ls
  pub few : length ls < 2 ^ 31
  pub narrow : suc last < 2 ^ 31
  pub to : q ≡ p + length ls * suc last
  pub low : AreLow (ones ls) p
  pub original : base.original < p
  pub vars : q + suc last ≤ base.vars + 1
  pub unnamed : (v : ℕ) → p ≤ v → v < q + suc last → p + suc last ≤ v → IsUnnamed v base
  pub at : db.next ≡ next
  pub holding : IsHolding (Below (p + suc last)) base db (WithRow R last order)
  pub others : AreBeside R last order next
  pub row : IsRow db p last order
  pub row_before : order + (2 * last + 1) ≤ next
  pub total_held : R whole
  pub total : Knows db whole (total_of (ones ls) p (suc last))

pub record Climbs (base db : Database) (R : ℕ → Type 0) (ls : List Lit) (p q last : ℕ) (steps : List Step) (e : RowsEnd) : Type 1 where
  pub end : Database
  pub runs : Runs db steps (rows_clauses ls p last) end
  pub holding : IsHolding (Below (q + suc last)) base end (WithRow (OrId R e.climb) last e.order)
  pub at : end.next ≡ e.next
  pub row : IsRow end q last e.order
  pub climb : Knows end e.climb (climb_of (ones ls) p q (suc last))
  pub stands : (i : ℕ) → R i → constraint_at end.live i ≡ constraint_at db.live i

-- ---- one row

pub one_climbs : (base db : Database) (R : ℕ → Type 0) (l : Lit) (p q last order whole next : ℕ) → MayClimb base db R (l ∷ []) p q last order whole next
    → Climbs base db R (l ∷ []) p q last (row_steps l p last order whole next) (record { order = order_at last next; climb = climb_at last next; next = row_end last next })
one_climbs base db R l p q last order whole next h =
    let later = h.holding.later in
    let e : p + suc last ≡ q = omega (arith, h.to) in
    let ready : MayFollow db l p last order whole next = record {
      low = All-head (λ (t : Weighted). t.lit.var < p) (unit_of l) [] h.low.below;
      narrow = h.narrow;
      original = omega (arith, h.original, later.original);
      vars = omega (arith, e, h.vars, later.vars);
      numbered = later.numbered;
      at = h.at;
      row = h.row;
      row_before = h.row_before;
      total = h.total;
      total_before = (h.others whole h.total_held).0;
      unnamed = λ v low high. later.unnamed v (λ under. let below : v < p + suc last = under in omega (arith, below, low)) (h.unnamed v (omega (arith, low)) (omega (arith, high, e)) low);
    } in
    let done = row_staged base db R l p last order whole next ready h.others h.holding in
    subst (λ (k : ℕ). Climbs base db R (l ∷ []) p k last (row_steps l p last order whole next) (record { order = order_at last next; climb = climb_at last next; next = row_end last next })) e
    (record {
      end = done.end;
      runs = subst (λ (cs : List (List Lit)). Runs db (row_steps l p last order whole next) cs done.end) (row-outputs-clauses l p last next ∙ sym (append-nil (row_clauses l p last))) done.runs;
      holding = done.holding;
      at = done.at;
      row = done.row;
      climb = done.climb;
      stands = done.stands;
    })

-- ---- one more line

pub record LineHeld (base db : Database) (R : ℕ → Type 0) (p last order id : ℕ) (steps : List Step) (t : Constraint) : Type 1 where
  pub end : Database
  pub runs : Runs db steps [] end
  pub holding : IsHolding (Below (p + suc last)) base end (WithRow (OrId R id) last order)
  pub at : end.next ≡ id + 1
  pub row : IsRow end p last order
  pub known : Knows end id t
  pub stands : (i : ℕ) → i < id → constraint_at end.live i ≡ constraint_at db.live i

with_more : (R : ℕ → Type 0) (last order id : ℕ) (n m : ℕ) → n ≡ id → m ≡ id + 1 → (i : ℕ) → OrBetween (WithRow R last order) n m i → WithRow (OrId R id) last order i
with_more R last order id n m e f i (before (beside r)) = beside (inl r)
with_more R last order id n m e f i (before (of_row from to)) = of_row from to
with_more R last order id n m e f i (between from to) = beside (inr (omega (arith, from, to, e, f)))

less_more : (R : ℕ → Type 0) (last order id : ℕ) (n m : ℕ) → n ≡ id → m ≡ id + 1 → (i : ℕ) → WithRow (OrId R id) last order i → OrBetween (WithRow R last order) n m i
less_more R last order id n m e f i (beside (inl r)) = before (beside r)
less_more R last order id n m e f i (beside (inr same)) = between (omega (arith, same, e)) (omega (arith, same, f))
less_more R last order id n m e f i (of_row from to) = before (of_row from to)

pub line_held : (base db : Database) (R : ℕ → Type 0) (p last order id : ℕ) (step : Step) (t : Constraint) → IsHolding (Below (p + suc last)) base db (WithRow R last order) → db.next ≡ id → order + (2 * last + 1) ≤ id → IsRow db p last order
    → Adds (Below (p + suc last)) db step t → LineHeld base db R p last order id (step ∷ []) t
line_held base db R p last order id step t holding at row_before row adds =
    let P : ℕ → Type 0 = Below (p + suc last) in
    let one = line_ran P db step id t holding.later.numbered at adds in
    let end : Database = one.added.ran.end in
    let later = one.added.ran.later in
    let next : end.next ≡ id + 1 = omega (arith, one.added.ran.next, at) in
    record {
      end = end;
      runs = one.added.ran.runs;
      holding = holding_same P P base end (OrBetween (WithRow R last order) db.next end.next) (WithRow (OrId R id) last order) (λ v k. k) (with_more R last order id db.next end.next at next) (less_more R last order id db.next end.next at next)
          (holding_added P base db (WithRow R last order) (step ∷ []) 1 holding one.added);
      at = next;
      row = record {
        order_known = still_known P db end order (order_of p) last later (omega (arith, row_before, at)) row.order_known;
        fronts_known = still_known P db end (order + last) (front_of p) (suc last) later (omega (arith, row_before, at)) row.fronts_known;
      };
      known = one.known;
      stands = λ i below. later.stands i (omega (arith, below, at));
    }

pub beside_more : (R : ℕ → Type 0) (last order id : ℕ) → order + (2 * last + 1) ≤ id → AreBeside R last order id → AreBeside (OrId R id) last order (id + 1)
beside_more R last order id le others i (inl r) = let k = others i r in (omega (arith, k.0), k.1)
beside_more R last order id le others i (inr same) = (omega (arith, same), inr (omega (arith, same, le)))
