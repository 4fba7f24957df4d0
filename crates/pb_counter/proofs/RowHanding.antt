-- The steps of a row, as they are handed over.
use Rattle.std.proofs.Common.{◌≡◌, ◌+◌, ◌*◌, ◌∙◌, ◌++◌, ℕ, zero, suc, pos, List, [], ◌∷◌, map, refl, sym, ap, subst, arith, append_assoc}
use Rattle.std.specs.Prelude.{Result, IfOk}
use Rattle.std.specs.List.{range_with_len, flat_map}
use Rattle.std.proofs.lemmas.List.{map-append}
use Rattle.pb_base.specs.declared.literal.Lit.{Lit}
use Rattle.pb_steps.specs.declared.op.PolOp.{PolOp}
use Rattle.pb_steps.specs.declared.op.PolOp.TheVariants.{Push, Add, Mul, Div, Weaken}
use Rattle.pb_steps.specs.declared.step.Step.{Step}
use Rattle.pb_steps.specs.declared.step.Step.TheVariants.{Pol, Out, Del}
use Rattle.pb_derive.specs.Outputs.{Output, output_steps}
use Rattle.pb_derive.specs.Reifications.{reification_steps}
use Rattle.pb_family.specs.Derivations.{pieces, in_turn, ids_in_turn}
use Rattle.pb_family.specs.Fresh.{positive_of}
use Rattle.pb_family.proofs.Ranges.{range_same}
use Rattle.pb_family.proofs.Sequence.{reification_piece, reification_pieces, one_each}
use Rattle.pb_counter.specs.CounterRows.{next_count, next_counts, fall_line, more_line, keep_line, stop_line, order_line, part_line, part_lines, front_line, front_lines, falls_at, parts_at, keeps_at, order_at, fronts_at, stop_at, stop_clause, place_outputs, row_outputs, row_deleted, row_steps}
use Rattle.pb_counter.specs.inner.PlacePieces.{part_piece, front_piece}
use Rattle.pb_counter.specs.inner.RowParts.{row_parts}
use Rattle.pb_counter.specs.inner.RowPieces.{row_ids, row_count, row_width, row_piece}
use Rattle.pb_counter.specs.declared.row.Row.{Row}
use Rattle.pb_counter.specs.declared.row.RowIds.{RowIds}
use Rattle.pb_counter.specs.declared.row_parts.RowPart.{RowPart}

-- by the variable that is taken out, and the factors
pub part_without : (p fronts counts falls parts j : ℕ) {l : Lit} {mul other div : PolOp} → l ≡ positive_of (p + j) → mul ≡ Mul (pos (1 + j)) → other ≡ Mul (pos (1 + j)) → div ≡ Div (pos (2 + j)) →
    Pol (Push (parts + j) ∷ mul ∷ Push (fronts + j) ∷ Add ∷ Push (falls + j) ∷ other ∷ Add ∷ Push (counts + 2 * (1 + j)) ∷ Weaken l.var ∷ Div (pos 2) ∷ Add ∷ div ∷ []) ∷ []
    ≡ part_line p fronts counts falls parts j ∷ []
part_without p fronts counts falls parts j {mul = mul} {other = other} {div = div} is so and whole =
    let above : 1 + j ≡ suc j = omega arith in
    let beyond : 2 + j ≡ suc (suc j) = omega arith in
    let one : mul ≡ Mul (pos (suc j)) = so ∙ ap (λ (k : ℕ). Mul (pos k)) above in
    let two : other ≡ Mul (pos (suc j)) = and ∙ ap (λ (k : ℕ). Mul (pos k)) above in
    let three : div ≡ Div (pos (suc (suc j))) = whole ∙ ap (λ (k : ℕ). Div (pos k)) beyond in
    λ i. Pol (Push (parts + j) ∷ one i ∷ Push (fronts + j) ∷ Add ∷ Push (falls + j) ∷ two i ∷ Add ∷ Push (counts + 2 * above i) ∷ Weaken (is i).var ∷ Div (pos 2) ∷ Add ∷ three i ∷ []) ∷ []

-- ---- pieces as lists

-- of clauses that are put out
pub outs_each : (f : ℕ → List Output) (next a n : ℕ) → pieces (λ id k. output_steps (f k)) 0 next a n ≡ output_steps (flat_map f (range_with_len a n))
outs_each f next a zero = refl
outs_each f next a (suc n) =
    ap (λ (ss : List Step). output_steps (f a) ++ ss) (outs_each f (next + 0) (a + 1) n)
    ∙ sym (map-append (λ (u : Output). Out u.id) (f a) (flat_map f (range_with_len (a + 1) n)))

pub outs_alone : (f : ℕ → Step) (next a n : ℕ) → pieces (λ id k. f k ∷ []) 0 next a n ≡ map f (range_with_len a n)
outs_alone f next a zero = refl
outs_alone f next a (suc n) = ap (λ (ss : List Step). f a ∷ ss) (outs_alone f (next + 0) (a + 1) n)

-- the first, and then the later ones
pub first_and_later : (f g : ℕ → Step) (n : ℕ) → ((j : ℕ) → f (suc j) ≡ g j) → map f (range_with_len 0 (suc n)) ≡ f 0 ∷ map g (range_with_len 0 n)
first_and_later f g n same =
    ap (λ (ss : List Step). f 0 ∷ ss)
    (range_same f g 1 0 n (λ i h. ap f (let e : 1 + i ≡ suc i = omega arith in e) ∙ same i ∙ ap g (let e : i ≡ 0 + i = omega arith in e)))

-- what stands behind two parts, behind the second
pub behind : (xs ys ts us : List Step) → ys ++ ts ≡ us → (xs ++ ys) ++ ts ≡ xs ++ us
behind xs ys ts us same = append_assoc xs ys ts ∙ ap (λ (ss : List Step). xs ++ ss) same

-- ---- a row

module _ (l : Lit) (p last order whole next : ℕ) where
  abbrev rows : ℕ → RowIds → List Step
  rows fronts ids =
      pieces (reification_piece (next_count l p (p + suc last))) 2 next 0 (suc last)
      ++ (pieces (λ id j. fall_line l.var order ids.counts j ∷ []) 1 (next + 2 * suc last) 0 last
      ++ (pieces (λ id j. part_piece p fronts ids.counts ids.falls ids.parts j ∷ []) 1 (next + 2 * suc last + 1 * last) 0 (suc last)
      ++ (pieces (λ id j. more_line p ids.counts j ∷ []) 1 (next + 2 * suc last + 1 * last + 1 * suc last) 0 (suc last)
      ++ (pieces (λ id j. keep_line l.var p ids.counts j ∷ []) 1 (next + 2 * suc last + 1 * last + 1 * suc last + 1 * suc last) 0 (suc last)
      ++ (stop_line last fronts whole
      ∷ (pieces (λ id j. order_line ids.falls ids.keeps j ∷ []) 1 (next + 2 * suc last + 1 * last + 1 * suc last + 1 * suc last + 1 * suc last + 1 * 1) 0 last
      ++ (pieces (λ id j. front_piece (p + suc last) ids.order ids.fronts j ∷ []) 1 (next + 2 * suc last + 1 * last + 1 * suc last + 1 * suc last + 1 * suc last + 1 * 1 + 1 * last) 0 (suc last)
      ++ (pieces (λ id j. Out (ids.mores + j) ∷ Out (ids.keeps + j) ∷ []) 0 (next + 2 * suc last + 1 * last + 1 * suc last + 1 * suc last + 1 * suc last + 1 * 1 + 1 * last + 1 * suc last) 0 (suc last)
      ++ (Out ids.stop ∷ Del (row_deleted last order ids.counts) ∷ [])))))))))

  abbrev ids : RowIds
  ids = row_ids last next

  abbrev outs : List Step
  outs = output_steps (flat_map (place_outputs l p last next) (range_with_len 0 (suc last)))

  abbrev ends : List Step
  ends = Out ids.stop ∷ Del (row_deleted last order ids.counts) ∷ []

  parts : map (part_piece p (order + last) ids.counts ids.falls ids.parts) (range_with_len 0 (suc last)) ≡ part_lines p last (order + last) ids.counts ids.falls ids.parts
  parts = first_and_later (part_piece p (order + last) ids.counts ids.falls ids.parts) (part_line p (order + last) ids.counts ids.falls ids.parts) last (λ j. refl)

  fronts : map (front_piece (p + suc last) ids.order ids.fronts) (range_with_len 0 (suc last)) ≡ front_lines (p + suc last) last ids.order ids.fronts
  fronts = first_and_later (front_piece (p + suc last) ids.order ids.fronts) (front_line ids.order ids.fronts) last (λ j. refl)

  -- all of it, part by part
  abbrev listed : List Step
  listed =
      reification_steps next (next_counts l p (p + suc last) last)
      ++ (map (fall_line l.var order next) (range_with_len 0 last)
      ++ (part_lines p last (order + last) next (falls_at last next) (parts_at last next)
      ++ (map (more_line p next) (range_with_len 0 (suc last))
      ++ (map (keep_line l.var p next) (range_with_len 0 (suc last))
      ++ (stop_line last (order + last) whole
      ∷ (map (order_line (falls_at last next) (keeps_at last next)) (range_with_len 0 last)
      ++ (front_lines (p + suc last) last (order_at last next) (fronts_at last next)
      ++ (outs ++ ends))))))))

  lists : rows (order + last) ids ≡ listed
  lists = λ i.
      sym (reification_pieces (next_count l p (p + suc last)) next 0 (suc last)) i
      ++ (one_each (fall_line l.var order next) (next + 2 * suc last) 0 last i
      ++ ((one_each (part_piece p (order + last) next ids.falls ids.parts) (next + 2 * suc last + 1 * last) 0 (suc last) ∙ parts) i
      ++ (one_each (more_line p next) (next + 2 * suc last + 1 * last + 1 * suc last) 0 (suc last) i
      ++ (one_each (keep_line l.var p next) (next + 2 * suc last + 1 * last + 1 * suc last + 1 * suc last) 0 (suc last) i
      ++ (stop_line last (order + last) whole
      ∷ (one_each (order_line ids.falls ids.keeps) (next + 2 * suc last + 1 * last + 1 * suc last + 1 * suc last + 1 * suc last + 1 * 1) 0 last i
      ++ ((one_each (front_piece (p + suc last) ids.order ids.fronts) (next + 2 * suc last + 1 * last + 1 * suc last + 1 * suc last + 1 * suc last + 1 * 1 + 1 * last) 0 (suc last) ∙ fronts) i
      ++ (outs_each (place_outputs l p last next) (next + 2 * suc last + 1 * last + 1 * suc last + 1 * suc last + 1 * suc last + 1 * 1 + 1 * last + 1 * suc last) 0 (suc last) i
      ++ ends))))))))

  abbrev stop_out : Output
  stop_out = record { id = stop_at last next; clause = stop_clause l p last }

  abbrev tail : List Step
  tail = output_steps (row_outputs l p last next) ++ Del (row_deleted last order next) ∷ []

  tails : tail ≡ outs ++ ends
  tails =
      ap (λ (ss : List Step). ss ++ Del (row_deleted last order next) ∷ []) (map-append (λ (u : Output). Out u.id) (flat_map (place_outputs l p last next) (range_with_len 0 (suc last))) (stop_out ∷ []))
      ∙ append_assoc outs (Out (stop_at last next) ∷ []) (Del (row_deleted last order next) ∷ [])

  whole_row : row_steps l p last order whole next ≡ listed
  whole_row =
      behind (reification_steps next (next_counts l p (p + suc last) last)) _ tail _
      (behind (map (fall_line l.var order next) (range_with_len 0 last)) _ tail _
      (behind (part_lines p last (order + last) next (falls_at last next) (parts_at last next)) _ tail _
      (behind (map (more_line p next) (range_with_len 0 (suc last))) _ tail _
      (behind (map (keep_line l.var p next) (range_with_len 0 (suc last))) _ tail _
      (ap (λ (ss : List Step). stop_line last (order + last) whole ∷ ss)
      (behind (map (order_line (falls_at last next) (keeps_at last next)) (range_with_len 0 last)) (front_lines (p + suc last) last (order_at last next) (fronts_at last next)) tail _
      (ap (λ (ss : List Step). front_lines (p + suc last) last (order_at last next) (fronts_at last next) ++ ss) tails)))))))

-- the parts of a row
pub row_in_parts : (r : Row) (next : ℕ) → r.ids ≡ row_ids r.last next → r.fronts ≡ r.order + r.last
    → in_turn (λ (p : RowPart). row_count p.kind p.row.last) (λ (p : RowPart). row_width p.kind) (λ (p : RowPart). row_piece p.kind p.row) next (row_parts r) ≡ row_steps r.lit r.first r.last r.order r.whole next
row_in_parts r next is fronts =
    (λ i. rows r.lit r.first r.last r.order r.whole next (fronts i) (is i)) ∙ lists r.lit r.first r.last r.order r.whole next ∙ sym (whole_row r.lit r.first r.last r.order r.whole next)

-- and how many ids they take
pub ids_counted : {T E : Type 0} (r : Row) (result : Result T E) (next after : ℕ) {ps : List RowPart} → ps ≡ row_parts r
    → IfOk result (λ x. after ≡ next + ids_in_turn (λ (p : RowPart). row_count p.kind p.row.last) (λ (p : RowPart). row_width p.kind) ps) → IfOk result (λ x. after ≡ next + (8 * r.last + 7))
ids_counted {T = T} r result next after same h =
    let counted : ids_in_turn (λ (p : RowPart). row_count p.kind p.row.last) (λ (p : RowPart). row_width p.kind) (row_parts r) ≡ 8 * r.last + 7 = omega arith in
    subst (λ (n : ℕ). IfOk result (λ (x : T). after ≡ next + n)) (ap (ids_in_turn (λ (p : RowPart). row_count p.kind p.row.last) (λ (p : RowPart). row_width p.kind)) same ∙ counted) h
