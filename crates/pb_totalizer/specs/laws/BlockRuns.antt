-- The lines about blocks of a part run: for each number of its outputs it is known what the others of its block say, and for each block
-- what those outside it say.
use Rattle.std.proofs.Common.{◌≡◌, ◌≤◌, ◌<◌, ◌+◌, ◌-◌, ◌*◌, ◌/◌, ◌^◌, ◌++◌, ℕ, suc, List, [], ◌∷◌, subst, arith}
use Rattle.pb_norm.specs.Constraints.{Weighted}
use Rattle.pb_steps.specs.declared.op.PolOp.TheVariants.{Push, Axiom, Add}
use Rattle.pb_steps.specs.declared.step.Step.TheVariants.{Pol}
use Rattle.pb_steps.specs.Database.{Database}
use Rattle.pb_derive.specs.Later.{IsLater, Knows}
use Rattle.pb_derive.proofs.Laters.{later_then, later_knows}
use Rattle.pb_derive.proofs.Lines.{Adds, AreKnown, still_known, Added, added_as, added_then, LinesRan, lines_ran, ChainRan, chain_ran}
use Rattle.pb_derive.proofs.UnaryRows.{front_of}
use Rattle.pb_family.specs.Fresh.{positive_of}
use Rattle.pb_totalizer.specs.OutputBlocks.{block_end, block_front_line, block_front_lines, block_tail_line, block_tail_lines, block_others_line, block_others_lines, narrow_line, narrow_lines, block_lines, block_size, block_others_at, narrows_at}
use Rattle.pb_totalizer.specs.OutputRows.{nothing_line, front_line, front_lines, tail_line, tail_lines}
use Rattle.pb_totalizer.specs.laws.BlockAdds.{front_to, behind_of, all_but, outside_at, block_front_adds, block_tail_adds, none_adds, block_others_adds, narrow_adds}
use Rattle.pb_totalizer.specs.laws.BlockForms.{places_behind}
use Rattle.pb_totalizer.specs.laws.OutputAdds.{Below, IsReified, reified_later, nothing_adds, front_adds, tail_adds}
use Rattle.pb_totalizer.specs.laws.OutputForms.{tail_of}
use Rattle.pb_totalizer.specs.laws.OutputRuns.{MayTell}

pub record BlocksTold (db : Database) (top p row last m next : ℕ) : Type 0 where
  pub added : Added (Below top) db (block_lines p row m last next) (block_size last)
  pub known : AreKnown added.ran.end (block_others_at last next) (all_but p last) (suc (suc last))
  pub narrow : AreKnown added.ran.end (narrows_at last next) (outside_at p last) (suc (last / 32))

module _ (db : Database) (top p row last m next : ℕ) (ts : List Weighted) (h : MayTell db top p row last m next ts) where
  abbrev P : ℕ → Type 0
  P = Below top

  abbrev tails : ℕ
  tails = next + suc last

  abbrev fronts : ℕ
  fronts = tails + suc (suc last)

  abbrev behind : ℕ
  behind = fronts + suc last

  abbrev others : ℕ
  others = behind + suc last

  abbrev narrows : ℕ
  narrows = others + suc (suc last)

  less : suc last ≤ 2 ^ 32
  less = omega (arith, h.reified.within, h.few)

  vars_at : (mid : Database) → IsLater P db mid → top ≤ mid.vars + 1
  vars_at mid later = omega (arith, h.vars, later.vars)

  reified_at : (mid : Database) → IsLater P db mid → IsReified mid p row last m ts
  reified_at mid later = reified_later P db mid p row last m ts later (omega (arith, h.before, h.at)) h.reified

  -- ---- about the whole row

  wholes : ChainRan P db (front_lines p row m last next) next (front_of p) last
  wholes =
      chain_ran P db next (nothing_line p) (front_line row m next) (front_of p) last h.numbered h.at (nothing_adds top (positive_of p) db (omega (arith, h.under, h.vars)))
      (λ j within mid later known. front_adds top p row last m ts mid h.few h.under (vars_at mid later) next j within (reified_at mid later) known)

  abbrev mid1 : Database
  mid1 = wholes.added.ran.end

  at_1 : mid1.next ≡ tails
  at_1 = omega (arith, wholes.added.ran.next, h.at)

  whole_tails : ChainRan P mid1 (tail_lines p last tails) tails (tail_of p last) (suc last)
  whole_tails =
      chain_ran P mid1 tails (nothing_line p) (tail_line p last tails) (tail_of p last) (suc last) wholes.added.ran.later.numbered at_1 (nothing_adds top (positive_of p) mid1 (omega (arith, h.under, vars_at mid1 wholes.added.ran.later)))
      (λ k within mid later known. tail_adds top p row last m ts mid h.few h.under (vars_at mid (later_then P db mid1 mid wholes.added.ran.later later)) tails k within less known)

  abbrev mid2 : Database
  mid2 = whole_tails.added.ran.end

  at_2 : mid2.next ≡ fronts
  at_2 = omega (arith, whole_tails.added.ran.next, at_1)

  later_2 : IsLater P db mid2
  later_2 = later_then P db mid1 mid2 wholes.added.ran.later whole_tails.added.ran.later

  -- ---- about blocks

  block_fronts : ChainRan P mid2 (block_front_lines p row m last fronts) fronts (front_to p) last
  block_fronts =
      chain_ran P mid2 fronts (nothing_line p) (block_front_line row m fronts) (front_to p) last later_2.numbered at_2 (nothing_adds top (positive_of p) mid2 (omega (arith, h.under, vars_at mid2 later_2)))
      (λ x within mid later known.
      let now = later_then P db mid2 mid later_2 later in
      block_front_adds top p row last m ts mid h.few less h.under (vars_at mid now) fronts x within (reified_at mid now) known)

  abbrev mid3 : Database
  mid3 = block_fronts.added.ran.end

  at_3 : mid3.next ≡ behind
  at_3 = omega (arith, block_fronts.added.ran.next, at_2)

  later_3 : IsLater P db mid3
  later_3 = later_then P db mid2 mid3 later_2 block_fronts.added.ran.later

  block_tails : ChainRan P mid3 (block_tail_lines p last behind) behind (behind_of p last) last
  block_tails =
      chain_ran P mid3 behind (nothing_line p) (block_tail_line p last behind) (behind_of p last) last later_3.numbered at_3
      (subst (λ (n : ℕ). Adds P mid3 (nothing_line p) (places_behind (p + suc (last - 0)) n)) (let e : 0 ≡ block_end last (last - 0) - (last - 0) = omega arith in e) (nothing_adds top (positive_of p) mid3 (omega (arith, h.under, vars_at mid3 later_3))))
      (λ y within mid later known. block_tail_adds top p row last m ts mid h.few less h.under (vars_at mid (later_then P db mid3 mid later_3 later)) behind y within known)

  abbrev mid4 : Database
  mid4 = block_tails.added.ran.end

  at_4 : mid4.next ≡ others
  at_4 = omega (arith, block_tails.added.ran.next, at_3)

  later_4 : IsLater P db mid4
  later_4 = later_then P db mid3 mid4 later_3 block_tails.added.ran.later

  fronts_4 : (mid : Database) → IsLater P mid4 mid → (y : ℕ) → y < suc last → Knows mid (fronts + y) (front_to p y)
  fronts_4 mid later y within =
      later_knows P mid3 mid (fronts + y) (front_to p y) (later_then P mid3 mid4 mid block_tails.added.ran.later later) (omega (arith, at_3, within)) (block_fronts.known y within)

  tails_4 : (mid : Database) → IsLater P mid4 mid → (y : ℕ) → y < suc last → Knows mid (behind + y) (behind_of p last y)
  tails_4 mid later y within = later_knows P mid4 mid (behind + y) (behind_of p last y) later (omega (arith, at_4, within)) (block_tails.known y within)

  all_others : ChainRan P mid4 (block_others_lines p last fronts behind) others (all_but p last) (suc last)
  all_others =
      chain_ran P mid4 others (Pol (Push (behind + last) ∷ Axiom (positive_of p) ∷ Add ∷ [])) (block_others_line last fronts behind) (all_but p last) (suc last) later_4.numbered at_4
      (none_adds top p row last m ts mid4 h.few less h.under (vars_at mid4 later_4) behind (block_tails.known last (omega arith)))
      (λ x within mid later known.
      let now = later_then P db mid4 mid later_4 later in
      block_others_adds top p row last m ts mid h.few less h.under (vars_at mid now) fronts behind x within (fronts_4 mid later 0 (omega arith)) (fronts_4 mid later) (tails_4 mid later (last - x) (omega (arith, within))))

  abbrev mid5 : Database
  mid5 = all_others.added.ran.end

  at_5 : mid5.next ≡ narrows
  at_5 = omega (arith, all_others.added.ran.next, at_4)

  later_5 : IsLater P db mid5
  later_5 = later_then P db mid4 mid5 later_4 all_others.added.ran.later

  -- ---- about what is outside

  from_1 : (mid : Database) → IsLater P mid5 mid → IsLater P mid1 mid
  from_1 mid later = later_then P mid1 mid2 mid whole_tails.added.ran.later (from_2 mid later)
    where
      from_2 : (mid : Database) → IsLater P mid5 mid → IsLater P mid2 mid
      from_2 mid later = later_then P mid2 mid3 mid block_fronts.added.ran.later (later_then P mid3 mid4 mid block_tails.added.ran.later (later_then P mid4 mid5 mid all_others.added.ran.later later))

  from_tails : (mid : Database) → IsLater P mid5 mid → IsLater P mid2 mid
  from_tails mid later = later_then P mid2 mid3 mid block_fronts.added.ran.later (later_then P mid3 mid4 mid block_tails.added.ran.later (later_then P mid4 mid5 mid all_others.added.ran.later later))

  all_narrows : LinesRan P mid5 (narrow_lines last next tails) narrows (outside_at p last) (suc (last / 32))
  all_narrows =
      lines_ran P mid5 narrows (narrow_line last next tails) (outside_at p last) (suc (last / 32)) later_5.numbered at_5
      (λ k within mid later known.
      let low : 32 * k ≤ last = omega (arith, within) in
      let j : ℕ = last - block_end last (32 * k) in
      let front = later_knows P mid1 mid (next + 32 * k) (front_of p (32 * k)) (from_1 mid later) (omega (arith, at_1, low)) (wholes.known (32 * k) (omega (arith, low))) in
      let tail = later_knows P mid2 mid (tails + j) (tail_of p last j) (from_tails mid later) (omega (arith, at_2)) (whole_tails.known j (omega arith)) in
      narrow_adds top p row last m ts mid h.few less h.under (vars_at mid (later_then P db mid5 mid later_5 later)) next tails k low front tail)

  abbrev end : Database
  end = all_narrows.added.ran.end

  pub blocks_told : BlocksTold db top p row last m next
  blocks_told = record {
    added = added_as P db (block_lines p row m last next) (1 + last + (1 + suc last + (1 + last + (1 + last + (1 + suc last + suc (last / 32)))))) (block_size last) (omega arith)
        (added_then P db (front_lines p row m last next) (tail_lines p last tails ++ (block_front_lines p row m last fronts ++ (block_tail_lines p last behind ++ (block_others_lines p last fronts behind ++ narrow_lines last next tails)))) (1 + last) (1 + suc last + (1 + last + (1 + last + (1 + suc last + suc (last / 32))))) wholes.added
        (added_then P mid1 (tail_lines p last tails) (block_front_lines p row m last fronts ++ (block_tail_lines p last behind ++ (block_others_lines p last fronts behind ++ narrow_lines last next tails))) (1 + suc last) (1 + last + (1 + last + (1 + suc last + suc (last / 32)))) whole_tails.added
        (added_then P mid2 (block_front_lines p row m last fronts) (block_tail_lines p last behind ++ (block_others_lines p last fronts behind ++ narrow_lines last next tails)) (1 + last) (1 + last + (1 + suc last + suc (last / 32))) block_fronts.added
        (added_then P mid3 (block_tail_lines p last behind) (block_others_lines p last fronts behind ++ narrow_lines last next tails) (1 + last) (1 + suc last + suc (last / 32)) block_tails.added
        (added_then P mid4 (block_others_lines p last fronts behind) (narrow_lines last next tails) (1 + suc last) (suc (last / 32)) all_others.added all_narrows.added)))));
    known = still_known P mid5 end others (all_but p last) (suc (suc last)) all_narrows.added.ran.later (omega (arith, at_5)) all_others.known;
    narrow = all_narrows.known;
  }
