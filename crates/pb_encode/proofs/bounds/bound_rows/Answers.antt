use Rattle.std.proofs.Common.{rules, FitsSigned, to_z, of_z, ◌≡◌, ◌<◌, ◌∙◌, ◌^◌, ℤ, List, ap, sym, subst, arith}
use mir.Syntax.{w128}
use Rattle.std.specs.Prelude.{IfOk}
use Rattle.std.specs.Int.RustNames.{unsigned_abs}
use Rattle.std.proofs.lemmas.Int.{to_z-of_z}
use Rattle.pb_base.specs.declared.literal.Lit.{Lit}
use Rattle.pb_norm.specs.Constraints.{Weighted, weight}
use Rattle.pb_family.specs.Families.{VarsBelow}
use Rattle.pb_gentot.specs.BoundTable.{table_fresh}
use Rattle.pb_encode.proofs.BoundTexts.{first_is, no_rows, rows_are}
use Rattle.pb_encode.proofs.TableTerms.{table_below, table_fits}
use Rattle.pb_encode.proofs.WeightedTexts.{offset_small}
use Rattle.pb_encode.proofs.bounds.bound_rows.Goals as goal

pub returns-in_default : goal.returns-in_default
returns-in_default c = c.new.ensures.items ∙ sym (no_rows c.args.options.now c.args.problem.now c.args.summary.now c.requires.summary c.in_default.is)

pub table_within-requires-clause-bounds : goal.table_within-requires-clause-bounds
table_within-requires-clause-bounds c = c.requires.encodable.bounds

pub rows_at-requires : goal.rows_at-requires
rows_at-requires c =
    let o = c.args.options.now in
    let p = c.args.problem.now in
    let first = c.in-Some.first in
    let at = first_is o p c.args.summary.now first c.requires.summary c.in-Some.is in
    let fits : FitsSigned w128 c.in_ok-offset.offset = search rules in
    record {
      light = subst (λ (ts : List Weighted). weight ts < 2 ^ 100) (sym c.in_ok-table.ensures) (table_fits p c.requires.within o).light;
      original = subst (VarsBelow first) (sym c.in_ok-table.ensures) (table_below p c.requires.within o first (omega (arith, at)));
      low = omega (arith, at);
      fits = omega (arith, at, ap table_fresh c.in_ok-table.ensures, c.requires.encodable.vars);
      offset = subst (λ (z : ℤ). unsigned_abs z < 2 ^ 126) (sym (to_z-of_z w128 c.in_ok-offset.offset fits ∙ c.in_ok-offset.ensures)) (offset_small o p c.requires.within);
    }

pub returns : goal.returns
returns c =
    let o = c.args.options.now in
    let p = c.args.problem.now in
    let first = c.in-Some.first in
    let fits : FitsSigned w128 c.in_ok-offset.offset = search rules in
    let kept = to_z-of_z w128 c.in_ok-offset.offset fits in
    let at = first_is o p c.args.summary.now first c.requires.summary c.in-Some.is in
    let rows = rows_are o p (to_z w128 (of_z w128 c.in_ok-offset.offset)) c.in_ok-table.table first (kept ∙ c.in_ok-offset.ensures) c.in_ok-table.ensures at in
    subst (λ (whole : List (ℤ × Lit)). IfOk c.rows_at.result (λ made. made.items ≡ whole)) rows c.rows_at.ensures
