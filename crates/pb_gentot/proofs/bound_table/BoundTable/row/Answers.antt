use Rattle.std.proofs.Common.{rules, FitsSigned, to_z, of_z, ◌≡◌, ◌<◌, ◌^◌, ℕ, List, pos, get_or, length, refl, sym, ap, ◌∙◌, subst, arith}
use mir.Syntax.{w128}
use Rattle.std.proofs.lemmas.Int.{to_z-of_z}
use Rattle.pb_base.specs.declared.literal.Lit.{Lit}
use Rattle.pb_norm.specs.Constraints.{weight, weights}
use Rattle.pb_tree.specs.Tree.{tree_of}
use Rattle.pb_gentot.specs.BoundTable.{table_values}
use Rattle.pb_gentot.proofs.Emitting.{output_placed, rising_values, room_fewer}
use Rattle.pb_gentot.proofs.KeptTables.{row_is, row_small}
use Rattle.pb_gentot.proofs.bound_table.BoundTable.row.Goals as goal

pub at-lit-requires : goal.at-lit-requires
at-lit-requires c = room_fewer c.outputs.result (length (table_values c.args.self.now)) _ (omega (arith, c.if-i-len.false, c.len.ensures)) c.outputs.ensures.room

pub signed-requires : goal.signed-requires
signed-requires c =
    let us = weights c.self.inside.terms.items in
    let vals = c.as_slice-values.ensures.value ∙ c.self.invariant.values_are in
    let within : c.args.i < length (table_values us) = omega (arith, c.if-i-len.false, c.len.ensures, ap (λ ws. length (table_values ws)) c.self.view_is) in
    let small = row_small us c.args.i c.self.invariant.light within in
    subst (λ (vs : List ℕ). get_or vs c.args.i 0 < 2 ^ 100) (sym vals) small

pub returns : goal.returns
returns c =
    let ts = c.args.self.now in
    let vals = c.as_slice-values.ensures.value ∙ c.self.invariant.values_are ∙ ap table_values c.self.view_is in
    let within : c.args.i < length (table_values ts) = omega (arith, c.if-i-len.false, c.len.ensures) in
    let fits : FitsSigned w128 c.signed.result = search rules in
    let kept : to_z w128 (of_z w128 c.signed.result) ≡ c.signed.result = to_z-of_z w128 c.signed.result fits in
    row_is ts c.args.first c.args.i (to_z w128 (of_z w128 c.signed.result)) c.at-lit.result within
    (kept ∙ c.signed.ensures ∙ ap (λ (vs : List ℕ). pos (get_or vs c.args.i 0)) vals)
    (c.at-lit.ensures ∙ output_placed c.outputs.result (table_values ts) c.args.i (rising_values (weight ts) (tree_of ts) (table_values ts) refl) within ∙ ap (λ (f : ℕ → Lit). f (get_or (table_values ts) c.args.i 0)) c.outputs.ensures.literals)
