use Rattle.std.proofs.Common.{◌≡◌, ◌∙◌, rules, ap, arith, length, pos, sym}
use Rattle.std.proofs.lemmas.Bool.{OnTrue_from}
use Rattle.std.proofs.lemmas.List.Sorted.{length_permutation}
use Rattle.pb_base.specs.declared.problem.Relation.{Relation}
use Rattle.pb_encode.specs.Groups.{grouped}
use Rattle.pb_encode.specs.declared.groups.Group.TheVariants.{Alone}
use Rattle.pb_encode.proofs.PlainClauses.{ones_are_half}
use Rattle.pb_encode.proofs.plain.is_plain.Goals as goal

pub returns : goal.returns
returns c =
    let s = c.args.statement.now in
    let ks = c.lits_of_ones.new.lits.items in
    let ls = c.put_in_order.new.lits.items in
    let right : s.right ≡ pos 1 = search rules in
    let size : length ls ≡ length ks = length_permutation _ _ c.put_in_order.ensures.order in
    OnTrue_from c.put_in_order.result _ (λ holds. record {
      group = ap (λ (r : Relation). grouped r s) c.in-AtLeast.is ∙ sym (ap Alone (ones_are_half s ks ls (sym c.as_slice.ensures ∙ c.if-not-lits_of_ones.ensures) right c.put_in_order.ensures.order (c.put_in_order.ensures.once holds)));
      some = omega (arith, size, c.len.ensures, c.if-len-lt2.false);
    })
