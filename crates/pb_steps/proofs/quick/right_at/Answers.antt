use Rattle.std.proofs.Common.{rules, FitsSigned, to_z, of_z}
use mir.Syntax.{w128}
use Rattle.std.proofs.lemmas.Int.{to_z-of_z}
use Rattle.pb_steps.proofs.ShortLines.{right-short}
use Rattle.pb_steps.proofs.quick.right_at.Goals as goal

pub returns-clause-short : goal.returns-clause-short
returns-clause-short c =
    let right = c.in_ok-right.right in
    let fits : FitsSigned w128 right = search rules in
    right-short c.args.left.now (to_z w128 (of_z w128 right)) right c.in_ok-right.count (to_z-of_z w128 right fits) (c.pair_at.ensures c.if-not-pair_at.false) c.in_ok-right.ensures.short (c.mark_at.ensures c.if-not-mark_at.false)
