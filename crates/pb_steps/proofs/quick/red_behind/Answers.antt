use Rattle.std.proofs.Common.{arith, rules, FitsSigned, to_z, of_z}
use mir.Syntax.{w128}
use Rattle.std.proofs.lemmas.Int.{to_z-of_z}
use Rattle.pb_steps.proofs.ShortLines.{red-says}
use Rattle.pb_steps.proofs.quick.red_behind.Goals as goal

pub returns : goal.returns
returns c =
    let right = c.in-Some.right in
    let fits : FitsSigned w128 right = search rules in
    red-says c.args.left.now c.in_ok-terms.terms (to_z w128 (of_z w128 right)) right c.in-Some-set_at.set c.in_ok-sets.sets c.in_ok-terms.first c.in-Some.second c.in-Some-set_at.third (to_z-of_z w128 right fits) c.in_ok-sets.ensures c.in_ok-terms.ensures.spells c.in_ok-terms.ensures.each c.in-Some.ensures.short c.in-Some.ensures.small c.in-Some-set_at.ensures.short c.in-Some-set_at.ensures.named (omega arith)
