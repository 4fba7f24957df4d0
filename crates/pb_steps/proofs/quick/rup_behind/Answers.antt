use Rattle.std.proofs.Common.{arith, rules, FitsSigned, to_z, of_z}
use mir.Syntax.{w128}
use Rattle.std.proofs.lemmas.Int.{to_z-of_z}
use Rattle.pb_steps.proofs.ShortLines.{rup-says}
use Rattle.pb_steps.proofs.quick.rup_behind.Goals as goal

pub returns-then-first-second : goal.returns-then-first-second
returns-then-first-second c =
    let right = c.in-Some.right in
    let fits : FitsSigned w128 right = search rules in
    rup-says c.args.left.now c.in_ok-terms.terms (to_z w128 (of_z w128 right)) right c.in_ok-ids.ids c.in_ok-terms.first c.in-Some.second c.in_ok-ids.third (to_z-of_z w128 right fits) c.in_ok-terms.ensures.spells c.in_ok-terms.ensures.each c.in-Some.ensures.short c.in-Some.ensures.small c.in_ok-ids.ensures.spells c.in_ok-ids.ensures.ids (omega arith)
