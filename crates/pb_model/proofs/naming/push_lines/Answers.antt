use Rattle.std.proofs.lemmas.Grind.{common_steps}
use Rattle.std.proofs.Common.{arith, ◌+◌, ◌++◌, ℕ, List, ap, ◌∙◌}
use Rattle.std.specs.List.{flat_map, range_with_len}
use Rattle.pb_model.specs.MapText.{map_line}
use Rattle.pb_model.proofs.MapLines.{line_more}
use Rattle.pb_model.proofs.ValueWords.{kept_before}
use Rattle.pb_model.proofs.naming.push_lines.Goals as goal

pub returns-in_err-push_line-clause-before : goal.returns-in_err-push_line-clause-before
returns-in_err-push_line-clause-before c =
    let p = c.args.problem.now in
    kept_before c.args.out.now.items (flat_map (map_line p) (range_with_len (p.numbered + 1) c.loop-place.place)) c.loop-place.out.items c.push_line.new.out.items c.loop-place.invariant c.push_line.ensures.before

pub loop-place-preserved : goal.loop-place-preserved
loop-place-preserved c =
    let p = c.args.problem.now in
    let place = c.loop-place.place in
    c.in_ok-push_line.ensures.ok
    ∙ ap (λ (xs : List ℕ). xs ++ map_line p (p.numbered + 1 + place)) c.loop-place.invariant
    ∙ line_more (map_line p) c.args.out.now.items (p.numbered + 1) place

pub returns-clause-ok : goal.returns-clause-ok
returns-clause-ok c = grind (arith, common_steps)

pub returns-clause-before : goal.returns-clause-before
returns-clause-before c = grind (arith, common_steps)

pub push_line-requires : goal.push_line-requires
push_line-requires c = grind (arith, common_steps)
