use Rattle.std.proofs.Common.{◌∙◌, ◌++◌, [], ◌∷◌, FitsSigned, ap, arith, rules, sym}
use mir.Syntax.{w32}
use Rattle.std.proofs.lemmas.Int.{to_z-of_z}
use Rattle.pb_base.specs.declared.heads.Head.{Head}
use Rattle.pb_columns.specs.Columns.{head_with}
use Rattle.pb_columns.specs.Columns.StopsSum.{long, no_memory, unknown}
use Rattle.pb_columns.specs.Conditions.{most_terms}
use Rattle.pb_columns.proofs.Columned.{related, unrelated}
use Rattle.pb_columns.proofs.heads.push_head.Goals as goal

pub returns-in_default-clause-stopped : goal.returns-in_default-clause-stopped
returns-in_default-clause-stopped c = unknown (unrelated c.args.sum.now (sym c.in_default.ensures))

pub returns-then-sum-most_terms-clause-stopped : goal.returns-then-sum-most_terms-clause-stopped
returns-then-sum-most_terms-clause-stopped c =
    let fits : FitsSigned w32 c.args.sum.now.condition = search rules in
    let most = ap most_terms (to_z-of_z w32 c.args.sum.now.condition fits) in
    long (omega (arith, most, c.most_terms.ensures.value, c.if-sum-most_terms.true))

pub returns-in-Err-clause-stopped : goal.returns-in-Err-clause-stopped
returns-in-Err-clause-stopped c = no_memory

pub returns-in-Ok-clause-ok : goal.returns-in-Ok-clause-ok
returns-in-Ok-clause-ok c =
    let fits : FitsSigned w32 c.args.sum.now.condition = search rules in
    let most = ap most_terms (to_z-of_z w32 c.args.sum.now.condition fits) in
    record {
      head = head_with c.args.sum.now c.in-Some.relation;
      head_is = related c.args.sum.now c.in-Some.relation (sym c.in-Some.ensures);
      short = omega (arith, most, c.most_terms.ensures.value, c.if-sum-most_terms.false);
      pushed = c.in-Ok.ensures.ok ∙ ap (λ (h : Head). c.args.heads.now ++ h ∷ []) c.head_with.ensures;
    }
