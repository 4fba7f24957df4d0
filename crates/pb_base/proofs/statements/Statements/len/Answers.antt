use Rattle.std.proofs.Common.{◌∙◌, ◌≡◌, List, ap, sym, length, rules}
use Rattle.pb_base.specs.declared.problem.Raw.{Raw}
use Rattle.pb_base.specs.Statements.{statements_in}
use Rattle.pb_base.proofs.StatementLists.{statement_count}
use Rattle.pb_base.proofs.statements.Statements.len.Goals as goal

pub returns : goal.returns
returns c =
    let columns = c.self-inside.inside.0.0 in
    let view : statements_in columns.heads columns.terms ≡ c.args.self.now = search rules in
    c.len.ensures ∙ sym (statement_count columns.heads columns.terms) ∙ ap (λ (ss : List Raw). length ss) view
