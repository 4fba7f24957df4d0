use Rattle.std.proofs.Common.{◌∙◌, List, ap, sym, length}
use Rattle.pb_named.specs.declared.named.NamedStatement.{NamedStatement}
use Rattle.pb_named.specs.inner.Columns.{named_terms}
use Rattle.pb_named.proofs.ColumnLemmas.{named_count}
use Rattle.pb_named.proofs.statements.NamedStatements.len.Goals as goal

pub returns : goal.returns
returns c = c.len.ensures ∙ sym (named_count c.self.inside.heads (named_terms c.self.inside.plain c.self.inside.names.items) c.self.inside.whole.items) ∙ ap (λ (ss : List NamedStatement). length ss) c.self.view_is
