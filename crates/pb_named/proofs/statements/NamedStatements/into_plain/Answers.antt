use Rattle.std.proofs.Common.{◌≡◌, ◌∙◌, List, ap, sym, map, length, arith}
use Rattle.std.proofs.lemmas.Grind.{common_steps}
use Rattle.pb_base.specs.declared.problem.Raw.{Raw}
use Rattle.pb_named.specs.inner.Columns.{named_statement}
use Rattle.pb_named.proofs.ColumnLemmas.{named_terms-length, all-plain}
use Rattle.pb_named.proofs.statements.NamedStatements.into_plain.Goals as goal

pub from_columns-requires : goal.from_columns-requires
from_columns-requires c =
    let s = c.self.inside in
    sym (named_terms-length s.plain s.names.items) ∙ c.self.invariant.0.counted

pub returns-clause-plain : goal.returns-clause-plain
returns-clause-plain c =
    let s = c.self.inside in
    let none : length s.whole.items ≡ 0 = grind (arith, common_steps) in
    let nameless : length s.names.items ≡ 0 = grind (arith, common_steps) in
    ap (λ (ss : List Raw). map named_statement ss) c.from_columns.ensures ∙ all-plain s.heads s.plain s.names.items s.whole.items c.self.invariant.0 c.self.invariant.1 nameless none ∙ c.self.view_is
