use Rattle.std.proofs.Common.{rules}
use Rattle.pb_named.proofs.ColumnLemmas.{adds-none, adds-more, keeps-front}
use Rattle.pb_named.proofs.statements.push_plain_terms.Goals as goal

pub loop-term-init : goal.loop-term-init
loop-term-init c = adds-none c.args.plain.now c.args.names.now.items c.args.terms.now

pub returns-in_default-push_one-clause-before : goal.returns-in_default-push_one-clause-before
returns-in_default-push_one-clause-before c = keeps-front c.args.plain.now c.loop-term.plain c.push_one.new.plain c.loop-term.invariant.added c.push_one.ensures.before c.loop-term.invariant.is

pub returns-in_default-push_one-clause-names : goal.returns-in_default-push_one-clause-names
returns-in_default-push_one-clause-names c = keeps-front c.args.names.now.items c.loop-term.names.items c.push_one.new.names.items c.loop-term.invariant.free c.push_one.ensures.names c.loop-term.invariant.frees

pub loop-term-preserved : goal.loop-term-preserved
loop-term-preserved c =
    adds-more _ _ _ _ _ _ c.args.terms.now c.loop-term.term-index c.term-item.result c.in-Some.next.term c.in-Some.next.name (search rules) (search rules) c.loop-term.invariant c.in-Some.ensures c.in-Ok.ensures.term c.in-Ok.ensures.name
