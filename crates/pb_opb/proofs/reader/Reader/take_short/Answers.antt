use Rattle.std.proofs.Common.{◌≡◌, ◌∙◌, ap, arith, subst, sym}
use Rattle.std.specs.Prelude.{OnOk, IfErr, Option, ℤ, neg_ℤ, pos}
use Rattle.std.proofs.lemmas.Int.{ints}
use Rattle.pb_named.specs.Names.{Name}
use Rattle.pb_opb.specs.declared.stage.Stage.{Stage}
use Rattle.pb_opb.specs.Grammar.{Kind}
use Rattle.pb_opb.specs.Grammar.Kind.{integer, literal}
use Rattle.pb_opb.specs.reader.Front.{read_kinds}
use Rattle.pb_opb.specs.reader.Heads.{short_kind}
use Rattle.pb_opb.specs.reader.Steps.{MayLead}
use Rattle.pb_opb.specs.reader.Takes.{Refuses, Took}
use Rattle.pb_opb.proofs.reader.Reader.take_short.Goals as goal

leads-as : (s : Stage) (z y : ℤ) (k : Kind) (o : Option Stage) → MayLead s (integer z) o → z ≡ y → k ≡ integer y → MayLead s k o
leads-as s z y k o leads same is = subst (λ (m : Kind). MayLead s m o) (ap integer same ∙ sym is) leads

pub returns-in-Integer-clause-ok : goal.returns-in-Integer-clause-ok
returns-in-Integer-clause-ok c = c.go.ensures.ok (short_kind c.args.short) (leads-as c.args.self.now.stage _ (pos c.in-Integer.n) (short_kind c.args.short) c.integer.result c.integer.ensures (omega (arith, ints)) (ap short_kind c.in-Integer.is))

pub returns-in-Integer-clause-err : goal.returns-in-Integer-clause-err
returns-in-Integer-clause-err c = c.go.ensures.err (short_kind c.args.short) (leads-as c.args.self.now.stage _ (pos c.in-Integer.n) (short_kind c.args.short) c.integer.result c.integer.ensures (omega (arith, ints)) (ap short_kind c.in-Integer.is))

pub returns-in-Opposite-clause-ok : goal.returns-in-Opposite-clause-ok
returns-in-Opposite-clause-ok c = c.go-in-Opposite.ensures.ok (short_kind c.args.short) (leads-as c.args.self.now.stage _ (neg_ℤ (pos c.in-Opposite.n)) (short_kind c.args.short) c.integer-in-Opposite.result c.integer-in-Opposite.ensures (omega (arith, ints)) (ap short_kind c.in-Opposite.is))

pub returns-in-Opposite-clause-err : goal.returns-in-Opposite-clause-err
returns-in-Opposite-clause-err c = c.go-in-Opposite.ensures.err (short_kind c.args.short) (leads-as c.args.self.now.stage _ (neg_ℤ (pos c.in-Opposite.n)) (short_kind c.args.short) c.integer-in-Opposite.result c.integer-in-Opposite.ensures (omega (arith, ints)) (ap short_kind c.in-Opposite.is))

pub returns-in-Relation-clause-ok : goal.returns-in-Relation-clause-ok
returns-in-Relation-clause-ok c = c.go-in-Relation.ensures.ok (short_kind c.args.short) (subst (λ (k : Kind). MayLead c.args.self.now.stage k c.relation.result) (sym (ap short_kind c.in-Relation.is)) c.relation.ensures)

pub returns-in-Relation-clause-err : goal.returns-in-Relation-clause-err
returns-in-Relation-clause-err c = c.go-in-Relation.ensures.err (short_kind c.args.short) (subst (λ (k : Kind). MayLead c.args.self.now.stage k c.relation.result) (sym (ap short_kind c.in-Relation.is)) c.relation.ensures)

pub returns-in-Literal-clause-ok : goal.returns-in-Literal-clause-ok
returns-in-Literal-clause-ok c =
    subst (λ (k : Kind). OnOk c.take_literal.result (Took c.args.self.now c.take_literal.new.self k))
    (ap (λ (n : Name). literal (record { name = n; positive = c.in-Literal.positive })) c.of_index-name.ensures ∙ sym (ap short_kind c.in-Literal.is)) c.take_literal.ensures.ok

pub returns-in-Literal-clause-err : goal.returns-in-Literal-clause-err
returns-in-Literal-clause-err c =
    subst (λ (k : Kind). IfErr c.take_literal.result (Refuses (read_kinds c.args.self.now) k))
    (ap (λ (n : Name). literal (record { name = n; positive = c.in-Literal.positive })) c.of_index-name.ensures ∙ sym (ap short_kind c.in-Literal.is)) c.take_literal.ensures.err

pub returns-in-Semicolon-clause-ok : goal.returns-in-Semicolon-clause-ok
returns-in-Semicolon-clause-ok c =
    subst (λ (k : Kind). OnOk c.take_semicolon.result (Took c.args.self.now c.take_semicolon.new.self k)) (sym (ap short_kind c.in-Semicolon.is)) c.take_semicolon.ensures.ok

pub returns-in-Semicolon-clause-err : goal.returns-in-Semicolon-clause-err
returns-in-Semicolon-clause-err c =
    subst (λ (k : Kind). IfErr c.take_semicolon.result (Refuses (read_kinds c.args.self.now) k)) (sym (ap short_kind c.in-Semicolon.is)) c.take_semicolon.ensures.err
