use Rattle.std.proofs.Common.{◌≡◌, ◌∙◌, ap, false, refl, rules, subst, sym}
use mir.Val.{SFits}
use mir.Syntax.{w128}
use Rattle.std.proofs.lemmas.Int.{to_z-of_z}
use Rattle.pb_base.specs.declared.expected.Expected.{Expected}
use Rattle.pb_opb.specs.declared.fault.Refusal.TheVariants.{Unexpected}
use Rattle.pb_opb.specs.declared.stage.Part.TheVariants.{Objective, Statement}
use Rattle.pb_opb.specs.Grammar.{Kind, kind_of}
use Rattle.pb_opb.specs.Grammar.Kind.{integer, other}
use Rattle.pb_opb.specs.reader.Automaton.{ReaderState, takes}
use Rattle.pb_opb.specs.reader.Automaton.ReaderState.{start, next, minimised, coefficient, literals, related, right}
use Rattle.pb_opb.specs.reader.Front.{read_kinds, state_of}
use Rattle.pb_opb.specs.reader.Steps.{MayLead}
use Rattle.pb_opb.specs.reader.Takes.{Refuses}
use Rattle.pb_opb.proofs.Kept.{unexpected}
use Rattle.pb_opb.proofs.reader.Reader.take_word.Goals as goal

takes-other : (s : ReaderState) → takes s other ≡ false
takes-other start = refl
takes-other next = refl
takes-other minimised = refl
takes-other (coefficient part) = refl
takes-other (literals Objective) = refl
takes-other (literals Statement) = refl
takes-other related = refl
takes-other right = refl

pub returns-in-Minimise-clause-err : goal.returns-in-Minimise-clause-err
returns-in-Minimise-clause-err c =
    c.go.ensures.err (kind_of c.args.word.now) (subst (λ (k : Kind). MayLead c.args.self.now.stage k c.minimise.result) (sym c.in-Minimise.ensures) c.minimise.ensures)

pub returns-in-Integer-clause-err : goal.returns-in-Integer-clause-err
returns-in-Integer-clause-err c =
    let fits : SFits w128 c.in-Integer.n = search rules in
    let leads : MayLead c.args.self.now.stage (integer c.in-Integer.n) c.integer.result = (simp to_z-of_z at c.integer.ensures) in
    c.go-in-Integer.ensures.err (kind_of c.args.word.now) (subst (λ (k : Kind). MayLead c.args.self.now.stage k c.integer.result) (sym c.in-Integer.ensures) leads)

pub returns-in-Relation-clause-err : goal.returns-in-Relation-clause-err
returns-in-Relation-clause-err c =
    c.go-in-Relation.ensures.err (kind_of c.args.word.now) (subst (λ (k : Kind). MayLead c.args.self.now.stage k c.relation.result) (sym c.in-Relation.ensures) c.relation.ensures)

pub returns-in-Other-clause-err : goal.returns-in-Other-clause-err
returns-in-Other-clause-err c =
    let k = kind_of c.args.word.now in
    subst (λ (e : Expected). Refuses (read_kinds c.args.self.now) k (Unexpected e)) (sym c.expected.ensures)
    (unexpected c.args.self.now c.requires k (ap (takes (state_of c.args.self.now.stage)) c.in-Other.ensures ∙ takes-other (state_of c.args.self.now.stage)))
