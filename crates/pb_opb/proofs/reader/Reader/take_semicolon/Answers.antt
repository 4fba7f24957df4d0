use Rattle.std.proofs.Common.{◌≡◌, refl, sym, subst, rules}
use mir.Val.{SFits}
use mir.Syntax.{w128}
use Rattle.std.proofs.lemmas.Int.{to_z-of_z}
use Rattle.pb_base.specs.declared.expected.Expected.{Expected}
use Rattle.pb_opb.specs.declared.fault.Refusal.TheVariants.{Unexpected}
use Rattle.pb_opb.specs.declared.reader.Reader.{Reader}
use Rattle.pb_opb.specs.Grammar.Kind.{semicolon}
use Rattle.pb_opb.specs.reader.Front.{read_kinds}
use Rattle.pb_opb.specs.reader.Moves.{with_statement}
use Rattle.pb_opb.specs.reader.Takes.{Refuses, Took}
use Rattle.pb_opb.proofs.Kept.{took-semicolon, took-end, unexpected}
use Rattle.pb_opb.proofs.reader.Reader.take_semicolon.Goals as goal

pub returns-in-Objective-clause-ok : goal.returns-in-Objective-clause-ok
returns-in-Objective-clause-ok c =
    subst (λ (n : Reader). Took c.args.self.now n semicolon) (sym c.end_objective.ensures) (took-end c.args.self.now c.requires semicolon (c.in-Objective.ensures, refl))

pub returns-in_ok-end_statement-in-Statement-clause-ok : goal.returns-in_ok-end_statement-in-Statement-clause-ok
returns-in_ok-end_statement-in-Statement-clause-ok c =
    let fits : SFits w128 c.in-Statement.right = search rules in
    let new : c.end_statement.new.self ≡ with_statement c.args.self.now c.in-Statement.relation c.in-Statement.right = (simp to_z-of_z at c.in_ok-end_statement-in-Statement.ensures) in
    subst (λ (n : Reader). Took c.args.self.now n semicolon) (sym new) (took-semicolon c.args.self.now c.requires semicolon c.in-Statement.relation c.in-Statement.right (c.in-Statement.ensures, refl))

pub returns-in-Nothing-clause-err : goal.returns-in-Nothing-clause-err
returns-in-Nothing-clause-err c =
    subst (λ (e : Expected). Refuses (read_kinds c.args.self.now) semicolon (Unexpected e)) (sym c.expected.ensures) (unexpected c.args.self.now c.requires semicolon c.in-Nothing.ensures)
