use Rattle.std.proofs.Common.{◌≡◌, ◌∙◌, [], refl, ap, sym, subst, rules}
use mir.Val.{SFits}
use mir.Syntax.{w128}
use Rattle.std.proofs.lemmas.Int.{to_z-of_z}
use Rattle.pb_base.specs.declared.expected.Expected.{Expected}
use Rattle.pb_named.specs.NamedTerms.{NamedTerm}
use Rattle.pb_opb.specs.declared.fault.Refusal.TheVariants.{Unexpected}
use Rattle.pb_opb.specs.declared.reader.Reader.{Reader}
use Rattle.pb_opb.specs.Grammar.Kind.{literal}
use Rattle.pb_opb.specs.reader.Front.{read_kinds}
use Rattle.pb_opb.specs.reader.Moves.{with_term}
use Rattle.pb_opb.specs.reader.Takes.{Refuses, Took}
use Rattle.pb_opb.proofs.Kept.{begins-short, ends-at, took-first, took-further-if, full-refused, unexpected}
use Rattle.pb_opb.proofs.reader.Reader.take_literal.Goals as goal

pub add_term-requires : goal.add_term-requires
add_term-requires c = begins-short c.args.self.now c.requires.read (literal c.args.lit) c.in-First.part c.in-First.coef c.in-First.ensures

pub returns-in_ok-add_term-in-First-clause-ok : goal.returns-in_ok-add_term-in-First-clause-ok
returns-in_ok-add_term-in-First-clause-ok c =
    let k = literal c.args.lit in
    let fits : SFits w128 c.in-First.coef = search rules in
    let term : NamedTerm = record { coef = c.in-First.coef; lit = c.args.lit; more = [] } in
    let is : c.new.result ≡ term = (simp to_z-of_z at c.new.ensures) in
    subst (λ (n : Reader). Took c.args.self.now n k) (sym (c.in_ok-add_term-in-First.ensures ∙ ap (with_term c.args.self.now c.in-First.part) is))
    (took-first c.args.self.now c.requires.read k c.in-First.part c.in-First.coef c.args.lit (c.in-First.ensures, refl, c.requires.near, c.requires.modest))

pub add_further-requires : goal.add_further-requires
add_further-requires c = ends-at c.args.self.now c.requires.read (literal c.args.lit) c.in-Further.part c.in-Further.ensures

pub returns-in-Further-clause-ok : goal.returns-in-Further-clause-ok
returns-in-Further-clause-ok c =
    took-further-if c.args.self.now c.requires.read (literal c.args.lit) c.in-Further.part c.args.lit c.add_further.new.self c.add_further.result (c.in-Further.ensures, refl, c.requires.near, c.requires.modest) c.add_further.ensures.ok

pub returns-in-Further-clause-err : goal.returns-in-Further-clause-err
returns-in-Further-clause-err c =
    full-refused c.args.self.now c.requires.read (literal c.args.lit) c.in-Further.part c.args.lit c.add_further.result (c.in-Further.ensures, refl, c.requires.near, c.requires.modest) c.add_further.ensures.err

pub returns-in-Elsewhere-clause-err : goal.returns-in-Elsewhere-clause-err
returns-in-Elsewhere-clause-err c =
    let k = literal c.args.lit in
    subst (λ (e : Expected). Refuses (read_kinds c.args.self.now) k (Unexpected e)) (sym c.expected.ensures) (unexpected c.args.self.now c.requires.read k (c.in-Elsewhere.ensures c.args.lit))
