use Rattle.std.proofs.Common.{◌≡◌, ◌∙◌, ◌∷◌, ◌++◌, [], List, ap, sym, append_assoc, rules}
use mir.Val.{SFits}
use mir.Syntax.{w128}
use Rattle.std.proofs.lemmas.Int.{to_z-of_z}
use Rattle.pb_named.specs.declared.named.NamedStatement.{NamedStatement}
use Rattle.pb_named.specs.inner.Kept.{statement_in}
use Rattle.pb_named.specs.inner.Numbering.{place_in}
use Rattle.pb_named.proofs.NumberLemmas.{numbers-statement, over-statement}
use Rattle.pb_named.proofs.TableLemmas.{statement_names}
use Rattle.pb_named.proofs.Taking.{starts-next}
use Rattle.pb_named.proofs.numbering.each_of.Goals as goal

pub body_of-requires-clause-places : goal.body_of-requires-clause-places
body_of-requires-clause-places c =
    let before = c.loop-next.invariant.front in
    let s = statement_in c.in-Some.next in
    let whole : before ++ s ∷ c.next.new.self ≡ c.args.statements.now = ap (λ (ss : List NamedStatement). before ++ ss) (sym c.in-Some.ensures.steps) ∙ c.loop-next.invariant.whole in
    starts-next (place_in c.args.table.now) statement_names c.args.places.now c.loop-next.places c.args.statements.now before c.next.new.self s whole c.requires.places c.loop-next.invariant.numbers.gives

pub loop-next-preserved : goal.loop-next-preserved
loop-next-preserved c =
    let before = c.loop-next.invariant.front in
    let s = statement_in c.in-Some.next in
    let fits : SFits w128 s.right = search rules in
    record {
      front = before ++ s ∷ [];
      whole = append_assoc before (s ∷ []) c.next.new.self ∙ ap (λ (ss : List NamedStatement). before ++ ss) (sym c.in-Some.ensures.steps) ∙ c.loop-next.invariant.whole;
      numbers = numbers-statement c.args.table.now c.args.products.now c.args.places.now before s c.loop-next.products _ c.loop-next.places _ c.loop-next.list _ c.in_ok-terms.terms c.loop-next.invariant.numbers c.in_ok-terms.ensures.places
          c.in_ok-terms.ensures.noted
          c.in_ok-terms.ensures.terms
          (simp (to_z-of_z, c.as_slice.ensures) at c.in_ok-push.ensures.ok)
          c.in_ok-terms.ensures.few;
    }

pub returns-in_err-terms-clause-many : goal.returns-in_err-terms-clause-many
returns-in_err-terms-clause-many c = λ e.
    let before = c.loop-next.invariant.front in
    let s = statement_in c.in-Some.next in
    let whole : before ++ s ∷ c.next.new.self ≡ c.args.statements.now = ap (λ (ss : List NamedStatement). before ++ ss) (sym c.in-Some.ensures.steps) ∙ c.loop-next.invariant.whole in
    over-statement c.args.table.now c.args.products.now c.args.statements.now before c.next.new.self s c.loop-next.products whole c.loop-next.invariant.numbers.noted (c.in_err-terms.ensures.many (search rules))
