use Rattle.std.proofs.Common.{◌≡◌, ◌≤◌, ◌++◌, ◌∙◌, [], ◌∷◌, ℤ, List, ap, arith, get_or, length, map, rules, sym}
use Rattle.std.proofs.lemmas.List.{map-append, take_all}
use Rattle.pb_base.specs.declared.literal.Lit.{Lit}
use Rattle.pb_base.specs.declared.literal.Term.{Term}
use Rattle.pb_family.proofs.Gathered.{map_next}
use Rattle.pbcnf_c.specs.declared.bounds.PbcnfRow.{PbcnfRow}
use Rattle.pbcnf_c.specs.Bounds.{numbers_of, told_by}
use Rattle.pbcnf_c.proofs.Costed.{soft_numbers, soft_rows}
use Rattle.pbcnf_c.proofs.softs.softs_of.Goals as goal

pub loop-term-init : goal.loop-term-init
loop-term-init c = record { items = c.terms-terms.ensures.terms; told = ap (map told_by) c.new-given.ensures.items }

pub loop-term-preserved : goal.loop-term-preserved
loop-term-preserved c =
    let items : List Term = c.terms-terms.result.now in
    let i = c.loop-term.term-index in
    let t : Term = c.term-item.result in
    let here : t ≡ get_or items i t = search rules in
    let row : told_by c.row_of.result ≡ soft_numbers t = c.row_of.ensures ∙ ap (λ (l : Lit). numbers_of (t.coef, l)) c.not-lit.ensures in
    record {
      items = c.loop-term.invariant.items;
      told = map_next soft_numbers items i t [] (map told_by c.loop-term.given.items) _ (told_by c.row_of.result) c.loop-term-test.true here c.loop-term.invariant.told
          (ap (λ (gs : List PbcnfRow). map told_by gs) c.in_ok-push.ensures.items ∙ map-append told_by c.loop-term.given.items (c.row_of.result ∷ [])) row;
    }

pub returns : goal.returns
returns c =
    let items : List Term = c.terms-terms.result.now in
    let done : length items ≤ c.loop-term.term-index = omega (arith, c.loop-term-test.false) in
    c.loop-term.invariant.told ∙ ap (map soft_numbers) (take_all c.loop-term.term-index items done ∙ c.loop-term.invariant.items) ∙ soft_rows c.args.objective.now.terms
