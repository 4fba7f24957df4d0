use Rattle.std.proofs.Common.{◌++◌, ◌∙◌, [], ◌∷◌, ap, arith}
use Rattle.std.proofs.lemmas.List.{map-append}
use Rattle.pb_base.specs.declared.literal.Lit.{Lit}
use Rattle.pb_norm.specs.Constraints.{weighted, weights}
use Rattle.pb_derive.specs.Ones.{unit_of}
use Rattle.pb_amo.proofs.lines.Lines.push_at.Goals as goal

pub returns : goal.returns
returns c =
    let old = c.args.terms.now.items in
    record {
      out = λ h. absurd (omega (arith, h, c.if-place-len.false, c.len.ensures));
      kept = λ h. ap weights c.in_ok-push.ensures.items ∙ map-append weighted old (_ ∷ []) ∙ ap (λ (l : Lit). weights old ++ unit_of l ∷ []) c.at-lit.ensures;
    }
