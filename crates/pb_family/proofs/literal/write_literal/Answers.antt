use Rattle.std.proofs.Common.{◌++◌, ◌∙◌, List, ℕ, ap, append-nil, arith}
use Rattle.std.specs.Prelude.{codes}
use Rattle.std.proofs.lemmas.List.{drop_all}
use Rattle.pb_family.specs.ClauseText.{literal_text}
use Rattle.pb_family.proofs.literal.write_literal.Goals as goal

pub returns-clause-written : goal.returns-clause-written
returns-clause-written c =
    let own = literal_text c.args.lit.now ++ codes " " in
    c.write_before.ensures.written ∙ ap (λ (xs : List ℕ). own ++ xs) (drop_all 12 c.args.text.now (omega (arith, c.told-text))) ∙ append-nil own
