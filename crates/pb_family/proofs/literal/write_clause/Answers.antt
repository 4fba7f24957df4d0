use Rattle.std.proofs.Common.{◌≡◌, ◌∷◌, ℕ, List, [], length, drop, ap, sym, ◌∙◌, arith}
use Rattle.std.specs.Prelude.{slice_set}
use Rattle.std.proofs.lemmas.List.{drop-set, drop_all, length-set}
use Rattle.pb_base.specs.declared.literal.Lit.{Lit}
use Rattle.pb_family.specs.ClauseText.{clause_text}
use Rattle.pb_family.proofs.literal.write_clause.Goals as goal

ending : (text : List ℕ) → length text ≡ 62 → drop 60 (slice_set (slice_set text 61 10) 60 48) ≡ 48 ∷ 10 ∷ []
ending text fits =
    drop-set (slice_set text 61 10) 60 48 (omega (arith, fits, length-set text 61 10)) ∙ ap (λ (xs : List ℕ). 48 ∷ xs) (drop-set text 61 10 (omega (arith, fits)) ∙ ap (λ (xs : List ℕ). 10 ∷ xs) (drop_all 62 text (omega (arith, fits))))

pub loop-left-init : goal.loop-left-init
loop-left-init c = record {
  within = omega arith;
  room = omega arith;
  left = omega arith;
  written = ending c.args.text.now c.told-text ∙ ap (λ (ls : List Lit). clause_text ls) (sym (drop_all (length c.args.clause.now) c.args.clause.now (omega arith)));
}
