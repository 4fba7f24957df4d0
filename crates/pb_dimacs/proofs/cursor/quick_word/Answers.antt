use Rattle.std.proofs.Common.{◌+◌, List, ℕ, arith, subst}
use Rattle.std.specs.Prelude.{ℤ}
use Rattle.std.proofs.lemmas.Int.{ints}
use Rattle.std.proofs.lemmas.List.{drop-drop}
use Rattle.pb_base.specs.declared.number.Number.TheVariants.{Value}
use Rattle.pb_steps.proofs.Shorts.{behind_front}
use Rattle.pb_dimacs.specs.CnfSymbols.{BeginsWith}
use Rattle.pb_dimacs.specs.inner.Fronts.{IsIntegerAt}
use Rattle.pb_dimacs.proofs.QuickWords.{begins_behind}
use Rattle.pb_dimacs.proofs.cursor.quick_word.Goals as goal

pub returns-clause-word : goal.returns-clause-word
returns-clause-word c =
    let bytes = c.args.bytes.now in
    let start = c.gap_at-start.result in
    let count = c.in_ok-number.count in
    let here = subst (λ (w : List ℕ). IsIntegerAt w c.in_ok-number.number count) (behind_front bytes start) c.in_ok-number.ensures in
    let said : BeginsWith bytes start (start + count) (Value c.in_ok-number.number) = begins_behind bytes start count c.in_ok-number.number c.gap_at-start.ensures.same (drop-drop count start bytes) here in
    subst (λ (z : ℤ). BeginsWith bytes start (start + count) (Value z)) (omega (arith, ints)) said
