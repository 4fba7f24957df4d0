use Rattle.std.proofs.Common.{◌≡◌, ◌∙◌, ℕ, ap, sym, true}
use Rattle.std.specs.Prelude.{◌==◌, ◌-◌, ◌^◌}
use Rattle.pb_named.specs.inner.Columns.{is_free}
use Rattle.pb_named.proofs.ColumnLemmas.{names-step, names-some}
use Rattle.pb_named.proofs.statements.names_behind.Goals as goal

pub behind_first-left-requires : goal.behind_first-left-requires
behind_first-left-requires c =
    let free : is_free c.in-Some.term ≡ true = ap (λ (n : ℕ). n == 2 ^ 31 - 1) (sym c.index.ensures.value ∙ c.if-index-eq-MAX_VARIABLES.true) in
    names-some c.in-Some.term c.loop-term.term-iterator c.next.new.self c.loop-term.left.now c.in-Some.ensures.steps free c.loop-term.invariant.enough

pub loop-term-preserved-then-index-eq-MAX_VARIABLES : goal.loop-term-preserved-then-index-eq-MAX_VARIABLES
loop-term-preserved-then-index-eq-MAX_VARIABLES c =
    let free : is_free c.in-Some.term ≡ true = ap (λ (n : ℕ). n == 2 ^ 31 - 1) (sym c.index.ensures.value ∙ c.if-index-eq-MAX_VARIABLES.true) in
    let step = names-step c.in-Some.term c.loop-term.term-iterator c.next.new.self c.loop-term.left.now c.behind_first-left.result.now c.in-Some.ensures.steps free c.loop-term.invariant.enough c.behind_first-left.ensures in
    record {
      enough = step.0;
      same = step.1 ∙ c.loop-term.invariant.same;
    }
