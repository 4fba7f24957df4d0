use Rattle.std.proofs.Common.{◌≡◌, ◌∙◌, ℕ, false, inl, inr, arith, subst, sym}
use Rattle.std.proofs.lemmas.Bool.{cases_eq}
use Rattle.pb_database.specs.Naming.{names_at}
use Rattle.pb_database.proofs.database.Database.walked_naming.Goals as goal

pub loop-id-init : goal.loop-id-init
loop-id-init c = λ k low less. absurd (omega (arith, low, less))

pub loop-id-preserved : goal.loop-id-preserved
loop-id-preserved c = λ k low less. elim (cases_eq k c.loop-id.id) as (λ _. names_at c.args.self.now.live c.args.var k ≡ false) [
  | inl same ↦ subst (λ (j : ℕ). names_at c.args.self.now.live c.args.var j ≡ false) (sym same) (sym c.names.ensures ∙ c.if-names.false)
  | inr ne ↦ c.loop-id.invariant k low (omega (arith, less, ne))
]

pub returns-then-names : goal.returns-then-names
returns-then-names c = record {
  low = c.loop-id.auto.id;
  names = sym c.names.ensures ∙ c.if-names.true;
  first = c.loop-id.invariant;
}

pub returns : goal.returns
returns c = λ k low high. c.loop-id.invariant k low (omega (arith, high, c.loop-id-test.false, c.next-id-end.ensures.value))
