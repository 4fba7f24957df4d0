use Rattle.std.proofs.Common.{◌≡◌, ◌%◌, ◌∙◌, ℕ, arith, ap, length, refl, subst}
use Rattle.std.specs.Prelude.{Contains}
use Rattle.std.proofs.lemmas.Bool.{OnTrue_at, OnTrue_from}
use Rattle.pb_database.specs.inner.Indexed.{ids_at}
use Rattle.pb_database.proofs.Indexing.{keeps_ids_same}
use Rattle.pb_database.proofs.index.enter_one.Goals as goal

pub returns-then-var-original-clause-kept : goal.returns-then-var-original-clause-kept
returns-then-var-original-clause-kept c = keeps_ids_same c.args.lists.now.items c.args.lists.now.items refl

pub returns-then-var-original-clause-added : goal.returns-then-var-original-clause-added
returns-then-var-original-clause-added c = λ above. absurd (omega (arith, c.if-var-original.true, above))

pub returns-clause-added : goal.returns-clause-added
returns-clause-added c =
    let after = c.append.new.lists.items in
    let size : c.len.result ≡ length after = omega (arith, c.len.ensures, c.append.ensures.kept.size) in
    let number : c.number_in.result ≡ c.args.var % length after = c.number_in.ensures.value ∙ ap (λ (n : ℕ). c.args.var % n) size in
    OnTrue_from c.append.result _ (λ e above. subst (λ (n : ℕ). Contains (ids_at after n) c.args.id) number (OnTrue_at e c.append.ensures.added))
