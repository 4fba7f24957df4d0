use Rattle.std.proofs.Common.{◌∙◌, ◌++◌, ◌∷◌, [], sym, subst, arith, ℕ, Option}
use Rattle.std.proofs.lemmas.Bool.{both_ways}
use Rattle.pb_database.specs.Naming.{names_at}
use Rattle.pb_database.specs.inner.Indexed.{IsLeast, IsNaming}
use Rattle.pb_database.proofs.Least.{least_skip, least_more}
use Rattle.pb_database.proofs.database.Database.earlier_naming.Goals as goal

pub returns-then-id-from : goal.returns-then-id-from
returns-then-id-from c = λ ids h. least_skip (IsNaming c.args.self.now.live c.args.var c.args.from) ids c.args.id c.args.best (λ p. omega (arith, p.0, c.if-id-from.true)) h

pub returns-then-not-names : goal.returns-then-not-names
returns-then-not-names c = λ ids h. least_skip (IsNaming c.args.self.now.live c.args.var c.args.from) ids c.args.id c.args.best (λ p. both_ways (names_at c.args.self.now.live c.args.var c.args.id) (sym c.names.ensures ∙ c.if-not-names.true) p.1) h

pub returns : goal.returns
returns c = λ ids h.
    subst (λ (r : Option ℕ). IsLeast (IsNaming c.args.self.now.live c.args.var c.args.from) (ids ++ c.args.id ∷ []) r) (sym c.lesser_id.ensures)
    (least_more (IsNaming c.args.self.now.live c.args.var c.args.from) ids c.args.id c.args.best (c.if-id-from.false, sym c.names.ensures ∙ c.if-not-names.false) h)
