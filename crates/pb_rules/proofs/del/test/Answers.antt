use Rattle.std.proofs.Common.{◌≡◌, ◌∙◌, sym, None}
use Rattle.pb_rules.proofs.Seen.{del-allowed}
use Rattle.pb_rules.proofs.del.test.Goals as goal

pub returns-clause-allowed : goal.returns-clause-allowed
returns-clause-allowed c =
    let none : c.in_ok-id.field-0 ≡ None = cc in
    λ clause. del-allowed c.args.db.now c.args.ids.now clause c.requires (sym none ∙ c.in_ok-id.ensures) c.in_default-first_out.ensures
