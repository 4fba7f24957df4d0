use Rattle.std.proofs.Common.{◌≡◌, ℕ, length, subst}
use Rattle.std.specs.Prelude.{IfOk}
use Rattle.pb_model.specs.ModelLines.{symbols_of}
use Rattle.pb_model.proofs.Told.{ok_covers}
use Rattle.pb_model.proofs.read.read_model.Goals as goal

pub returns-clause-covers : goal.returns-clause-covers
returns-clause-covers c =
    let vars = c.in-Ok.reader.listing.vars in
    subst (λ (n : ℕ). IfOk c.read_lines.result (λ m. length m.values ≡ n)) c.in-Ok.ensures.vars_are (ok_covers vars (symbols_of vars c.args.text.now) c.read_lines.result c.read_lines.ensures)
