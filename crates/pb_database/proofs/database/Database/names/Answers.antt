use Rattle.std.proofs.Common.{◌∙◌, ap}
use Rattle.pb_database.specs.Naming.{names_var}
use Rattle.pb_database.proofs.database.Database.names.Goals as goal

pub returns-in-Some : goal.returns-in-Some
returns-in-Some c = c.names.ensures ∙ ap (names_var c.args.var) c.in-Some.ensures.found
