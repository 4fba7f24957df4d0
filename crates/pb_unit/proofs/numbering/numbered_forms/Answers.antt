use Rattle.std.proofs.Common.{◌∙◌, ◌++◌, List, ap, map}
use Rattle.pb_norm.specs.Constraints.{Constraint}
use Rattle.pb_unit.specs.Renaming.{number_in, renamed}
use Rattle.pb_unit.proofs.numbering.numbered_forms.Goals as goal

pub returns : goal.returns
returns c = c.in_ok-push_numbered.ensures ∙ ap (λ (cs : List Constraint). cs ++ map (renamed (number_in c.args.names.now)) c.args.forms.now) c.new-made.ensures
