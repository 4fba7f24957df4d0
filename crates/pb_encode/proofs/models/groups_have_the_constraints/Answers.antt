use Rattle.pb_encode.proofs.GroupLists.{members_loaded}
use Rattle.pb_encode.proofs.models.groups_have_the_constraints.Goals as goal

pub returns : goal.returns
returns c = members_loaded
