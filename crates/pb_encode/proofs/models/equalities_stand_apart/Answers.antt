use Rattle.pb_encode.proofs.ApartGroups.{groups_apart}
use Rattle.pb_encode.proofs.models.equalities_stand_apart.Goals as goal

pub returns : goal.returns
returns c = λ o p apart. groups_apart o apart p
