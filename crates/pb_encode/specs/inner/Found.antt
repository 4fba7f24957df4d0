-- The group of constraints that was found. It serves proofs alone.
use Rattle.pb_encode.specs.declared.groups.Found.{Found}
use Rattle.pb_encode.specs.declared.groups.Found.TheVariants as found
use Rattle.pb_encode.specs.declared.groups.Group.{Group}
use Rattle.pb_encode.specs.declared.groups.Group.TheVariants.{Alone}
use Rattle.pb_encode.specs.inner.Plain.{ones_of}

abbrev pub found_group : Found → Group
found_group (found.Clause p) = Alone (ones_of p.lits)
found_group (found.Other g) = g
