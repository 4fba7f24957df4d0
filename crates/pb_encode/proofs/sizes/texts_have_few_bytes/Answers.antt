use Rattle.pb_encode.proofs.ProblemSizes.{treatments_add_up, within_longest, within_variables}
use Rattle.pb_encode.proofs.sizes.texts_have_few_bytes.Goals as goal

pub returns : goal.returns
returns c = record { longest = λ n o p within encodable has. within_longest o p within encodable n has; variables = within_variables; constraints = treatments_add_up }
