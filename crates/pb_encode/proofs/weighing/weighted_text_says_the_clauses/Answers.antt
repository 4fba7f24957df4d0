use Rattle.pb_encode.proofs.WeightedTexts.{weighted_reads}
use Rattle.pb_encode.proofs.weighing.weighted_text_says_the_clauses.Goals as goal

pub returns : goal.returns
returns c = λ o p within encodable. weighted_reads o p within encodable
