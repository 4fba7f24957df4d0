use Rattle.pb_choice.proofs.Encoded.{clauses_encode}
use Rattle.pb_choice.proofs.laws.clauses_encode.Goals as goal

pub returns : goal.returns
returns c = clauses_encode
