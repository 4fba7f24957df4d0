use Rattle.pb_choice.proofs.EqualityEncoded.{equalities_encode}
use Rattle.pb_choice.proofs.equal_laws.equalities_encode.Goals as goal

pub returns : goal.returns
returns c = equalities_encode
