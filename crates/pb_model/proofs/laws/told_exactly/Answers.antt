use Rattle.pb_model.proofs.FirstFaults.{tells_exactly}
use Rattle.pb_model.proofs.laws.told_exactly.Goals as goal

pub returns : goal.returns
returns c = λ vars ss. tells_exactly vars ss
