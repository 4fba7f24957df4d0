use Rattle.std.proofs.Common.{refl}
use Rattle.pb_encode.proofs.TallyLemmas.{exact}
use Rattle.pb_encode.proofs.tally.Tally.treated_at.Goals as goal

pub returns : goal.returns
returns c = λ o gs few h. exact o gs c.args.self.now c.args.place _ few h c.requires refl
