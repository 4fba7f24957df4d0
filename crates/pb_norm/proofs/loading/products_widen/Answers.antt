use Rattle.pb_norm.proofs.Solutions.{all_widened}
use Rattle.pb_norm.proofs.loading.products_widen.Goals as goal

pub returns : goal.returns
returns c = all_widened
