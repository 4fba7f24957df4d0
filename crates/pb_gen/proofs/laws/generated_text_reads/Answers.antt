use Rattle.pb_gen.proofs.Reading.{generated_reads}
use Rattle.pb_gen.proofs.laws.generated_text_reads.Goals as goal

pub returns : goal.returns
returns c = generated_reads
