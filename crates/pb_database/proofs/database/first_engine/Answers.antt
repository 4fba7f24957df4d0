use Rattle.pb_database.proofs.Mirroring.{mirrored-loaded}
use Rattle.pb_database.proofs.database.first_engine.Goals as goal

pub returns-clause-mirrored : goal.returns-clause-mirrored
returns-clause-mirrored c = mirrored-loaded c.args.most c.args.loaded.now c.in_ok-engine-2.engine c.in_ok-engine-2.ensures
