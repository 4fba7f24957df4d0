-- What stands where nothing is chosen. Our own.
use Rattle.std.specs.Prelude.{false}
use Rattle.std.proofs.Common.{lit≤}
use Rattle.pb_base.specs.declared.options.Amo.TheVariants as amo
use Rattle.pb_base.specs.declared.options.Card.TheVariants as card
use Rattle.pb_base.specs.declared.options.EqualMode.TheVariants as equal
use Rattle.pb_base.specs.declared.options.General.TheVariants as general
use Rattle.pb_base.specs.declared.options.Options.{Options}

abbrev pub default_options : Options
default_options =
    record { amo = amo.Auto; card = card.Auto; general = general.Diagram; equal = equal.Split; budget = 50000; table = false; low = lit≤ tt; high = lit≤ tt }
