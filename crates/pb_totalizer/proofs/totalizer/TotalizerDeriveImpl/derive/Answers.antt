use Rattle.pb_totalizer.proofs.WholeTrees.{whole_of}
use Rattle.pb_totalizer.proofs.totalizer.TotalizerDeriveImpl.derive.Goals as goal

pub invariant_of-whole : goal.invariant_of-whole
invariant_of-whole g c =
    let f = c.args.self.now in
    record { whole = whole_of f.terms.items c.as_slice.result.now f.bound c.args.first f.units f.proper f.few c.as_slice.ensures.value c.requires.low c.requires.fits }
