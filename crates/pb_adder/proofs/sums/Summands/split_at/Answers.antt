use Rattle.std.proofs.Common.{◌<◌, ℕ, arith, subst, sym}
use Rattle.std.specs.Prelude.{All}
use Rattle.std.proofs.lemmas.List.Elements.{All-drop, All-take}
use Rattle.pb_adder.proofs.sums.Summands.split_at.Goals as goal

abbrev Low : ℕ → Type 0
Low l = l < 126

pub invariant_of-first : goal.invariant_of-first
invariant_of-first c = record {
  low = subst (All Low) (sym c.split_at.ensures.front) (All-take Low c.args.place c.args.self.levels.now c.args.self.low);
  fits = omega (arith, c.split_at.ensures.front_len, c.requires, c.args.self.fits);
}

pub invariant_of-later : goal.invariant_of-later
invariant_of-later c = record {
  low = subst (All Low) (sym c.split_at.ensures.back) (All-drop Low c.args.place c.args.self.levels.now c.args.self.low);
  fits = omega (arith, c.split_at.ensures.back_len, c.requires, c.args.self.fits);
}
