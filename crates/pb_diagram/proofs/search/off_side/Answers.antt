use Rattle.std.proofs.Common.{◌<◌, ◌+◌, ℕ, List, Option, None, Some, arith}
use Rattle.std.specs.Prelude.{MatchOption}
use Rattle.pb_diagram.specs.declared.interval.Interval.{Interval}
use Rattle.pb_diagram.specs.laws.Search.{nodes_at, IsFound, IsOff, LacksFalseChild}
use Rattle.pb_diagram.proofs.search.off_side.Goals as goal

found : (a whole : ℕ) (next : List Interval) (residue : ℕ) (side : Option Interval) → residue < whole → IsFound next residue side → MatchOption side (LacksFalseChild whole next residue) (IsOff a whole next residue)
found a whole next residue None below is = (below, is)
found a whole next residue (Some g) below is = record { ends = λ past. absurd (omega arith); node = λ _. is }

pub returns-then-top-whole : goal.returns-then-top-whole
returns-then-top-whole c = found c.args.top.coef c.args.whole (nodes_at c.args.levels.now (c.args.top.place + 1)) c.args.top.residue c.find_at.result c.if-top-whole.true c.find_at.ensures

pub find_at-requires : goal.find_at-requires
find_at-requires c = c.requires.among

pub overflow_add-result : goal.overflow_add-result
overflow_add-result c = omega (arith, c.requires.fits)
