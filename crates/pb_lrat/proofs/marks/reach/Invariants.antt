use Rattle.std.proofs.Common.{◌≡◌, ◌+◌, ◌-◌, ℕ, [], get_or, vec_len}
use Rattle.pb_lrat.proofs.marks.reach.Given as goal

abbrev pub invariant-pages : goal.invariant-pages
invariant-pages l = (n : ℕ) → get_or l.pages.items n [] ≡ get_or l.initial.pages.items n []

abbrev pub decreases-pages : goal.decreases-pages
decreases-pages l = l.number + 1 - vec_len l.pages
