use Rattle.std.proofs.Common.{◌≡◌, ◌∷◌, take}
use Rattle.std.specs.Prelude.{map}
use Rattle.pb_norm.specs.inner.Kept.{on_term}
use Rattle.pb_family.specs.inner.Parts.{turned}
use Rattle.pb_family.proofs.reification.with_head.Given as goal

abbrev pub invariant-loop-term : goal.invariant-loop-term
invariant-loop-term l = l.all.items ≡ l.fn.head ∷ map (on_term (turned l.flip)) (take l.term-index l.terms)
