use Rattle.std.proofs.Common.{◌≡◌, ◌++◌, take}
use Rattle.std.specs.Prelude.{codes}
use Rattle.std.specs.List.{flat_map}
use Rattle.pb_family.specs.ClauseText.{literal_text}
use Rattle.pb_family.proofs.text.push_line.Given as goal

abbrev pub invariant-loop-lit : goal.invariant-loop-lit
invariant-loop-lit l = l.out.items ≡ l.initial.out.items ++ flat_map (λ lit. literal_text lit ++ codes " ") (take l.lit-index l.clause)
