use Rattle.std.proofs.Common.{◌≡◌, ◌++◌, map, take}
use Rattle.pb_named.specs.NamedProblems.{lit_of}
use Rattle.pb_named.specs.inner.Numbering.{place_in, Gives}
use Rattle.pb_named.proofs.sums.push_lits.Given as goal

abbrev pub invariant-loop-lit : goal.invariant-loop-lit
invariant-loop-lit l = record {
  gives : Gives (place_in l.table) l.initial.places (map (λ n. n.name) (take l.lit-index l.lits)) l.places;
  lits : l.list ≡ l.initial.list ++ map (lit_of l.table) (take l.lit-index l.lits);
}
