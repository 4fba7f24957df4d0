use Rattle.std.proofs.Common.{◌≡◌, ◌-◌, ◌++◌}
use Rattle.std.specs.List.{flat_map}
use Rattle.pb_gen.specs.Generated.{drawn_statements, generated, statement_text}
use Rattle.pb_gen.proofs.generating.generate.Given as goal

abbrev pub invariant-loop-i : goal.invariant-loop-i
invariant-loop-i l = l.out.items ++ flat_map statement_text (drawn_statements l.vars (l.fn.n - l._i) l.draws.state) ≡ generated l.fn.n l.fn.seed
