use Rattle.std.proofs.Common.{◌≡◌, ◌≤◌, ◌*◌, ◌++◌}
use Rattle.std.specs.List.{flat_map}
use Rattle.pb_base.specs.Problems.{magnitude}
use Rattle.pb_gen.specs.Draws.{state_after}
use Rattle.pb_gen.specs.Drawn.{drawn_terms, term_draws}
use Rattle.pb_gen.specs.Generated.{term_text}
use Rattle.pb_gen.proofs.generating.push_terms.Given as goal

abbrev pub invariant-loop-i : goal.invariant-loop-i
invariant-loop-i l = record {
  sum : l.sum ≡ magnitude (drawn_terms l.vars l.weighted l._i l.initial.draws.state);
  small : l.sum ≤ 20 * l._i;
  state : l.draws.state ≡ state_after (l._i * term_draws l.weighted) l.initial.draws.state;
  text : l.out.items ≡ l.initial.out.items ++ flat_map term_text (drawn_terms l.vars l.weighted l._i l.initial.draws.state);
}
