use Rattle.std.proofs.Common.{ap, arith, length, ℕ, List, subst, sym}
use Rattle.std.specs.Prelude.{Contains}
use Rattle.pb_unit.specs.Renaming.{all_vars}
use Rattle.pb_unit.proofs.Numbers.{all_named, names_are, names_have, of_constraints, of_lits}
use Rattle.pb_unit.proofs.Tabled.{length-all_vars}
use Rattle.pb_unit.proofs.numbering.Names.of.Goals as goal

pub invariant_of-result : goal.invariant_of-result
invariant_of-result c = names_are c.in_ok-vars.vars.items c.sort_unstable.new.self.items c.dedup.new.self.items c.sort_unstable.ensures.permutation c.dedup.ensures.filtered c.sort_unstable.ensures.sorted c.in_ok-vars.ensures.names

pub returns-clause-named : goal.returns-clause-named
returns-clause-named c =
    let forms = c.args.forms.now in
    let lits = c.args.lits.now in
    let have = names_have c.in_ok-vars.vars.items c.sort_unstable.new.self.items c.dedup.new.self.items c.sort_unstable.ensures.permutation c.dedup.ensures.filtered in
    let has = λ (v : ℕ) (h : Contains (all_vars forms lits) v). have v (subst (λ (vs : List ℕ). Contains vs v) (sym c.in_ok-vars.ensures.vars) h) in
    record {
      constraints = of_constraints (all_vars forms lits) forms lits (all_named forms lits) (Contains c.dedup.new.self.items) has;
      lits = of_lits (all_vars forms lits) forms lits (all_named forms lits) (Contains c.dedup.new.self.items) has;
    }

pub returns-clause-few : goal.returns-clause-few
returns-clause-few c = omega (arith, c.sort_unstable.ensures.len, c.dedup.ensures.bound, ap length c.in_ok-vars.ensures.vars, length-all_vars c.args.forms.now c.args.lits.now)
