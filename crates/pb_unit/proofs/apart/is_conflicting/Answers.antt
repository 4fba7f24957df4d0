use Rattle.std.proofs.Common.{◌∙◌, ℕ, ap, arith, subst, sym}
use Rattle.pb_norm.specs.Constraints.{AreVarsWithin}
use Rattle.pb_unit.specs.States.{started}
use Rattle.pb_unit.proofs.ByNames.{apart_found, apart_none, apart_within}
use Rattle.pb_unit.proofs.Numbers.{names_few}
use Rattle.pb_unit.proofs.apart.is_conflicting.Goals as goal

pub overflow_cast-len : goal.overflow_cast-len
overflow_cast-len c = omega (arith, names_few c.in_ok-names.names c.len.ensures.names, c.len.ensures.value)

pub over-requires : goal.over-requires
over-requires c = record { within = subst (λ (n : ℕ). AreVarsWithin n c.in_ok-numbered.numbered) (sym c.len.ensures.value) (apart_within c.in_ok-names.names c.len.ensures.names c.args.forms.now c.in_ok-names.ensures.named.constraints c.in_ok-numbered.numbered c.in_ok-numbered.ensures) }

pub returns-in-Conflict : goal.returns-in-Conflict
returns-in-Conflict c =
    apart_found c.in_ok-names.names c.len.ensures.names c.args.forms.now c.in_ok-names.ensures.named.constraints c.in_ok-numbered.numbered c.in_ok-numbered.ensures c.in_ok-engine.engine c.propagate.new.self (c.in_ok-engine.ensures.start ∙ ap (λ (n : ℕ). started n c.in_ok-numbered.numbered) c.len.ensures.value) c.propagate.ensures.same c.in-Conflict.ensures.answer.0

pub returns : goal.returns
returns c =
    apart_none c.in_ok-names.names c.len.ensures.names c.args.forms.now c.in_ok-names.ensures.named.constraints c.in_ok-numbered.numbered c.in_ok-numbered.ensures c.in_ok-engine.engine c.propagate.new.self (c.in_ok-engine.ensures.start ∙ ap (λ (n : ℕ). started n c.in_ok-numbered.numbered) c.len.ensures.value) c.propagate.ensures.same c.in-Fixed.ensures.answer.no_conflict
