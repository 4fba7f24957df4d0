use Rattle.std.proofs.Common.{◌∙◌, ℕ, List, ap, arith, length, map, subst, sym}
use Rattle.std.specs.Prelude.{All}
use Rattle.pb_base.specs.declared.literal.Lit.{Lit}
use Rattle.pb_norm.specs.Constraints.{Constraint}
use Rattle.pb_norm.specs.Propagation.{Conflict}
use Rattle.pb_unit.specs.Reaching.{AreAscending, AreReachedOver, FitsTables, IsUpTo, OfLit}
use Rattle.pb_unit.specs.Renaming.{name_at, number_in, renamed, renamed_lit}
use Rattle.pb_unit.proofs.Numbers.{names_few}
use Rattle.pb_unit.proofs.Tabled.{renamed_few}
use Rattle.pb_unit.proofs.Numbered.{conflict_named, found_places, numbered_ascending, numbered_constraints, numbered_lits, reached_named}
use Rattle.pb_unit.proofs.reaching.reached_by_places.Goals as goal

pub overflow_cast-len : goal.overflow_cast-len
overflow_cast-len c = omega (arith, names_few c.in_ok-names.names c.len.ensures.names, c.len.ensures.value)

pub reached_within-requires-clause-tables : goal.reached_within-requires-clause-tables
reached_within-requires-clause-tables c =
    let names = c.in_ok-names.names in
    let cs = c.args.forms.now in
    let ls = c.args.given.now in
    let number = number_in names in
    let named = c.in_ok-names.ensures.named in
    let fits : FitsTables (map (renamed number) cs) (map (renamed_lit number) ls) (length names) = record {
      few = names_few names c.len.ensures.names;
      modest = renamed_few number cs ls (length names) c.in_ok-names.ensures.few;
      constraints = numbered_constraints names c.len.ensures.names cs ls named;
      lits = numbered_lits names c.len.ensures.names cs ls named;
    } in
    subst (λ (most : ℕ). FitsTables c.in_ok-numbered.numbered c.deref.result.now most) (sym c.len.ensures.value)
    (subst (λ (forms : List Constraint). FitsTables forms c.deref.result.now (length names)) (sym c.in_ok-numbered.ensures)
    (subst (λ (lits : List Lit). FitsTables (map (renamed number) cs) lits (length names)) (sym (c.deref.ensures.value ∙ c.in_ok-lits.ensures)) fits))

pub reached_within-requires-clause-ascending : goal.reached_within-requires-clause-ascending
reached_within-requires-clause-ascending c =
    let lits = c.deref.ensures.value ∙ c.in_ok-lits.ensures in
    subst AreAscending (sym lits) (numbered_ascending c.in_ok-names.names c.len.ensures.names c.args.forms.now c.args.given.now c.in_ok-names.ensures.named c.requires.ascending)

pub returns-in-None : goal.returns-in-None
returns-in-None c =
    let forms = c.in_ok-numbered.ensures in
    let lits = c.deref.ensures.value ∙ c.in_ok-lits.ensures in
    let found = rw c.in-None.is at c.in_ok-reached_within.ensures in
    conflict_named c.in_ok-names.names c.len.ensures.names c.args.forms.now c.args.given.now c.in_ok-names.ensures.named
    (subst (λ (ls : List Lit). Conflict (map (renamed (number_in c.in_ok-names.names)) c.args.forms.now) ls) lits (subst (λ (cs : List Constraint). Conflict cs c.deref.result.now) forms found))

pub named_lits-requires : goal.named_lits-requires
named_lits-requires c =
    let forms = c.in_ok-numbered.ensures in
    let lits = c.deref.ensures.value ∙ c.in_ok-lits.ensures in
    let found : AreReachedOver c.in_ok-numbered.numbered c.deref.result.now c.in-Some.found.items = rw c.in-Some.is at c.in_ok-reached_within.ensures in
    let over = subst (λ (ls : List Lit). AreReachedOver (map (renamed (number_in c.in_ok-names.names)) c.args.forms.now) ls c.in-Some.found.items) lits (subst (λ (cs : List Constraint). AreReachedOver cs c.deref.result.now c.in-Some.found.items) forms found) in
    subst (All (OfLit (IsUpTo (length c.in_ok-names.names)))) (sym c.deref-in-Some.ensures.value) (found_places c.in_ok-names.names c.len.ensures.names c.args.forms.now c.args.given.now c.in_ok-names.ensures.named c.in-Some.found.items over)

pub returns : goal.returns
returns c =
    let forms = c.in_ok-numbered.ensures in
    let lits = c.deref.ensures.value ∙ c.in_ok-lits.ensures in
    let found : AreReachedOver c.in_ok-numbered.numbered c.deref.result.now c.in-Some.found.items = rw c.in-Some.is at c.in_ok-reached_within.ensures in
    let over = subst (λ (ls : List Lit). AreReachedOver (map (renamed (number_in c.in_ok-names.names)) c.args.forms.now) ls c.in-Some.found.items) lits (subst (λ (cs : List Constraint). AreReachedOver cs c.deref.result.now c.in-Some.found.items) forms found) in
    let made = c.in_ok-named_lits-in-Some.ensures ∙ ap (map (renamed_lit (name_at c.in_ok-names.names))) c.deref-in-Some.ensures.value in
    subst (AreReachedOver c.args.forms.now c.args.given.now) (sym made) (reached_named c.in_ok-names.names c.len.ensures.names c.args.forms.now c.args.given.now c.in_ok-names.ensures.named c.in-Some.found.items over)
