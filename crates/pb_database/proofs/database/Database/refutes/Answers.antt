use Rattle.std.proofs.Common.{◌∙◌, ◌∷◌, ◌++◌, ℕ, List, arith, sym, subst}
use Rattle.std.specs.Option.{option_copied, option_to_list}
use Rattle.std.proofs.lemmas.Bool.{OnTrue_at}
use Rattle.std.proofs.lemmas.Option.{IfSome_then}
use Rattle.pb_norm.specs.Constraints.{Constraint, HasVarsWithin}
use Rattle.pb_steps.specs.Database.{live_constraints}
use Rattle.pb_database.specs.Refutations.{TellsConflict}
use Rattle.pb_database.proofs.Mirroring.{slots-within, slots-more, within-more}
use Rattle.pb_database.proofs.Refuting.{tells_live}
use Rattle.pb_database.proofs.Fronts.{kept-same, kept-again, kept-whole}
use Rattle.pb_database.proofs.database.Database.refutes.Goals as goal

pub enter_rest-requires-clause-within : goal.enter_rest-requires-clause-within
enter_rest-requires-clause-within c =
    slots-more c.self.inside.vars c.self.inside.most c.self.inside.engine.vars c.self.inside.slots.items (omega (arith, c.if-self.false)) c.self.invariant.mirrored.vars_are (slots-within c.self.inside.vars c.self.inside.slots.items c.self.invariant.sound)

pub invariant_of-self : goal.invariant_of-self
invariant_of-self c =
    kept-same c.self.inside.original c.self.inside.vars c.self.inside.most c.self.inside.entered c.enter_rest.new.entered c.self.inside.slots.items c.enter_rest.new.slots.items c.self.inside.engine c.enter_rest.new.engine c.self.inside.idle c.self.inside.rounds c.self.inside.named.items
    c.self.invariant c.enter_rest.ensures.same c.enter_rest.ensures.few c.enter_rest.ensures.mirrored

pub returns-then-not-enter_rest-clause-same : goal.returns-then-not-enter_rest-clause-same
returns-then-not-enter_rest-clause-same c = c.enter_rest.ensures.same c.self.inside.original c.self.inside.vars ∙ c.self.view_is

pub invariant_of-self-2 : goal.invariant_of-self-2
invariant_of-self-2 c =
    let entered =
    kept-same c.self.inside.original c.self.inside.vars c.self.inside.most c.self.inside.entered c.enter_rest.new.entered c.self.inside.slots.items c.enter_rest.new.slots.items c.self.inside.engine c.enter_rest.new.engine c.self.inside.idle c.self.inside.rounds c.self.inside.named.items
    c.self.invariant c.enter_rest.ensures.same c.enter_rest.ensures.few c.enter_rest.ensures.mirrored in
    kept-again c.self.inside.original c.self.inside.vars c.self.inside.most c.enter_rest.new.entered c.enter_rest.new.slots.items c.enter_rest.new.engine c.is_refuted_with.new.engine c.self.inside.idle c.self.inside.rounds c.self.inside.named.items entered c.is_refuted_with.ensures.kept

pub returns-clause-same : goal.returns-clause-same
returns-clause-same c = c.enter_rest.ensures.same c.self.inside.original c.self.inside.vars ∙ c.self.view_is

pub returns-clause-answer : goal.returns-clause-answer
returns-clause-answer c =
    let entered =
    kept-same c.self.inside.original c.self.inside.vars c.self.inside.most c.self.inside.entered c.enter_rest.new.entered c.self.inside.slots.items c.enter_rest.new.slots.items c.self.inside.engine c.enter_rest.new.engine c.self.inside.idle c.self.inside.rounds c.self.inside.named.items
    c.self.invariant c.enter_rest.ensures.same c.enter_rest.ensures.few c.enter_rest.ensures.mirrored in
    let whole = kept-whole c.self.inside.original c.self.inside.vars c.self.inside.most c.enter_rest.new.entered c.enter_rest.new.slots.items c.enter_rest.new.engine c.self.inside.idle c.self.inside.rounds c.self.inside.named.items entered (OnTrue_at c.if-not-enter_rest.false c.enter_rest.ensures.all) in
    tells_live c.self.inside.original c.self.inside.vars c.self.inside.most c.enter_rest.new.slots.items c.enter_rest.new.engine c.args.self.now (c.args.more.now ∷ option_to_list (option_copied c.args.second)) c.is_refuted_with.result
    whole (c.enter_rest.ensures.same c.self.inside.original c.self.inside.vars ∙ c.self.view_is) c.is_refuted_with.ensures.answer

pub is_refuted_with-requires-clause-more : goal.is_refuted_with-requires-clause-more
is_refuted_with-requires-clause-more c =
    let within = subst (λ (n : ℕ). HasVarsWithin n c.args.more.now.terms) (λ i. (sym c.self.view_is i).vars) c.requires.more in
    within-more c.self.inside.vars c.self.inside.most c.enter_rest.new.engine.vars c.args.more.now.terms (omega (arith, c.if-self.false)) (c.enter_rest.ensures.mirrored.vars_are ∙ c.self.invariant.mirrored.vars_are) within

pub is_refuted_with-requires-clause-second : goal.is_refuted_with-requires-clause-second
is_refuted_with-requires-clause-second c =
    IfSome_then (option_copied c.args.second) c.requires.second
    (λ d h. within-more c.self.inside.vars c.self.inside.most c.enter_rest.new.engine.vars d.terms (omega (arith, c.if-self.false)) (c.enter_rest.ensures.mirrored.vars_are ∙ c.self.invariant.mirrored.vars_are)
    (subst (λ (n : ℕ). HasVarsWithin n d.terms) (λ i. (sym c.self.view_is i).vars) h))

pub returns-then-self-clause-answer : goal.returns-then-self-clause-answer
returns-then-self-clause-answer c =
    subst (λ (cs : List Constraint). TellsConflict (cs ++ live_constraints c.args.self.now.live) c.in_ok-found.found) c.in_ok-front.ensures c.in_ok-found.ensures
