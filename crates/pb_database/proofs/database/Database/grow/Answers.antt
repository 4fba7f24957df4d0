use Rattle.std.proofs.Common.{◌≡◌, ◌∙◌, ◌+◌, ◌<◌, ap, sym, ℕ, subst, List, ◌∷◌, [], arith, length, length-append}
use Rattle.std.specs.Prelude.{All, Contains}
use Rattle.std.proofs.lemmas.Bool.{OnTrue_at}
use Rattle.pb_norm.specs.Constraints.{Weighted, HasVarsWithin}
use Rattle.pb_steps.specs.Database.{Database, grown}
use Rattle.pb_database.specs.declared.slots.Slot.{Slot}
use Rattle.pb_database.specs.inner.Slots.{database_of, whole}
use Rattle.pb_database.specs.inner.Mirrors.{IsKept}
use Rattle.pb_database.proofs.SlotLemmas.{sound-push, grown-slots}
use Rattle.pb_database.proofs.Fronts.{front-pushed, kept-listed}
use Rattle.pb_database.specs.inner.Indexed.{ids_of}
use Rattle.pb_database.proofs.Indexing.{indexed-kept, indexed-pushed}
use Rattle.pb_database.proofs.database.Database.grow.Goals as goal

pub invariant_of-self-in_err-push : goal.invariant_of-self-in_err-push
invariant_of-self-in_err-push c =
    let old = c.self.inside.slots.items in
    let listed = indexed-kept c.self.inside.original old c.self.inside.named.items c.enter.new.lists.items c.enter.ensures.kept c.self.invariant.indexed in
    subst (λ (ss : List Slot). IsKept c.self.inside.original c.self.inside.vars c.self.inside.most ss c.self.inside.entered c.self.inside.engine c.self.inside.idle c.self.inside.rounds c.enter.new.lists.items) (sym c.in_err-push.ensures.err)
    (kept-listed c.self.inside.original c.self.inside.vars c.self.inside.most c.self.inside.entered old c.self.inside.engine c.self.inside.idle c.self.inside.rounds c.self.inside.named.items c.enter.new.lists.items c.self.invariant listed)

pub invariant_of-self-2 : goal.invariant_of-self-2
invariant_of-self-2 c =
    let vars = c.self.inside.vars in
    let old = c.self.inside.slots.items in
    let new = c.push.new.slots.items in
    let within : HasVarsWithin vars c.args.constraint.terms = subst (λ (n : ℕ). HasVarsWithin n c.args.constraint.terms) (λ i. (sym c.self.view_is i).vars) c.requires.within in
    let put = c.in_ok-push.ensures.ok in
    let longer : length new ≡ length old + 1 = ap length put ∙ length-append old (whole c.args.constraint 0 ∷ []) in
    record {
      sound = sound-push vars old new c.args.constraint 0 put c.self.invariant.sound c.requires.narrow within;
      few = omega (arith, c.self.invariant.few, longer);
      mirrored = front-pushed c.self.inside.most c.self.inside.entered old new (whole c.args.constraint 0 ∷ []) c.self.inside.engine c.self.invariant.few put c.self.invariant.mirrored;
      is_idle = c.self.invariant.is_idle;
      beside = c.self.invariant.beside;
      indexed =
          let kept = indexed-kept c.self.inside.original old c.self.inside.named.items c.enter.new.lists.items c.enter.ensures.kept c.self.invariant.indexed in
          let added = subst (λ (ts : List Weighted). All (λ (t : Weighted). c.self.inside.original < t.lit.var → Contains (ids_of c.enter.new.lists.items t.lit.var) (c.len.result + 1)) ts) c.terms.ensures.weights (OnTrue_at c.if-not-enter.false c.enter.ensures.added) in
          indexed-pushed c.self.inside.original old new c.enter.new.lists.items c.args.constraint 0 (c.len.result + 1) put (omega (arith, c.len.ensures)) added kept;
    }

pub returns-clause-ok : goal.returns-clause-ok
returns-clause-ok c =
    ap (database_of c.self.inside.original c.self.inside.vars) c.in_ok-push.ensures.ok ∙
    (grown-slots c.self.inside.original c.self.inside.vars c.self.inside.slots.items c.args.constraint 0 ∙ ap (λ (db : Database). grown db c.args.constraint) c.self.view_is)
