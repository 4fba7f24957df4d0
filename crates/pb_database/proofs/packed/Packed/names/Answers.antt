use Rattle.std.proofs.Common.{◌≡◌, ◌∙◌, ap}
use Rattle.std.specs.List.{list_any}
use Rattle.pb_norm.specs.Constraints.{Constraint}
use Rattle.pb_operations.proofs.Parts.{any-weights}
use Rattle.pb_database.specs.declared.packed.Form.TheVariants.{Two, Three, Four, Sum, Other}
use Rattle.pb_database.specs.Naming.{is_of}
use Rattle.pb_database.proofs.UnitLemmas.{any-units, kept_as}
use Rattle.pb_database.proofs.packed.Packed.names.Goals as goal

pub returns-in-Two : goal.returns-in-Two
returns-in-Two c =
    c.has_lit.ensures ∙ (any-units c.args.var c.in-Two.lits ∙
    ap (λ (d : Constraint). list_any (is_of c.args.var) d.terms) (kept_as c.deref.result.now c.self.inside.form.value (Two c.in-Two.lits) c.args.self.now c.in-Two.is c.deref.ensures c.self.view_is))

pub returns-in-Three : goal.returns-in-Three
returns-in-Three c =
    c.has_lit-in-Three.ensures ∙ (any-units c.args.var c.in-Three.lits ∙
    ap (λ (d : Constraint). list_any (is_of c.args.var) d.terms) (kept_as c.deref.result.now c.self.inside.form.value (Three c.in-Three.lits) c.args.self.now c.in-Three.is c.deref.ensures c.self.view_is))

pub returns-in-Four : goal.returns-in-Four
returns-in-Four c =
    c.has_lit-in-Four.ensures ∙ (any-units c.args.var c.in-Four.lits ∙
    ap (λ (d : Constraint). list_any (is_of c.args.var) d.terms) (kept_as c.deref.result.now c.self.inside.form.value (Four c.in-Four.lits) c.args.self.now c.in-Four.is c.deref.ensures c.self.view_is))

pub returns-in-Sum : goal.returns-in-Sum
returns-in-Sum c =
    let sum : c.deref-in-Sum.result.now ≡ c.args.self.now = c.deref-in-Sum.ensures ∙ kept_as c.deref.result.now c.self.inside.form.value (Sum c.in-Sum.sum) c.args.self.now c.in-Sum.is c.deref.ensures c.self.view_is in
    c.has_var.ensures ∙ ap (λ (d : Constraint). list_any (is_of c.args.var) d.terms) sum

pub returns-in-Other : goal.returns-in-Other
returns-in-Other c =
    let alone : c.deref-in-Other.result.now ≡ c.args.self.now = c.deref-in-Other.ensures ∙ kept_as c.deref.result.now c.self.inside.form.value (Other c.in-Other.alone) c.args.self.now c.in-Other.is c.deref.ensures c.self.view_is in
    c.has_var-in-Other.ensures ∙ (any-weights (is_of c.args.var) c.terms.result.now ∙ (ap (list_any (is_of c.args.var)) c.terms.ensures.weights ∙ ap (λ (d : Constraint). list_any (is_of c.args.var) d.terms) alone))
