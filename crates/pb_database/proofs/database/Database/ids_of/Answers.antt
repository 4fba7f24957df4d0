use Rattle.std.proofs.Common.{◌≡◌, ◌<◌, ◌∙◌, ap, sym, subst, List, ℕ, length}
use Rattle.pb_steps.specs.Database.{Database}
use Rattle.pb_database.specs.inner.Indexed.{ids_of}
use Rattle.pb_database.specs.Naming.{HasNaming}
use Rattle.pb_database.proofs.Indexing.{has_naming}
use Rattle.pb_database.proofs.database.Database.ids_of.Goals as goal

pub ids_of-requires : goal.ids_of-requires
ids_of-requires c = subst (λ (ls : List (List ℕ)). 0 < length ls) (sym c.deref.ensures.value) c.self.invariant.indexed.enough

pub returns : goal.returns
returns c =
    let lists = c.self.inside.named.items in
    let fresh : c.self.inside.original < c.args.var = subst (λ (db : Database). db.original < c.args.var) (sym c.self.view_is) c.requires in
    let own : HasNaming c.args.self.now.live c.args.var (ids_of lists c.args.var) =
    subst (λ (db : Database). HasNaming db.live c.args.var (ids_of lists c.args.var)) c.self.view_is (has_naming c.self.inside.original c.self.inside.slots.items lists c.args.var fresh c.self.invariant.indexed) in
    let same : c.ids_of.result.now ≡ ids_of lists c.args.var = c.ids_of.ensures ∙ ap (λ (ls : List (List ℕ)). ids_of ls c.args.var) c.deref.ensures.value in
    subst (HasNaming c.args.self.now.live c.args.var) (sym same) own
