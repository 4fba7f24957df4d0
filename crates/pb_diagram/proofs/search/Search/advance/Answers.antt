use Rattle.std.proofs.Common.{◌+◌, List, sym, subst}
use Rattle.pb_diagram.specs.declared.interval.Interval.{Interval}
use Rattle.pb_diagram.specs.declared.search.Look.TheVariants.{Found, Missing}
use Rattle.pb_diagram.specs.laws.Search.{nodes_at, IsSeen, Looked}
use Rattle.pb_diagram.proofs.search.Search.advance.Goals as goal

pub look_for-requires : goal.look_for-requires
look_for-requires c = subst (λ (l : List (List Interval)). IsSeen l c.args.self.now.left c.top-top.result) (sym c.deref.ensures.value) c.top-top.ensures.seen

pub want-requires : goal.want-requires
want-requires c =
    let top = c.top-top.result in
    let seen = subst (λ (l : List (List Interval)). Looked top.coef c.args.self.now.left (nodes_at l (top.place + 1)) top.residue (Missing c.in-Missing.child c.in-Missing.off)) c.deref.ensures.value c.in-Missing.ensures in
    record { going = c.requires.going; top = c.top-top.ensures; missing = seen.0; off = seen.1 }

pub join-requires : goal.join-requires
join-requires c =
    let top = c.top-top.result in
    record {
      going = c.requires.going;
      top = c.top-top.ensures;
      joined = subst (λ (l : List (List Interval)). Looked top.coef c.args.self.now.left (nodes_at l (top.place + 1)) top.residue (Found c.in-Found.interval)) c.deref.ensures.value c.in-Found.ensures;
    }

pub top-top-requires : goal.top-top-requires
top-top-requires c = c.requires

pub returns-in-Missing : goal.returns-in-Missing
returns-in-Missing c = c.want.ensures

pub returns-in-Found : goal.returns-in-Found
returns-in-Found c = c.join.ensures
