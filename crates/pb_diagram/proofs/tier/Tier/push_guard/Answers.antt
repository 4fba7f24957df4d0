use Rattle.std.proofs.Common.{◌∙◌, ◌++◌, [], ◌∷◌, ap, arith}
use Rattle.std.proofs.lemmas.List.{map-append}
use Rattle.std.proofs.lemmas.Result.{on_ok_weaker}
use Rattle.pb_norm.specs.Constraints.{Weighted, weighted, weights}
use Rattle.pb_diagram.specs.Guards.{own_of, rises, missed_of, weighing}
use Rattle.pb_family.specs.Fresh.{positive_of}
use Rattle.pb_diagram.specs.inner.Tiers.{rung_in}
use Rattle.pb_diagram.proofs.GuardedHanding.{three_joined}
use Rattle.pb_diagram.proofs.tier.Tier.push_guard.Goals as goal

pub weighing-requires : goal.weighing-requires
weighing-requires c = omega (arith, c.own.ensures, c.args.self.now.light)

pub push_rises-requires : goal.push_rises-requires
push_rises-requires c =
    let t = c.args.self.now in
    record { low = omega (arith, t.low, t.follows); high = t.high; up = t.level.rise; ends = t.next_ends }

pub push_rises-requires-2 : goal.push_rises-requires-2
push_rises-requires-2 c =
    let t = c.args.self.now in
    record { low = t.low; high = omega (arith, t.follows, t.high); up = t.level.up; ends = t.ends }

pub returns : goal.returns
returns c =
    let t = c.args.self.now in
    let start = weights c.args.terms.now.items in
    let own = weighing (own_of (rung_in t)) t.lit.now in
    let head = ap weighted c.weighing.ensures ∙ ap (λ k. weighing k t.lit.now) c.own.ensures in
    let first = ap weights c.in_ok-push.ensures.items ∙ (map-append weighted c.args.terms.now.items (c.weighing.result ∷ []) ∙ ap (λ (u : Weighted). start ++ u ∷ []) head) in
    on_ok_weaker c.push_rises-2.result
    (λ h. three_joined start (own ∷ []) (rises missed_of t.after 0 t.next.now) (rises positive_of t.var 0 t.nodes.now) (weights c.push.new.self.items) (weights c.push_rises.new.terms.items) (weights c.push_rises-2.new.terms.items) first c.in_ok-push_rises.ensures h)
    c.push_rises-2.ensures
