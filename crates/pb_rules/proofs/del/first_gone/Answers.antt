use Rattle.std.proofs.Common.{◌∙◌, ap, sym, List, get_or, take}
use Rattle.pb_steps.specs.Database.{Entry}
use Rattle.pb_steps.specs.Denials.{first_gone}
use Rattle.pb_database.proofs.Without.{without-none}
use Rattle.pb_rules.proofs.Seen.{gone_here, gone_later}
use Rattle.pb_rules.proofs.Gone.{has_listed-none, has_listed-more, gone-fresh, ascending-gone}
use Rattle.pb_rules.proofs.del.first_gone.Goals as goal

pub loop-id-init : goal.loop-id-init
loop-id-init c = record {
  same = ap (λ (es : List Entry). first_gone es c.args.ids.now) (sym (without-none c.args.db.now.live));
  listed = has_listed-none c.new-before.result c.new-before.ensures.empty;
}

pub returns-then-is_gone : goal.returns-then-is_gone
returns-then-is_gone c =
    let id = get_or c.args.ids.now c.loop-id.id-index 0 in
    let gone = gone-fresh c.args.db.now.live (take c.loop-id.id-index c.args.ids.now) id c.loop-id.before c.in_ok-is_fresh.is_fresh c.loop-id.invariant.listed c.in_ok-is_fresh.ensures.added in
    sym (c.loop-id.invariant.same ∙ gone_here _ c.args.ids.now c.loop-id.id-index c.loop-id-test.true (sym gone ∙ (sym c.is_gone.ensures ∙ c.if-is_gone.true)))

pub loop-id-preserved : goal.loop-id-preserved
loop-id-preserved c =
    let id = get_or c.args.ids.now c.loop-id.id-index 0 in
    let gone = gone-fresh c.args.db.now.live (take c.loop-id.id-index c.args.ids.now) id c.loop-id.before c.in_ok-is_fresh.is_fresh c.loop-id.invariant.listed c.in_ok-is_fresh.ensures.added in
    record {
      same = c.loop-id.invariant.same ∙ gone_later c.args.db.now.live c.args.ids.now c.loop-id.id-index c.loop-id-test.true (sym gone ∙ (sym c.is_gone.ensures ∙ c.if-is_gone.false));
      listed = has_listed-more c.args.ids.now c.loop-id.id-index c.loop-id.before c.insert.new.self c.loop-id-test.true c.loop-id.invariant.listed c.in_ok-is_fresh.ensures.updates.0;
    }

pub returns-then-ascend : goal.returns-then-ascend
returns-then-ascend c = c.id_gone.ensures ∙ sym (ascending-gone c.args.db.now.live c.args.ids.now (c.ascend.ensures c.if-ascend.true))
