use Rattle.std.proofs.Common.{◌∙◌, ◌++◌, ◌∷◌, [], List, ap, arith}
use Rattle.pb_base.specs.declared.literal.Term.{Term}
use Rattle.pb_norm.specs.inner.Kept.{on_term}
use Rattle.pb_family.specs.inner.Parts.{turned}
use Rattle.pb_family.proofs.Gathered.{map_next, map_last}
use Rattle.pb_family.proofs.reification.with_head.Goals as goal

pub loop-term-init : goal.loop-term-init
loop-term-init c = c.in_ok-push.ensures.items ∙ ap (λ (ts : List Term). ts ++ c.args.head ∷ []) c.in_ok-all.ensures.items

pub loop-term-preserved : goal.loop-term-preserved
loop-term-preserved c =
    map_next (on_term (turned c.args.flip)) c.args.terms.now c.loop-term.term-index c.term-item.result (c.args.head ∷ []) c.loop-term.all.items c.push-in-loop-term.new.self.items _ (omega arith) c.term-item.is c.loop-term.invariant c.in_ok-push-2.ensures.items
    c.turned.ensures

pub returns : goal.returns
returns c = map_last (on_term (turned c.args.flip)) c.args.terms.now c.loop-term.term-index (c.args.head ∷ []) c.loop-term.all.items (omega arith) c.loop-term.invariant
