use Rattle.std.proofs.Common.{◌≡◌, ◌++◌, ◌∙◌, List, ap, sym, filter, map, take, drop, length}
use Rattle.std.proofs.lemmas.List.{length-map}
use Rattle.std.proofs.Math.Seq.{take-append_seam}
use Rattle.pb_base.specs.declared.literal.Term.{Term}
use Rattle.pb_norm.specs.Halves.{is_positive}
use Rattle.pb_norm.specs.inner.Kept.{on_weight}
use Rattle.pb_norm.specs.inner.Nets.{unsigned_term}
use Rattle.pb_norm.proofs.AscendingTerms.{normal_from_ascending}
use Rattle.pb_norm.proofs.nets.make_normal.Goals as goal

pub returns : goal.returns
returns c =
    let items : List Term = c.args.terms.now.items in
    let new : List Term = c.take_signs.new.terms in
    let made : new ≡ map (unsigned_term c.args.half) items = c.take_signs.ensures ∙ ap (map (unsigned_term c.args.half)) c.deref_mut.ensures.value in
    let same : length new ≡ c.args.terms.now.len = ap length c.take_signs.ensures ∙ length-map c.deref_mut.result.now (unsigned_term c.args.half) ∙ c.deref_mut.ensures.len in
    let written : take c.args.terms.now.len (new ++ drop (length new) items) ≡ new = ap (λ k. take k (new ++ drop (length new) items)) (sym same) ∙ take-append_seam new (drop (length new) items) in
    normal_from_ascending c.args.half items _ c.requires.ascending (c.keep_positive.ensures ∙ ap (filter (on_weight is_positive)) (written ∙ made))
