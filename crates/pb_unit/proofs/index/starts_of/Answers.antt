use Rattle.std.proofs.Common.{◌≡◌, ◌+◌, ◌++◌, ◌∷◌, [], ◌∙◌, ℕ, List, length, arith, ap, sym, subst}
use Rattle.std.specs.Prelude.{slice_index}
use Rattle.std.proofs.lemmas.List.{get_or_push, length_push}
use Rattle.pb_unit.specs.Index.{IsAscending}
use Rattle.pb_unit.proofs.Sections.{ascending_push}
use Rattle.pb_unit.proofs.index.starts_of.Goals as goal

pub loop-count-preserved : goal.loop-count-preserved
loop-count-preserved c =
    let old : List ℕ = c.loop-count.starts.items in
    let next : ℕ = c.saturating_add-next.result in
    let is : c.push-in-loop-count.new.self.items ≡ old ++ next ∷ [] = c.in_ok-push-2.ensures.items in
    record {
      size = omega (arith, ap (λ (xs : List ℕ). length xs) is, length_push old next, c.loop-count.invariant.size);
      last = ap (λ (xs : List ℕ). slice_index xs (c.loop-count.count-index + 1)) is ∙ get_or_push old next 0 (c.loop-count.count-index + 1) c.loop-count.invariant.size;
      fits = omega (arith, c.saturating_add-next.ensures);
      ascending = subst IsAscending (sym is) (ascending_push old c.loop-count.count-index next c.loop-count.invariant.size (omega (arith, c.loop-count.invariant.last, c.loop-count.invariant.fits, c.saturating_add-next.ensures)) c.loop-count.invariant.ascending);
    }
