use Rattle.std.proofs.Common.{◌≡◌, ◌+◌, ◌∙◌, ◌++◌, ◌∷◌, [], ◌||◌, ℕ, Bool, List, ap, sym, arith, length, length-append}
use Rattle.std.proofs.lemmas.Grind.{common_steps}
use Rattle.pb_base.specs.declared.literal.Lit.{Lit}
use Rattle.pb_lrat.specs.Hints.{Kept, is_nothing}
use Rattle.pb_lrat.specs.LratStates.{numbered}
use Rattle.pb_lrat.specs.inner.Stores.{Library}
use Rattle.pb_lrat.proofs.Judging.{numbered_more, nothing_more}
use Rattle.pb_lrat.proofs.checker.store_with_ids.Goals as goal
use Rattle.pb_lrat.proofs.checker.store_with_ids.Goals.{then-refuted, else-refuted}

abbrev library : ℕ → List Kept → Library
library last live = record { last = last; live = live }

abbrev just : ℕ → List Lit → List Kept
just id ls = record { id = id; clause = ls } ∷ []

pub loop-clause-preserved : goal.loop-clause-preserved
loop-clause-preserved c =
    let before : List (List Lit) = c.loop-clause.yielded in
    let clause : List Lit = c.in-Some.clause in
    let next : ℕ = 1 + length before in
    let last : c.loop-clause.store.last ≡ length before = ap (λ (x : Library). x.last) c.loop-clause.invariant.store in
    let id : c.last-id.result + 1 ≡ next = omega (arith, c.last-id.ensures, last) in
    let count : next ≡ length (before ++ clause ∷ []) = omega (arith, length-append before (clause ∷ [])) in
    let more = nothing_more before clause in
    record {
      whole = grind (arith, common_steps);
      store =
          c.in_ok-push.ensures.ok ∙
          (ap (λ (n : ℕ). library n (c.loop-clause.store.live ++ just n c.as_slice.result.now)) id ∙
          (ap (λ (ls : List Lit). library next (c.loop-clause.store.live ++ just next ls)) c.as_slice.ensures ∙
          (ap (λ (x : Library). library next (x.live ++ just next clause)) c.loop-clause.invariant.store ∙
          (ap (library next) (sym (numbered_more 1 before clause)) ∙ ap (λ (n : ℕ). library n (numbered 1 (before ++ clause ∷ []))) count))));
      empty =
          elim c.if-refuted.branch [
            | then-refuted w ↦ w.refuted-is ∙ w.if-refuted.true ∙ sym (more ∙ ap (λ (b : Bool). b || is_nothing clause) (sym c.loop-clause.invariant.empty ∙ w.if-refuted.true))
            | else-refuted w ↦
                w.refuted-is ∙
                ((w.is_nothing-refuted.ensures ∙ ap is_nothing w.as_slice-else-refuted.ensures) ∙
                sym (more ∙ ap (λ (b : Bool). b || is_nothing clause) (sym c.loop-clause.invariant.empty ∙ w.if-refuted.false)))
          ];
    }
