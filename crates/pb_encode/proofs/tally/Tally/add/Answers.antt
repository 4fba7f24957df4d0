use Rattle.std.proofs.Common.{◌+◌, ℕ, ap, ◌∙◌}
use Rattle.std.specs.Prelude.{slice_set}
use Rattle.pb_encode.specs.Summaries.{place_of}
use Rattle.pb_encode.specs.inner.Tallies.{capped}
use Rattle.pb_encode.proofs.TallyLemmas.{tally_more}
use Rattle.pb_encode.proofs.tally.Tally.add.Goals as goal

pub returns : goal.returns
returns c = λ cs h.
    let plan = c.args.plan.now in
    let old = c.args.self.now in
    tally_more plan.options cs plan.constraint.now old _ c.place_of-place.result
    (c.saturating_add-self.ensures ∙ ap (λ (n : ℕ). capped (old.fresh + n)) c.counts-counts.ensures.fresh)
    (c.saturating_add-self-2.ensures ∙ ap (λ (n : ℕ). capped (old.clauses + n)) c.counts-counts.ensures.clauses)
    (c.place_of-place.ensures.place ∙ ap place_of c.treatment.ensures)
    c.place_of-place.ensures.within
    (ap (λ (n : ℕ). slice_set old.treated c.place_of-place.result n) c.saturating_add.ensures) h
