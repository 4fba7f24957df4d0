use Rattle.std.proofs.Common.{◌+◌, ℕ, ap, sym, ◌∙◌, arith}
use Rattle.std.specs.Prelude.{slice_set}
use Rattle.pb_encode.specs.Summaries.{place_of}
use Rattle.pb_encode.specs.inner.Plain.{ones_of}
use Rattle.pb_encode.specs.inner.Tallies.{capped}
use Rattle.pb_encode.proofs.PlainClauses.{ones_count, ones_fresh, ones_treatment}
use Rattle.pb_encode.proofs.TallyLemmas.{tally_more}
use Rattle.pb_encode.proofs.tally.Tally.add_clause.Goals as goal

pub returns : goal.returns
returns c = λ o ls some cs h.
    let old = c.args.self.now in
    tally_more o cs (ones_of ls) old _ c.place_of-place.result
    (omega (arith, h.fresh, ones_fresh o ls some))
    (c.saturating_add-self.ensures ∙ ap (λ (n : ℕ). capped (old.clauses + n)) (sym (ones_count o ls some)))
    (c.place_of-place.ensures.place ∙ ap place_of (sym (ones_treatment o ls some)))
    c.place_of-place.ensures.within
    (ap (λ (n : ℕ). slice_set old.treated c.place_of-place.result n) c.saturating_add.ensures) h
