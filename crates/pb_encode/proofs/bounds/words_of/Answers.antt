use Rattle.std.proofs.Common.{◌∙◌, ◌++◌, ℕ, ℤ, List, ap}
use Rattle.pb_base.specs.declared.literal.Lit.{Lit}
use Rattle.pb_encode.specs.BoundLines.{bounds_text}
use Rattle.pb_encode.specs.Bounds.{bound_rows}
use Rattle.pb_encode.specs.Summaries.{summary_text}
use Rattle.pb_encode.proofs.bounds.words_of.Goals as goal

pub returns : goal.returns
returns c =
    let rows = bounds_text (bound_rows c.args.options.now c.args.problem.now) in
    c.in_ok-push_rows.ensures ∙ ap (λ (all : List (ℤ × Lit)). c.in_ok-text.text.items ++ bounds_text all) (c.as_slice.ensures.value ∙ c.in_ok-rows.ensures)
    ∙ ap (λ (text : List ℕ). text ++ rows) (c.in_ok-text.ensures ∙ ap summary_text c.requires.summary)
