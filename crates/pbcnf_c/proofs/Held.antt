-- What a sink in memory holds.
use Rattle.std.proofs.Common.{◌≡◌, ◌∙◌, ◌++◌, [], List, ℕ, Option, Some, None, ap, sym}
use Rattle.std.specs.Option.{option_map}
use Rattle.pb_base.specs.declared.literal.Lit.{Lit}
use Rattle.pb_family.specs.ClauseText.{led_text}
use Rattle.pb_family.specs.Handing.{lines_for}
use Rattle.pb_family.specs.Sinks.{SinkState, Takes}

abbrev given : Option (List ℕ) → List ℕ
given None = []
given (Some xs) = xs

-- one that began with these lines and took a text holds it behind them
pub held : {Rest : Type 0} (old new : SinkState Rest) (start now text : List ℕ) → old.lines ≡ Some start → Takes text old new → new.lines ≡ Some now → now ≡ start ++ text
held {Rest} old new start now text began takes holds =
    let more : Option (List ℕ) → Option (List ℕ) = λ ls. option_map (λ xs. xs ++ text) ls in
    ap given (sym holds ∙ takes.grows.lines ∙ ap more began)

-- the lines of clauses, each behind the same lead
pub held_lines : {Rest : Type 0} (old new : SinkState Rest) (start lead now : List ℕ) (cs : List (List Lit)) → old.lines ≡ Some start → old.lead ≡ lead → Takes (lines_for old cs) old new → new.lines ≡ Some now → now ≡ start ++ led_text lead cs
held_lines {Rest} old new start lead now cs began leads takes holds = held old new start now (lines_for old cs) began takes holds ∙ ap (λ (front : List ℕ). start ++ led_text front cs) leads
