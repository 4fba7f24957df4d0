use Rattle.std.proofs.Common.{◌∙◌, sym}
use Rattle.pb_base.specs.Tokens.{Piece}
use Rattle.pb_opb.proofs.Heads.{first-token, some-token}
use Rattle.pb_opb.proofs.head.first_token.Goals as goal

pub returns-in-Some : goal.returns-in-Some
returns-in-Some c =
    let t : Piece = record { place = c.in-Some.token.place; text = c.in-Some.token.text.now } in
    first-token c.args.text.now t c.next.new.self c.requires.some c.requires.front (sym c.tokens-tokens.ensures ∙ c.in-Some.ensures.steps)

pub returns-in-None : goal.returns-in-None
returns-in-None c = absurd (some-token c.args.text.now c.requires.some c.requires.front (sym c.tokens-tokens.ensures ∙ c.in-None.ensures.steps.0))
