use Rattle.std.proofs.Common.{List, ℕ, ◌∙◌, ap, drop, length}
use Rattle.pb_opb.proofs.Heads.{token-length}
use Rattle.pb_opb.proofs.reader.Reader.take.Goals as goal

pub returns-in_ok-take_word-in-None-clause-rest : goal.returns-in_ok-take_word-in-None-clause-rest
returns-in_ok-take_word-in-None-clause-rest c =
    c.split_at.ensures.back ∙ ap (λ (w : List ℕ). drop (length w) c.args.text.now) c.first_token-word.ensures ∙ ap (λ (n : ℕ). drop n c.args.text.now) (token-length c.args.text.now)
