use Rattle.std.proofs.Common.{◌∙◌, ap, map, refl, ℕ, List, Bor}
use Rattle.std.specs.Str.{bytes_eq}
use Rattle.pb_named.proofs.FirstsLemmas.{insert-seen, place-seen, own-place}
use Rattle.pb_named.proofs.TableLemmas.{bytes_eq-refl}
use Rattle.pb_named.proofs.table.note_free.Goals as goal

pub returns-in-Ok-clause-noted : goal.returns-in-Ok-clause-noted
returns-in-Ok-clause-noted c = ap (map (λ n. n.now)) c.in-Ok.ensures.keys ∙ insert-seen (λ (n : Bor (List ℕ)). n.now) _ bytes_eq (λ a b. refl) c.args.names.now.keys c.args.text

pub returns-in-Ok-clause-place : goal.returns-in-Ok-clause-place
returns-in-Ok-clause-place c =
    c.in-Ok.ensures.index ∙ place-seen (λ (n : Bor (List ℕ)). n.now) _ bytes_eq (λ a b. refl) c.args.names.now.keys c.args.text ∙ own-place bytes_eq bytes_eq-refl (map (λ n. n.now) c.args.names.now.keys) c.args.text.now
