use Rattle.std.proofs.Common.{◌≡◌, ◌++◌, drop, map}
use Rattle.std.specs.Prelude.{option_map}
use Rattle.pb_words.specs.LitWords.{lits_in}
use Rattle.pb_words.proofs.literal.lits_in.Given as goal

abbrev pub invariant-loop-word : goal.invariant-loop-word
invariant-loop-word l = lits_in (map (λ word. word.now) l.words) ≡ option_map (λ ls. l.lits ++ ls) (lits_in (map (λ word. word.now) (drop l.word-index l.words)))
