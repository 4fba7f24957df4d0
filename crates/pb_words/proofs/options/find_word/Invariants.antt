use Rattle.std.proofs.Common.{◌≡◌, drop, map}
use Rattle.pb_words.specs.OptionWords.{find_word}
use Rattle.pb_words.proofs.options.find_word.Given as goal

abbrev pub invariant-loop-value : goal.invariant-loop-value
invariant-loop-value g l =
    find_word (map (λ value. (value.0.now, value.1)) l.values) l.word ≡ find_word (map (λ value. (value.0.now, value.1)) (drop l.value-index l.values)) l.word
