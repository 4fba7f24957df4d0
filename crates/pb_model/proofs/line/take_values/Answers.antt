use Rattle.std.proofs.Common.{◌≡◌, List, [], ◌∷◌, ◌++◌, Some, None, map, ap, ◌∙◌, subst, sym}
use Rattle.pb_base.specs.declared.place.Place.{Place}
use Rattle.pb_base.specs.declared.number.Number.{Number}
use Rattle.pb_base.specs.Pieces.{chunk}
use Rattle.pb_base.specs.Words.{Chunk}
use Rattle.pb_model.specs.ModelLines.{Symbol, word_symbol, meant, place_in}
use Rattle.pb_model.specs.ModelLines.Symbol.{word}
use Rattle.pb_model.specs.ModelReading.{first_fault}
use Rattle.pb_model.specs.inner.Reading.{Knows}
use Rattle.pb_model.proofs.Going.{GoesOn, goes_first, goes_more, goes_wrong, goes_through}
use Rattle.pb_model.proofs.line.take_values.Goals as goal

pub loop-word-init : goal.loop-word-init
loop-word-init c = λ vars ss k.
    subst (λ (ws : List Chunk). GoesOn vars ss (map (word_symbol vars c.args.number) c.args.words) (map (word_symbol vars c.args.number) ws) c.args.reader.now)
    (sym c.into_iter-word-iterator.ensures.into_iter_gives) (goes_first vars ss (map (word_symbol vars c.args.number) c.args.words) c.args.reader.now k)

pub loop-word-preserved : goal.loop-word-preserved
loop-word-preserved c = λ vars ss k.
    let w : Chunk = chunk c.in-Some.word in
    let symbols = λ (ws : List Chunk). map (word_symbol vars c.args.number) ws in
    let same : word c.place_in.result (meant vars c.read_number.result) ≡ word_symbol vars c.args.number w =
    ap (λ (p : Place). word p (meant vars c.read_number.result)) c.place_in.ensures ∙ ap (λ (n : Number). word (place_in c.args.number w) (meant vars n)) c.read_number.ensures in
    goes_more vars ss (symbols c.args.words) (word_symbol vars c.args.number w ∷ []) (symbols c.next.new.self) c.loop-word.reader c.take_word.new.self
    (λ tt known. subst (λ (x : Symbol). (first_fault tt (x ∷ []) ≡ None) × Knows vars (tt ++ x ∷ []) c.take_word.new.self) same (c.in-Ok.ensures vars tt known))
    (subst (λ (ws : List Chunk). GoesOn vars ss (symbols c.args.words) (symbols ws) c.loop-word.reader) c.in-Some.ensures.steps (c.loop-word.invariant vars ss k))

pub returns-in-Err : goal.returns-in-Err
returns-in-Err c = λ vars ss k.
    let w : Chunk = chunk c.in-Some.word in
    let symbols = λ (ws : List Chunk). map (word_symbol vars c.args.number) ws in
    let same : word c.place_in.result (meant vars c.read_number.result) ≡ word_symbol vars c.args.number w =
    ap (λ (p : Place). word p (meant vars c.read_number.result)) c.place_in.ensures ∙ ap (λ (n : Number). word (place_in c.args.number w) (meant vars n)) c.read_number.ensures in
    goes_wrong vars ss (symbols c.args.words) (word_symbol vars c.args.number w ∷ []) (symbols c.next.new.self) c.loop-word.reader c.in-Err.fault
    (λ tt known. subst (λ (x : Symbol). first_fault tt (x ∷ []) ≡ Some c.in-Err.fault) same (c.in-Err.ensures vars tt known))
    (subst (λ (ws : List Chunk). GoesOn vars ss (symbols c.args.words) (symbols ws) c.loop-word.reader) c.in-Some.ensures.steps (c.loop-word.invariant vars ss k))

pub returns : goal.returns
returns c = λ vars ss k.
    let symbols = λ (ws : List Chunk). map (word_symbol vars c.args.number) ws in
    goes_through vars ss (symbols c.args.words) c.loop-word.reader
    (subst (λ (ws : List Chunk). GoesOn vars ss (symbols c.args.words) (symbols ws) c.loop-word.reader) c.in-None.ensures.steps.0 (c.loop-word.invariant vars ss k))
