use Rattle.std.proofs.Common.{◌≡◌, ◌+◌, ◌-◌, ap, sym, ◌∙◌, drop, take, ℕ, List, arith, length}
use Rattle.std.proofs.lemmas.List.{drop-drop, drop-take, length-take}
use Rattle.pb_desk.specs.LineReading.{Held}
use Rattle.pb_desk.proofs.ahead.ReadBuffer.skip.Goals as goal

pub returns : goal.returns
returns c =
    let start : ℕ = c.self.inside.start in
    let room : List ℕ = c.self.inside.room.items in
    let left : ℕ = c.self.inside.end - (start + c.args.count) in
    let view : take (c.self.inside.end - start) (drop start room) ≡ c.args.self.now.bytes = ap (λ (held : Held). held.bytes) c.self.view_is in
    let parts : c.args.count + left ≡ c.self.inside.end - start = omega (arith, c.requires, ap (λ (xs : List ℕ). length xs) view, length-take (c.self.inside.end - start) (drop start room)) in
    let rest : take left (drop (start + c.args.count) room) ≡ drop c.args.count c.args.self.now.bytes =
    ap (λ (xs : List ℕ). take left xs) (sym (drop-drop c.args.count start room)) ∙
    (sym (drop-take c.args.count left (drop start room)) ∙
    ap (λ (xs : List ℕ). drop c.args.count xs) (ap (λ (n : ℕ). take n (drop start room)) parts ∙ view)) in
    ap (λ (xs : List ℕ). record { bytes = xs; over = c.self.inside.is_over }) rest ∙ ap (λ (held : Held). record { bytes = drop c.args.count c.args.self.now.bytes; over = held.over }) c.self.view_is
