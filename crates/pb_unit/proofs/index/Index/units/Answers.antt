use Rattle.std.proofs.Common.{◌≡◌, ◌<◌, ◌-◌, ◌∙◌, ℕ, List, arith, length, take, drop, ap, sym, subst}
use Rattle.std.specs.Prelude.{slice_index}
use Rattle.std.proofs.lemmas.List.{get_or_default}
use Rattle.pb_unit.specs.Index.{Lists, code, section, size_of, units_at}
use Rattle.pb_unit.proofs.index.Index.units.Goals as goal

known : (c : goal.After-result-1) → c.code-number.result < length c.self.inside.ends.items
known c = subst (λ (n : ℕ). c.code-number.result < n) (sym (ap size_of c.self.view_is)) (subst (λ (k : ℕ). k < size_of c.args.self.now) (sym c.code-number.ensures) c.requires)

pub returns : goal.returns
returns c =
    let starts : List ℕ = c.self.inside.starts.items in
    let ends : List ℕ = c.self.inside.ends.items in
    let n : ℕ = c.code-number.result in
    let start : c.index.result.now ≡ slice_index starts n = c.index.ensures ∙ get_or_default starts n c.index.result.now 0 (omega (arith, known c, c.self.invariant.size)) in
    let end : c.index-2.result.now ≡ slice_index ends n = c.index-2.ensures ∙ get_or_default ends n c.index-2.result.now 0 (known c) in
    ap (λ (xs : List ℕ). take (c.index-2.result.now - c.index.result.now) (drop c.index.result.now xs)) c.deref.ensures.value ∙
    (ap (λ (m : ℕ). take (c.index-2.result.now - m) (drop m c.self.inside.units.items)) start ∙
    (ap (λ (m : ℕ). take (m - slice_index starts n) (drop (slice_index starts n) c.self.inside.units.items)) end ∙
    (ap (λ (k : ℕ). section starts ends c.self.inside.units.items k) c.code-number.ensures ∙
    ap (λ (x : Lists). units_at x (code c.args.lit.now)) c.self.view_is)))
