use Rattle.std.proofs.Common.{◌≡◌, ◌++◌, ℕ, List, [], ◌∷◌, append_assoc, ap, ◌∙◌, codes, decimal}
use Rattle.pb_gen.proofs.printing.push_header.Goals as goal

regroup : (out a v b n c : List ℕ) → out ++ a ++ v ++ b ++ n ++ c ≡ out ++ (a ++ v ++ b ++ n ++ c)
regroup out a v b n c = simp append_assoc

pub returns : goal.returns
returns c =
    c.in_ok-push.ensures.items
    ∙ ap (λ (xs : List ℕ). xs ++ 10 ∷ []) (c.in_ok-push_number-2.ensures ∙ ap (λ (xs : List ℕ). xs ++ codes " #constraint= " ++ decimal c.args.count) c.in_ok-push_number.ensures)
    ∙ regroup c.args.out.now.items (codes "* #variable= ") (decimal c.args.vars) (codes " #constraint= ") (decimal c.args.count) (10 ∷ [])
