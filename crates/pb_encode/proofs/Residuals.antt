-- Faults that are handed on.
use Rattle.std.proofs.Common.{◌≡◌, sym, subst, Ok, Err}
use Rattle.std.specs.Prelude.{Result, IsErrAnd}

-- a fault that is answered is the one that was handed on
pub was_handed : {T E : Type 0} (r : Result T E) (f g : E) → IsErrAnd r (λ h. h ≡ g) → r ≡ Err f → f ≡ g
was_handed (Ok x) f g given is = absurd given
was_handed (Err h) f g given is = cc

-- and so the answer of the call that it came from
pub was_answered : {T U E : Type 0} (r : Result T E) (s : Result U E) (f g : E) → IsErrAnd r (λ h. h ≡ g) → s ≡ Err g → r ≡ Err f → s ≡ Err f
was_answered {E = E} r s f g given was is = subst (λ (h : E). s ≡ Err h) (sym (was_handed r f g given is)) was
