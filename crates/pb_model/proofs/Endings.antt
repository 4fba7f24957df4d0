-- Bytes that are appended piece by piece, where the last piece may be refused.
use Rattle.std.proofs.Common.{◌≡◌, ℕ, List, [], ◌++◌, length, take, ap, sym, ◌∙◌, append_assoc, append-nil}
use Rattle.std.proofs.Math.Seq.{take-append_seam}
use Rattle.std.specs.Prelude.{OnOk, Result, Ok, Err, is_ok, if◌then◌else◌}

-- what stood there stays where more was appended, and where nothing was
pub kept_whole : (start more new : List ℕ) → new ≡ start ++ more → take (length start) new ≡ start
kept_whole start more new is = ap (take (length start)) is ∙ take-append_seam start more

pub kept_same : (start new : List ℕ) → new ≡ start → take (length start) new ≡ start
kept_same start new is = kept_whole start [] new (is ∙ sym (append-nil start))

-- one piece more
pub further : (start so_far more mid new : List ℕ) → mid ≡ start ++ so_far → new ≡ mid ++ more → new ≡ start ++ (so_far ++ more)
further start so_far more mid new is grown = grown ∙ ap (λ (xs : List ℕ). xs ++ more) is ∙ append_assoc start so_far more

-- the last piece
pub ends : {T E : Type 0} (r : Result T E) (start so_far last whole mid new : List ℕ) → mid ≡ start ++ so_far → so_far ++ last ≡ whole → new ≡ (if is_ok r then mid ++ last else mid) → OnOk r (new ≡ start ++ whole)
ends (Ok x) start so_far last whole mid new is all grown = further start so_far last mid new is grown ∙ ap (λ (xs : List ℕ). start ++ xs) all
ends (Err e) start so_far last whole mid new is all grown = tt

pub ends_kept : {T E : Type 0} (r : Result T E) (start so_far last mid new : List ℕ) → mid ≡ start ++ so_far → new ≡ (if is_ok r then mid ++ last else mid) → take (length start) new ≡ start
ends_kept (Ok x) start so_far last mid new is grown = kept_whole start (so_far ++ last) new (further start so_far last mid new is grown)
ends_kept (Err e) start so_far last mid new is grown = kept_whole start so_far new (grown ∙ is)
