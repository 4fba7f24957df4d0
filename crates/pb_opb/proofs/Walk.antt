-- The reader along a text: what it took are the tokens before what is left.
use Rattle.std.proofs.Common.{◌≡◌, ℕ, ◌-◌, ◌≤◌, ◌==◌, true, false, List, [], ◌∷◌, ◌++◌, length, take, sym, refl, ap, ◌∙◌, subst, arith, append_assoc, append-nil}
use Rattle.std.proofs.lemmas.List.{length-append, nil_from_length, take-append-drop, take_at}
use Rattle.std.proofs.lemmas.Bool.Decides.{nat_tests}
use Rattle.pb_base.specs.declared.place.Place.{Place}
use Rattle.pb_base.specs.Places.{start, along, end_from, end_of}
use Rattle.pb_base.specs.Tokens.{Piece, uncommented, tokens_from, tokens_of}
use Rattle.pb_base.specs.inner.Scans.{run_len, BeginsToken}
use Rattle.pb_opb.specs.declared.fault.Refusal.{Refusal}
use Rattle.pb_opb.specs.declared.reader.Reader.{Reader}
use Rattle.pb_opb.specs.Faults.{IsAdmitted}
use Rattle.pb_opb.specs.Grammar.{Kind, kind_of}
use Rattle.pb_opb.specs.reader.Front.{IsRead, read_kinds}
use Rattle.pb_opb.specs.reader.Heads.{Skips, behind, token_at}
use Rattle.pb_opb.specs.reader.Takes.{Refuses, Took, IsTokenFault, fault_at}
use Rattle.pb_opb.proofs.Gaps.{end_from-append, end_of-token}
use Rattle.pb_opb.proofs.Heads.{head-cut}
use Rattle.pb_opb.proofs.Reading.{piece_kinds, read-more, fault-at_token}

-- the reader took the tokens of the text before what is left
pub record Stands (text : List ℕ) (r : Reader) (left : List ℕ) : Type 0 where
  pub gone : List ℕ
  pub before : List Piece
  pub cut : text ≡ gone ++ left
  pub tokens : tokens_of text ≡ before ++ tokens_from (end_of gone) (uncommented left)
  pub kinds : read_kinds r ≡ piece_kinds before
  pub read : IsRead r
  pub front : BeginsToken left

pub stands-first : (text left : List ℕ) (r : Reader) → Skips text left → BeginsToken left → IsRead r → read_kinds r ≡ [] → Stands text r left
stands-first text left r skips front read none = record {
  gone = skips.gap;
  before = [];
  cut = skips.cut;
  tokens = sym (skips.tokens start);
  kinds = none;
  read = read;
  front = front;
}

end-token : (p : Place) (left : List ℕ) → 1 ≤ length left → BeginsToken left → end_from p (token_at left) ≡ along (run_len left) p
end-token p [] some front = absurd (omega arith)
end-token p (b ∷ rest) some front = end_of-token p b rest front.0

module _ (text : List ℕ) (r : Reader) (left : List ℕ) (stands : Stands text r left) (some : 1 ≤ length left) where
  abbrev pub here : Place
  here = end_of stands.gone

  abbrev pub piece : Piece
  piece = record { place = here; text = token_at left }

  abbrev pub ahead : List Piece
  ahead = tokens_from (along (run_len left) here) (uncommented (behind left))

  tokens-here : tokens_of text ≡ stands.before ++ piece ∷ ahead
  tokens-here = stands.tokens ∙ ap (λ (ts : List Piece). stands.before ++ ts) (head-cut here left some stands.front)

  -- where the text was left, as the code finds it
  pub place-is : end_of (take (length text - length left) text) ≡ here
  place-is =
      let long : length text - length left ≡ length stands.gone = omega (arith, ap length stands.cut, length-append stands.gone left) in
      ap (λ (n : ℕ). end_of (take n text)) long
      ∙ ap (λ (t : List ℕ). end_of (take (length stands.gone) t)) stands.cut
      ∙ ap end_of (take_at stands.gone left (length stands.gone) refl)

  pub stands-fault : (refusal : Refusal) → IsAdmitted text → Refuses (read_kinds r) (kind_of (token_at left)) refusal → IsTokenFault text (fault_at here refusal)
  stands-fault refusal admitted refused =
      fault-at_token text stands.before ahead piece refusal admitted tokens-here
      (subst (λ (ks : List Kind). Refuses ks (kind_of (token_at left)) refusal) stands.kinds refused)

  pub stands-next : (s : Reader) (rest next : List ℕ) → Took r s (kind_of (token_at left)) → rest ≡ behind left → Skips rest next → BeginsToken next → Stands text s next
  stands-next s rest next took rest_is skips front =
      let passed = token_at left ++ skips.gap in
      let parts : left ≡ passed ++ next =
      sym (take-append-drop (run_len left) left) ∙ ap (λ (l : List ℕ). token_at left ++ l) (sym rest_is ∙ skips.cut) ∙ sym (append_assoc (token_at left) skips.gap next) in
      let end : end_of (stands.gone ++ passed) ≡ end_from (along (run_len left) here) skips.gap =
      end_from-append start stands.gone passed ∙ end_from-append here (token_at left) skips.gap
      ∙ ap (λ (p : Place). end_from p skips.gap) (end-token here left some stands.front) in
      let further : ahead ≡ tokens_from (end_of (stands.gone ++ passed)) (uncommented next) =
      ap (λ (l : List ℕ). tokens_from (along (run_len left) here) (uncommented l)) (sym rest_is)
      ∙ sym (skips.tokens (along (run_len left) here))
      ∙ ap (λ (p : Place). tokens_from p (uncommented next)) (sym end) in
      record {
        gone = stands.gone ++ passed;
        before = stands.before ++ piece ∷ [];
        cut = stands.cut ∙ ap (λ (l : List ℕ). stands.gone ++ l) parts ∙ sym (append_assoc stands.gone passed next);
        tokens = tokens-here ∙ ap (λ (ts : List Piece). stands.before ++ piece ∷ ts) further ∙ sym (append_assoc stands.before (piece ∷ []) (tokens_from (end_of (stands.gone ++ passed)) (uncommented next)));
        kinds = took.kinds ∙ ap (λ (ks : List Kind). ks ++ kind_of (token_at left) ∷ []) stands.kinds ∙ sym (read-more stands.before piece);
        read = took.read;
        front = front;
      }

-- a list with no element, and one with some
pub some-left : (n : ℕ) → (n == 0) ≡ false → 1 ≤ n
some-left n some = grind (arith, nat_tests)

none-left : (n : ℕ) → (n == 0) ≡ true → n ≡ 0
none-left n none = grind (arith, nat_tests)

-- nothing is left
pub stands-end : (text : List ℕ) (r : Reader) (left : List ℕ) (stands : Stands text r left) → (length left == 0) ≡ true → tokens_of text ≡ stands.before
stands-end text r left stands none =
    stands.tokens ∙ ap (λ (l : List ℕ). stands.before ++ tokens_from (end_of stands.gone) (uncommented l)) (nil_from_length left (none-left (length left) none)) ∙ append-nil stands.before
