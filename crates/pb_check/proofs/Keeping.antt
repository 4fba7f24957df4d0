-- The clauses that are kept are those that the CNF tells.
use Rattle.std.proofs.Common.{◌≡◌, ◌+◌, ℕ, Bool, true, false, List, [], ◌∷◌, ◌++◌, Option, Some, None, refl, sym, ap, ◌∙◌, subst}
use Rattle.std.specs.Prelude.{◌≢◌, if◌then◌else◌, IfSome}
use Rattle.std.proofs.lemmas.List.{append-nil, append_assoc}
use Rattle.pb_base.specs.declared.literal.Lit.{Lit}
use Rattle.pb_desk.specs.Desk.{DeskState}
use Rattle.pb_desk.specs.LineReading.{Knows}
use Rattle.pb_dimacs.specs.declared.head.CnfHead.{CnfHead}
use Rattle.pb_dimacs.specs.CnfReaders.{CnfReader, symbols_left}
use Rattle.pb_dimacs.specs.CnfSymbols.{CnfSymbol, Next, next_of}
use Rattle.pb_dimacs.specs.CnfSymbols.Next.{clause, nothing}
use Rattle.pb_dimacs.specs.Cursors.{GivesNext}
use Rattle.pb_dimacs.specs.CnfWhole.{told_from, with_clause}
use Rattle.pb_dimacs.proofs.FormLemmas.{told_clause, told_nothing}
use Rattle.pb_desk.proofs.ReadLemmas.{reads_begin, reads_weaker}
use Rattle.pb_steps.specs.declared.denied.Denied.{Denied}
use Rattle.pb_check.specs.declared.kept.CollectedClauses.{CollectedClauses}
use Rattle.pb_check.specs.declared.taking.Taken.{Taken}
use Rattle.pb_check.specs.declared.taking.Taken.TheVariants as taken
use Rattle.pb_check.specs.inner.Keeping.{with_next, Completes, Tells, Keeps, KeepsNext}

at_vars : (head : CnfHead) (vars left : ℕ) (symbols : List CnfSymbol) (next : Next) → head.vars ≡ vars → next_of vars left symbols ≡ next → next_of head.vars left symbols ≡ next
at_vars head vars left symbols next same is = ap (λ (n : ℕ). next_of n left symbols) same ∙ is

-- nothing is left: what is kept is all
pub ends : (k : CollectedClauses) (r : CnfReader) (text : List ℕ) → next_of r.vars r.left (symbols_left r text) ≡ nothing → Tells k r text k.clauses
ends k r text next wanted = record {
  later = [];
  all_are = sym (append-nil k.clauses);
  tells = λ head same. told_nothing head r.left (symbols_left r text) (at_vars head r.vars r.left (symbols_left r text) nothing same next);
}

-- nothing is left, here and there
stays : (k : CollectedClauses) (r r' : CnfReader) (text rest : List ℕ) (all : List (List Lit)) → r'.vars ≡ r.vars → r'.left ≡ r.left → next_of r.vars r.left (symbols_left r text) ≡ nothing → next_of r.vars r.left (symbols_left r' rest) ≡ nothing
    → Tells k r' rest all → Tells k r text all
stays k r r' text rest all vars left here there tells wanted =
    let later = tells wanted in
    record {
      later = later.later;
      all_are = later.all_are;
      tells = λ head same.
          told_nothing head r.left (symbols_left r text) (at_vars head r.vars r.left (symbols_left r text) nothing same here)
          ∙ sym (told_nothing head r.left (symbols_left r' rest) (at_vars head r.vars r.left (symbols_left r' rest) nothing same there))
          ∙ ap (λ (n : ℕ). told_from head n (symbols_left r' rest)) (sym left)
          ∙ later.tells head (same ∙ sym vars);
    }

abbrev longer : CollectedClauses → List Lit → CollectedClauses
longer k ls = record { wanted = k.wanted; clauses = k.clauses ++ ls ∷ [] }

with_some : (k : CollectedClauses) (ls : List Lit) → k.wanted ≡ true → with_next k (Some ls) ≡ longer k ls
with_some k ls wanted = ap (λ (b : Bool). if b then longer k ls else k) wanted

still_wanted : (k : CollectedClauses) (next : Option (List Lit)) → (with_next k next).wanted ≡ k.wanted
still_wanted k None = refl
still_wanted k (Some ls) = by_test k.wanted
  where
    by_test : (b : Bool) → (if b then longer k ls else k).wanted ≡ k.wanted
    by_test true = refl
    by_test false = refl

-- a clause was read and kept
grows : (k : CollectedClauses) (r r' : CnfReader) (text rest : List ℕ) (ls : List Lit) (all : List (List Lit)) → r'.vars ≡ r.vars → r'.left + 1 ≡ r.left → next_of r.vars r.left (symbols_left r text) ≡ clause ls (symbols_left r' rest)
    → Tells (with_next k (Some ls)) r' rest all → Tells k r text all
grows k r r' text rest ls all vars left next tells wanted =
    let later : Completes (longer k ls) r' rest all = subst (λ (x : CollectedClauses). Completes x r' rest all) (with_some k ls wanted) (tells (still_wanted k (Some ls) ∙ wanted)) in
    record {
      later = ls ∷ later.later;
      all_are = later.all_are ∙ append_assoc k.clauses (ls ∷ []) later.later;
      tells = λ head same.
          told_clause head r.left r'.left (symbols_left r text) (symbols_left r' rest) ls left (at_vars head r.vars r.left (symbols_left r text) (clause ls (symbols_left r' rest)) same next)
          ∙ ap (with_clause ls) (later.tells head (same ∙ sym vars));
    }

-- the next clause was read, and kept if there is one
pub keeps_next : (next : Option (List Lit)) (k k' : CollectedClauses) (r r' : CnfReader) (a b : DeskState) → GivesNext next r.vars r.left r.lines r.at r'.lines r'.at a b → IfSome next (λ _. r'.left + 1 ≡ r.left) → (next ≡ None → r'.left ≡ r.left) → r'.vars ≡ r.vars
    → k' ≡ with_next k next → KeepsNext taken.On k r k' r' a b
keeps_next None k k' r r' a b given count none vars is =
    reads_weaker r.lines.slot r.lines.ahead r'.lines.ahead a b (λ text rest. (next_of r.vars r.left (symbols_left r text) ≡ nothing) × (next_of r.vars r.left (symbols_left r' rest) ≡ nothing)) (Keeps taken.On k r k' r')
    (λ text rest p. (ap (λ (x : CollectedClauses). x.wanted) is, λ all tells. stays k r r' text rest all vars (none refl) p.0 p.1 (subst (λ (x : CollectedClauses). Tells x r' rest all) is tells))) given
keeps_next (Some ls) k k' r r' a b given count none vars is =
    reads_weaker r.lines.slot r.lines.ahead r'.lines.ahead a b (λ text rest. next_of r.vars r.left (symbols_left r text) ≡ clause ls (symbols_left r' rest)) (Keeps taken.On k r k' r')
    (λ text rest p. (ap (λ (x : CollectedClauses). x.wanted) is ∙ still_wanted k (Some ls), λ all tells. grows k r r' text rest ls all vars count p (subst (λ (x : CollectedClauses). Tells x r' rest all) is tells))) given

-- of a step that is denied nothing is asked
pub by_taken : (t : Taken) (k k' : CollectedClauses) (r r' : CnfReader) (a b : DeskState) → t ≢ taken.Last → KeepsNext taken.On k r k' r' a b → KeepsNext t k r k' r' a b
by_taken taken.On k k' r r' a b not_last reads = reads
by_taken taken.Last k k' r r' a b not_last reads = absurd (not_last refl)
by_taken (taken.Denied d) k k' r r' a b not_last reads = reads_weaker r.lines.slot r.lines.ahead r'.lines.ahead a b (Keeps taken.On k r k' r') (Keeps (taken.Denied d) k r k' r') (λ text rest p. tt) reads

-- at the end of the steps none is left
pub end_keeps : (next : Option (List Lit)) (r r' : CnfReader) (a b : DeskState) → next ≡ None → GivesNext next r.vars r.left r.lines r.at r'.lines r'.at a b → (k : CollectedClauses) → KeepsNext taken.Last k r k r' a b
end_keeps next r r' a b is given k =
    reads_weaker r.lines.slot r.lines.ahead r'.lines.ahead a b (λ text rest. (next_of r.vars r.left (symbols_left r text) ≡ nothing) × (next_of r.vars r.left (symbols_left r' rest) ≡ nothing)) (Keeps taken.Last k r k r')
    (λ text rest p. ends k r text p.0) (subst (λ (o : Option (List Lit)). GivesNext o r.vars r.left r.lines r.at r'.lines r'.at a b) is given)

-- one is left
pub left_keeps : (d : Denied) (next : Option (List Lit)) (ls : List Lit) (r r' : CnfReader) (a b : DeskState) → next ≡ Some ls → GivesNext next r.vars r.left r.lines r.at r'.lines r'.at a b → (k : CollectedClauses) → KeepsNext (taken.Denied d) k r k r' a b
left_keeps d next ls r r' a b is given k =
    reads_weaker r.lines.slot r.lines.ahead r'.lines.ahead a b (λ text rest. next_of r.vars r.left (symbols_left r text) ≡ clause ls (symbols_left r' rest)) (Keeps (taken.Denied d) k r k r') (λ text rest p. tt)
    (subst (λ (o : Option (List Lit)). GivesNext o r.vars r.left r.lines r.at r'.lines r'.at a b) is given)

-- a step that looks at no clause
pub rule_keeps : (t : Taken) (k : CollectedClauses) (r : CnfReader) (a : DeskState) → Knows r.lines.slot r.lines.ahead a → t ≢ taken.Last → KeepsNext t k r k r a a
rule_keeps t k r a knows not_last = by_taken t k k r r a a not_last (reads_begin r.lines.slot r.lines.ahead a (Keeps taken.On k r k r) knows (λ text. (refl, λ all tells. tells)))
