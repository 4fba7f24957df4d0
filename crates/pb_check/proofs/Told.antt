-- What a CNF that tells its clauses gives next.
use Rattle.std.proofs.Common.{◌≡◌, ◌-◌, ℕ, zero, suc, List, [], ◌∷◌, refl, ap, sym, ◌∙◌}
use Rattle.pb_base.specs.declared.literal.Lit.{Lit}
use Rattle.pb_dimacs.specs.declared.fault.CnfFault.{CnfFault}
use Rattle.pb_dimacs.specs.declared.head.CnfHead.{CnfHead}
use Rattle.pb_dimacs.specs.CnfSymbols.{CnfSymbol, Next, next_of}
use Rattle.pb_dimacs.specs.CnfSymbols.Next.{clause, nothing, refused}
use Rattle.pb_dimacs.specs.CnfWhole.{CnfTold, with_clause, told_by, told_from}
use Rattle.pb_dimacs.specs.CnfWhole.CnfTold.{says, refuses}
use Rattle.pb_dimacs.proofs.FormLemmas.{told_nothing, told_clause, told_refused}
use Rattle.pb_check.proofs.Accepted.{clause_counts}

pub no-refusal : (fault : CnfFault) (h : CnfHead) (cs : List (List Lit)) → refuses fault ≡ says h cs → ⊥
no-refusal fault h cs e = cc

-- what is told with a clause before it
record Behind (ls : List Lit) (t : CnfTold) (h : CnfHead) (cs : List (List Lit)) : Type 0 where
  pub others : List (List Lit)
  pub tells : t ≡ says h others
  pub whole : cs ≡ ls ∷ others

behind : (ls : List Lit) (t : CnfTold) (h : CnfHead) (cs : List (List Lit)) → with_clause ls t ≡ says h cs → Behind ls t h cs
behind ls (says g ds) h cs e = let heads : g ≡ h = cc in record { others = ds; tells = ap (λ (k : CnfHead). says k ds) heads; whole = cc }
behind ls (refuses fault) h cs e = absurd (no-refusal fault h cs e)

-- the p line is the one that is told
pub told_head : (head : CnfHead) (left : ℕ) (symbols : List CnfSymbol) (h : CnfHead) (cs : List (List Lit)) → told_from head left symbols ≡ says h cs → head ≡ h
told_head head zero symbols h cs e = by_next (next_of head.vars zero symbols) e where
  by_next : (n : Next) → told_by head (λ rest. says head []) n ≡ says h cs → head ≡ h
  by_next (clause ls rest) e = cc
  by_next nothing e = cc
  by_next (refused fault) e = absurd (no-refusal fault h cs e)
told_head head (suc left) symbols h cs e = by_next (next_of head.vars (suc left) symbols) e (λ rest. told_head head left rest h) where
  by_next : (n : Next) → told_by head (told_from head left) n ≡ says h cs → ((rest : List CnfSymbol) (ds : List (List Lit)) → told_from head left rest ≡ says h ds → head ≡ h) → head ≡ h
  by_next (clause ls rest) e ih = let b = behind ls (told_from head left rest) h cs e in ih rest b.others b.tells
  by_next nothing e ih = cc
  by_next (refused fault) e ih = absurd (no-refusal fault h cs e)

-- where no clause is told, none comes
pub told_end : (head : CnfHead) (left : ℕ) (symbols : List CnfSymbol) → told_from head left symbols ≡ says head [] → next_of head.vars left symbols ≡ nothing
told_end head left symbols e = by_next (next_of head.vars left symbols) refl where
  no_cons : (ls : List Lit) (cs : List (List Lit)) → [] ≡ ls ∷ cs → ⊥
  no_cons ls cs h = cc

  by_next : (n : Next) → next_of head.vars left symbols ≡ n → n ≡ nothing
  by_next (clause ls rest) is =
      let told = told_clause head left (left - 1) symbols rest ls (clause_counts head.vars left symbols ls rest is) is in
      let b = behind ls (told_from head (left - 1) rest) head [] (sym told ∙ e) in
      absurd (no_cons ls b.others b.whole)
  by_next nothing is = refl
  by_next (refused fault) is = absurd (no-refusal fault head [] (sym (told_refused head left symbols fault is) ∙ e))

-- the clause that comes, and what is told behind it
pub record Comes (head : CnfHead) (left : ℕ) (symbols : List CnfSymbol) (c : List Lit) (cs : List (List Lit)) : Type 0 where
  pub rest : List CnfSymbol
  pub next : next_of head.vars left symbols ≡ clause c rest
  pub tells : told_from head (left - 1) rest ≡ says head cs

pub told_next : (head : CnfHead) (left : ℕ) (symbols : List CnfSymbol) (c : List Lit) (cs : List (List Lit)) → told_from head left symbols ≡ says head (c ∷ cs) → Comes head left symbols c cs
told_next head left symbols c cs e = by_next (next_of head.vars left symbols) refl where
  same_first : (ls : List Lit) (others : List (List Lit)) → c ∷ cs ≡ ls ∷ others → ls ≡ c
  same_first ls others h = cc

  same_others : (ls : List Lit) (others : List (List Lit)) → c ∷ cs ≡ ls ∷ others → others ≡ cs
  same_others ls others h = cc

  by_next : (n : Next) → next_of head.vars left symbols ≡ n → Comes head left symbols c cs
  by_next (clause ls rest) is =
      let told = told_clause head left (left - 1) symbols rest ls (clause_counts head.vars left symbols ls rest is) is in
      let b = behind ls (told_from head (left - 1) rest) head (c ∷ cs) (sym told ∙ e) in
      record {
        rest = rest;
        next = is ∙ ap (λ (k : List Lit). clause k rest) (same_first ls b.others b.whole);
        tells = b.tells ∙ ap (says head) (same_others ls b.others b.whole);
      }
  by_next nothing is = let told = told_nothing head left symbols is in absurd (no_more (sym told ∙ e)) where
    no_more : says head [] ≡ says head (c ∷ cs) → ⊥
    no_more h = cc
  by_next (refused fault) is = absurd (no-refusal fault head (c ∷ cs) (sym (told_refused head left symbols fault is) ∙ e))
