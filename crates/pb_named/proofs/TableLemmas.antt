-- Names in a table, and their places.
use Rattle.std.proofs.Common.{All, take, get_or, ◌≡◌, ℕ, ◌+◌, ◌<◌, true, List, [], ◌∷◌, ◌++◌, map, length, arith, refl, ap, sym, ◌∙◌, subst, append-nil}
use Rattle.std.specs.Option.{unwrap_or}
use Rattle.std.specs.Prelude.{max}
use Rattle.std.specs.List.{flat_map, AllByRecursion}
use Rattle.std.specs.Str.{bytes_eq}
use Rattle.std.proofs.lemmas.List.{map-append, append_assoc, take_more, flat_map_more}
use Rattle.std.proofs.lemmas.Slice.Eq.{bytes_eq-Decides}
use Rattle.pb_base.specs.Firsts.{with_item, firsts_behind}
use Rattle.pb_named.specs.Names.{Name}
use Rattle.pb_named.specs.Names.Name.{index, free}
use Rattle.pb_named.specs.NamedProblems.{Table, table_of, greatest, free_in, term_names, names_of, all_names}
use Rattle.pb_named.specs.declared.named.NamedLit.{NamedLit}
use Rattle.pb_named.specs.NamedTerms.{NamedTerm}
use Rattle.pb_named.specs.declared.named.NamedStatement.{NamedStatement}
use Rattle.pb_named.specs.declared.named.NamedProblem.{NamedProblem}
use Rattle.std.proofs.lemmas.List.Elements.{All-nil, All-cons}
use Rattle.pb_named.specs.inner.Numbering.{noted, noted_all, place_in, places_from, IsKnown, IsTermKnown, AreKnown}
use Rattle.pb_named.proofs.Appends.{all-front, all-behind}
use Rattle.pb_named.proofs.FirstsLemmas.{with-longer, with-place, added-place}

-- all names noted make the table of the names
pub noted_all-is : (t : Table) (ns : List Name) → noted_all t ns ≡ record { numbered = max t.numbered (greatest ns); names = firsts_behind bytes_eq t.names (flat_map free_in ns) }
noted_all-is t [] = let none : t.numbered ≡ max t.numbered 0 = omega arith in λ i. record { numbered = none i; names = t.names }
noted_all-is t (index n ∷ ns) =
    let most : max (max t.numbered n) (greatest ns) ≡ max t.numbered (max n (greatest ns)) = omega arith in
    noted_all-is (noted t (index n)) ns ∙ (λ i. record { numbered = most i; names = firsts_behind bytes_eq t.names (flat_map free_in ns) })
noted_all-is t (free text ∷ ns) =
    let most : max t.numbered (greatest ns) ≡ max t.numbered (max 0 (greatest ns)) = omega arith in
    noted_all-is (noted t (free text)) ns ∙ (λ i. record { numbered = most i; names = firsts_behind bytes_eq (with_item bytes_eq t.names text) (flat_map free_in ns) })

pub noted_all-append : (t : Table) (ns more : List Name) → noted_all t (ns ++ more) ≡ noted_all (noted_all t ns) more
noted_all-append t [] more = refl
noted_all-append t (n ∷ ns) more = noted_all-append (noted t n) ns more

pub bytes_eq-refl : (xs : List ℕ) → bytes_eq xs xs ≡ true
bytes_eq-refl xs = (bytes_eq-Decides xs xs).1 refl

-- ---- the table has the names that were noted

known-more : (t : Table) (m n : Name) → IsKnown t n → IsKnown (noted t m) n
known-more t (index k) (index n) known = omega (arith, known)
known-more t (index k) (free x) known = known
known-more t (free text) (index n) known = known
known-more t (free text) (free x) known = omega (arith, known, with-longer bytes_eq t.names text, with-place bytes_eq t.names text x known)

known-all : (t : Table) (ms : List Name) (n : Name) → IsKnown t n → IsKnown (noted_all t ms) n
known-all t [] n known = known
known-all t (m ∷ ms) n known = known-all (noted t m) ms n (known-more t m n known)

known-new : (t : Table) (n : Name) → IsKnown (noted t n) n
known-new t (index n) = omega arith
known-new t (free text) = added-place bytes_eq bytes_eq-refl t.names text

pub all-known : (t : Table) (ns : List Name) → AllByRecursion (IsKnown (noted_all t ns)) ns
all-known t [] = tt
all-known t (n ∷ ns) = (known-all (noted t n) ns n (known-new t n), all-known (noted t n) ns)

-- ---- the places of names that were noted

place-stays : (t : Table) (m n : Name) → IsKnown t n → place_in (noted t m) n ≡ place_in t n
place-stays t m (index n) known = refl
place-stays t (index k) (free x) known = refl
place-stays t (free text) (free x) known = ap (λ (k : ℕ). k ∷ []) (with-place bytes_eq t.names text x known)

place-stays_all : (t : Table) (ms : List Name) (n : Name) → IsKnown t n → place_in (noted_all t ms) n ≡ place_in t n
place-stays_all t [] n known = refl
place-stays_all t (m ∷ ms) n known = place-stays_all (noted t m) ms n (known-more t m n known) ∙ place-stays t m n known

places-stay : (t : Table) (ns : List Name) → places_from t ns ≡ flat_map (place_in (noted_all t ns)) ns
places-stay t [] = refl
places-stay t (n ∷ ns) =
    ap (λ (ks : List ℕ). ks ++ places_from (noted t n) ns) (sym (place-stays_all (noted t n) ns n (known-new t n)))
    ∙ ap (λ (ks : List ℕ). place_in (noted_all (noted t n) ns) n ++ ks) (places-stay (noted t n) ns)

places_from-append : (t : Table) (ns more : List Name) → places_from t (ns ++ more) ≡ places_from t ns ++ places_from (noted_all t ns) more
places_from-append t [] more = refl
places_from-append t (n ∷ ns) more =
    ap (λ (ks : List ℕ). place_in (noted t n) n ++ ks) (places_from-append (noted t n) ns more)
    ∙ sym (append_assoc (place_in (noted t n) n) (places_from (noted t n) ns) (places_from (noted_all (noted t n) ns) more))

-- ---- loops

-- from t and ks, noting the names made u and ls
abbrev pub Notes : Table → List ℕ → List Name → Table → List ℕ → Type 0
Notes t ks ns u ls = (u ≡ noted_all t ns) × (ls ≡ ks ++ places_from t ns)

-- one name
pub notes-one : (t u : Table) (ks ls : List ℕ) (n : Name) → u ≡ noted t n → ls ≡ ks ++ place_in (noted t n) n → Notes t ks (n ∷ []) u ls
notes-one t u ks ls n adds places = (adds, places ∙ ap (λ (w : List ℕ). ks ++ w) (sym (append-nil (place_in (noted t n) n))))

notes-more : (t u v : Table) (ks ls ms : List ℕ) (ns more : List Name) → Notes t ks ns u ls → Notes u ls more v ms → Notes t ks (ns ++ more) v ms
notes-more t u v ks ls ms ns more (noted, placed) (adds, places) = (
  adds ∙ ap (λ (w : Table). noted_all w more) noted ∙ sym (noted_all-append t ns more),
  places
      ∙ ap (λ (w : List ℕ). w ++ places_from u more) placed
      ∙ append_assoc ks (places_from t ns) (places_from u more)
      ∙ ap (λ (w : Table). ks ++ (places_from t ns ++ places_from w more)) noted
      ∙ ap (λ (w : List ℕ). ks ++ w) (sym (places_from-append t ns more)),
)

pub notes-lit_more : (t u v : Table) (ks ls ms : List ℕ) (xs : List NamedLit) (i : ℕ) (x : NamedLit) → i < length xs → x ≡ get_or xs i x → Notes t ks (map (λ l. l.name) (take i xs)) u ls → Notes u ls (x.name ∷ []) v ms → Notes t ks (map (λ l. l.name) (take (i + 1) xs)) v ms
notes-lit_more t u v ks ls ms xs i x inside item before adds =
    let more : take (i + 1) xs ≡ take i xs ++ x ∷ [] = take_more xs i x inside ∙ ap (λ (y : NamedLit). take i xs ++ y ∷ []) (sym item) in
    let names : map (λ l. l.name) (take (i + 1) xs) ≡ map (λ l. l.name) (take i xs) ++ x.name ∷ [] = ap (map (λ l. l.name)) more ∙ map-append (λ (l : NamedLit). l.name) (take i xs) (x ∷ []) in
    subst (λ (ns : List Name). Notes t ks ns v ms) (sym names) (notes-more t u v ks ls ms (map (λ l. l.name) (take i xs)) (x.name ∷ []) before adds)

pub notes-item_more : {X : Type 0} (g : X → List Name) (t u v : Table) (ks ls ms : List ℕ) (xs : List X) (i : ℕ) (x : X) → i < length xs → x ≡ get_or xs i x → Notes t ks (flat_map g (take i xs)) u ls → Notes u ls (g x) v ms → Notes t ks (flat_map g (take (i + 1) xs)) v ms
notes-item_more {X} g t u v ks ls ms xs i x inside item before adds =
    let more : take (i + 1) xs ≡ take i xs ++ x ∷ [] = take_more xs i x inside ∙ ap (λ (y : X). take i xs ++ y ∷ []) (sym item) in
    let names : flat_map g (take (i + 1) xs) ≡ flat_map g (take i xs) ++ g x = ap (flat_map g) more ∙ sym (flat_map_more g [] (take i xs) x) in
    subst (λ (ns : List Name). Notes t ks ns v ms) (sym names) (notes-more t u v ks ls ms (flat_map g (take i xs)) (g x) before adds)

-- the first literal's name, and those of the others
pub notes-term : (t u v : Table) (ks ls ms : List ℕ) (n : NamedTerm) (l : NamedLit) (more : List NamedLit) → l ≡ n.lit → more ≡ n.more → Notes t ks (l.name ∷ []) u ls → Notes u ls (map (λ m. m.name) more) v ms → Notes t ks (term_names n) v ms
notes-term t u v ks ls ms n l more first_is more_is first rest =
    subst (λ (w : NamedLit). Notes t ks (w.name ∷ map (λ m. m.name) n.more) v ms) first_is
    (subst (λ (w : List NamedLit). Notes t ks (l.name ∷ map (λ m. m.name) w) v ms) more_is (notes-more t u v ks ls ms (l.name ∷ []) (map (λ m. m.name) more) first rest))

abbrev pub statement_names : NamedStatement → List Name
statement_names s = names_of s.terms

-- noting the names of the statements that are left makes the same as noting those of all did
pub record NotesLeft (t : Table) (ks : List ℕ) (all : List NamedStatement) (u : Table) (ls : List ℕ) (left : List NamedStatement) : Type 0 where
  pub noted : noted_all u (flat_map statement_names left) ≡ noted_all t (flat_map statement_names all)
  pub placed : ls ++ places_from u (flat_map statement_names left) ≡ ks ++ places_from t (flat_map statement_names all)

-- one statement less is left
pub notes-left : (t u v : Table) (ks ls ms : List ℕ) (all left rest : List NamedStatement) (s : NamedStatement) → NotesLeft t ks all u ls left → left ≡ s ∷ rest → v ≡ noted_all u (names_of s.terms) → ms ≡ ls ++ places_from u (names_of s.terms) → NotesLeft t ks all v ms rest
notes-left t u v ks ls ms all left rest s before is noted placed =
    let more = flat_map statement_names rest in
    record {
      noted = ap (λ (w : Table). noted_all w more) noted ∙ sym (noted_all-append u (names_of s.terms) more) ∙ sym (ap (λ (ss : List NamedStatement). noted_all u (flat_map statement_names ss)) is) ∙ before.noted;
      placed = (λ i. placed i ++ places_from (noted i) more)
          ∙ append_assoc ls (places_from u (names_of s.terms)) (places_from (noted_all u (names_of s.terms)) more)
          ∙ ap (λ (w : List ℕ). ls ++ w) (sym (places_from-append u (names_of s.terms) more))
          ∙ sym (ap (λ (ss : List NamedStatement). ls ++ places_from u (flat_map statement_names ss)) is)
          ∙ before.placed;
    }

-- the same of terms
pub record TermsNotedLeft (t : Table) (ks : List ℕ) (all : List NamedTerm) (u : Table) (ls : List ℕ) (left : List NamedTerm) : Type 0 where
  pub noted : noted_all u (names_of left) ≡ noted_all t (names_of all)
  pub placed : ls ++ places_from u (names_of left) ≡ ks ++ places_from t (names_of all)

-- one term less is left
pub notes-term_left : (t u v : Table) (ks ls ms : List ℕ) (all left rest : List NamedTerm) (n : NamedTerm) → TermsNotedLeft t ks all u ls left → left ≡ n ∷ rest → v ≡ noted_all u (term_names n) → ms ≡ ls ++ places_from u (term_names n) → TermsNotedLeft t ks all v ms rest
notes-term_left t u v ks ls ms all left rest n before is noted placed =
    let more = names_of rest in
    record {
      noted = ap (λ (w : Table). noted_all w more) noted ∙ sym (noted_all-append u (term_names n) more) ∙ sym (ap (λ (ns : List NamedTerm). noted_all u (names_of ns)) is) ∙ before.noted;
      placed = (λ i. placed i ++ places_from (noted i) more)
          ∙ append_assoc ls (places_from u (term_names n)) (places_from (noted_all u (term_names n)) more)
          ∙ ap (λ (w : List ℕ). ls ++ w) (sym (places_from-append u (term_names n) more))
          ∙ sym (ap (λ (ns : List NamedTerm). ls ++ places_from u (names_of ns)) is)
          ∙ before.placed;
    }

-- ---- the table of a problem

abbrev empty : ℕ → Table
empty told = record { numbered = told; names = [] }

-- those of the objective, and then those of the statements
pub notes-problem : (p : NamedProblem) (s t u : Table) (js ks ls : List ℕ) (os : List NamedTerm) (ss : List NamedStatement) → os ≡ unwrap_or p.objective [] → ss ≡ p.statements → Notes s js (names_of os) t ks → Notes t ks (flat_map (λ s. names_of s.terms) ss) u ls → Notes s js (all_names p) u ls
notes-problem p s t u js ks ls os ss objective statements first rest =
    let names : names_of os ++ flat_map statement_names ss ≡ all_names p
    = ap (λ (ws : List NamedTerm). names_of ws ++ flat_map statement_names ss) objective ∙ ap (λ (ws : List NamedStatement). names_of (unwrap_or p.objective []) ++ flat_map statement_names ws) statements in
    subst (λ (ns : List Name). Notes s js ns u ls) names (notes-more s t u js ks ls (names_of os) (flat_map statement_names ss) first rest)

-- what is noted from nothing on is the table of the names, and their places in it
pub table-made : (told : ℕ) (ns : List Name) (s u : Table) (js ls : List ℕ) → s ≡ empty told → js ≡ [] → Notes s js ns u ls → (u ≡ table_of told ns) × (ls ≡ flat_map (place_in u) ns)
table-made told ns s u js ls starts none notes =
    let (noted, placed) : Notes (empty told) [] ns u ls
    = subst (λ (w : Table). Notes w [] ns u ls) starts (subst (λ (ws : List ℕ). Notes s ws ns u ls) none notes) in (
      noted ∙ noted_all-is (empty told) ns,
      placed ∙ places-stay (empty told) ns ∙ ap (λ (w : Table). flat_map (place_in w) ns) (sym noted),
    )

known-lits : (t : Table) (ls : List NamedLit) → AllByRecursion (IsKnown t) (map (λ l. l.name) ls) → All (λ l. IsKnown t l.name) ls
known-lits t [] h = All-nil (λ (l : NamedLit). IsKnown t l.name)
known-lits t (l ∷ ls) h = All-cons (λ (m : NamedLit). IsKnown t m.name) l ls h.0 (known-lits t ls h.1)

known-terms : (t : Table) (ts : List NamedTerm) → AllByRecursion (IsKnown t) (names_of ts) → AreKnown t ts
known-terms t [] h = All-nil (IsTermKnown t)
known-terms t (n ∷ ts) h =
    let more = map (λ (l : NamedLit). l.name) n.more in
    All-cons (IsTermKnown t) n ts (h.0, known-lits t n.more (all-front (IsKnown t) more (names_of ts) h.1)) (known-terms t ts (all-behind (IsKnown t) more (names_of ts) h.1))

known-statements : (t : Table) (ss : List NamedStatement) → AllByRecursion (IsKnown t) (flat_map statement_names ss) → All (λ s. AreKnown t s.terms) ss
known-statements t [] h = All-nil (λ (s : NamedStatement). AreKnown t s.terms)
known-statements t (s ∷ ss) h = All-cons (λ (r : NamedStatement). AreKnown t r.terms) s ss
    (known-terms t s.terms (all-front (IsKnown t) (names_of s.terms) (flat_map statement_names ss) h))
    (known-statements t ss (all-behind (IsKnown t) (names_of s.terms) (flat_map statement_names ss) h))

known-names : (told : ℕ) (p : NamedProblem) → AllByRecursion (IsKnown (table_of told (all_names p))) (all_names p)
known-names told p = subst (λ (t : Table). AllByRecursion (IsKnown t) (all_names p)) (noted_all-is (record { numbered = told; names = [] }) (all_names p)) (all-known (record { numbered = told; names = [] }) (all_names p))

pub known-objective : (told : ℕ) (p : NamedProblem) (t : Table) → t ≡ table_of told (all_names p) → AreKnown t (unwrap_or p.objective [])
known-objective told p t is = subst (λ (u : Table). AreKnown u (unwrap_or p.objective [])) (sym is)
    (known-terms (table_of told (all_names p)) (unwrap_or p.objective []) (all-front (IsKnown (table_of told (all_names p))) (names_of (unwrap_or p.objective [])) _ (known-names told p)))

pub known-all_statements : (told : ℕ) (p : NamedProblem) (t : Table) → t ≡ table_of told (all_names p) → All (λ s. AreKnown t s.terms) p.statements
known-all_statements told p t is = subst (λ (u : Table). All (λ (s : NamedStatement). AreKnown u s.terms) p.statements) (sym is)
    (known-statements (table_of told (all_names p)) p.statements (all-behind (IsKnown (table_of told (all_names p))) (names_of (unwrap_or p.objective [])) _ (known-names told p)))
