-- Operations that are pushed one behind another. Lists and numbers alone.
use Rattle.std.proofs.Common.{◌≡◌, ◌≤◌, ◌<◌, ◌+◌, ◌-◌, ◌*◌, ◌∙◌, ℕ, zero, suc, Bool, cond, List, [], ◌∷◌, ◌++◌, pos, drop, get_or, length, refl, ap, sym, append-nil, append_assoc, arith}
use Rattle.std.specs.Prelude.{None, max, min}
use Rattle.std.specs.List.{range_with_len}
use Rattle.std.proofs.lemmas.Bool.{le-ltb, lt-ltb}
use Rattle.std.proofs.lemmas.Grind.{flat_map-append}
use Rattle.std.proofs.lemmas.List.{drop_all, drop_more, get_or_default}
use Rattle.std.proofs.lemmas.List.FromFn.{length-range_with_len}
use Rattle.pb_base.specs.declared.literal.Lit.{Lit}
use Rattle.pb_steps.specs.declared.op.PolOp.{PolOp}
use Rattle.pb_steps.specs.declared.op.PolOp.TheVariants.{Push, Axiom, Add, Mul}
use Rattle.pb_derive.specs.Justifications.{adding, push_and_add}
use Rattle.pb_family.specs.Fresh.{positive_of}
use Rattle.pb_family.proofs.Sequence.{range_more}
use Rattle.pb_diagram.specs.declared.node.Node.{Node}
use Rattle.pb_diagram.specs.Guards.{path, plus_path, plus_times, off_ops, off_sums, on_ops, on_sums, place_ops, place_sums}
use Rattle.pb_diagram.specs.inner.Tiers.{node_at, times_end}

abbrev Ops : Type 0
Ops = List PolOp

-- ---- one behind another

pub two_pushed : (start a b mid made : Ops) → mid ≡ start ++ a → made ≡ mid ++ b → made ≡ start ++ (a ++ b)
two_pushed start a b mid made h k = k ∙ ap (λ (os : Ops). os ++ b) h ∙ append_assoc start a b

pub three_pushed : (start a b c one two made : Ops) → one ≡ start ++ a → two ≡ one ++ b → made ≡ two ++ c → made ≡ start ++ (a ++ (b ++ c))
three_pushed start a b c one two made h k l = two_pushed start a (b ++ c) one made h (two_pushed one b c two made k l)

pub four_pushed : (start a b c d one two three made : Ops) → one ≡ start ++ a → two ≡ one ++ b → three ≡ two ++ c → made ≡ three ++ d → made ≡ start ++ (a ++ (b ++ (c ++ d)))
four_pushed start a b c d one two three made h k l m = two_pushed start a (b ++ (c ++ d)) one made h (three_pushed one b c d two three made k l m)

pub five_pushed : (start a b c d e one two three four made : Ops) → one ≡ start ++ a → two ≡ one ++ b → three ≡ two ++ c → four ≡ three ++ d → made ≡ four ++ e → made ≡ start ++ (a ++ (b ++ (c ++ (d ++ e))))
five_pushed start a b c d e one two three four made h k l m n = two_pushed start a (b ++ (c ++ (d ++ e))) one made h (four_pushed one b c d e two three four made k l m n)

-- ---- so many times

pub one_end : (n : ℕ) → n ≤ 1 → times_end n ≡ Add ∷ []
one_end zero le = refl
one_end (suc zero) le = refl
one_end (suc (suc n)) le = absurd (omega arith)

pub many_end : (n : ℕ) → 1 < n → times_end n ≡ Mul (pos n) ∷ Add ∷ []
many_end zero some = absurd (omega arith)
many_end (suc zero) some = absurd (omega arith)
many_end (suc (suc n)) some = refl

pub times_ended : (n : ℕ) (ops : Ops) → 1 ≤ n → ops ++ times_end n ≡ plus_times n ops
times_ended zero ops some = absurd (omega arith)
times_ended (suc zero) ops some = refl
times_ended (suc (suc n)) ops some = refl

pub times_pushed : (start ops mid made : Ops) (n : ℕ) → 1 ≤ n → mid ≡ start ++ ops → made ≡ mid ++ times_end n → made ≡ start ++ plus_times n ops
times_pushed start ops mid made n some h k = two_pushed start ops (times_end n) mid made h k ∙ ap (λ (os : Ops). start ++ os) (times_ended n ops some)

pub never_pushed : (start ops : Ops) (n : ℕ) → n ≡ 0 → start ≡ start ++ plus_times n ops
never_pushed start ops n none = sym (append-nil start) ∙ ap (λ (m : ℕ). start ++ plus_times m ops) (sym none)

-- ---- a path

adding_more : (ids : List ℕ) (id : ℕ) → 1 ≤ length ids → adding (ids ++ id ∷ []) ≡ adding ids ++ push_and_add id
adding_more [] id some = absurd (omega arith)
adding_more (x ∷ ids) id some = ap (λ (os : Ops). Push x ∷ os) (flat_map-append push_and_add ids (id ∷ []))

pub path_begun : (order i : ℕ) → path order i (i + 1) ≡ Push (order + i) ∷ []
path_begun order i = ap (λ (n : ℕ). adding (range_with_len (order + i) n)) (let e : i + 1 - i ≡ 1 = omega arith in e)

pub path_more : (order i j : ℕ) → i < j → path order i (j + 1) ≡ path order i j ++ Push (order + j) ∷ Add ∷ []
path_more order i j lt =
    let ids = range_with_len (order + i) (j - i) in
    ap (λ (n : ℕ). adding (range_with_len (order + i) n)) (let e : j + 1 - i ≡ suc (j - i) = omega (arith, lt) in e)
    ∙ (ap adding (sym (range_more (order + i) (j - i) (order + j) (omega (arith, lt)))) ∙ adding_more ids (order + j) (omega (arith, lt, length-range_with_len (order + i) (j - i))))

-- ---- a node's part of a sum over nodes, and what is left of it

-- what is pushed is the first part of what is left
pub part_pushed : (made part next left rest all : Ops) → next ≡ made ++ part → left ≡ part ++ rest → made ++ left ≡ all → next ++ rest ≡ all
part_pushed made part next left rest all h e so_far =
    ap (λ (os : Ops). os ++ rest) h ∙ (append_assoc made part rest ∙ (ap (λ (os : Ops). made ++ os) (sym e) ∙ so_far))

pub all_pushed : (made left all : Ops) → left ≡ [] → made ++ left ≡ all → made ≡ all
all_pushed made left all none so_far = sym (append-nil made) ∙ (ap (λ (os : Ops). made ++ os) (sym none) ∙ so_far)

pub nodes_left_from : (ns : List Node) (i : ℕ) → i < length ns → drop i ns ≡ node_at ns i ∷ drop (i + 1) ns
nodes_left_from ns i within = drop_more ns i (record { top = 0; off = None; on = None }) within

pub node_is : (ns : List Node) (i : ℕ) (n : Node) → i < length ns → n ≡ get_or ns i n → n ≡ node_at ns i
node_is ns i n within is = is ∙ get_or_default ns i n (record { top = 0; off = None; on = None }) within

pub node_at_is : (ns : List Node) (i : ℕ) → i < length ns → node_at ns i ≡ get_or ns i (node_at ns i)
node_at_is ns i within = get_or_default ns i (record { top = 0; off = None; on = None }) (node_at ns i) within

pub off_left : (q counts low i : ℕ) (ns : List Node) → i < length ns
    → off_sums q (counts + 2 * i) low (drop i ns)
    ≡ plus_times ((node_at ns i).top - low) (off_ops q (counts + 2 * i + 1) (node_at ns i)) ++ off_sums q (counts + 2 * (i + 1)) (node_at ns i).top (drop (i + 1) ns)
off_left q counts low i ns within =
    let n = node_at ns i in
    ap (off_sums q (counts + 2 * i) low) (nodes_left_from ns i within)
    ∙ ap (λ (c : ℕ). plus_times (n.top - low) (off_ops q (counts + 2 * i + 1) n) ++ off_sums q c n.top (drop (i + 1) ns)) (let e : counts + 2 * i + 2 ≡ counts + 2 * (i + 1) = omega arith in e)

-- a node's part where the literal is true
abbrev pub on_step_of : Lit → ℕ → ℕ → ℕ → ℕ → ℕ → ℕ → ℕ → Node → Ops
on_step_of l order own var counts i low top n =
    plus_times (min top own - low) (Axiom (positive_of (var + i)) ∷ []) ++ plus_times (top - max own low) (on_ops l order (counts + 2 * i + 1) n)

pub on_left : (l : Lit) (order own var counts low i : ℕ) (ns : List Node) → i < length ns
    → on_sums l order own (var + i) (counts + 2 * i) low (drop i ns)
    ≡ on_step_of l order own var counts i low (node_at ns i).top (node_at ns i) ++ on_sums l order own (var + (i + 1)) (counts + 2 * (i + 1)) (node_at ns i).top (drop (i + 1) ns)
on_left l order own var counts low i ns within =
    let n = node_at ns i in
    let here : Ops = plus_times (min n.top own - low) (Axiom (positive_of (var + i)) ∷ []) in
    let there : Ops = plus_times (n.top - max own low) (on_ops l order (counts + 2 * i + 1) n) in
    ap (on_sums l order own (var + i) (counts + 2 * i) low) (nodes_left_from ns i within)
    ∙ (ap (λ (v : ℕ). here ++ (there ++ on_sums l order own v (counts + 2 * i + 2) n.top (drop (i + 1) ns))) (let e : var + i + 1 ≡ var + (i + 1) = omega arith in e)
    ∙ (ap (λ (c : ℕ). here ++ (there ++ on_sums l order own (var + (i + 1)) c n.top (drop (i + 1) ns))) (let e : counts + 2 * i + 2 ≡ counts + 2 * (i + 1) = omega arith in e)
    ∙ sym (append_assoc here there (on_sums l order own (var + (i + 1)) (counts + 2 * (i + 1)) n.top (drop (i + 1) ns)))))

pub places_left : (reach : ℕ → ℕ) (order q last i : ℕ) (ns : List Node) → i < length ns
    → place_sums reach order q last i (drop i ns) ≡ plus_times ((node_at ns i).top - reach i) (place_ops order q last i) ++ place_sums reach order q last (i + 1) (drop (i + 1) ns)
places_left reach order q last i ns within = ap (place_sums reach order q last i) (nodes_left_from ns i within)

-- the same numbers are reached
pub places_same : (f g : ℕ → ℕ) (order q last j : ℕ) (ns : List Node) → ((k : ℕ) → f k ≡ g k) → place_sums f order q last j ns ≡ place_sums g order q last j ns
places_same f g order q last j [] same = refl
places_same f g order q last j (n ∷ ns) same =
    ap (λ (k : ℕ). plus_times (n.top - k) (place_ops order q last j) ++ place_sums f order q last (j + 1) ns) (same j)
    ∙ ap (λ (os : Ops). plus_times (n.top - g j) (place_ops order q last j) ++ os) (places_same f g order q last (j + 1) ns same)

pub off_done : (q counts low i : ℕ) (ns : List Node) → length ns ≤ i → off_sums q counts low (drop i ns) ≡ []
off_done q counts low i ns all = ap (off_sums q counts low) (drop_all i ns all)

pub on_done : (l : Lit) (order own var counts low i : ℕ) (ns : List Node) → length ns ≤ i → on_sums l order own var counts low (drop i ns) ≡ []
on_done l order own var counts low i ns all = ap (on_sums l order own var counts low) (drop_all i ns all)

pub places_done : (reach : ℕ → ℕ) (order q last i : ℕ) (ns : List Node) → length ns ≤ i → place_sums reach order q last i (drop i ns) ≡ []
places_done reach order q last i ns all = ap (place_sums reach order q last i) (drop_all i ns all)

pub off_begun : (q counts : ℕ) (ns : List Node) → off_sums q (counts + 2 * 0) 0 (drop 0 ns) ≡ off_sums q counts 0 ns
off_begun q counts ns = ap (λ (c : ℕ). off_sums q c 0 ns) (let e : counts + 2 * 0 ≡ counts = omega arith in e)

pub on_begun : (l : Lit) (order own var counts : ℕ) (ns : List Node) → on_sums l order own (var + 0) (counts + 2 * 0) 0 (drop 0 ns) ≡ on_sums l order own var counts 0 ns
on_begun l order own var counts ns =
    ap (λ (v : ℕ). on_sums l order own v (counts + 2 * 0) 0 ns) (let e : var + 0 ≡ var = omega arith in e)
    ∙ ap (λ (c : ℕ). on_sums l order own var c 0 ns) (let e : counts + 2 * 0 ≡ counts = omega arith in e)

-- ---- a path of no step, or of some

pub no_path : (start : Ops) (n order i j : ℕ) → j ≤ i → start ≡ start ++ plus_path n order i j
no_path start n order i j le = sym (append-nil start) ∙ ap (λ (b : Bool). start ++ cond b (plus_times n (path order i j)) []) (sym (le-ltb i j le))

pub some_path : (start : Ops) (n order i j : ℕ) → i < j → start ++ plus_times n (path order i j) ≡ start ++ plus_path n order i j
some_path start n order i j lt = ap (λ (b : Bool). start ++ cond b (plus_times n (path order i j)) []) (sym (lt-ltb i j lt))
