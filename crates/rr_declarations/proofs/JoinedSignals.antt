-- The signals of declarations, one after the other, and their numbers.
use Rattle.std.proofs.Common.{◌≡◌, ◌∙◌, sym, ap, ℕ, zero, suc, ◌+◌, ◌<◌, ◌≤◌, List, [], ◌∷◌, ◌++◌, length, map, drop, take, get_or, All, refl, arith, subst, append_assoc, append-nil, length-append}
use Rattle.std.proofs.lemmas.List.{drop_all, take_more, map-append}
use Rattle.rr_expr.specs.Scopes.{Names}
use Rattle.rr_flat.proofs.Lists.{rest}
use Rattle.rr_flat.specs.Signals.{with_name}
use Rattle.rr_flat.specs.Signals as plain
use Rattle.rr_flat.specs.Sound.{IsNamed}
use Rattle.rr_memory_words.specs.Words.{word_count}
use Rattle.rr_memory_words.proofs.Named.{named_words, words_long}
use Rattle.rr_declarations.specs.Declarations as declarations
use Rattle.rr_declarations.specs.Heads.{signals_of, entity_of, joined, with_signals}
use Rattle.rr_declarations.specs.Sound.{HasWords}
use Rattle.rr_declarations.specs.View.{plain_declared, plain_list}
use Rattle.rr_declarations.specs.declared.declare.Declared.{Declared}

-- one more, and no more

pub joined_more : (done : List plain.Signal) (list : List Declared) (i : ℕ) (d : Declared) → i < length list
    → (done ++ signals_of (plain_declared (get_or list i d))) ++ joined (plain_list (drop (i + 1) list)) ≡ done ++ joined (plain_list (drop i list))
unfolding joined
joined_more done list i d lt = rw (rest list i d lt) (append_assoc done (signals_of (plain_declared (get_or list i d))) (joined (plain_list (drop (i + 1) list))))

pub joined_done : (done : List plain.Signal) (list : List Declared) (i : ℕ) → length list ≤ i → done ++ joined (plain_list (drop i list)) ≡ done
unfolding joined
joined_done done list i le = rw (drop_all i list le) (append-nil done)

pub named_more : (list : List Declared) (i : ℕ) (d : Declared) (k : ℕ) (names : Names) → i < length list
    → with_signals (k + word_count (get_or list i d).words) (plain_list (drop (i + 1) list)) (with_name names (get_or list i d).signal.name.now (entity_of k (plain_declared (get_or list i d)))) ≡ with_signals k (plain_list (drop i list)) names
unfolding with_signals
named_more list i d k names lt = rw (rest list i d lt) refl

pub named_done : (list : List Declared) (i k : ℕ) (names : Names) → length list ≤ i → with_signals k (plain_list (drop i list)) names ≡ names
unfolding with_signals
named_done list i k names le = rw (drop_all i list le) refl

-- those before one, its own and those after it

joined_append : (xs ys : List declarations.Declared) → joined (xs ++ ys) ≡ joined xs ++ joined ys
unfolding joined
joined_append [] ys = refl
joined_append (x ∷ xs) ys = ap (λ zs. signals_of x ++ zs) (joined_append xs ys) ∙ sym (append_assoc (signals_of x) (joined xs) (joined ys))

-- as many as there are before a place
abbrev pub before : List Declared → ℕ → ℕ
before list i = length (joined (plain_list (take i list)))

pub before_none : (list : List Declared) → before list 0 ≡ 0
unfolding joined
before_none list = refl

joined_take : (list : List Declared) (i : ℕ) (d : Declared) → i < length list → joined (plain_list (take (i + 1) list)) ≡ joined (plain_list (take i list)) ++ signals_of (plain_declared (get_or list i d))
unfolding joined
joined_take list i d lt =
    ap (λ xs. joined (plain_list xs)) (take_more list i d lt)
    ∙ (ap joined (map-append plain_declared (take i list) (get_or list i d ∷ []))
    ∙ (joined_append (plain_list (take i list)) (plain_declared (get_or list i d) ∷ []) ∙ ap (λ zs. joined (plain_list (take i list)) ++ zs) (append-nil (signals_of (plain_declared (get_or list i d))))))

next_place : (list : List Declared) (i : ℕ) (d : Declared) → i < length list → before list (i + 1) ≡ before list i + word_count (get_or list i d).words
next_place list i d lt =
    ap length (joined_take list i d lt)
    ∙ (length-append (joined (plain_list (take i list))) (signals_of (plain_declared (get_or list i d)))
    ∙ ap (λ n. before list i + n) (words_long (plain_declared (get_or list i d)).signal (get_or list i d).words))

split_at : (list : List Declared) (i : ℕ) (d : Declared) → i < length list
    → joined (plain_list list) ≡ joined (plain_list (take i list)) ++ (signals_of (plain_declared (get_or list i d)) ++ joined (plain_list (drop (i + 1) list)))
unfolding joined
split_at [] i d lt = absurd (omega arith)
split_at (x ∷ xs) zero d lt = refl
split_at (x ∷ xs) (suc i) d lt =
    let on : suc i + 1 ≡ suc (i + 1) = omega arith in
    rw on
    (ap (λ zs. signals_of (plain_declared x) ++ zs) (split_at xs i d (omega arith))
    ∙ sym (append_assoc (signals_of (plain_declared x)) (joined (plain_list (take i xs))) (signals_of (plain_declared (get_or xs i d)) ++ joined (plain_list (drop (i + 1) xs)))))

-- there is room for the words of each

place_room : (list : List Declared) (i : ℕ) (d : Declared) → i < length list → before list i + word_count (get_or list i d).words ≤ length (joined (plain_list list))
place_room list i d lt =
    let x = plain_declared (get_or list i d) in
    let whole = ap length (split_at list i d lt) in
    let a = length-append (joined (plain_list (take i list))) (signals_of x ++ joined (plain_list (drop (i + 1) list))) in
    let b = length-append (signals_of x) (joined (plain_list (drop (i + 1) list))) in
    let c = words_long x.signal (get_or list i d).words in
    omega (arith, whole, a, b, c)

-- the number of the next signal after a declaration

pub next_id : (base id count i : ℕ) (list : List Declared) (d : Declared) → i < length list → id ≡ base + before list i → count ≡ word_count (get_or list i d).words → id + count ≡ base + before list (i + 1)
next_id base id count i list d lt e w = omega (arith, e, w, next_place list i d lt)

pub id_room : (base id count i : ℕ) (list : List Declared) (d : Declared) → i < length list → id ≡ base + before list i → count ≡ word_count (get_or list i d).words → id + count ≤ base + length (joined (plain_list list))
id_room base id count i list d lt e w = omega (arith, e, w, place_room list i d lt)

-- a name of the list stands for its signals
pub named_at : (base : ℕ) (list : List Declared) (i : ℕ) (d : Declared) (k : ℕ) → i < length list → HasWords (get_or list i d) → k ≡ base + before list i
    → IsNamed base (joined (plain_list list)) (entity_of k (plain_declared (get_or list i d)))
named_at base list i d k lt w e =
    let x = get_or list i d in
    subst (λ ss. IsNamed base ss (entity_of k (plain_declared x))) (sym (split_at list i d lt))
    (named_words base k (joined (plain_list (take i list))) (joined (plain_list (drop (i + 1) list))) x.signal x.words w e)
