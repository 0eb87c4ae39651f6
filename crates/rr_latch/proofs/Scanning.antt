-- Loops over the bits of pieces.
use Rattle.std.proofs.Common.{◌≡◌, ◌∙◌, sym, ap, subst, ℕ, ◌+◌, ◌<◌, ◌≤◌, inl, inr, Bool, true, false, cond, not, ◌&&◌, ◌||◌, List, [], ◌∷◌, ◌++◌, length, get_or, take, drop, refl, arith, length-drop, ◌-◌}
use Rattle.std.proofs.lemmas.List.{take_more, get_or-drop}
use Rattle.rr_expr.specs.declared.types.Bit.{Bit}
use Rattle.rr_flat.specs.Targets.{same_bit}
use Rattle.rr_named_bits.specs.declared.piece.Piece.{Piece}
use Rattle.rr_named_bits.specs.declared.piece.Reach.{Reach}
use Rattle.rr_named_bits.specs.declared.writes.Write.{Write}
use Rattle.rr_named_bits.specs.Lists.{covered, Grown, must, reaches}
use Rattle.rr_named_bits.specs.Pieces.{covers}
use Rattle.rr_named_bits.proofs.Growing.{must-push}
use Rattle.rr_latch.specs.Paths.{listed, Logged}
use Rattle.rr_latch.proofs.Logs.{and_true, listed-append, logged_none, logged_both}
use Rattle.rr_writers.proofs.Elements.{take_all}
use Rattle.rr_writers.proofs.Entries.{or_assoc, or_false, same_is}
use Rattle.rr_writers.proofs.Marking.{below, below_next, Ranged}
use Rattle.rr_writers.proofs.Reaching.{word_piece, first_words, next_word}

-- bits that are assigned

pub record Assigning (P : Bit → Bool) (old now : Bit → Bool) (start last : List Bit) : Type 0 where
  pub set : (b : Bit) → now b ≡ (old b || P b)
  pub log : Logged start last old now

pub assigning_none : (P : Bit → Bool) (f : Bit → Bool) (log : List Bit) → ((b : Bit) → P b ≡ false) → Assigning P f f log log
assigning_none P f log h = record { set = λ b. rw (h b) (sym (or_false (f b))); log = logged_none log f f (λ b. refl) }

keeps : (P f g : Bit → Bool) → ((b : Bit) → g b ≡ (f b || P b)) → (b : Bit) → f b ≡ true → g b ≡ true
keeps P f g h b e = h b ∙ ap (λ z. z || P b) e

pub assigning_more : (P Q R : Bit → Bool) (f g h : Bit → Bool) (a b c : List Bit) → ((x : Bit) → R x ≡ (P x || Q x)) → Assigning P f g a b → ((x : Bit) → h x ≡ (g x || Q x)) → Logged b c g h
    → Assigning R f h a c
assigning_more P Q R f g h a b c e m s l = record {
  set = λ x. s x ∙ (ap (λ z. z || Q x) (m.set x) ∙ (or_assoc (f x) (P x) (Q x) ∙ ap (λ z. f x || z) (sym (e x))));
  log = logged_both a b c f g h m.log l (keeps P f g m.set) (keeps Q g h s);
}

pub assigning_same : (P Q : Bit → Bool) (f g : Bit → Bool) (a b : List Bit) → ((x : Bit) → Q x ≡ P x) → Assigning P f g a b → Assigning Q f g a b
assigning_same P Q f g a b e m = record { set = λ x. m.set x ∙ ap (λ z. f x || z) (sym (e x)); log = m.log }

or_swap : (a b : Bool) → (a || b) ≡ (b || a)
or_swap true true = refl
or_swap true false = refl
or_swap false true = refl
or_swap false false = refl

-- the places of a piece in turn
pub assigning_next : (p : Piece) (low high place : ℕ) (f g h : Bit → Bool) (a b c : List Bit) → Ranged p low high → low ≤ place → place < high → Assigning (below p place) f g a b
    → ((x : Bit) → h x ≡ (g x || same_bit (record { signal = p.signal; place = place }) x)) → Logged b c g h → Assigning (below p (place + 1)) f h a c
assigning_next p low high place f g h a b c r l k m s t =
    assigning_more (below p place) (same_bit (record { signal = p.signal; place = place })) (below p (place + 1)) f g h a b c
    (λ x. below_next p low high place r l k x ∙ or_swap (same_bit (record { signal = p.signal; place = place }) x) (below p place x)) m s t

-- the words of a reach in turn
pub words_next : (r : Reach) (k : ℕ) (p : Piece) (f g h : Bit → Bool) (a b c : List Bit) → p ≡ word_piece r k → Assigning (reaches (first_words r k)) f g a b → ((x : Bit) → h x ≡ (g x || covers p x)) → Logged b c g h
    → Assigning (reaches (first_words r (k + 1))) f h a c
words_next r k p f g h a b c e m s t =
    assigning_more (reaches (first_words r k)) (covers p) (reaches (first_words r (k + 1))) f g h a b c (λ x. next_word r k x ∙ ap (λ z. reaches (first_words r k) x || covers z x) (sym e)) m s t

pub words_done : (r : Reach) (k : ℕ) (f g : Bit → Bool) (a b : List Bit) → k ≡ r.words → Assigning (reaches (first_words r k)) f g a b → Assigning (reaches r) f g a b
words_done r k f g a b e m =
    let F : ℕ → Type 0 = λ z. Assigning (reaches (first_words r z)) f g a b in
    subst F e m

-- the certain writes in turn
pub must_next : (ws : List Write) (w : Write) (f g h : Bit → Bool) (a b c : List Bit) → w.certain ≡ true → Assigning (must ws) f g a b → ((x : Bit) → h x ≡ (g x || reaches w.reach x)) → Logged b c g h
    → Assigning (must (ws ++ w ∷ [])) f h a c
must_next ws w f g h a b c e m s t =
    assigning_more (must ws) (reaches w.reach) (must (ws ++ w ∷ [])) f g h a b c (λ x. must-push ws w x ∙ ap (λ z. must ws x || (z && reaches w.reach x)) e) m s t

pub must_skip : (ws : List Write) (w : Write) (f g : Bit → Bool) (a b : List Bit) → w.certain ≡ false → Assigning (must ws) f g a b → Assigning (must (ws ++ w ∷ [])) f g a b
must_skip ws w f g a b e m =
    assigning_same (must ws) (must (ws ++ w ∷ [])) f g a b (λ x. must-push ws w x ∙ (ap (λ z. must ws x || (z && reaches w.reach x)) e ∙ or_false (must ws x))) m

-- the bits of a list in turn
pub listed_next : (bs : List Bit) (x : Bit) (f g h : Bit → Bool) (a b c : List Bit) → Assigning (listed bs) f g a b → ((y : Bit) → h y ≡ (g y || same_bit x y)) → Logged b c g h
    → Assigning (listed (bs ++ x ∷ [])) f h a c
unfolding listed
listed_next bs x f g h a b c m s t =
    assigning_more (listed bs) (same_bit x) (listed (bs ++ x ∷ [])) f g h a b c (λ y. listed-append bs (x ∷ []) y ∙ ap (λ z. listed bs y || z) (or_false (same_bit x y))) m s t

-- a bit is taken back

and_assoc : (a b c : Bool) → ((a && b) && c) ≡ (a && (b && c))
and_assoc true b c = refl
and_assoc false b c = refl

pub undo_none : (xs : List Bit) (n : ℕ) (f : Bit → Bool) (b : Bit) → f b ≡ (f b && not (listed (take (n - n) (drop n xs)) b))
unfolding listed
undo_none xs n f b =
    let z : n - n ≡ 0 = omega arith in
    let e : listed (take (n - n) (drop n xs)) b ≡ false = ap (λ k. listed (take k (drop n xs)) b) z ∙ ap (λ k. listed k b) (no_take (drop n xs)) in
    sym (ap (λ k. f b && not k) e ∙ and_true (f b))
  where
    no_take : (ys : List Bit) → take 0 ys ≡ []
    no_take [] = refl
    no_take (y ∷ ys) = refl

pub undo_more : (xs : List Bit) (start at : ℕ) (x : Bit) (f g h : Bit → Bool) → start ≤ at → at < length xs → x ≡ get_or xs at x → ((b : Bit) → g b ≡ (f b && not (listed (take (at - start) (drop start xs)) b)))
    → ((b : Bit) → h b ≡ cond (same_bit x b) false (g b)) → (b : Bit) → h b ≡ (f b && not (listed (take ((at + 1) - start) (drop start xs)) b))
unfolding listed
undo_more xs start at x f g h l m here e k b =
    let n : (at + 1) - start ≡ (at - start) + 1 = omega arith in
    let long : at - start < length (drop start xs) = omega (arith, length-drop start xs) in
    let place : start + (at - start) ≡ at = omega arith in
    let y : get_or (drop start xs) (at - start) x ≡ x = get_or-drop start xs (at - start) x ∙ (ap (λ z. get_or xs z x) place ∙ sym here) in
    let t : take ((at + 1) - start) (drop start xs) ≡ take (at - start) (drop start xs) ++ x ∷ [] =
    ap (λ z. take z (drop start xs)) n ∙ (take_more (drop start xs) (at - start) x long ∙ ap (λ z. take (at - start) (drop start xs) ++ z ∷ []) y) in
    let q : listed (take ((at + 1) - start) (drop start xs)) b ≡ (listed (take (at - start) (drop start xs)) b || (same_bit x b || false)) =
    ap (λ z. listed z b) t ∙ listed-append (take (at - start) (drop start xs)) (x ∷ []) b in
    k b ∙ (ap (λ z. cond (same_bit x b) false z) (e b) ∙ (go (same_bit x b) (f b) (listed (take (at - start) (drop start xs)) b) ∙ sym (ap (λ z. f b && not z) q)))
  where
    go : (s y o : Bool) → cond s false (y && not o) ≡ (y && not (o || (s || false)))
    go true true true = refl
    go true true false = refl
    go true false o = refl
    go false true true = refl
    go false true false = refl
    go false false o = refl

pub undo_done : (xs : List Bit) (start at : ℕ) (f g : Bit → Bool) → length xs ≤ at → start ≤ length xs → ((b : Bit) → g b ≡ (f b && not (listed (take (at - start) (drop start xs)) b)))
    → (b : Bit) → g b ≡ (f b && not (listed (drop start xs) b))
undo_done xs start at f g l m e b =
    let long : length (drop start xs) ≤ at - start = omega (arith, length-drop start xs) in
    e b ∙ ap (λ z. f b && not (listed z b)) (take_all (at - start) (drop start xs) long)

-- the bits of a list that are assigned

pub kept_more : (xs kept more : List Bit) (i : ℕ) (d : Bit) (f : Bit → Bool) → i < length xs → ((b : Bit) → listed kept b ≡ (listed (take i xs) b && f b)) → f (get_or xs i d) ≡ true → more ≡ kept ++ get_or xs i d ∷ []
    → (b : Bit) → listed more b ≡ (listed (take (i + 1) xs) b && f b)
unfolding listed
kept_more xs kept more i d f l e t m b =
    let x = get_or xs i d in
    ap (λ z. listed z b) m ∙ (listed-append kept (x ∷ []) b ∙ (ap (λ z. z || (same_bit x b || false)) (e b)
    ∙ (go (same_bit x b) refl ∙ sym (ap (λ z. listed z b && f b) (take_more xs i d l) ∙ ap (λ z. z && f b) (listed-append (take i xs) (x ∷ []) b)))))
  where
    go : (s : Bool) → same_bit (get_or xs i d) b ≡ s → ((listed (take i xs) b && f b) || (s || false)) ≡ ((listed (take i xs) b || (s || false)) && f b)
    go true h = let q : f b ≡ true = ap f (sym (same_is (get_or xs i d) b h)) ∙ t in rw q (here (listed (take i xs) b))
      where
        here : (o : Bool) → ((o && true) || true) ≡ ((o || true) && true)
        here true = refl
        here false = refl
    go false h = there (listed (take i xs) b) (f b)
      where
        there : (o y : Bool) → ((o && y) || false) ≡ ((o || false) && y)
        there true true = refl
        there true false = refl
        there false y = refl

pub kept_less : (xs kept : List Bit) (i : ℕ) (d : Bit) (f : Bit → Bool) → i < length xs → ((b : Bit) → listed kept b ≡ (listed (take i xs) b && f b)) → f (get_or xs i d) ≡ false
    → (b : Bit) → listed kept b ≡ (listed (take (i + 1) xs) b && f b)
unfolding listed
kept_less xs kept i d f l e t b =
    let x = get_or xs i d in
    e b ∙ (go (same_bit x b) refl ∙ sym (ap (λ z. listed z b && f b) (take_more xs i d l) ∙ ap (λ z. z && f b) (listed-append (take i xs) (x ∷ []) b)))
  where
    go : (s : Bool) → same_bit (get_or xs i d) b ≡ s → (listed (take i xs) b && f b) ≡ ((listed (take i xs) b || (s || false)) && f b)
    go true h = let q : f b ≡ false = ap f (sym (same_is (get_or xs i d) b h)) ∙ t in rw q (here (listed (take i xs) b))
      where
        here : (o : Bool) → (o && false) ≡ ((o || true) && false)
        here true = refl
        here false = refl
    go false h = ap (λ z. z && f b) (sym (or_false (listed (take i xs) b)))

-- a list that began empty has only the bits that were added

pub only_grown : (old new : List Reach) (P : Bit → Type 0) → old ≡ [] → Grown old new P → (b : Bit) → covered new b ≡ true → P b
unfolding covered
only_grown old new P e g b h = elim (g.only b h) [
  | inl k ↦ let bad : covered [] b ≡ true = ap (λ z. covered z b) (sym e) ∙ k in cc
  | inr k ↦ k
]
