-- the bits that clocked blocks write, and masks
use Rattle.std.proofs.Common.{◌≡◌, ◌∙◌, sym, ap, ℕ, ◌+◌, ◌-◌, ◌^◌, ◌<◌, ◌≤◌, Bool, true, false, cond, not, ◌&&◌, ◌||◌, List, [], ◌∷◌, length, map, drop, get_or, set, nat_eq, nat_lt, refl, arith, ◌⊎◌, inl, inr}
use Rattle.std.proofs.lemmas.Bool.{cases_eq, cases_lt, eq-eqb, ne_eqb, lt-ltb, le-ltb}
use Rattle.std.proofs.lemmas.List.{drop_all, drop_more}
use Rattle.rr_bits.specs.Words.{word}
use Rattle.rr_bits.proofs.Places.{get_word, has_ones}
use Rattle.rr_syntax.specs.declared.tree.Stmt.{Stmt}
use Rattle.rr_syntax.specs.View.{plain_statement}
use Rattle.rr_expr.specs.declared.types.Bit.{Bit}
use Rattle.rr_expr.specs.Scopes.{Names, env_of}
use Rattle.rr_flat.specs.declared.design.Block.{Block}
use Rattle.rr_flat.specs.Plain.{Flat}
use Rattle.rr_flat.specs.Reads.{writes}
use Rattle.rr_flat.specs.View.{plain_block as block_view}
use Rattle.rr_flat.specs.Writers.{scope_at}
use Rattle.rr_cycle.specs.Performing.{any_writes}
use Rattle.rr_named_bits.specs.declared.piece.Piece.{Piece}
use Rattle.rr_named_bits.specs.declared.writes.Write.{Write}
use Rattle.rr_named_bits.specs.declared.piece.Reach.{Reach}
use Rattle.rr_named_bits.specs.Lists.{covered, may, reaches}
use Rattle.rr_named_bits.specs.Pieces.{covers}
use Rattle.rr_cycle.specs.Cycles.{zeros}
use Rattle.rr_cycle.specs.Exec.{Environment}
use Rattle.rr_writers.proofs.Reaching.{first_words, word_piece, no_words, next_word}
use Rattle.rr_exec.proofs.Pieces.{env_set}

or_assoc : (x y z : Bool) → ((x || y) || z) ≡ (x || (y || z))
or_assoc true y z = refl
or_assoc false y z = refl

or_false : (x : Bool) → (x || false) ≡ x
or_false true = refl
or_false false = refl

-- what a statement writes, of both kinds
abbrev pub both_kinds : Names → Stmt → Bit → Bool
both_kinds s t b = writes true s (plain_statement t) b || writes false s (plain_statement t) b

-- masks

-- the places of a piece become one
pub marked : (values : List ℕ) (p : Piece) (low high k : ℕ) (ones : List Bool) → ((b : Bit) → covers p b ≡ (nat_eq p.signal b.signal && (not (nat_lt b.place low) && nat_lt b.place high))) → low < high → length ones ≡ high - low →
    ((i : ℕ) → i < high - low → get_or ones i false ≡ true) →
    ((q : ℕ) → get_or (word 128 k) q false ≡ cond (not (nat_lt q low) && nat_lt q (low + length ones)) (get_or ones (q - low) false) (get_or (word 128 (get_or values p.signal 0)) q false)) →
    p.signal < length values → (b : Bit) → env_of (set values p.signal k) b ≡ (covers p b || env_of values b)
marked values p low high k ones cover l size all merge in' b = env_set values p.signal k b in' ∙ by (cases_eq p.signal b.signal)
  where
    above : low + length ones ≡ high
    above = omega (arith, size)

    by : ((p.signal ≡ b.signal) ⊎ (p.signal ≡ b.signal → ⊥)) → cond (nat_eq p.signal b.signal) (get_or (word 128 k) b.place false) (env_of values b) ≡ (covers p b || env_of values b)
    by (inl q) =
        ap (λ (t : Bool). cond t (get_or (word 128 k) b.place false) (env_of values b)) (eq-eqb p.signal b.signal q)
        ∙ (merge b.place ∙ inside (cases_lt b.place low) (cases_lt b.place high))
      where
        covered : covers p b ≡ (not (nat_lt b.place low) && nat_lt b.place high)
        covered = cover b ∙ rw (eq-eqb p.signal b.signal q) refl

        old : get_or (word 128 (get_or values p.signal 0)) b.place false ≡ env_of values b
        old = ap (λ (n : ℕ). get_or (word 128 (get_or values n 0)) b.place false) q

        inside : ((b.place < low) ⊎ (low ≤ b.place)) → ((b.place < high) ⊎ (high ≤ b.place)) →
            cond (not (nat_lt b.place low) && nat_lt b.place (low + length ones)) (get_or ones (b.place - low) false) (get_or (word 128 (get_or values p.signal 0)) b.place false) ≡ (covers p b || env_of values b)
        inside (inl u) v =
            let n : covers p b ≡ false = covered ∙ rw (lt-ltb b.place low u) refl in
            rw (lt-ltb b.place low u) (old ∙ sym (ap (λ (z : Bool). z || env_of values b) n))
        inside (inr u) (inl v) =
            let n : covers p b ≡ true = covered ∙ rw (le-ltb b.place low u, lt-ltb b.place high v) refl in
            rw (le-ltb b.place low u, above, lt-ltb b.place high v) (all (b.place - low) (omega arith) ∙ sym (ap (λ (z : Bool). z || env_of values b) n))
        inside (inr u) (inr v) =
            let n : covers p b ≡ false = covered ∙ rw (le-ltb b.place low u, le-ltb b.place high v) refl in
            rw (le-ltb b.place low u, above, le-ltb b.place high v) (old ∙ sym (ap (λ (z : Bool). z || env_of values b) n))
    by (inr q) =
        let n : covers p b ≡ false = cover b ∙ rw (ne_eqb p.signal b.signal q) refl in
        ap (λ (t : Bool). cond t (get_or (word 128 k) b.place false) (env_of values b)) (ne_eqb p.signal b.signal q) ∙ sym (ap (λ (z : Bool). z || env_of values b) n)

-- a loop over the words of a reach
pub words_none : (r : Reach) (old : Environment) (b : Bit) → old b ≡ (reaches (first_words r 0) b || old b)
words_none r old b = sym (ap (λ (z : Bool). z || old b) (no_words r b))

or_turn : (x y z : Bool) → (x || (y || z)) ≡ ((y || x) || z)
or_turn true true z = refl
or_turn true false z = refl
or_turn false true z = refl
or_turn false false z = refl

pub words_more : (r : Reach) (k : ℕ) (p : Piece) (old now new : Environment) → p ≡ word_piece r k → ((b : Bit) → now b ≡ (reaches (first_words r k) b || old b)) → ((b : Bit) → new b ≡ (covers p b || now b)) →
    (b : Bit) → new b ≡ (reaches (first_words r (k + 1)) b || old b)
words_more r k p old now new q h i b =
    i b ∙ ap (λ (z : Bool). covers p b || z) (h b)
    ∙ or_turn (covers p b) (reaches (first_words r k) b) (old b)
    ∙ ap (λ (z : Bool). z || old b) (ap (λ (t : Piece). reaches (first_words r k) b || covers t b) q ∙ sym (next_word r k b))

-- a loop over reaches: what is left to mark, or marked
pub marks_more : (rs : List Reach) (i : ℕ) (r d : Reach) (m n f : Bit → Bool) → i < length rs → r ≡ get_or rs i d → ((b : Bit) → (covered (drop i rs) b || m b) ≡ f b) → ((b : Bit) → n b ≡ (reaches r b || m b)) →
    (b : Bit) → (covered (drop (i + 1) rs) b || n b) ≡ f b
unfolding covered
marks_more rs i r d m n f l q h k b =
    ap (λ (z : Bool). covered (drop (i + 1) rs) b || z) (k b)
    ∙ or_turn (covered (drop (i + 1) rs) b) (reaches r b) (m b)
    ∙ ap (λ (vs : List Reach). covered vs b || m b) (sym (drop_more rs i d l ∙ ap (λ (v : Reach). v ∷ drop (i + 1) rs) (sym q)))
    ∙ h b

pub marks_done : (rs : List Reach) (i : ℕ) (m f : Bit → Bool) → length rs ≤ i → ((b : Bit) → (covered (drop i rs) b || m b) ≡ f b) → (b : Bit) → m b ≡ f b
unfolding covered
marks_done rs i m f l h b = ap (λ (vs : List Reach). covered vs b || m b) (sym (drop_all i rs l)) ∙ h b

-- blocks
pub blocks_more : (flat : Flat) (bs : List Block) (i : ℕ) (y : Block) (s : Names) (ms ns : List Write) (f : Bit → Bool) → i < length bs → s ≡ scope_at flat (get_or bs i y).scope →
    ((b : Bit) → (may ms b || any_writes flat (map block_view (drop i bs)) b) ≡ f b) → ((b : Bit) → may ns b ≡ (may ms b || both_kinds s (get_or bs i y).body.now b)) →
    (b : Bit) → (may ns b || any_writes flat (map block_view (drop (i + 1) bs)) b) ≡ f b
unfolding any_writes
blocks_more flat bs i y s ms ns f l q h k b =
    ap (λ (z : Bool). z || any_writes flat (map block_view (drop (i + 1) bs)) b) (k b ∙ ap (λ (t : Names). may ms b || both_kinds t (get_or bs i y).body.now b) q)
    ∙ or_assoc (may ms b) (both_kinds (scope_at flat (get_or bs i y).scope) (get_or bs i y).body.now b) (any_writes flat (map block_view (drop (i + 1) bs)) b)
    ∙ ap (λ (ys : List Block). may ms b || any_writes flat (map block_view ys) b) (sym (drop_more bs i y l))
    ∙ h b

pub blocks_done : (flat : Flat) (bs : List Block) (i : ℕ) (ms : List Write) (f : Bit → Bool) → length bs ≤ i → ((b : Bit) → (may ms b || any_writes flat (map block_view (drop i bs)) b) ≡ f b) → (b : Bit) → may ms b ≡ f b
unfolding any_writes
blocks_done flat bs i ms f l h b =
    sym (or_false (may ms b)) ∙ ap (λ (ys : List Block). may ms b || any_writes flat (map block_view ys) b) (sym (drop_all i bs l)) ∙ h b

pub no_writes_yet : (ms : List Write) (x : Bool) (b : Bit) → ms ≡ [] → (may ms b || x) ≡ x
unfolding may
no_writes_yet ms x b h = rw h refl

pub all_ones : (w i : ℕ) → w ≤ 128 → i < w → get_or (word w (2 ^ 128 - 1)) i false ≡ true
all_ones w i l m = get_word w (2 ^ 128 - 1) i false m ∙ has_ones 128 i ∙ lt-ltb i 128 (omega arith)

pub no_marks : (rs : List Reach) (e : Environment) (b : Bit) → e ≡ zeros → (covered rs b || e b) ≡ covered rs b
no_marks rs e b h = ap (λ (f : Environment). covered rs b || f b) h ∙ or_false (covered rs b)
