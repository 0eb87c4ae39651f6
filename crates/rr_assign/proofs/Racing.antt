-- How the writers of variables are noted.
use Rattle.std.proofs.Common.{◌≡◌, ◌∙◌, sym, ap, subst, ℕ, ◌<◌, ◌⊎◌, inl, inr, Bool, true, false, not, cond, ◌&&◌, ◌||◌, List, [], ◌∷◌, ◌++◌, ◌+◌, ◌≤◌, zero, suc, length, map, take, drop, get_or, set, Option, None, Some, is_some, refl, arith, append_assoc, append-nil}
use Rattle.std.specs.Prelude.{flat_map, nat_eq}
use Rattle.std.specs.List.{list_any}
use Rattle.std.proofs.lemmas.Bool.{cases_eq, eq-eqb, ne_eqb}
use Rattle.std.proofs.lemmas.List.{drop_all, get_or_default, get_or-map, get_or-set_same, get_or-set_other, length-map, map-append, take_all, take_more}
use Rattle.rr_syntax.specs.Tree.{Identifier}
use Rattle.rr_syntax.specs.View.{plain_identifier}
use Rattle.rr_syntax.specs.declared.tree.Named.{Named}
use Rattle.rr_flat.proofs.Lists.{rest}
use Rattle.rr_flat.specs.Plain.{Block, Flat}
use Rattle.rr_flat.specs.Reads.{names_read}
use Rattle.rr_flat.specs.View.{plain_block}
use Rattle.rr_flat.specs.Writers.{block_at, no_block}
use Rattle.rr_flat.specs.declared.design.Block.{Block as DeclaredBlock}
use Rattle.rr_text_names.specs.Firsts.{earliest}
use Rattle.rr_text_names.proofs.Walks.{earliest_hit, earliest_skip}
use Rattle.rr_text_names.specs.Names.{variable_named}
use Rattle.rr_assign.specs.Races.{is_other, race_by, race_of, raced, raced_by, races_from, writer_table, writers_from, writers_of, HoldsWriters}
use Rattle.rr_assign.specs.declared.races.Writers.{Writers}
use Rattle.rr_assign.specs.declared.races.Writers.TheVariants.{Nobody, One, Several}

any_append : (p : ℕ × Option ℕ → Bool) (xs : List (ℕ × Option ℕ)) (w : ℕ × Option ℕ) → list_any p (xs ++ w ∷ []) ≡ (list_any p xs || p w)
any_append p [] w = go (p w)
  where
    go : (b : Bool) → (b || false) ≡ (false || b)
    go true = refl
    go false = refl
any_append p (x ∷ xs) w = go (p x) (any_append p xs w)
  where
    go : (b : Bool) → list_any p (xs ++ w ∷ []) ≡ (list_any p xs || p w) → (b || list_any p (xs ++ w ∷ [])) ≡ ((b || list_any p xs) || p w)
    go true h = refl
    go false h = h

or_none : (a : Bool) → a ≡ (a || false)
or_none true = refl
or_none false = refl

and_none : (a : Bool) → (a && false) ≡ false
and_none true = refl
and_none false = refl

pub writers_nothing : (t : List Writers) → ((id : ℕ) → writer_table t id ≡ Nobody) → HoldsWriters [] (writer_table t)
writers_nothing t h = record { raced = λ k id. ap (λ w. raced_by w k) (h id) }

-- a target that is assigned by `<=`, or of no variable
pub writers_kept : (ws : List (ℕ × Option ℕ)) (t : ℕ → Writers) (block : ℕ) → HoldsWriters ws t → HoldsWriters (ws ++ (block, None) ∷ []) t
writers_kept ws t block h = record {
  raced = λ k id. h.raced k id ∙ (or_none (raced ws k (Some id)) ∙ (ap (λ z. raced ws k (Some id) || z) (sym (and_none (not (nat_eq block k)))) ∙ sym (any_append (is_other k id) ws (block, None))));
}

pub writers_added : (ws : List (ℕ × Option ℕ)) (t : List Writers) (block id : ℕ) (w : Writers) → HoldsWriters ws (writer_table t) → id < length t
    → ((k : ℕ) → raced_by w k ≡ (raced_by (writer_table t id) k || not (nat_eq block k))) → HoldsWriters (ws ++ (block, Some id) ∷ []) (writer_table (set t id w))
writers_added ws t block id w h l grown = record { raced = all }
  where
    all : (k x : ℕ) → raced_by (writer_table (set t id w) x) k ≡ raced (ws ++ (block, Some id) ∷ []) k (Some x)
    all k x = go (cases_eq x id)
      where
        go : (x ≡ id) ⊎ (x ≡ id → ⊥) → raced_by (writer_table (set t id w) x) k ≡ raced (ws ++ (block, Some id) ∷ []) k (Some x)
        go (inl e) = subst (λ z. raced_by (writer_table (set t id w) z) k ≡ raced (ws ++ (block, Some id) ∷ []) k (Some z)) (sym e)
            (ap (λ z. raced_by z k) (get_or-set_same t id w Nobody l) ∙ (grown k
            ∙ (ap (λ z. z || not (nat_eq block k)) (h.raced k id) ∙ (ap (λ z. raced ws k (Some id) || z) (rw (eq-eqb id id refl) (and_true (not (nat_eq block k)))) ∙ sym (any_append (is_other k id) ws (block, Some id))))))
          where
            and_true : (b : Bool) → b ≡ (b && true)
            and_true true = refl
            and_true false = refl
        go (inr nay) =
            ap (λ z. raced_by z k) (get_or-set_other t id x w Nobody nay) ∙ (h.raced k x
            ∙ (or_none (raced ws k (Some x)) ∙ (ap (λ z. raced ws k (Some x) || z) (rw (ne_eqb id x (λ q. nay (sym q))) (sym (and_none (not (nat_eq block k))))) ∙ sym (any_append (is_other k x) ws (block, Some id)))))

-- one writer more

pub more_nobody : (block k : ℕ) → raced_by (One block) k ≡ (raced_by Nobody k || not (nat_eq block k))
more_nobody block k = refl

pub more_same : (j k : ℕ) → raced_by (One j) k ≡ (raced_by (One j) k || not (nat_eq j k))
more_same j k = go (nat_eq j k)
  where
    go : (b : Bool) → not b ≡ (not b || not b)
    go true = refl
    go false = refl

pub more_other : (j block k : ℕ) → (j ≡ block → ⊥) → raced_by Several k ≡ (raced_by (One j) k || not (nat_eq block k))
more_other j block k nay = go (cases_eq j k)
  where
    or_true : (b : Bool) → true ≡ (b || true)
    or_true true = refl
    or_true false = refl

    go : (j ≡ k) ⊎ (j ≡ k → ⊥) → true ≡ (not (nat_eq j k) || not (nat_eq block k))
    go (inl e) = rw (ne_eqb block k (λ q. nay (e ∙ sym q))) (or_true (not (nat_eq j k)))
    go (inr n) = rw (ne_eqb j k n) refl

pub more_several : (block k : ℕ) → raced_by Several k ≡ (raced_by Several k || not (nat_eq block k))
more_several block k = refl

-- the targets of a block, and the blocks

pub writers_step : {X : Type 0} (f : X → ℕ × Option ℕ) (ws : List (ℕ × Option ℕ)) (xs : List X) (i : ℕ) (d : X) (t : ℕ → Writers) (w : ℕ × Option ℕ) → i < length xs → w ≡ f (get_or xs i d)
    → HoldsWriters ((ws ++ map f (take i xs)) ++ w ∷ []) t → HoldsWriters (ws ++ map f (take (i + 1) xs)) t
writers_step f ws xs i d t w l e h =
    subst (λ z. HoldsWriters z t)
    (ap (λ z. (ws ++ map f (take i xs)) ++ z ∷ []) e
    ∙ (append_assoc ws (map f (take i xs)) (f (get_or xs i d) ∷ []) ∙ ap (λ z. ws ++ z) (sym (ap (map f) (take_more xs i d l) ∙ map-append f (take i xs) (get_or xs i d ∷ []))))) h

writers_more : (flat : Flat) (k : ℕ) (bs : List Block) (i : ℕ) → i < length bs → writers_from flat k (take (suc i) bs) ≡ writers_from flat k (take i bs) ++ writers_of flat (k + i) (block_at bs i)
unfolding writers_from
writers_more flat k [] i l = absurd (omega (arith, l))
writers_more flat k (b ∷ bs) zero l =
    let at : k + 0 ≡ k = omega arith in
    append-nil (writers_of flat k b) ∙ ap (λ z. writers_of flat z b) (sym at)
writers_more flat k (b ∷ bs) (suc i) l =
    let at : k + 1 + i ≡ k + suc i = omega arith in
    ap (λ z. writers_of flat k b ++ z) (writers_more flat (k + 1) bs i (omega (arith, l)) ∙ ap (λ z. writers_from flat (k + 1) (take i bs) ++ writers_of flat z (block_at bs i)) at)
    ∙ sym (append_assoc (writers_of flat k b) (writers_from flat (k + 1) (take i bs)) (writers_of flat (k + suc i) (block_at bs i)))

pub blocks_step : (flat : Flat) (ds : List DeclaredBlock) (i : ℕ) (d : DeclaredBlock) (t : ℕ → Writers) → i < length ds → HoldsWriters (writers_from flat 0 (take i (map plain_block ds)) ++ writers_of flat i (plain_block (get_or ds i d))) t
    → HoldsWriters (writers_from flat 0 (take (i + 1) (map plain_block ds))) t
blocks_step flat ds i d t l h =
    let size : length (map plain_block ds) ≡ length ds = length-map ds plain_block in
    let at : 0 + i ≡ i = omega arith in
    let b : block_at (map plain_block ds) i ≡ plain_block (get_or ds i d) = get_or-map plain_block ds i d no_block l in
    let more : suc i ≡ i + 1 = omega arith in
    subst (λ n. HoldsWriters (writers_from flat 0 (take n (map plain_block ds))) t) more (subst (λ z. HoldsWriters z t)
    (sym (writers_more flat 0 (map plain_block ds) i (omega (arith, l, size)) ∙ (ap (λ z. writers_from flat 0 (take i (map plain_block ds)) ++ writers_of flat z (block_at (map plain_block ds) i)) at
    ∙ ap (λ z. writers_from flat 0 (take i (map plain_block ds)) ++ writers_of flat i z) b))) h)

pub blocks_done : (flat : Flat) (ds : List DeclaredBlock) (i : ℕ) (t : ℕ → Writers) → flat.clocked ≡ map plain_block ds → length ds ≤ i → HoldsWriters (writers_from flat 0 (take i (map plain_block ds))) t
    → HoldsWriters (writers_from flat 0 flat.clocked) t
blocks_done flat ds i t e l h =
    let size : length (map plain_block ds) ≡ length ds = length-map ds plain_block in
    subst (λ z. HoldsWriters (writers_from flat 0 z) t) (take_all i (map plain_block ds) (omega (arith, l, size)) ∙ sym e) h

-- the races, block by block

races_at : (flat : Flat) (ws : List (ℕ × Option ℕ)) (ds : List DeclaredBlock) (i : ℕ) (d : DeclaredBlock) → i < length ds
    → races_from flat ws i (map plain_block (drop i ds)) ≡ flat_map (race_of flat ws i (plain_block (get_or ds i d)).scope) (names_read (plain_block (get_or ds i d)).body) ++ races_from flat ws (i + 1) (map plain_block (drop (i + 1) ds))
unfolding races_from
races_at flat ws ds i d l = rw (rest ds i d l) refl

pub races_skip : (flat : Flat) (ws : List (ℕ × Option ℕ)) (ds : List DeclaredBlock) (i : ℕ) (d : DeclaredBlock) (found : Option ℕ) → i < length ds
    → found ≡ earliest (flat_map (race_of flat ws i (plain_block (get_or ds i d)).scope) (names_read (plain_block (get_or ds i d)).body)) → is_some found ≡ false
    → earliest (races_from flat ws (i + 1) (map plain_block (drop (i + 1) ds))) ≡ earliest (races_from flat ws i (map plain_block (drop i ds)))
races_skip flat ws ds i d found l h e =
    sym (ap earliest (races_at flat ws ds i d l)
    ∙ earliest_skip (flat_map (race_of flat ws i (plain_block (get_or ds i d)).scope) (names_read (plain_block (get_or ds i d)).body)) (races_from flat ws (i + 1) (map plain_block (drop (i + 1) ds))) (ap is_some (sym h) ∙ e))

pub races_hit : (flat : Flat) (ws : List (ℕ × Option ℕ)) (ds : List DeclaredBlock) (i : ℕ) (d : DeclaredBlock) (found : Option ℕ) → i < length ds
    → found ≡ earliest (flat_map (race_of flat ws i (plain_block (get_or ds i d)).scope) (names_read (plain_block (get_or ds i d)).body)) → is_some found ≡ true
    → found ≡ earliest (races_from flat ws i (map plain_block (drop i ds)))
races_hit flat ws ds i d found l h e =
    h ∙ sym (ap earliest (races_at flat ws ds i d l)
    ∙ earliest_hit (flat_map (race_of flat ws i (plain_block (get_or ds i d)).scope) (names_read (plain_block (get_or ds i d)).body)) (races_from flat ws (i + 1) (map plain_block (drop (i + 1) ds))) (ap is_some (sym h) ∙ e))

pub races_done : (flat : Flat) (ws : List (ℕ × Option ℕ)) (ds : List DeclaredBlock) (i : ℕ) → length ds ≤ i → None ≡ earliest (races_from flat ws i (map plain_block (drop i ds)))
unfolding races_from earliest
races_done flat ws ds i l = rw (drop_all i ds l) refl

-- a name

pub race_tells : (flat : Flat) (ws : List (ℕ × Option ℕ)) (t : ℕ → Writers) (block i : ℕ) (n : Identifier) (o : Option ℕ) → HoldsWriters ws t → variable_named flat i n.text ≡ o
    → race_of flat ws block i n ≡ race_by t block o n.token
race_tells flat ws t block i n None h e = rw e refl
race_tells flat ws t block i n (Some id) h e = rw e (ap (λ z. cond z (n.token ∷ []) []) (sym (h.raced block id)))

pub race_none : (flat : Flat) (ws : List (ℕ × Option ℕ)) (t : ℕ → Writers) (block i : ℕ) (n : Named) → HoldsWriters ws t → None ≡ variable_named flat i n.name.now → None ≡ earliest (race_of flat ws block i (plain_identifier n))
unfolding earliest plain_identifier
race_none flat ws t block i n h e = ap earliest (sym (race_tells flat ws t block i (record { token = n.token; text = n.name.now }) None h (sym e)))

pub race_hit : (flat : Flat) (ws : List (ℕ × Option ℕ)) (t : List Writers) (block i id : ℕ) (d : Writers) (n : Named) → HoldsWriters ws (writer_table t) → Some id ≡ variable_named flat i n.name.now → id < length t
    → raced_by (get_or t id d) block ≡ true → Some n.token ≡ earliest (race_of flat ws block i (plain_identifier n))
unfolding earliest plain_identifier
race_hit flat ws t block i id d n h e l r =
    let told : raced_by (writer_table t id) block ≡ true = ap (λ z. raced_by z block) (get_or_default t id Nobody d l) ∙ r in
    ap earliest (sym (race_tells flat ws (writer_table t) block i (record { token = n.token; text = n.name.now }) (Some id) h (sym e) ∙ ap (λ z. cond z (n.token ∷ []) []) told))

pub race_miss : (flat : Flat) (ws : List (ℕ × Option ℕ)) (t : List Writers) (block i id : ℕ) (d : Writers) (n : Named) → HoldsWriters ws (writer_table t) → Some id ≡ variable_named flat i n.name.now → id < length t
    → raced_by (get_or t id d) block ≡ false → None ≡ earliest (race_of flat ws block i (plain_identifier n))
unfolding earliest plain_identifier
race_miss flat ws t block i id d n h e l r =
    let told : raced_by (writer_table t id) block ≡ false = ap (λ z. raced_by z block) (get_or_default t id Nobody d l) ∙ r in
    ap earliest (sym (race_tells flat ws (writer_table t) block i (record { token = n.token; text = n.name.now }) (Some id) h (sym e) ∙ ap (λ z. cond z (n.token ∷ []) []) told))

pub written_held : (ws : List (ℕ × Option ℕ)) (t next : List Writers) (block id : ℕ) (d w : Writers) → HoldsWriters ws (writer_table t) → id < length t → next ≡ set t id w
    → ((k : ℕ) → raced_by w k ≡ (raced_by (get_or t id d) k || not (nat_eq block k))) → HoldsWriters (ws ++ (block, Some id) ∷ []) (writer_table next)
written_held ws t next block id d w h l e grown =
    rw e (writers_added ws t block id w h l (λ k. grown k ∙ ap (λ z. raced_by z k || not (nat_eq block k)) (get_or_default t id d Nobody l)))

pub more_equal : (w : Writers) (j block k : ℕ) → w ≡ One j → j ≡ block → raced_by (One j) k ≡ (raced_by w k || not (nat_eq block k))
more_equal w j block k e h = subst (λ z. raced_by (One j) k ≡ (raced_by z k || not (nat_eq block k))) (sym e) (subst (λ z. raced_by (One j) k ≡ (raced_by (One j) k || not (nat_eq z k))) h (more_same j k))

pub more_apart : (w : Writers) (j block k : ℕ) → w ≡ One j → (j ≡ block → ⊥) → raced_by Several k ≡ (raced_by w k || not (nat_eq block k))
more_apart w j block k e nay = subst (λ z. raced_by Several k ≡ (raced_by z k || not (nat_eq block k))) (sym e) (more_other j block k nay)

pub map_map : {X Y Z : Type 0} (f : Y → Z) (g : X → Y) (xs : List X) → map (λ x. f (g x)) xs ≡ map f (map g xs)
map_map f g [] = refl
map_map f g (x ∷ xs) = ap (λ z. f (g x) ∷ z) (map_map f g xs)

pub writers_all : (ws : List (ℕ × Option ℕ)) {X Y : Type 0} (f : Y → ℕ × Option ℕ) (g : X → Y) (xs : List X) (i : ℕ) (t : ℕ → Writers) → length xs ≤ i → HoldsWriters (ws ++ map (λ x. f (g x)) (take i xs)) t
    → HoldsWriters (ws ++ map f (map g xs)) t
writers_all ws f g xs i t l h = subst (λ z. HoldsWriters (ws ++ z) t) (ap (map (λ x. f (g x))) (take_all i xs l) ∙ map_map f g xs) h
