-- How the kinds of variables are noted.
use Rattle.std.proofs.Common.{◌≡◌, ◌∙◌, sym, ap, subst, ℕ, ◌+◌, ◌<◌, ◌≤◌, ◌⊎◌, inl, inr, Bool, true, false, not, cond, ◌&&◌, List, [], ◌∷◌, ◌++◌, length, map, take, drop, get_or, set, Option, None, Some, is_some, is_none, refl, append_assoc, append-nil}
use Rattle.std.specs.Prelude.{Result, OnOk}
use Rattle.std.specs.List.{list_any}
use Rattle.std.specs.Option.{option_or}
use Rattle.std.proofs.lemmas.Bool.{cases_eq, eqb-true, eq-eqb, ne_eqb, or_right}
use Rattle.std.proofs.lemmas.List.{drop_all, length-set, map-append, take-append-drop, take_all, take_more}
use Rattle.rr_flat.proofs.Lists.{rest}
use Rattle.rr_flat.specs.declared.design.Part as design
use Rattle.rr_flat.specs.Plain.{Block, Flat}
use Rattle.rr_flat.specs.Reads.{Assigned, assigned_by}
use Rattle.rr_flat.specs.Writers.{no_block}
use Rattle.rr_text_names.specs.View.{plain_target}
use Rattle.rr_text_names.specs.declared.lists.Target.{Target}
use Rattle.rr_assign.specs.View.{plain_aim}
use Rattle.rr_assign.specs.declared.kinds.Assignment.{Assignment}
use Rattle.rr_flat.specs.Parts.{block_of}
use Rattle.rr_text_names.specs.Names.{entry}
use Rattle.rr_text_names.specs.Firsts.{earliest}
use Rattle.rr_assign.specs.Kinds.{Aim, aim_of, aims_of_part, is_combinational, same_signal, differs, clashes, wrong_after, kind_fault, kind_of, HoldsKinds, AreNoted}
use Rattle.rr_text_names.proofs.Covering.{Member}
use Rattle.rr_assign.proofs.KindLaw.{AreFine, fine_nothing, fine_all, any_none}
use Rattle.rr_assign.proofs.Same.{entry_same, entry_other, some_same}
use Rattle.rr_text_names.proofs.Walks.{earliest_append, none_of, right_empty}

-- lists of targets, piece by piece

pub wrong_append : (before xs ys : List Aim) → wrong_after before (xs ++ ys) ≡ wrong_after before xs ++ wrong_after (before ++ xs) ys
unfolding wrong_after
wrong_append before [] ys = rw (append-nil before) refl
wrong_append before (x ∷ xs) ys =
    ap (λ z. cond (clashes before x) (x.token ∷ []) [] ++ z) (wrong_append (before ++ x ∷ []) xs ys ∙ ap (λ b. wrong_after (before ++ x ∷ []) xs ++ wrong_after b ys) (append_assoc before (x ∷ []) xs))
    ∙ sym (append_assoc (cond (clashes before x) (x.token ∷ []) []) (wrong_after (before ++ x ∷ []) xs) (wrong_after (before ++ (x ∷ xs)) ys))

pub wrong_one : (before : List Aim) (a : Aim) → clashes before a ≡ false → wrong_after before (a ∷ []) ≡ []
unfolding wrong_after
wrong_one before a h = rw h refl

pub wrong_here : (before rest : List Aim) (a : Aim) → clashes before a ≡ true → earliest (wrong_after before (a ∷ rest)) ≡ Some a.token
unfolding wrong_after earliest
wrong_here before rest a h = rw h refl

pub wrong_next : (before rest : List Aim) (a : Aim) → clashes before a ≡ false → wrong_after before (a ∷ rest) ≡ wrong_after (before ++ a ∷ []) rest
unfolding wrong_after
wrong_next before rest a h = rw h refl

-- what the table says

pub kind_none : (before : List Aim) (id : ℕ) → kind_of before id ≡ None → (b : Aim) → Member b before → same_signal b.signal (Some id) ≡ false
unfolding kind_of
kind_none [] id h b m = absurd m
kind_none (a ∷ rest) id h b m = go (same_signal a.signal (Some id)) refl h m (λ k n. kind_none rest id k b n)
  where
    go : (x : Bool) → same_signal a.signal (Some id) ≡ x → cond x (Some a.now) (kind_of rest id) ≡ None → (a ≡ b) ⊎ Member b rest
        → (kind_of rest id ≡ None → Member b rest → same_signal b.signal (Some id) ≡ false) → same_signal b.signal (Some id) ≡ false
    go true e k n rec = cc
    go false e k (inl q) rec = subst (λ z. same_signal z.signal (Some id) ≡ false) q e
    go false e k (inr n) rec = rec k n

pub kind_some : (before : List Aim) (id : ℕ) (now : Bool) → kind_of before id ≡ Some now → (b : Aim) × (Member b before × ((same_signal b.signal (Some id) ≡ true) × (b.now ≡ now)))
unfolding kind_of
kind_some [] id now h = cc
kind_some (a ∷ rest) id now h = go (same_signal a.signal (Some id)) refl h (λ k. kind_some rest id now k)
  where
    or_false : Option Bool → Bool
    or_false None = false
    or_false (Some b) = b

    go : (x : Bool) → same_signal a.signal (Some id) ≡ x → cond x (Some a.now) (kind_of rest id) ≡ Some now
        → (kind_of rest id ≡ Some now → (b : Aim) × (Member b rest × ((same_signal b.signal (Some id) ≡ true) × (b.now ≡ now))))
        → (b : Aim) × (Member b (a ∷ rest) × ((same_signal b.signal (Some id) ≡ true) × (b.now ≡ now)))
    go true e k rec = (a, (inl refl, (e, ap or_false k)))
    go false e k rec = let r = rec k in (r.0, (inr r.1.0, r.1.1))

kind_append : (before : List Aim) (a : Aim) (id : ℕ) → kind_of (before ++ a ∷ []) id ≡ option_or (kind_of before id) (cond (same_signal a.signal (Some id)) (Some a.now) None)
unfolding kind_of
kind_append [] a id = refl
kind_append (b ∷ rest) a id = go (same_signal b.signal (Some id)) (kind_append rest a id)
  where
    go : (x : Bool) → kind_of (rest ++ a ∷ []) id ≡ option_or (kind_of rest id) (cond (same_signal a.signal (Some id)) (Some a.now) None)
        → cond x (Some b.now) (kind_of (rest ++ a ∷ []) id) ≡ option_or (cond x (Some b.now) (kind_of rest id)) (cond (same_signal a.signal (Some id)) (Some a.now) None)
    go true h = refl
    go false h = h

-- a target that does not clash

abbrev Others : List Aim → Aim → Bool
Others before a = list_any (λ b. same_signal b.signal a.signal && differs b.now a.now) before

no_signal : (before : List Aim) (a : Aim) → a.signal ≡ None → Others before a ≡ false
no_signal before a h = any_none (λ b. same_signal b.signal a.signal && differs b.now a.now) before (λ b m. rw (h, none b.signal) refl)
  where
    none : (o : Option ℕ) → same_signal o None ≡ false
    none None = refl
    none (Some x) = refl

new_signal : (before : List Aim) (a : Aim) (id : ℕ) → a.signal ≡ Some id → kind_of before id ≡ None → Others before a ≡ false
new_signal before a id h k = any_none (λ b. same_signal b.signal a.signal && differs b.now a.now) before (λ b m. rw (h, kind_none before id k b m) refl)

differs_no : (x y : Bool) → differs x y ≡ false → x ≡ y
differs_no true true h = refl
differs_no true false h = cc
differs_no false true h = cc
differs_no false false h = refl

differs_self : (x : Bool) → differs x x ≡ false
differs_self true = refl
differs_self false = refl

same_some : (o : Option ℕ) (id : ℕ) → same_signal o (Some id) ≡ true → o ≡ Some id
same_some None id h = cc
same_some (Some x) id h = ap Some (eqb-true x id h)

old_signal : (before : List Aim) (a : Aim) (id : ℕ) → AreFine before → a.signal ≡ Some id → kind_of before id ≡ Some a.now → Others before a ≡ false
old_signal before a id f h k = any_none (λ b. same_signal b.signal a.signal && differs b.now a.now) before (λ b m. go b m (same_signal b.signal a.signal) refl)
  where
    first : (b : Aim) × (Member b before × ((same_signal b.signal (Some id) ≡ true) × (b.now ≡ a.now)))
    first = kind_some before id a.now k

    go : (b : Aim) → Member b before → (x : Bool) → same_signal b.signal a.signal ≡ x → (x && differs b.now a.now) ≡ false
    go b m false e = refl
    go b m true e =
        let at : b.signal ≡ Some id = same_some b.signal id (rw h at e) in
        let pair = f.pairs b first.0 m first.1.0 in
        let same : differs first.0.now b.now ≡ false = rw (at, same_some first.0.signal id first.1.1.0, eq-eqb id id refl) at pair in
        rw (sym (differs_no first.0.now b.now same) ∙ first.1.1.1) (differs_self a.now)

other_kind : (before : List Aim) (a : Aim) (id : ℕ) (now : Bool) → a.signal ≡ Some id → kind_of before id ≡ Some now → differs now a.now ≡ true → Others before a ≡ true
other_kind before a id now h k d = go before first.0 first.1.0 here
  where
    first : (b : Aim) × (Member b before × ((same_signal b.signal (Some id) ≡ true) × (b.now ≡ now)))
    first = kind_some before id now k

    here : (same_signal first.0.signal a.signal && differs first.0.now a.now) ≡ true
    here = rw (h, first.1.1.0, first.1.1.1) d

    go : (xs : List Aim) (b : Aim) → Member b xs → (same_signal b.signal a.signal && differs b.now a.now) ≡ true → list_any (λ b. same_signal b.signal a.signal && differs b.now a.now) xs ≡ true
    go [] b m e = absurd m
    go (x ∷ xs) b (inl q) e = rw (subst (λ z. (same_signal z.signal a.signal && differs z.now a.now) ≡ true) (sym q) e) refl
    go (x ∷ xs) b (inr m) e = or_right (same_signal x.signal a.signal && differs x.now a.now) (list_any (λ b. same_signal b.signal a.signal && differs b.now a.now) xs) (go xs b m e)

-- one target more

fine_of : (before : List Aim) (t : ℕ → Option Bool) → HoldsKinds before t → AreFine before
fine_of before t h = fine_all [] before fine_nothing h.right

right_more : (before : List Aim) (a : Aim) → wrong_after [] before ≡ [] → clashes before a ≡ false → wrong_after [] (before ++ a ∷ []) ≡ []
right_more before a h k = wrong_append [] before (a ∷ []) ∙ rw (h, wrong_one before a k) refl

pub kinds_kept : (before : List Aim) (a : Aim) (t : ℕ → Option Bool) → HoldsKinds before t → clashes before a ≡ false
    → ((id : ℕ) → a.signal ≡ Some id → kind_of before id ≡ Some a.now) → HoldsKinds (before ++ a ∷ []) t
kinds_kept before a t h k old = record { kinds = kinds; right = right_more before a h.right k }
  where
    kinds : (id : ℕ) → t id ≡ kind_of (before ++ a ∷ []) id
    kinds id = h.kinds id ∙ (go (same_signal a.signal (Some id)) refl ∙ sym (kind_append before a id))
      where
        or_none : (o : Option Bool) → o ≡ option_or o None
        or_none None = refl
        or_none (Some x) = refl

        go : (x : Bool) → same_signal a.signal (Some id) ≡ x → kind_of before id ≡ option_or (kind_of before id) (cond x (Some a.now) None)
        go false e = or_none (kind_of before id)
        go true e = rw (old id (same_some a.signal id e)) refl

pub kinds_added : (before : List Aim) (a : Aim) (id : ℕ) (t : List (Option Bool)) → HoldsKinds before (entry t) → clashes before a ≡ false → a.signal ≡ Some id
    → id < length t → kind_of before id ≡ None → HoldsKinds (before ++ a ∷ []) (entry (set t id (Some a.now)))
kinds_added before a id t h k s l none = record { kinds = kinds; right = right_more before a h.right k }
  where
    kinds : (x : ℕ) → entry (set t id (Some a.now)) x ≡ kind_of (before ++ a ∷ []) x
    kinds x = go (cases_eq x id)
      where
        go : (x ≡ id) ⊎ (x ≡ id → ⊥) → entry (set t id (Some a.now)) x ≡ kind_of (before ++ a ∷ []) x
        go (inl e) = rw (e, entry_same t id (Some a.now) l, kind_append before a id, none, s, eq-eqb id id refl) refl
        go (inr nay) = rw (entry_other t id x (Some a.now) nay, h.kinds x, kind_append before a x, s, ne_eqb id x (λ q. nay (sym q))) (keep (kind_of before x))
          where
            keep : (o : Option Bool) → o ≡ option_or o None
            keep None = refl
            keep (Some y) = refl

-- what is answered for targets

pub noted_fault : (before : List Aim) (a : Aim) (t : ℕ → Option Bool) → clashes before a ≡ true → AreNoted before (a ∷ []) t (Some a.token)
noted_fault before a t h = record {
  clean = λ e. cc;
  fault = λ at e. wrong_here before [] a h ∙ e;
}

pub noted_clean : (before targets : List Aim) (t : ℕ → Option Bool) → HoldsKinds (before ++ targets) t → AreNoted before targets t None
noted_clean before targets t h = record { clean = λ e. h; fault = λ at e. cc }

-- the cases of one target
pub alone_clashes : (before : List Aim) (a : Aim) → a.combinational ≡ true → a.now ≡ false → clashes before a ≡ true
alone_clashes before a h k = rw (h, k) refl

pub kind_clashes : (before : List Aim) (a : Aim) (id : ℕ) (now : Bool) → a.signal ≡ Some id → kind_of before id ≡ Some now → differs now a.now ≡ true → clashes before a ≡ true
kind_clashes before a id now h k d = or_right (a.combinational && not a.now) (Others before a) (other_kind before a id now h k d)

not_clashing : (before : List Aim) (a : Aim) → (a.combinational && not a.now) ≡ false → Others before a ≡ false → clashes before a ≡ false
not_clashing before a h k = rw (h, k) refl

pub noted_none : (before : List Aim) (a : Aim) (t : ℕ → Option Bool) → HoldsKinds before t → (a.combinational && not a.now) ≡ false → a.signal ≡ None → AreNoted before (a ∷ []) t None
noted_none before a t h alone s =
    noted_clean before (a ∷ []) t (kinds_kept before a t h (not_clashing before a alone (no_signal before a s)) (λ id e. let bad : None ≡ Some id = sym s ∙ e in cc))

pub noted_old : (before : List Aim) (a : Aim) (t : ℕ → Option Bool) (id : ℕ) → HoldsKinds before t → (a.combinational && not a.now) ≡ false → a.signal ≡ Some id → t id ≡ Some a.now
    → AreNoted before (a ∷ []) t None
noted_old before a t id h alone s e =
    let k : kind_of before id ≡ Some a.now = sym (h.kinds id) ∙ e in
    noted_clean before (a ∷ []) t (kinds_kept before a t h (not_clashing before a alone (old_signal before a id (fine_of before t h) s k))
    (λ x q. subst (λ z. kind_of before z ≡ Some a.now) (some_same id x (sym s ∙ q)) k))

pub noted_new : (before : List Aim) (a : Aim) (t : List (Option Bool)) (id : ℕ) → HoldsKinds before (entry t) → (a.combinational && not a.now) ≡ false → a.signal ≡ Some id → entry t id ≡ None
    → id < length t → AreNoted before (a ∷ []) (entry (set t id (Some a.now))) None
noted_new before a t id h alone s e l =
    let k : kind_of before id ≡ None = sym (h.kinds id) ∙ e in
    noted_clean before (a ∷ []) (entry (set t id (Some a.now))) (kinds_added before a id t h (not_clashing before a alone (new_signal before a id s k)) s l k)

pub noted_other : (before : List Aim) (a : Aim) (t : ℕ → Option Bool) (id : ℕ) (now : Bool) → HoldsKinds before t → a.signal ≡ Some id → t id ≡ Some now → differs now a.now ≡ true
    → AreNoted before (a ∷ []) t (Some a.token)
noted_other before a t id now h s e d = noted_fault before a t (kind_clashes before a id now s (sym (h.kinds id) ∙ e) d)

-- pieces

none_wrong : (before xs : List Aim) (t : ℕ → Option Bool) → HoldsKinds (before ++ xs) t → wrong_after before xs ≡ []
none_wrong before xs t h = right_empty (wrong_after [] before) (wrong_after before xs) (sym (wrong_append [] before xs) ∙ h.right)

pub noted_then : (before xs ys : List Aim) (s t : ℕ → Option Bool) (found : Option ℕ) → HoldsKinds (before ++ xs) s → AreNoted (before ++ xs) ys t found → AreNoted before (xs ++ ys) t found
noted_then before xs ys s t found h n = record {
  clean = λ e. subst (λ z. HoldsKinds z t) (append_assoc before xs ys) (n.clean e);
  fault = λ at e. ap earliest (wrong_append before xs ys ∙ ap (λ z. z ++ wrong_after (before ++ xs) ys) (none_wrong before xs s h)) ∙ n.fault at e;
}

pub noted_early : (before xs ys : List Aim) (t u : ℕ → Option Bool) (at : ℕ) → AreNoted before xs t (Some at) → AreNoted before (xs ++ ys) u (Some at)
noted_early before xs ys t u at n = record {
  clean = λ e. cc;
  fault = λ x e. ap earliest (wrong_append before xs ys) ∙ (hit (wrong_after before xs) (wrong_after (before ++ xs) ys) (n.fault at refl) ∙ e);
}
  where
    hit : (xs ys : List ℕ) → earliest xs ≡ Some at → earliest (xs ++ ys) ≡ Some at
    hit xs ys h = earliest_append xs ys ∙ ap (λ o. option_or o (earliest ys)) h

-- one target of a block, by what the table has of its variable

noted_at : (before : List Aim) (a : Aim) (t : List (Option Bool)) (id : ℕ) (o : Option Bool) → HoldsKinds before (entry t) → (a.combinational && not a.now) ≡ false → a.signal ≡ Some id → id < length t → entry t id ≡ o
    → AreNoted before (a ∷ []) (entry (cond (is_none o) (set t id (Some a.now)) t)) (kind_fault o a.now a.token)
noted_at before a t id None h alone s l e = noted_new before a t id h alone s e l
noted_at before a t id (Some kind) h alone s l e = go (differs kind a.now) refl
  where
    go : (b : Bool) → differs kind a.now ≡ b → AreNoted before (a ∷ []) (entry t) (cond b (Some a.token) None)
    go true d = noted_other before a (entry t) id kind h s e d
    go false d = noted_old before a (entry t) id h alone s (e ∙ ap Some (differs_no kind a.now d))

pub noted_signal : (before : List Aim) (a : Aim) (t next : List (Option Bool)) (id : ℕ) (found : Option ℕ) → HoldsKinds before (entry t) → (a.combinational && not a.now) ≡ false → a.signal ≡ Some id → id < length t
    → next ≡ cond (is_none (entry t id)) (set t id (Some a.now)) t → found ≡ kind_fault (entry t id) a.now a.token → AreNoted before (a ∷ []) (entry next) found
noted_signal before a t next id found h alone s l n f = rw (n, f) (noted_at before a t id (entry t id) h alone s l refl)

pub kinds_size : (t next : List (Option Bool)) (id : ℕ) (b : Bool) (o : Option Bool) → next ≡ cond b (set t id o) t → length next ≡ length t
kinds_size t next id b o e = rw e (go b)
  where
    go : (b : Bool) → length (cond b (set t id o) t) ≡ length t
    go true = length-set t id o
    go false = refl

-- all of them

pub kinds_step : {X : Type 0} (f : X → Aim) (xs : List X) (i : ℕ) (d : X) (t : ℕ → Option Bool) (found : Option ℕ) → i < length xs → is_some found ≡ false
    → AreNoted (map f (take i xs)) (f (get_or xs i d) ∷ []) t found → HoldsKinds (map f (take (i + 1) xs)) t
kinds_step f xs i d t found l e n = subst (λ z. HoldsKinds z t) (sym (ap (map f) (take_more xs i d l) ∙ map-append f (take i xs) (get_or xs i d ∷ []))) (n.clean (none_of found e))

pub kinds_hit : {X : Type 0} (f : X → Aim) (xs : List X) (i : ℕ) (d : X) (t : ℕ → Option Bool) (s : ℕ → Option Bool) (found : Option ℕ) → i < length xs → is_some found ≡ true
    → HoldsKinds (map f (take i xs)) s → AreNoted (map f (take i xs)) (f (get_or xs i d) ∷ []) t found → found ≡ earliest (wrong_after [] (map f xs))
kinds_hit f xs i d t s None l e h n = cc
kinds_hit f xs i d t s (Some at) l e h n = sym (ap (λ z. earliest (wrong_after [] z)) whole ∙ noted.fault at refl)
  where
    before : List Aim
    before = map f (take i xs)

    later : List Aim
    later = map f (drop (i + 1) xs)

    noted : AreNoted [] ((before ++ f (get_or xs i d) ∷ []) ++ later) t (Some at)
    noted = noted_early [] (before ++ f (get_or xs i d) ∷ []) later t t at (noted_then [] before (f (get_or xs i d) ∷ []) s t (Some at) h n)

    whole : map f xs ≡ (before ++ f (get_or xs i d) ∷ []) ++ later
    whole =
        ap (map f) (sym (take-append-drop i xs))
        ∙ (map-append f (take i xs) (drop i xs) ∙ (ap (λ z. before ++ map f z) (rest xs i d l) ∙ sym (append_assoc before (f (get_or xs i d) ∷ []) later)))

pub kinds_done : {X : Type 0} (f : X → Aim) (xs : List X) (i : ℕ) (t : ℕ → Option Bool) → length xs ≤ i → HoldsKinds (map f (take i xs)) t → None ≡ earliest (wrong_after [] (map f xs))
unfolding earliest
kinds_done f xs i t l h = let right : wrong_after [] (map f xs) ≡ [] = subst (λ z. wrong_after [] (map f z) ≡ []) (take_all i xs l) h.right in rw right refl

pub noted_late : (before : List Aim) (a : Aim) (t : ℕ → Option Bool) (token : ℕ) → (a.combinational && not a.now) ≡ true → token ≡ a.token → AreNoted before (a ∷ []) t (Some token)
noted_late before a t token h e = rw e (noted_fault before a t (rw h refl))

pub nothing_held : (t : ℕ → Option Bool) → ((id : ℕ) → t id ≡ None) → HoldsKinds [] t
unfolding kind_of wrong_after
nothing_held t h = record { kinds = h; right = refl }

-- the targets of blocks, one by one

pub targets_more : (flat : Flat) (scope : ℕ) (combinational : Bool) (list next : List Assignment) (x : Assignment) (xs : List Target) (i : ℕ) (d : Target) → i < length xs → next ≡ list ++ x ∷ []
    → plain_aim flat x ≡ aim_of flat scope combinational (plain_target (get_or xs i d))
    → map (plain_aim flat) next ++ map (aim_of flat scope combinational) (map plain_target (drop (i + 1) xs)) ≡ map (plain_aim flat) list ++ map (aim_of flat scope combinational) (map plain_target (drop i xs))
targets_more flat scope combinational list next x xs i d l e same =
    ap (λ z. map (plain_aim flat) z ++ later) e
    ∙ (ap (λ z. z ++ later) (map-append (plain_aim flat) list (x ∷ []))
    ∙ (append_assoc (map (plain_aim flat) list) (plain_aim flat x ∷ []) later
    ∙ (ap (λ z. map (plain_aim flat) list ++ z ∷ later) same ∙ ap (λ z. map (plain_aim flat) list ++ map (aim_of flat scope combinational) (map plain_target z)) (sym (rest xs i d l)))))
  where
    later : List Aim
    later = map (aim_of flat scope combinational) (map plain_target (drop (i + 1) xs))

pub targets_done : (flat : Flat) (scope : ℕ) (combinational : Bool) (list : List Assignment) (xs : List Target) (i : ℕ) → length xs ≤ i
    → map (plain_aim flat) list ≡ map (plain_aim flat) list ++ map (aim_of flat scope combinational) (map plain_target (drop i xs))
targets_done flat scope combinational list xs i l = rw (drop_all i xs l) (sym (append-nil (map (plain_aim flat) list)))

pub no_aims : (flat : Flat) (xs : List Aim) (p : design.Part) → block_of flat p ≡ no_block → xs ≡ xs ++ aims_of_part flat p
unfolding assigned_by
no_aims flat xs p e = sym (ap (λ z. xs ++ map (aim_of flat z.scope (is_combinational p)) (assigned_by z.body)) e ∙ append-nil xs)

pub part_aims : {T E : Type 0} (flat : Flat) (r : Result T E) (new old : List Aim) (p : design.Part) (b : Block) (combinational : Bool) (ts : List Assigned) → b ≡ block_of flat p → combinational ≡ is_combinational p
    → ts ≡ assigned_by b.body → OnOk r (new ≡ old ++ map (aim_of flat b.scope combinational) ts) → OnOk r (new ≡ old ++ aims_of_part flat p)
part_aims flat r new old p b combinational ts e f g h = subst (λ z. OnOk r (new ≡ old ++ z)) all h
  where
    all : map (aim_of flat b.scope combinational) ts ≡ aims_of_part flat p
    all =
        ap (map (aim_of flat b.scope combinational)) g
        ∙ (ap (λ z. map (aim_of flat b.scope z) (assigned_by b.body)) f ∙ ap (λ z. map (aim_of flat z.scope (is_combinational p)) (assigned_by z.body)) e)

-- the same, of an element that is one of the list
pub kinds_step_of : {X : Type 0} (f : X → Aim) (xs : List X) (i : ℕ) (x d : X) (t : ℕ → Option Bool) (found : Option ℕ) → i < length xs → x ≡ get_or xs i d → is_some found ≡ false
    → AreNoted (map f (take i xs)) (f x ∷ []) t found → HoldsKinds (map f (take (i + 1) xs)) t
kinds_step_of f xs i x d t found l is e n = kinds_step f xs i d t found l e (subst (λ z. AreNoted (map f (take i xs)) (f z ∷ []) t found) is n)

pub kinds_hit_of : {X : Type 0} (f : X → Aim) (xs : List X) (i : ℕ) (x d : X) (t : ℕ → Option Bool) (s : ℕ → Option Bool) (found : Option ℕ) → i < length xs → x ≡ get_or xs i d → is_some found ≡ true
    → HoldsKinds (map f (take i xs)) s → AreNoted (map f (take i xs)) (f x ∷ []) t found → found ≡ earliest (wrong_after [] (map f xs))
kinds_hit_of f xs i x d t s found l is e h n = kinds_hit f xs i d t s found l e h (subst (λ z. AreNoted (map f (take i xs)) (f z ∷ []) t found) is n)
