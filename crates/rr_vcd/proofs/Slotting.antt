-- The bits of identifiers, change by change.
use Rattle.std.proofs.Common.{◌≡◌, ◌⊎◌, inl, inr, length, get_or, take, ◌∙◌, sym, ℕ, ◌+◌, ◌<◌, ◌≤◌, Bool, true, false, ◌==◌, cond, if◌then◌else◌, List, [], ◌∷◌, ◌++◌, map, Option, Some, None, option_map, Result, Ok, Err, is_some, refl, ap, subst, arith}
use Rattle.std.specs.Prelude.{IfSome, All, OnOk}
use Rattle.std.proofs.lemmas.List.{take_more}
use Rattle.std.proofs.lemmas.List.Elements.{All-nil, All-cons, All-append}
use Rattle.std.specs.Str.{bytes_eq}
use Rattle.std.specs.Map.{lookup as looked_up}
use Rattle.std.proofs.lemmas.Bool.Decides.{nat_tests}
use Rattle.indexmap.specs.IndexMap.{insert_entry}
use denote.Ref.{Bor}
use Rattle.rr_vcd_text.specs.Dump.{Told, Moment, Change}
use Rattle.rr_vcd_text.proofs.Rooming.{same_bytes, bytes_same}
use Rattle.rr_vcd.specs.declared.slots.Slot.{Slot}
use Rattle.rr_vcd.specs.Values.{cell_of}
use Rattle.rr_vcd.specs.Moments.{changed, last_change}
use Rattle.rr_vcd.specs.declared.probes.Probe.{Probe}
use Rattle.rr_vcd.specs.declared.probes.ClockProbe.{ClockProbe}
use Rattle.rr_vcd.specs.declared.probes.Probes.{Probes}
use Rattle.rr_vcd.specs.View.{slot_at, before_moment, unseen, IsSlot, AreSlots, IsWatched, Watches, WatchesClock, AreWatched, AreNarrow, plain_probe}
use Rattle.rr_vcd.proofs.Telling.{last_more}

-- an entry, with its key as its bytes
abbrev pub seen : Bor (List ℕ) × Slot → List ℕ × Slot
seen e = (e.0.now, e.1)

pub same_slot : (name : List ℕ) (es : List (Bor (List ℕ) × Slot)) → slot_at name (map seen es) ≡ looked_up (λ k. bytes_eq name k.now) es
unfolding slot_at
same_slot name [] = refl
same_slot name (e ∷ es) = ap (λ rest. cond (bytes_eq name e.0.now) (Some e.1) rest) (same_slot name es)

-- what is put at a key is found there, and all else as before
pub put_is : (key : Bor (List ℕ)) (x : Slot) (es : List (Bor (List ℕ) × Slot)) (t : List ℕ)
    → slot_at t (map seen (insert_entry (λ a b. bytes_eq a.now b.now) es key x)) ≡ (if bytes_eq t key.now then Some x else slot_at t (map seen es))
unfolding slot_at
put_is key x [] t = refl
put_is key x (e ∷ es) t = go (bytes_eq key.now e.0.now) refl (put_is key x es t)
  where
    exchange : (b c : Bool) (r : Option Slot) → (bytes_eq t e.0.now ≡ b) → (bytes_eq t key.now ≡ c) → bytes_eq key.now e.0.now ≡ false
        → (if b then Some e.1 else if c then Some x else r) ≡ (if c then Some x else if b then Some e.1 else r)
    exchange true true r p q n =
        let one : t ≡ e.0.now = same_bytes t e.0.now p in
        let two : t ≡ key.now = same_bytes t key.now q in
        let other : bytes_eq key.now e.0.now ≡ true = ap (λ z. bytes_eq z e.0.now) (sym two) ∙ p in
        cc
    exchange true false r p q n = refl
    exchange false true r p q n = refl
    exchange false false r p q n = refl

    go : (b : Bool) → bytes_eq key.now e.0.now ≡ b
        → slot_at t (map seen (insert_entry (λ a c. bytes_eq a.now c.now) es key x)) ≡ (if bytes_eq t key.now then Some x else slot_at t (map seen es))
        → slot_at t (map seen (insert_entry (λ a c. bytes_eq a.now c.now) (e ∷ es) key x)) ≡ (if bytes_eq t key.now then Some x else slot_at t (map seen (e ∷ es)))
    go true h rec =
        let same : key.now ≡ e.0.now = same_bytes key.now e.0.now h in
        rw h (subst (λ z. (if bytes_eq t e.0.now then Some x else slot_at t (map seen es)) ≡ (if bytes_eq t z then Some x else if bytes_eq t e.0.now then Some e.1 else slot_at t (map seen es))) (sym same)
        (both (bytes_eq t e.0.now)))
      where
        both : (b : Bool) → (if b then Some x else slot_at t (map seen es)) ≡ (if b then Some x else if b then Some e.1 else slot_at t (map seen es))
        both true = refl
        both false = refl
    go false h rec =
        rw h (ap (λ r. if bytes_eq t e.0.now then Some e.1 else r) rec
        ∙ exchange (bytes_eq t e.0.now) (bytes_eq t key.now) (slot_at t (map seen es)) refl refl h)

pub unseen_is : (id : List ℕ) → IsSlot id [] [] 0 unseen
unseen_is id = record { current = refl; earlier = refl; begun = omega arith }

same_number : (m : ℕ) → (m == m) ≡ true
same_number m = grind (arith, nat_tests)

-- a change of the identifier
pub slot_changed : (id digits : List ℕ) (past told : List Told) (m : ℕ) (s new : Slot) → IsSlot id past told m s
    → new ≡ record { earlier = before_moment m s; current = cell_of 128 (Some digits); moment = m } → IsSlot id past (told ++ Change id digits ∷ []) m new
slot_changed id digits past told m s new h e =
    let b : bytes_eq id id ≡ true = bytes_same id id refl in
    let l : last_change id (told ++ Change id digits ∷ []) ≡ Some digits = last_more id told (Change id digits) ∙ ap (λ x. if x then Some digits else last_change id told) b in
    rw e (record {
      current = ap (cell_of 128) (sym l);
      earlier = ap (λ x. if x then before_moment m s else cell_of 128 (Some digits)) (same_number m) ∙ h.earlier;
      begun = omega arith;
    })

-- a construct that changes no digits of it
pub slot_still : (id : List ℕ) (past told : List Told) (m : ℕ) (s : Slot) (t : Told) → changed id (last_change id told) t ≡ last_change id told → IsSlot id past told m s → IsSlot id past (told ++ t ∷ []) m s
slot_still id past told m s t e h = record { current = h.current ∙ ap (cell_of 128) (sym (last_more id told t ∙ e)); earlier = h.earlier; begun = h.begun }

-- the next moment begins
pub slot_begins : (id : List ℕ) (past told : List Told) (m n next : ℕ) (s : Slot) → next ≡ m + 1 → IsSlot id past told m s → IsSlot id told (told ++ Moment n ∷ []) next s
slot_begins id past told m n next s e h =
    let l = h.begun in
    let other : (s.moment == next) ≡ false = grind (arith, nat_tests) in
    record {
      current = h.current ∙ ap (cell_of 128) (sym (last_more id told (Moment n)));
      earlier = ap (λ b. if b then s.earlier else s.current) other ∙ h.current;
      begun = omega arith;
    }

-- each slot, where there is one
pub some_slot : (P : Slot → Type 0) (o : Option Slot) (s : Slot) → o ≡ Some s → IfSome o P → P s
some_slot P None s e h = cc
some_slot P (Some x) s e h = let same : x ≡ s = cc in subst P same h

all_slots : (P Q : Slot → Type 0) (o : Option Slot) → ((s : Slot) → P s → Q s) → IfSome o P → IfSome o Q
all_slots P Q None f h = tt
all_slots P Q (Some x) f h = f x h

pub slots_still : (past told : List Told) (m : ℕ) (slots : List (List ℕ × Slot)) (t : Told) → ((id : List ℕ) → changed id (last_change id told) t ≡ last_change id told)
    → AreSlots past told m slots → AreSlots past (told ++ t ∷ []) m slots
slots_still past told m slots t e h id = all_slots (IsSlot id past told m) (IsSlot id past (told ++ t ∷ []) m) (slot_at id slots) (λ s. slot_still id past told m s t (e id)) (h id)

pub slots_begin : (past told : List Told) (m n next : ℕ) (slots : List (List ℕ × Slot)) → next ≡ m + 1 → AreSlots past told m slots → AreSlots told (told ++ Moment n ∷ []) next slots
slots_begin past told m n next slots e h id = all_slots (IsSlot id past told m) (IsSlot id told (told ++ Moment n ∷ []) next) (slot_at id slots) (λ s. slot_begins id past told m n next s e) (h id)

swapped : (a b : List ℕ) → bytes_eq a b ≡ false → bytes_eq b a ≡ false
swapped a b e = go (bytes_eq b a) refl
  where
    go : (x : Bool) → bytes_eq b a ≡ x → x ≡ false
    go true h = let other : bytes_eq a b ≡ true = bytes_same a b (sym (same_bytes b a h)) in cc
    go false h = refl

other_still : (id other digits : List ℕ) (told : List Told) → bytes_eq id other ≡ false → changed id (last_change id told) (Change other digits) ≡ last_change id told
other_still id other digits told e = ap (λ b. if b then Some digits else last_change id told) (swapped id other e)

-- a change of an identifier that is watched
pub slots_changed : (id digits : List ℕ) (past told : List Told) (m : ℕ) (old new : List (List ℕ × Slot)) (s changed_slot : Slot) → slot_at id old ≡ Some s
    → changed_slot ≡ record { earlier = before_moment m s; current = cell_of 128 (Some digits); moment = m }
    → ((t : List ℕ) → slot_at t new ≡ (if bytes_eq t id then Some changed_slot else slot_at t old)) → AreSlots past told m old → AreSlots past (told ++ Change id digits ∷ []) m new
slots_changed id digits past told m old new s x found is put h t = subst (λ o. IfSome o (IsSlot t past (told ++ Change id digits ∷ []) m)) (sym (put t)) (go (bytes_eq t id) refl)
  where
    go : (b : Bool) → bytes_eq t id ≡ b → IfSome (if b then Some x else slot_at t old) (IsSlot t past (told ++ Change id digits ∷ []) m)
    go true e =
        let same : id ≡ t = sym (same_bytes t id e) in
        subst (λ y. IsSlot y past (told ++ Change id digits ∷ []) m x) same (slot_changed id digits past told m s x (some_slot (IsSlot id past told m) (slot_at id old) s found (h id)) is)
    go false e = all_slots (IsSlot t past told m) (IsSlot t past (told ++ Change id digits ∷ []) m) (slot_at t old) (λ y. slot_still t past told m y (Change id digits) (other_still t id digits told e)) (h t)

-- and of one that is not
pub slots_skipped : (id digits : List ℕ) (past told : List Told) (m : ℕ) (old : List (List ℕ × Slot)) → slot_at id old ≡ None → AreSlots past told m old → AreSlots past (told ++ Change id digits ∷ []) m old
slots_skipped id digits past told m old none h t = go (bytes_eq t id) refl
  where
    go : (b : Bool) → bytes_eq t id ≡ b → IfSome (slot_at t old) (IsSlot t past (told ++ Change id digits ∷ []) m)
    go true e = let z : slot_at t old ≡ None = ap (λ y. slot_at y old) (same_bytes t id e) ∙ none in subst (λ o. IfSome o (IsSlot t past (told ++ Change id digits ∷ []) m)) (sym z) tt
    go false e = all_slots (IsSlot t past told m) (IsSlot t past (told ++ Change id digits ∷ []) m) (slot_at t old) (λ y. slot_still t past told m y (Change id digits) (other_still t id digits told e)) (h t)

-- a change leaves the same identifiers
pub same_watched : (id : List ℕ) (old new : List (List ℕ × Slot)) (s x : Slot) → slot_at id old ≡ Some s → ((t : List ℕ) → slot_at t new ≡ (if bytes_eq t id then Some x else slot_at t old))
    → (t : List ℕ) → is_some (slot_at t new) ≡ is_some (slot_at t old)
same_watched id old new s x found put t = ap is_some (put t) ∙ go (bytes_eq t id) refl
  where
    go : (b : Bool) → bytes_eq t id ≡ b → is_some (if b then Some x else slot_at t old) ≡ is_some (slot_at t old)
    go true e = sym (ap (λ y. is_some (slot_at y old)) (same_bytes t id e) ∙ ap is_some found)
    go false e = refl

-- the bits of a slot that is watched
pub cell_now : (id : List ℕ) (w : ℕ) (past told : List Told) (m : ℕ) (slots : List (List ℕ × Slot)) (s : Slot) → slot_at id slots ≡ Some s → AreSlots past told m slots → s.current ≡ cell_of 128 (last_change id told)
cell_now id w past told m slots s e h = (some_slot (IsSlot id past told m) (slot_at id slots) s e (h id)).current

pub cell_before : (id : List ℕ) (w : ℕ) (past told : List Told) (m : ℕ) (slots : List (List ℕ × Slot)) (s : Slot) → slot_at id slots ≡ Some s → AreSlots past told m slots
    → before_moment m s ≡ cell_of 128 (last_change id past)
cell_before id w past told m slots s e h = (some_slot (IsSlot id past told m) (slot_at id slots) s e (h id)).earlier

pub not_watched : (id : List ℕ) (slots : List (List ℕ × Slot)) → slot_at id slots ≡ None → is_some (slot_at id slots) ≡ true → ⊥
not_watched id slots e h = let g : is_some (slot_at id slots) ≡ false = ap is_some e in cc

-- watching

abbrev IsKept : List (List ℕ × Slot) → Probe → Type 0
IsKept slots y = IfSome y.id (λ id. is_some (slot_at id.now slots) ≡ true)

there : (slots : List (List ℕ × Slot)) (o : Option (Bor (List ℕ))) (id : Bor (List ℕ)) → o ≡ Some id → is_some (slot_at id.now slots) ≡ true → IfSome o (λ x. is_some (slot_at x.now slots) ≡ true)
there slots None id e h = tt
there slots (Some x) id e h = let same : x ≡ id = cc in subst (λ z. is_some (slot_at z.now slots) ≡ true) (sym same) h

pub watches_one : (old new : List (List ℕ × Slot)) (p : Probe) (id : Bor (List ℕ)) → p.id ≡ Some id → ((t : List ℕ) → slot_at t new ≡ (if bytes_eq t id.now then Some unseen else slot_at t old)) → Watches old new (p ∷ [])
watches_one old new p id e put = record {
  kept = λ t. subst (λ o. IfSome o (λ s. (s ≡ unseen) ⊎ (slot_at t old ≡ Some s))) (sym (put t)) (kept (bytes_eq t id.now) (slot_at t old));
  more = λ t h. ap is_some (put t) ∙ more (bytes_eq t id.now) (slot_at t old) h;
  all = All-cons (IsKept new) p [] (there new p.id id e (ap is_some (put id.now) ∙ ap (λ b. is_some (if b then Some unseen else slot_at id.now old)) (bytes_same id.now id.now refl))) (All-nil (IsKept new));
}
  where
    kept : (b : Bool) (o : Option Slot) → IfSome (if b then Some unseen else o) (λ s. (s ≡ unseen) ⊎ (o ≡ Some s))
    kept true o = inl refl
    kept false None = tt
    kept false (Some s) = inr refl

    more : (b : Bool) (o : Option Slot) → is_some o ≡ true → is_some (if b then Some unseen else o) ≡ true
    more true o h = refl
    more false o h = h

same_kept : (old : List (List ℕ × Slot)) (t : List ℕ) (o : Option Slot) → slot_at t old ≡ o → IfSome o (λ s. (s ≡ unseen) ⊎ (slot_at t old ≡ Some s))
same_kept old t None e = tt
same_kept old t (Some s) e = inr e

pub watches_none : (old : List (List ℕ × Slot)) → Watches old old []
watches_none old = record { kept = λ t. same_kept old t (slot_at t old) refl; more = λ t e. e; all = All-nil (IsKept old) }

nowhere : (slots : List (List ℕ × Slot)) (o : Option (Bor (List ℕ))) → o ≡ None → IfSome o (λ x. is_some (slot_at x.now slots) ≡ true)
nowhere slots None e = tt
nowhere slots (Some x) e = cc

pub watches_bare : (old : List (List ℕ × Slot)) (p : Probe) → p.id ≡ None → Watches old old (p ∷ [])
watches_bare old p e = record { kept = λ t. same_kept old t (slot_at t old) refl; more = λ t h. h; all = All-cons (IsKept old) p [] (nowhere old p.id e) (All-nil (IsKept old)) }

still_some : (mid new : List (List ℕ × Slot)) → ((id : List ℕ) → is_some (slot_at id mid) ≡ true → is_some (slot_at id new) ≡ true) → (o : Option (Bor (List ℕ)))
    → IfSome o (λ id. is_some (slot_at id.now mid) ≡ true) → IfSome o (λ id. is_some (slot_at id.now new) ≡ true)
still_some mid new more None h = tt
still_some mid new more (Some id) h = more id.now h

pub all_still : (mid new : List (List ℕ × Slot)) (ps : List Probe) → ((id : List ℕ) → is_some (slot_at id mid) ≡ true → is_some (slot_at id new) ≡ true)
    → All (λ y. IfSome y.id (λ id. is_some (slot_at id.now mid) ≡ true)) ps → All (λ y. IfSome y.id (λ id. is_some (slot_at id.now new) ≡ true)) ps
all_still mid new ps more h k p l = still_some mid new more (get_or ps k p).id (h k p l)

-- one after the other
pub watches_more : (old mid new : List (List ℕ × Slot)) (ps qs : List Probe) → Watches old mid ps → Watches mid new qs → Watches old new (ps ++ qs)
watches_more old mid new ps qs a b = record {
  kept = λ t. go t (slot_at t new) (b.kept t) (slot_at t mid) refl (a.kept t);
  more = λ t e. b.more t (a.more t e);
  all = All-append (IsKept new) ps qs (all_still mid new ps b.more a.all) b.all;
}
  where
    go : (t : List ℕ) (n : Option Slot) → IfSome n (λ s. (s ≡ unseen) ⊎ (slot_at t mid ≡ Some s)) → (m : Option Slot) → slot_at t mid ≡ m → IfSome m (λ s. (s ≡ unseen) ⊎ (slot_at t old ≡ Some s))
        → IfSome n (λ s. (s ≡ unseen) ⊎ (slot_at t old ≡ Some s))
    go t None x m e y = tt
    go t (Some s) (inl u) m e y = inl u
    go t (Some s) (inr f) None e y = let bad : None ≡ Some s = sym e ∙ f in cc
    go t (Some s) (inr f) (Some r) e y = let same : r ≡ s = let q : Some r ≡ Some s = sym e ∙ f in cc in subst (λ z. (z ≡ unseen) ⊎ (slot_at t old ≡ Some z)) same y

pub watches_next : (old mid new : List (List ℕ × Slot)) (ps : List Probe) (at : ℕ) (p : Probe) → at < length ps → Watches old mid (take at ps) → Watches mid new (get_or ps at p ∷ []) → Watches old new (take (at + 1) ps)
watches_next old mid new ps at p l a b = subst (Watches old new) (sym (take_more ps at p l)) (watches_more old mid new (take at ps) (get_or ps at p ∷ []) a b)

-- from nothing all slots are of which no change was read
pub fresh_slots : (old new : List (List ℕ × Slot)) (ps : List Probe) → old ≡ [] → Watches old new ps → AreSlots [] [] 0 new
unfolding slot_at
fresh_slots old new ps e w id = go (slot_at id new) (w.kept id)
  where
    go : (o : Option Slot) → IfSome o (λ s. (s ≡ unseen) ⊎ (slot_at id old ≡ Some s)) → IfSome o (IsSlot id [] [] 0)
    go None h = tt
    go (Some s) (inl u) = subst (IsSlot id [] [] 0) (sym u) (unseen_is id)
    go (Some s) (inr f) = let bad : None ≡ Some s = ap (slot_at id) (sym e) ∙ f in cc

-- the ports of a sampler

one_watched : (slots : List (List ℕ × Slot)) (w : ℕ) (o : Option (Bor (List ℕ))) → IfSome o (λ x. is_some (slot_at x.now slots) ≡ true) → w ≤ 128 → IsWatched slots (option_map (λ t. t.now) o, w)
one_watched slots w None h l = (tt, l)
one_watched slots w (Some x) h l = (h, l)

all_watched : (slots : List (List ℕ × Slot)) (ps : List Probe) → All (IsKept slots) ps → All (λ y. y.width ≤ 128) ps → All (λ y. IsWatched slots (plain_probe y)) ps
all_watched slots ps a b k p l = one_watched slots (get_or ps k p).width (get_or ps k p).id (a k p l) (b k p l)

clock_watched : (old mid new : List (List ℕ × Slot)) (o : Option ClockProbe) → WatchesClock old mid o → ((id : List ℕ) → is_some (slot_at id mid) ≡ true → is_some (slot_at id new) ≡ true)
    → IfSome o (λ c. c.probe.width ≤ 128) → IfSome o (λ c. IsWatched new (plain_probe c.probe))
clock_watched old mid new None w more h = tt
clock_watched old mid new (Some c) w more h = one_watched new c.probe.width c.probe.id (still_some mid new more c.probe.id (w.all 0 c.probe (omega arith))) h

clock_fresh : (old new : List (List ℕ × Slot)) (o : Option ClockProbe) → WatchesClock old new o → (ps : List Probe) × Watches old new ps
clock_fresh old new None w = ([], w)
clock_fresh old new (Some c) w = (c.probe ∷ [], w)

module _ (x : Probes) (s0 s1 s2 s3 : List (List ℕ × Slot)) (ins outs : List Probe) (clock : WatchesClock s0 s1 x.clock) (inputs : Watches s1 s2 ins) (outputs : Watches s2 s3 outs) (i : ins ≡ x.inputs.items) (o : outs ≡ x.outputs.items) where
  pub new_watched : AreNarrow x → AreWatched s3 x
  new_watched narrow = record {
    clock = clock_watched s0 s1 s3 x.clock clock (λ id e. outputs.more id (inputs.more id e)) narrow.clock;
    inputs = all_watched s3 x.inputs.items (subst (All (IsKept s3)) i (all_still s2 s3 ins outputs.more inputs.all)) narrow.inputs;
    outputs = all_watched s3 x.outputs.items (subst (All (IsKept s3)) o outputs.all) narrow.outputs;
  }

  pub new_slots : s0 ≡ [] → AreSlots [] [] 0 s3
  new_slots e =
      let c = clock_fresh s0 s1 x.clock clock in
      fresh_slots s0 s3 ((c.0 ++ ins) ++ outs) e (watches_more s0 s2 s3 (c.0 ++ ins) outs (watches_more s0 s1 s2 c.0 ins c.1 inputs) outputs)

same_some : (old new : List (List ℕ × Slot)) → ((t : List ℕ) → is_some (slot_at t new) ≡ is_some (slot_at t old)) → (y : Option (List ℕ) × ℕ) → IsWatched old y → IsWatched new y
same_some old new same y h = (go y.0 h.0, h.1)
  where
    go : (o : Option (List ℕ)) → IfSome o (λ id. is_some (slot_at id old) ≡ true) → IfSome o (λ id. is_some (slot_at id new) ≡ true)
    go None k = tt
    go (Some id) k = same id ∙ k

pub still_watched : (old new : List (List ℕ × Slot)) (x : Probes) → ((t : List ℕ) → is_some (slot_at t new) ≡ is_some (slot_at t old)) → AreWatched old x → AreWatched new x
still_watched old new x same h = record {
  clock = go x.clock h.clock;
  inputs = λ k p l. same_some old new same (plain_probe (get_or x.inputs.items k p)) (h.inputs k p l);
  outputs = λ k p l. same_some old new same (plain_probe (get_or x.outputs.items k p)) (h.outputs k p l);
}
  where
    go : (o : Option ClockProbe) → IfSome o (λ c. IsWatched old (plain_probe c.probe)) → IfSome o (λ c. IsWatched new (plain_probe c.probe))
    go None k = tt
    go (Some c) k = same_some old new same (plain_probe c.probe) k

pub on_ok : {X E : Type 0} (P Q : Type 0) (r : Result X E) → (P → Q) → OnOk r P → OnOk r Q
on_ok P Q (Ok x) f h = f h
on_ok P Q (Err e) f h = tt
