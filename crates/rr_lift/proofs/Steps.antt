-- Reading a file with marks beside the file, unit by unit.
use Rattle.std.proofs.Common.{ℕ, zero, suc, ◌≡◌, ◌+◌, ◌-◌, ◌≤◌, ◌&&◌, not, List, [], ◌∷◌, ◌++◌, length, take, drop, Bool, true, false, Some, None, refl, ap, ◌∙◌, sym, subst, arith}
use Rattle.std.proofs.lemmas.List.{take_at, drop_at}
use Rattle.rr_directive.specs.declared.piece.Kind.{Kind}
use Rattle.rr_directive.specs.declared.piece.Kind.TheVariants as kind
use Rattle.rr_directive.specs.Pieces.{Piece, TextUnit, bare, piece, units}
use Rattle.rr_directive.specs.Expand.{Own, Each, Last, Exact, Event, Gives, Uses, Meets, State, Step, act_of, bytes_of, closes, first_unclosed, from_use, is_endif, is_on, is_opening, nothing, one_blank, own, own_bytes, stands_for, whole_use}
use Rattle.rr_directive.proofs.Outputs.{bytes_append}
use Rattle.rr_directive.proofs.Plain.{own_given}
use Rattle.rr_edit.specs.Edits.{is_single}
use Rattle.rr_lift.proofs.Readings.{ReadsBytes, first_unit, over, unit as read_unit, units_none, units_one}

-- From a state to another these bytes, which stand from `new` on, read as this text, and their conditionals are those of the
-- bytes that stand from `at` on.
pub record Follows (s r : State) (at : ℕ) (bs : List ℕ) (new : ℕ) (ws text : List ℕ) : Type 0 where
  pub events : List Event
  pub reads : ReadsBytes s new ws events r
  pub bytes : bytes_of events ≡ text
  pub nests : (n : ℕ) → closes n (units new 0 ws) ≡ closes n (units at 0 bs)
  pub closed : first_unclosed (units at 0 bs) ≡ None → first_unclosed (units new 0 ws) ≡ None

no_bytes : bytes_of [] ≡ []
unfolding bytes_of
no_bytes = refl

pub follows_none : (s : State) (at new : ℕ) → Follows s s at [] new [] []
follows_none s at new =
    let e : units new 0 [] ≡ units at 0 [] = units_none new ∙ sym (units_none at) in
    record {
      events = [];
      reads = over s new;
      bytes = no_bytes;
      nests = λ n. ap (closes n) e;
      closed = λ h. ap first_unclosed e ∙ h;
    }

-- ---- the same unit, at another place

steps_given : (at new : ℕ) (steps : List Step) → bytes_of (from_use new steps) ≡ bytes_of (from_use at steps)
unfolding bytes_of
steps_given at new [] = refl
steps_given at new (Gives b ∷ steps) = ap (λ (xs : List ℕ). b ∷ xs) (steps_given at new steps)
steps_given at new (Uses ∷ steps) = steps_given at new steps

abbrev moved : ℕ → TextUnit → TextUnit
moved new u = record { at = new; piece = u.piece; bytes = u.bytes }

moves : (s t : State) (u : TextUnit) (es : List Event) (new : ℕ) → Meets s u es t → (fs : List Event) × (Meets s (moved new u) fs t × (bytes_of fs ≡ bytes_of es))
unfolding bytes_of
moves s t u es new (own_bytes x e) = (own x new u.bytes, (own_bytes x e, own_given x new u.bytes ∙ sym (own_given x u.at u.bytes)))
moves s t u es new (one_blank t0 e) = (stands_for new (Gives 32) ∷ [], (one_blank t e, refl))
moves s t u es new (nothing t0 e) = ([], (nothing t e, refl))
moves s t u es new (whole_use steps e r) = (from_use new steps, (whole_use steps e r, steps_given u.at new steps))

cut_take : (n : ℕ) (bs ws : List ℕ) → (drop n bs ≡ [] → ws ≡ []) → take n (take n bs ++ ws) ≡ take n bs
cut_take zero bs ws h = refl
cut_take (suc n) [] ws h = let e = h refl in rw e refl
cut_take (suc n) (b ∷ bs) ws h = ap (λ (xs : List ℕ). b ∷ xs) (cut_take n bs ws h)

cut_drop : (n : ℕ) (bs ws : List ℕ) → (drop n bs ≡ [] → ws ≡ []) → drop n (take n bs ++ ws) ≡ ws
cut_drop zero bs ws h = refl
cut_drop (suc n) [] ws h = let e = h refl in rw e refl
cut_drop (suc n) (b ∷ bs) ws h = cut_drop n bs ws h

nests_one : (n : ℕ) (u v : TextUnit) (us vs : List TextUnit) → u.piece.kind ≡ v.piece.kind → ((k : ℕ) → closes k us ≡ closes k vs) → closes n (u ∷ us) ≡ closes n (v ∷ vs)
unfolding closes
nests_one n u v us vs e h = rw (e, h (n + 1), h (n - 1), h n) refl

closed_one : (u v : TextUnit) (us vs : List TextUnit) → v.piece.kind ≡ u.piece.kind → ((k : ℕ) → closes k vs ≡ closes k us) → (first_unclosed us ≡ None → first_unclosed vs ≡ None) →
    first_unclosed (u ∷ us) ≡ None → first_unclosed (v ∷ vs) ≡ None
unfolding first_unclosed
closed_one u v us vs e h f = go (is_opening u.piece.kind && not (closes 0 us)) refl
  where
    go : (b : Bool) → (is_opening u.piece.kind && not (closes 0 us)) ≡ b → first_unclosed (u ∷ us) ≡ None → first_unclosed (v ∷ vs) ≡ None
    go true k g = let x : Some u.at ≡ None = rw k at g in absurd (cc)
    go false k g = let x : first_unclosed us ≡ None = rw k at g in rw (e, h 0, k) (f x)

-- a unit that stays, where the rest follows
pub same_unit : (s t r : State) (at new b : ℕ) (bs ws text : List ℕ) (es : List Event) → piece (take (piece (b ∷ bs)).size (b ∷ bs) ++ ws) ≡ piece (b ∷ bs) → 1 ≤ (piece (b ∷ bs)).size →
    (drop (piece (b ∷ bs)).size (b ∷ bs) ≡ [] → ws ≡ []) → Meets s (first_unit at (b ∷ bs)) es t →
    Follows t r (at + (piece (b ∷ bs)).size) (drop (piece (b ∷ bs)).size (b ∷ bs)) (new + (piece (b ∷ bs)).size) ws text →
    Follows s r at (b ∷ bs) new (take (piece (b ∷ bs)).size (b ∷ bs) ++ ws) (bytes_of es ++ text)
same_unit s t r at new b bs ws text es p l h m f = go (piece (b ∷ bs)).size refl p l h f
  where
    go : (n : ℕ) → (piece (b ∷ bs)).size ≡ n → piece (take n (b ∷ bs) ++ ws) ≡ piece (b ∷ bs) → 1 ≤ n → (drop n (b ∷ bs) ≡ [] → ws ≡ []) → Follows t r (at + n) (drop n (b ∷ bs)) (new + n) ws text →
        Follows s r at (b ∷ bs) new (take n (b ∷ bs) ++ ws) (bytes_of es ++ text)
    go zero e q l2 h2 g = absurd (omega (arith, l2))
    go (suc n) e q l2 h2 g =
        let cs : List ℕ = take n bs ++ ws in
        let size : (piece (b ∷ cs)).size ≡ suc n = ap (λ (x : Piece). x.size) q ∙ e in
        let its : take (piece (b ∷ cs)).size (b ∷ cs) ≡ take (piece (b ∷ bs)).size (b ∷ bs) = ap (λ (k : ℕ). take k (b ∷ cs)) size ∙ (cut_take (suc n) (b ∷ bs) ws h2 ∙ ap (λ (k : ℕ). take k (b ∷ bs)) (sym e)) in
        let first : first_unit new (b ∷ cs) ≡ moved new (first_unit at (b ∷ bs)) =
        ap (λ (x : Piece). record { at = new; piece = x; bytes = take (piece (b ∷ cs)).size (b ∷ cs) }) q ∙ ap (λ (xs : List ℕ). record { at = new; piece = piece (b ∷ bs); bytes = xs }) its in
        let behind : drop (piece (b ∷ cs)).size (b ∷ cs) ≡ ws = ap (λ (k : ℕ). drop k (b ∷ cs)) size ∙ cut_drop (suc n) (b ∷ bs) ws h2 in
        let next : new + (piece (b ∷ cs)).size ≡ new + suc n = ap (λ (k : ℕ). new + k) size in
        let v = moves s t (first_unit at (b ∷ bs)) es new m in
        let read : ReadsBytes t (new + (piece (b ∷ cs)).size) (drop (piece (b ∷ cs)).size (b ∷ cs)) g.events r =
        rw (next, behind) g.reads in
        let mine : units new 0 (b ∷ cs) ≡ first_unit new (b ∷ cs) ∷ units (new + suc n) 0 ws = units_one new b cs ∙ rw (next, behind) refl in
        let theirs : units at 0 (b ∷ bs) ≡ first_unit at (b ∷ bs) ∷ units (at + suc n) 0 (drop (suc n) (b ∷ bs)) = units_one at b bs ∙ rw e refl in
        let kinds : (piece (b ∷ cs)).kind ≡ (piece (b ∷ bs)).kind = ap (λ (x : Piece). x.kind) q in
        record {
          events = v.0 ++ g.events;
          reads = read_unit s t r new b cs v.0 g.events (subst (λ (u : TextUnit). Meets s u v.0 t) (sym first) v.1.0) read;
          bytes = bytes_append v.0 g.events ∙ rw (v.1.1, g.bytes) refl;
          nests = λ k.
              ap (closes k) mine ∙ (nests_one k (first_unit new (b ∷ cs)) (first_unit at (b ∷ bs)) (units (new + suc n) 0 ws) (units (at + suc n) 0 (drop (suc n) (b ∷ bs))) kinds g.nests ∙
              ap (closes k) (sym theirs));
          closed = λ x.
              ap first_unclosed mine ∙ closed_one (first_unit at (b ∷ bs)) (first_unit new (b ∷ cs)) (units (at + suc n) 0 (drop (suc n) (b ∷ bs))) (units (new + suc n) 0 ws) kinds g.nests g.closed
              (ap first_unclosed (sym theirs) ∙ x);
        }

-- ---- single bytes and escaped names, new ones and such that go

single_flat : (k : Kind) → is_single k ≡ true → (is_opening k ≡ false) × (is_endif k ≡ false)
unfolding is_single is_opening is_endif
single_flat kind.Comment h = absurd (cc)
single_flat kind.Escaped h = (refl, refl)
single_flat kind.Plain h = (refl, refl)
single_flat kind.Use h = absurd (cc)
single_flat (kind.Named d) h = absurd (cc)

nests_past : (n : ℕ) (u : TextUnit) (us : List TextUnit) → is_single u.piece.kind ≡ true → closes n (u ∷ us) ≡ closes n us
unfolding closes
nests_past n u us h = let f = single_flat u.piece.kind h in rw (f.0, f.1) refl

closed_past : (u : TextUnit) (us : List TextUnit) → is_single u.piece.kind ≡ true → first_unclosed (u ∷ us) ≡ first_unclosed us
unfolding first_unclosed
closed_past u us h = let f = single_flat u.piece.kind h in rw f.0 refl

-- such a unit of the file that is passed
pub passed_unit : (s r : State) (at new b : ℕ) (bs ws text : List ℕ) → is_single (piece (b ∷ bs)).kind ≡ true →
    Follows s r (at + (piece (b ∷ bs)).size) (drop (piece (b ∷ bs)).size (b ∷ bs)) new ws text → Follows s r at (b ∷ bs) new ws text
passed_unit s r at new b bs ws text h f =
    let us : List TextUnit = units (at + (piece (b ∷ bs)).size) 0 (drop (piece (b ∷ bs)).size (b ∷ bs)) in
    record {
      events = f.events;
      reads = f.reads;
      bytes = f.bytes;
      nests = λ n. f.nests n ∙ (sym (nests_past n (first_unit at (b ∷ bs)) us h) ∙ ap (closes n) (sym (units_one at b bs)));
      closed = λ x. f.closed (sym (closed_past (first_unit at (b ∷ bs)) us h) ∙ (ap first_unclosed (sym (units_one at b bs)) ∙ x));
    }

own_act : (s : State) (k : Kind) (n : ℕ) → is_single k ≡ true → is_on s.branches ≡ true → (x : Exact) × (act_of s (bare k n) k ≡ Own x)
unfolding is_single act_of
own_act s kind.Comment n h o = absurd (cc)
own_act s kind.Escaped n h o = (Last, rw o refl)
own_act s kind.Plain n h o = (Each, rw o refl)
own_act s kind.Use n h o = absurd (cc)
own_act s (kind.Named d) n h o = absurd (cc)

-- such a unit that is new
pub new_unit : (s r : State) (at new : ℕ) (bs : List ℕ) (k : Kind) (v : ℕ) (vs ws text : List ℕ) → piece (v ∷ (vs ++ ws)) ≡ bare k (suc (length vs)) → is_single k ≡ true → is_on s.branches ≡ true →
    Follows s r at bs (new + suc (length vs)) ws text → Follows s r at bs new (v ∷ (vs ++ ws)) (v ∷ (vs ++ text))
new_unit s r at new bs k v vs ws text p h o f =
    let cs : List ℕ = vs ++ ws in
    let size : (piece (v ∷ cs)).size ≡ suc (length vs) = ap (λ (x : Piece). x.size) p in
    let its : take (piece (v ∷ cs)).size (v ∷ cs) ≡ v ∷ vs = ap (λ (i : ℕ). take i (v ∷ cs)) size ∙ take_at (v ∷ vs) ws (suc (length vs)) refl in
    let first : first_unit new (v ∷ cs) ≡ record { at = new; piece = bare k (suc (length vs)); bytes = v ∷ vs } =
    ap (λ (x : Piece). record { at = new; piece = x; bytes = take (piece (v ∷ cs)).size (v ∷ cs) }) p ∙ ap (λ (xs : List ℕ). record { at = new; piece = bare k (suc (length vs)); bytes = xs }) its in
    let behind : drop (piece (v ∷ cs)).size (v ∷ cs) ≡ ws = ap (λ (i : ℕ). drop i (v ∷ cs)) size ∙ drop_at (v ∷ vs) ws (suc (length vs)) refl in
    let next : new + (piece (v ∷ cs)).size ≡ new + suc (length vs) = ap (λ (i : ℕ). new + i) size in
    let a = own_act s k (suc (length vs)) h o in
    let es : List Event = own a.0 new (v ∷ vs) in
    let met : Meets s (first_unit new (v ∷ cs)) es s = subst (λ (u : TextUnit). Meets s u es s) (sym first) (own_bytes a.0 a.1) in
    let read : ReadsBytes s (new + (piece (v ∷ cs)).size) (drop (piece (v ∷ cs)).size (v ∷ cs)) f.events r = rw (next, behind) f.reads in
    let mine : units new 0 (v ∷ cs) ≡ first_unit new (v ∷ cs) ∷ units (new + suc (length vs)) 0 ws = units_one new v cs ∙ rw (next, behind) refl in
    let flat : is_single (piece (v ∷ cs)).kind ≡ true = ap (λ (x : Piece). is_single x.kind) p ∙ h in
    record {
      events = es ++ f.events;
      reads = read_unit s s r new v cs es f.events met read;
      bytes = bytes_append es f.events ∙ rw (own_given a.0 new (v ∷ vs), f.bytes) refl;
      nests = λ n. ap (closes n) mine ∙ (nests_past n (first_unit new (v ∷ cs)) (units (new + suc (length vs)) 0 ws) flat ∙ f.nests n);
      closed = λ x. ap first_unclosed mine ∙ (closed_past (first_unit new (v ∷ cs)) (units (new + suc (length vs)) 0 ws) flat ∙ f.closed x);
    }
