-- Walks with other blocks, and blocks that change one by one.
use Rattle.std.proofs.Common.{◌≡◌, ◌∙◌, sym, ap, subst, ◌⊎◌, inl, inr, ℕ, zero, suc, ◌+◌, ◌<◌, List, [], ◌∷◌, ◌++◌, length, Option, Some, None, Result, Ok, refl, arith, get_or, option_to_list}
use Rattle.std.specs.List.{AllByRecursion}
use Rattle.rr_syntax.specs.Tree.{ModuleItem, SourceText}
use Rattle.rr_flat.specs.declared.fault.FlatFault.{FlatFault}
use Rattle.rr_flat.specs.Faults.{earliest_of, each}
use Rattle.rr_flat.specs.Plain.{Block, Flat}
use Rattle.rr_flat.proofs.EarliestFaults.{none_earliest}
use Rattle.rr_flatten.specs.Walk.{Walked}
use Rattle.rr_flatten.proofs.HeadOf.{ok_is}
use Rattle.rr_flat_instance.proofs.Grown.{Grows, grows-trans, each_grows}
use Rattle.rr_flat_instance.proofs.Lists.{stepped, and_then_ok}
use Rattle.rr_body_laws.specs.Bodies.{Bodies, AllChanged, IsAmong, IsChanged}

-- the walk with other combinational blocks
abbrev pub put_blocks : List Block → Walked → Walked
put_blocks bs w = record w { flat = record w.flat { combinational = bs } }

-- a step that goes on with any blocks as it goes on with its own adds none
pub same_blocks : (step : Walked → Result Walked FlatFault) (w v : Walked) → step w ≡ Ok v → ((bs : List Block) → step (put_blocks bs w) ≡ Ok (put_blocks bs v)) → v.flat.combinational ≡ w.flat.combinational
same_blocks step w v e h =
    let own : step w ≡ Ok (put_blocks w.flat.combinational v) = h w.flat.combinational in
    ap (λ (x : Walked). x.flat.combinational) (ok_is v (put_blocks w.flat.combinational v) (sym e ∙ own))

-- Lists of blocks

module _ (f : Bodies) (source : SourceText) (final : Flat) where
  pub changed_none : AllChanged f source final [] []
  unfolding AllChanged
  changed_none = tt

  pub changed_length : (xs ys : List Block) → AllChanged f source final xs ys → length ys ≡ length xs
  unfolding AllChanged
  changed_length [] [] h = refl
  changed_length [] (y ∷ ys) h = absurd h
  changed_length (x ∷ xs) [] h = absurd h
  changed_length (x ∷ xs) (y ∷ ys) h = ap suc (changed_length xs ys h.1)

  pub changed_more : (xs ys : List Block) (x y : Block) → AllChanged f source final xs ys → IsChanged f source final x y → AllChanged f source final (xs ++ x ∷ []) (ys ++ y ∷ [])
  unfolding AllChanged
  changed_more [] [] x y h k = (k, tt)
  changed_more [] (z ∷ zs) x y h k = absurd h
  changed_more (z ∷ zs) [] x y h k = absurd h
  changed_more (z ∷ zs) (u ∷ us) x y h k = (h.0, changed_more zs us x y h.1 k)

  -- the two blocks at a place
  pub changed_at : (xs ys : List Block) → AllChanged f source final xs ys → (k : ℕ) (d : Block) → k < length xs → IsChanged f source final (get_or xs k d) (get_or ys k d)
  unfolding AllChanged
  changed_at [] ys h k d l = absurd (omega (arith, l))
  changed_at (x ∷ xs) [] h k d l = absurd h
  changed_at (x ∷ xs) (y ∷ ys) h zero d l = h.0
  changed_at (x ∷ xs) (y ∷ ys) h (suc k) d l = changed_at xs ys h.1 k d (omega (arith, l))

  -- a step of the changed source answers as that of the source does, with changed blocks
  pub record Follows (r : Result Walked FlatFault) (v : Walked) : Type 0 where
    pub blocks : List Block
    pub is : r ≡ Ok (put_blocks blocks v)
    pub changed : AllChanged f source final v.flat.combinational blocks

  -- where it adds no block
  pub follows_same : (r : Result Walked FlatFault) (w v : Walked) (bs : List Block) → AllChanged f source final w.flat.combinational bs → r ≡ Ok (put_blocks bs v) → v.flat.combinational ≡ w.flat.combinational → Follows r v
  follows_same r w v bs h e s = record { blocks = bs; is = e; changed = subst (λ (xs : List Block). AllChanged f source final xs bs) (sym s) h }

-- where an instance that is walked has its number: its module's items come later than its scope
pub record IsIn (i : ℕ) (w : Walked) : Type 0 where
  pub there : i < length w.flat.scopes
  pub even : length w.flat.owners ≡ length w.flat.scopes

pub in_later : (i : ℕ) (w v : Walked) → Grows w v → IsIn i w → IsIn i v
in_later i w v g h = record { there = let m = g.more in let l = h.there in omega (arith, l, m); even = g.even h.even }

-- steps over a list, each of which follows
pub each_follows : {X : Type 0} (f : Bodies) (source : SourceText) (final : Walked) (i : ℕ) (B : X → Type 0) (step other : X → Walked → Result Walked FlatFault) → ((x : X) (w v : Walked) → step x w ≡ Ok v → Grows w v)
    → ((x : X) (w v : Walked) (bs : List Block) → B x → IsIn i w → Grows v final → AllChanged f source final.flat w.flat.combinational bs → step x w ≡ Ok v → Follows f source final.flat (other x (put_blocks bs w)) v)
    → (xs : List X) (w v : Walked) (bs : List Block) → AllByRecursion B xs → IsIn i w → Grows v final → AllChanged f source final.flat w.flat.combinational bs → each step xs w ≡ Ok v → Follows f source final.flat (each other xs (put_blocks bs w)) v
unfolding each
each_follows f source final i B step other grows one [] w v bs b l g h e =
    let q : w ≡ v = cc in record { blocks = bs; is = ap (λ (x : Walked). Ok (put_blocks bs x)) q; changed = subst (λ (x : Walked). AllChanged f source final.flat x.flat.combinational bs) q h }
each_follows f source final i B step other grows one (x ∷ xs) w v bs b l g h e =
    let s = stepped (step x w) (each step xs) v e in
    let later : Grows s.mid final = grows-trans s.mid v final (each_grows step grows xs s.mid v s.next) g in
    let a = one x w s.mid bs b.0 l later h s.first in
    let r = each_follows f source final i B step other grows one xs s.mid v a.blocks b.1 (in_later i w s.mid (grows x w s.mid s.first) l) g a.changed s.next in
    record { blocks = r.blocks; is = and_then_ok (other x (put_blocks bs w)) (each other xs) (put_blocks a.blocks s.mid) a.is ∙ r.is; changed = r.changed }

-- Items

weaken : (P Q : ModuleItem → Type 0) (xs : List ModuleItem) → ((x : ModuleItem) → P x → Q x) → AllByRecursion P xs → AllByRecursion Q xs
weaken P Q [] k h = tt
weaken P Q (x ∷ xs) k h = (k x h.0, weaken P Q xs k h.1)

-- each item of a list is one of it
pub all_among : (xs : List ModuleItem) → AllByRecursion (λ x. IsAmong x xs) xs
unfolding IsAmong
all_among [] = tt
all_among (x ∷ xs) = (inl refl, weaken (λ y. IsAmong y xs) (λ y. (x ≡ y) ⊎ IsAmong y xs) xs (λ y h. inr h) (all_among xs))

-- The earliest of some faults

no_list : (o : Option FlatFault) → option_to_list o ≡ [] → o ≡ None
no_list None e = refl
no_list (Some f) e = absurd (cc)

-- where there is none there are no faults
pub unfound_earliest : (fs : List FlatFault) → option_to_list (earliest_of fs) ≡ [] → fs ≡ []
unfound_earliest fs e = none_earliest fs (no_list (earliest_of fs) e)

pub earliest_none : (fs : List FlatFault) → fs ≡ [] → option_to_list (earliest_of fs) ≡ []
earliest_none fs e = rw e refl
