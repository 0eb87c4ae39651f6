-- bits that are written
use Rattle.std.proofs.Common.{◌≡◌, ℕ, zero, suc, List, [], ◌∷◌, get_or, Bool, true, false, Option, Some, None, refl, ◌∙◌, sym, arith, ◌⊎◌, inl, inr}
use Rattle.std.proofs.lemmas.Bool.{cases_Bool, both_ways}
use Rattle.rr_expr.specs.declared.types.Bit.{Bit}
use Rattle.rr_flat.specs.Targets.{same_bit, has_bit}
use Rattle.rr_cycle.specs.Exec.{Environment, put, first, rest, write}
use Rattle.rr_flat.proofs.Bits.{is_same, some_bit, missed, or_none, has_place}

pub put_hit : (a : Bit) (v : Bool) (e : Environment) (b : Bit) → same_bit a b ≡ true → put a v e b ≡ v
put_hit a v e b h = rw h refl

pub put_miss : (a : Bit) (v : Bool) (e : Environment) (b : Bit) → same_bit a b ≡ false → put a v e b ≡ e b
put_miss a v e b h = rw h refl

put_agree : (a : Bit) (v : Bool) (e f : Environment) (b : Bit) → e b ≡ f b → put a v e b ≡ put a v f b
put_agree a v e f b h = rw h refl

-- bits that are written do not stand on what was there, and others keep it
pub write_agree : (ps : List (Option Bit)) (vs : List Bool) (e f : Environment) (b : Bit) → (e b ≡ f b) ⊎ (has_bit ps b ≡ true) → write ps vs e b ≡ write ps vs f b
unfolding write has_bit
write_agree [] vs e f b (inl h) = h
write_agree [] vs e f b (inr h) = absurd (both_ways false refl h)
write_agree (None ∷ ps) vs e f b h = write_agree ps (rest vs) e f b h
write_agree (Some a ∷ ps) vs e f b (inl h) = write_agree ps (rest vs) (put a (first vs) e) (put a (first vs) f) b (inl (put_agree a (first vs) e f b h))
write_agree (Some a ∷ ps) vs e f b (inr h) = elim (cases_Bool (same_bit a b)) [
  | inl t ↦ write_agree ps (rest vs) (put a (first vs) e) (put a (first vs) f) b (inl (put_hit a (first vs) e b t ∙ sym (put_hit a (first vs) f b t)))
  | inr t ↦ write_agree ps (rest vs) (put a (first vs) e) (put a (first vs) f) b (inr (rw t at h))
]

pub write_outside : (ps : List (Option Bit)) (vs : List Bool) (e : Environment) (b : Bit) → has_bit ps b ≡ false → write ps vs e b ≡ e b
unfolding write has_bit
write_outside [] vs e b h = refl
write_outside (None ∷ ps) vs e b h = write_outside ps (rest vs) e b h
write_outside (Some a ∷ ps) vs e b h =
    let p = or_none (same_bit a b) (has_bit ps b) h in
    write_outside ps (rest vs) (put a (first vs) e) b p.1 ∙ put_miss a (first vs) e b p.0

get_rest : (vs : List Bool) (i : ℕ) → get_or (rest vs) i false ≡ get_or vs (suc i) false
get_rest [] i = refl
get_rest (v ∷ vs) i = refl

get_first : (vs : List Bool) → first vs ≡ get_or vs 0 false
get_first [] = refl
get_first (v ∷ vs) = refl

-- a write of different bits gives each its value
pub write_there : (ps : List (Option Bit)) (vs : List Bool) (e : Environment) (b : Bit) (i : ℕ) → get_or ps i None ≡ Some b →
    ((j : ℕ) → get_or ps j None ≡ Some b → j ≡ i) → write ps vs e b ≡ get_or vs i false
unfolding write
write_there [] vs e b i h u = cc
write_there (None ∷ ps) vs e b zero h u = cc
write_there (None ∷ ps) vs e b (suc i) h u = write_there ps (rest vs) e b i h (λ j k. omega (arith, u (suc j) k)) ∙ get_rest vs i
write_there (Some a ∷ ps) vs e b zero h u =
    write_outside ps (rest vs) (put a (first vs) e) b (missed (has_bit ps b) (λ t. let r = has_place ps b t in absurd (omega (arith, u (suc r.0) r.1))))
    ∙ put_hit a (first vs) e b (is_same a b (some_bit a b h)) ∙ get_first vs
write_there (Some a ∷ ps) vs e b (suc i) h u = write_there ps (rest vs) (put a (first vs) e) b i h (λ j k. omega (arith, u (suc j) k)) ∙ get_rest vs i
