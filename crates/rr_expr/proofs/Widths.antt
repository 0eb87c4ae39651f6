-- values and widths of names
use Rattle.std.proofs.Common.{◌≡◌, ℕ, ◌<◌, ◌≤◌, min, true, false, List, get_or, sym, arith}
use Rattle.std.proofs.lemmas.Bool.{and_parts, ltb-true}
use Rattle.rr_bits.specs.Words.{word, tabulate}
use Rattle.rr_bits.proofs.Places.{word_tabulated, get_word}
use Rattle.rr_expr.specs.Scopes.{env_of}
use Rattle.rr_expr.specs.Faults.{is_width}

pub width_bounds : (w : ℕ) → is_width w ≡ true → (0 < w) × (w < 129)
width_bounds w h = let p = and_parts _ _ h in (ltb-true _ _ p.0, ltb-true _ _ p.1)

-- the number of a signal, as the bits that the environment has of it
pub signal_word : (w id : ℕ) (env : List ℕ) → w ≤ 128 → word w (get_or env id 0) ≡ tabulate w (λ i. env_of env (record { signal = id; place = i }))
signal_word w id env h = word_tabulated w (get_or env id 0) _ (λ i l. sym (get_word 128 (get_or env id 0) i false (omega arith)))

pub min_small : (w : ℕ) → is_width w ≡ true → min w 4294967295 ≡ w
min_small w h = let p = width_bounds w h in omega (arith, p.0, p.1)
