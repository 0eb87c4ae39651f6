-- the bit of a part
use Rattle.std.proofs.Common.{◌≡◌, ◌∙◌, sym, ap, refl, ℕ, ◌+◌, ◌-◌, ◌<◌, ◌≤◌, ◌&&◌, ◌⊎◌, inl, inr, Bool, true, false, List, length, get_or, arith}
use Rattle.std.proofs.lemmas.Bool.{both_ways, cases_lt}
use Rattle.std.proofs.lemmas.List.{get_or_append_left, get_or-append_right, get_or_past, length-append}
use Rattle.rr_syntax.specs.Tree.{Tree, Trees, Concat, End, More}
use Rattle.rr_bits.specs.Words.{extend, top}
use Rattle.rr_bits.proofs.Places.{length_tabulate, get_tabulate}
use Rattle.rr_expr.specs.declared.types.Bit.{Bit}
use Rattle.rr_expr.specs.Scopes.{Names}
use Rattle.rr_expr.specs.Values.{form, widths, value, values, own}
use Rattle.rr_wiring.specs.Parts.{BeginsAt, first_part, later_part, PartAt, itself, inside, is_joined, BitsOfParts, BitsInContext}
use Rattle.rr_wiring.proofs.Widths.{length_value}

pub length_own : (s : Names) (t : Tree) (env : Bit → Bool) → length (own s t env) ≡ (form s t).width
length_own s t env = length_value s t env (form s t).width (form s t).signed

length_values : (s : Names) (ts : Trees) (env : Bit → Bool) → length (values s ts env) ≡ widths s ts
unfolding value form
length_values s End env = refl
length_values s (More t ts) env = length-append (values s ts env) (own s t env) ∙ omega (arith, length_values s ts env, length_own s t env)

-- an unsigned word in a context has 0 where it has no bit
filled : (w i : ℕ) (xs : List Bool) → length xs ≤ w → get_or (extend w false xs) i false ≡ get_or xs i false
filled w i xs h = by (cases_lt i w)
  where
    f : ℕ → Bool
    f k = get_or xs k (false && top xs)

    by : ((i < w) ⊎ (w ≤ i)) → get_or (extend w false xs) i false ≡ get_or xs i false
    by (inl l) = get_tabulate w i f false l
    by (inr l) = get_or_past (extend w false xs) i false (omega (arith, l, length_tabulate w f)) ∙ sym (get_or_past xs i false (omega (arith, l, h)))

own_concat : (s : Names) (ts : Trees) (env : Bit → Bool) (place : ℕ) → get_or (own s (Concat ts) env) place false ≡ get_or (values s ts env) place false
unfolding value form
own_concat s ts env place = filled (widths s ts) place (values s ts env) (omega (arith, length_values s ts env))

begins_within : (s : Names) (t : Tree) {ts : Trees} {low : ℕ} → BeginsAt s t ts low → low + (form s t).width ≤ widths s ts
unfolding form
begins_within s t (first_part {ts} {low} e) = omega (arith, e)
begins_within s t (later_part {v} {ts} {low} b) = omega (arith, begins_within s t b)

bit_begins : (s : Names) (t : Tree) (env : Bit → Bool) (rest : ℕ) {ts : Trees} {low : ℕ} → BeginsAt s t ts low → rest < (form s t).width → get_or (values s ts env) (low + rest) false ≡ get_or (own s t env) rest false
unfolding value form
bit_begins s t env rest (first_part {ts} {low} e) l =
    let n : length (values s ts env) ≡ low = length_values s ts env ∙ sym e in
    let k : low + rest - low ≡ rest = omega arith in
    get_or-append_right (values s ts env) (own s t env) low (low + rest) false n (omega arith) ∙ ap (λ i. get_or (own s t env) i false) k
bit_begins s t env rest (later_part {v} {ts} {low} b) l =
    get_or_append_left (values s ts env) (own s v env) false (low + rest) (omega (arith, l, length_values s ts env, begins_within s t b)) ∙ bit_begins s t env rest b l

bit_of : (s : Names) (u : Tree) (at : ℕ) (env : Bit → Bool) {t : Tree} {place : ℕ} → PartAt s u at t place → get_or (own s u env) at false ≡ get_or (own s t env) place false
bit_of s u at env itself = refl
bit_of s u at env (inside {t} {ts} {low} {rest} {place} b l e p) =
    bit_of s u at env p ∙ sym (bit_begins s t env rest b l) ∙ ap (λ i. get_or (values s ts env) i false) (sym e) ∙ sym (own_concat s ts env place)

pub bits_of_parts : BitsOfParts
bits_of_parts s u at t place env p = bit_of s u at env p

pub bits_in_context : BitsInContext
unfolding value
bits_in_context s ts env w place h = filled w place (values s ts env) (omega (arith, h, length_values s ts env)) ∙ sym (own_concat s ts env place)

-- a bit that an expression has not
pub bit_past : (s : Names) (t : Tree) (env : Bit → Bool) (place : ℕ) → (form s t).width ≤ place → false ≡ get_or (own s t env) place false
bit_past s t env place h = sym (get_or_past (own s t env) place false (omega (arith, h, length_own s t env)))

-- the same law of an expression that is a concatenation
pub joined_bit : (s : Names) (t : Tree) (env : Bit → Bool) (w place : ℕ) → is_joined t ≡ true → (form s t).width ≤ w → get_or (value s t env w (form s t).signed) place false ≡ get_or (own s t env) place false
unfolding form is_joined
joined_bit s (Concat ts) env w place j h = bits_in_context s ts env w place h
joined_bit s t env w place j h = absurd (both_ways false refl j)

pub ruleset part_laws = (bits_of_parts, bits_in_context)
