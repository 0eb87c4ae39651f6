-- Breaks of a form behind words that a form has in front.
use Rattle.std.proofs.Common.{◌≡◌, ℕ, List, [], ◌∷◌, ◌++◌, refl, sym, ◌∙◌, ap, subst, append_assoc}
use Rattle.rr_vcd_text.specs.Words.{Word}
use Rattle.rr_vcd_text.specs.Breaks.{IsFront, IsBrokenAt, breaks, unended}

pub lift : {Whole Is Further Rest : List Word → Type 0} (cs : List Word) → ((ws : List Word) → Further ws → Whole (cs ++ ws)) → ((ws : List Word) → Whole (cs ++ ws) → Further ws)
    → ((ws : List Word) → Rest ws → Is (cs ++ ws)) → ((ws : List Word) → Is (cs ++ ws) → Rest ws) → (r : List Word) (line : ℕ) → IsBrokenAt Further Rest r line → IsBrokenAt Whole Is (cs ++ r) line
lift {Whole} {Is} {Further} {Rest} cs whole_in whole_out is_in is_out r line (breaks front w rest e f never l) =
    breaks (cs ++ front) w rest (ap (λ x. cs ++ x) e ∙ sym (append_assoc cs front (w ∷ rest)))
    (f.0, subst Is (sym (append_assoc cs front f.0)) (is_in (front ++ f.0) f.1))
    (λ g. never (g.0, is_out ((front ++ w ∷ []) ++ g.0) (subst Is (ap (λ x. x ++ g.0) (append_assoc cs front (w ∷ [])) ∙ append_assoc cs (front ++ w ∷ []) g.0) g.1)))
    l
lift {Whole} {Is} {Further} {Rest} cs whole_in whole_out is_in is_out r line (unended front w rest e whole f never l) =
    unended (cs ++ front) w rest (ap (λ x. cs ++ x) e ∙ sym (append_assoc cs front (w ∷ rest)))
    (whole_in front whole)
    (f.0, subst Is (sym (append_assoc cs r f.0)) (is_in (r ++ f.0) f.1))
    (λ more left q h. never more left q (whole_out (front ++ w ∷ more) (subst Whole (append_assoc cs front (w ∷ more)) h)))
    l
