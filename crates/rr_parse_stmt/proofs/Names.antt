-- A name at a token.
use Rattle.std.proofs.Common.{◌≡◌, ℕ, List, [], ◌∷◌, drop, refl, ap, ◌∙◌, Option, Some, None}
use Rattle.rr_syntax.specs.declared.token.Token.{Token}
use Rattle.rr_syntax.specs.declared.tree.Named.{Named as NamedToken}
use Rattle.rr_syntax.specs.Words.{Word, words, Named, System, Digits, Reserved, Marked}
use Rattle.rr_parse_expr.specs.Fronts.{front_name, IsNameAt}
use Rattle.rr_parse_expr.specs.Reading.{rest}
use Rattle.rr_parse_expr.proofs.Answered.{rest_drop}
use Rattle.rr_parse_stmt.specs.Reading.{name}
use Rattle.rr_parse_stmt.specs.Answer.{AnswersName}

some_name : (ws : List Word) (s : List ℕ) → front_name ws ≡ Some s → name ws ≡ Some (record { token = 0; text = s }, rest ws)
unfolding name rest front_name
some_name [] s e = absurd cc
some_name (Named t ∷ ws) s e = let q : t ≡ s = cc in rw q refl
some_name (System t ∷ ws) s e = absurd cc
some_name (Digits n ∷ ws) s e = absurd cc
some_name (Reserved k ∷ ws) s e = absurd cc
some_name (Marked m ∷ ws) s e = absurd cc

no_name : (ws : List Word) → front_name ws ≡ None → name ws ≡ None
unfolding name front_name
no_name [] e = refl
no_name (Named t ∷ ws) e = absurd cc
no_name (System t ∷ ws) e = refl
no_name (Digits n ∷ ws) e = refl
no_name (Reserved k ∷ ws) e = refl
no_name (Marked m ∷ ws) e = refl

-- the name at a token is what the reading function finds there
pub name_is : (T : List Token) (at : ℕ) (o : Option NamedToken) → IsNameAt T at o → AnswersName T at o
name_is T at None h = no_name (drop at (words T)) h
name_is T at (Some n) h =
    (h.0, some_name (drop at (words T)) n.name.now h.1 ∙ ap (λ (us : List Word). Some (record { token = 0; text = n.name.now }, us)) (rest_drop (words T) at), h.2)
