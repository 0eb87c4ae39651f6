-- The tokens of an expansion with their places in the file, one after the other.
use Rattle.std.proofs.Common.{◌≡◌, ℕ, ◌+◌, ◌<◌, ◌≤◌, List, [], ◌∷◌, ◌++◌, length, take, get_or, sym, ◌∙◌, ap, ap₂, subst}
use Rattle.std.proofs.lemmas.List.{take_all, take_more, map-append}
use Rattle.rr_directive.specs.declared.origin.Origin.{Origin}
use Rattle.rr_syntax.specs.declared.token.Token.{Token}
use Rattle.rr_lex.specs.Tokens.{Lexeme, lexeme, lexemes}
use Rattle.rr_run.specs.Files.{placed_token, placed_tokens}

module _ (origins : List Origin) (size : ℕ) where
  abbrev pub PlacedOf : List Token → List Token → Type 0
  PlacedOf tokens placed = lexemes placed ≡ placed_tokens origins size (lexemes tokens)

  pub placed_more : (tokens placed : List Token) (i : ℕ) (d next : Token) → i < length tokens → lexeme next ≡ placed_token origins size (lexeme (get_or tokens i d)) → PlacedOf (take i tokens) placed →
      PlacedOf (take (i + 1) tokens) (placed ++ (next ∷ []))
  placed_more tokens placed i d next l e h =
      let t : Token = get_or tokens i d in
      map-append lexeme placed (next ∷ []) ∙ ap₂ (λ (xs : List Lexeme) (x : Lexeme). xs ++ (x ∷ [])) h e ∙
      sym (ap (λ (xs : List Token). placed_tokens origins size (lexemes xs)) (take_more tokens i d l) ∙
      ap (placed_tokens origins size) (map-append lexeme (take i tokens) (t ∷ [])) ∙ map-append (placed_token origins size) (lexemes (take i tokens)) (lexeme t ∷ []))

  pub placed_full : (tokens placed : List Token) (i : ℕ) → length tokens ≤ i → PlacedOf (take i tokens) placed → PlacedOf tokens placed
  placed_full tokens placed i l h = subst (λ (xs : List Token). PlacedOf xs placed) (take_all i tokens l) h
