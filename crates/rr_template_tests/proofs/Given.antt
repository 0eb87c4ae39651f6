-- What the design of a text gives the two calls.
use Rattle.std.proofs.Common.{◌≡◌, ℕ, ◌<◌, ◌^◌, List, length, Option, sym, subst, ap, arith}
use Rattle.std.specs.List.{AllByRecursion}
use Rattle.std.proofs.lemmas.List.{length-map}
use Rattle.rr_syntax.specs.declared.token.Token.{Token}
use Rattle.rr_syntax.specs.Items.{FitLiteralsSource}
use Rattle.rr_syntax.specs.Tree.{SourceText}
use Rattle.rr_syntax.specs.Words.{Word}
use Rattle.rr_lex.specs.Tokens.{Lexeme, lexeme, lexemes}
use Rattle.rr_expr.specs.Scopes.{Names}
use Rattle.rr_flat.specs.Plain.{Flat}
use Rattle.rr_flat.specs.Signals.{Text}
use Rattle.rr_elaborate.specs.Designs.{IsDesignOf}
use Rattle.rr_change_places.specs.Spots.{IsCountable}
use Rattle.rr_clock.specs.Places.{Place}
use Rattle.rr_sites_listed.specs.Listing.{IsFitPlace}
use Rattle.rr_sites_ordered.proofs.Short.{countable}

-- the tokens of each condition can be counted
pub few : (bytes : List ℕ) (tokens : List Token) (source : SourceText) (top : Option Text) (flat : Flat) → IsDesignOf bytes (lexemes tokens) source top flat → FitLiteralsSource source → length tokens < 2 ^ 32 → AllByRecursion IsCountable source.modules
few bytes tokens source top flat d f l =
    let spelled = ap (λ (ws : List Word). length ws) d.text.spells.tree.spells.spelled in
    let words = length-map (lexemes tokens) (λ (t : Lexeme). t.word) in
    let all = length-map tokens lexeme in
    countable source f (omega (arith, spelled, words, all, l))

-- scopes and owners as they are handed on
pub fit_on : (source : SourceText) (p : Place) (scopes handed : List Names) (owners given : List ℕ) → handed ≡ scopes → given ≡ owners → IsFitPlace source scopes owners p → IsFitPlace source handed given p
fit_on source p scopes handed owners given e f h = subst (λ (s : List Names). IsFitPlace source s given p) (sym e) (subst (λ (o : List ℕ). IsFitPlace source scopes o p) (sym f) h)
