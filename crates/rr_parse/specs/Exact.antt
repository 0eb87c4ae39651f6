-- Which source text the tokens spell, and why there is none.
use Rattle.std.specs.Prelude.{◌≤◌, List, length}
use Rattle.rr_syntax.specs.declared.token.Token.{Token}
use Rattle.rr_syntax.specs.declared.tree.Source.{Source}
use Rattle.rr_syntax.specs.Words.{words}
use Rattle.rr_syntax.specs.View.{plain_source}
use Rattle.rr_parse_expr.specs.declared.expression.ParseFault.{ParseFault}
use Rattle.rr_parse_expr.specs.declared.expression.ParseFault.TheVariants.{Unsupported, Syntax, Memory}
use Rattle.rr_outside_words.specs.Profile.{NoneOutside, IsFirstOutside}
use Rattle.rr_grammar.specs.Trees.{IsNumberedTree, NoneSpells}

-- the tree is that of the tokens, and each leaf has its token's number
abbrev pub IsSpelled : List Token → Source → Type 0
IsSpelled tokens s = IsNumberedTree (words tokens) (plain_source s)

-- the fault says that the tokens spell no source text; want of memory is free
abbrev pub NotSpelled : List Token → ParseFault → Type 0
NotSpelled tokens (Syntax at) = NoneSpells (words tokens)
NotSpelled tokens (Unsupported at) = ⊥
NotSpelled tokens Memory = Unit {0}

-- the tree is that of the tokens, of which each has a rule
pub record IsParsed (tokens : List Token) (s : Source) : Type 0 where
  pub rules : NoneOutside tokens
  pub spelled : IsSpelled tokens s

-- `Unsupported` stands at the first word outside the profile. `Syntax` comes where each word has a rule and the tokens spell no source
-- text; it stands at a token, or behind the last. Want of memory is free.
abbrev pub IsRefusal : List Token → ParseFault → Type 0
IsRefusal tokens (Unsupported at) = IsFirstOutside tokens at
IsRefusal tokens (Syntax at) = NoneOutside tokens × NoneSpells (words tokens) × (at ≤ length tokens)
IsRefusal tokens Memory = Unit {0}
