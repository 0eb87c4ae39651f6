-- The flat design of a text, and why it has none.
use Rattle.std.specs.Prelude.{ℕ, ◌≡◌, ◌<◌, List, length, drop, get_or, IsTrue, Option, Some, Ok, Err}
use Rattle.rr_syntax.specs.Tree.{SourceText}
use Rattle.rr_syntax.specs.Words.{Marked}
use Rattle.rr_lex.specs.Tokens.{Lexeme, AreTokens, IsFirstFault, words_of}
use Rattle.rr_outside_words.specs.Profile.{is_outside}
use Rattle.rr_grammar.specs.Trees.{IsNumberedTree, NoneSpells}
use Rattle.rr_flat.specs.Signals.{Text}
use Rattle.rr_flat.specs.declared.fault.FlatFault.{FlatFault}
use Rattle.rr_flat.specs.declared.fault.FlatFault.TheVariants as flat
use Rattle.rr_flat.specs.Plain.{Flat}
use Rattle.rr_flatten.specs.Walk.{flat_by}
use Rattle.rr_elaborate.specs.declared.design.DesignFault.{DesignFault}
use Rattle.rr_elaborate.specs.declared.design.DesignFault.TheVariants as fault

-- the word at a place has no rule in the profile
abbrev pub IsOutside : List Lexeme → ℕ → Type 0
IsOutside ts at = IsTrue (is_outside (drop at (words_of ts)))

abbrev pub AllHaveRules : List Lexeme → Type 0
AllHaveRules ts = (at : ℕ) → IsOutside ts at → ⊥

-- the byte at which a token begins
abbrev pub start_of : List Lexeme → ℕ → ℕ
start_of ts at = (get_or ts at (record { word = Marked 0; start = 0; end = 0 })).start

-- the bytes are these tokens, which have rules and spell this text, with their numbers
pub record IsText (bytes : List ℕ) (ts : List Lexeme) (t : SourceText) : Type 0 where
  pub lexed : AreTokens bytes ts
  pub rules : AllHaveRules ts
  pub spells : IsNumberedTree (words_of ts) t

-- the bytes have these tokens and this flat design with a top (section 12), where the bodies of loops have at most 1,048,576 tokens in
-- all their turns (section 9.6)
pub record IsDesign (bytes : List ℕ) (tokens : List Lexeme) (top : Option Text) (design : Flat) : Type 0 where
  pub tree : SourceText
  pub text : IsText bytes tokens tree
  pub flat : flat_by (Some 1048576) tree top ≡ Ok design

-- the bytes have these tokens, which spell this tree, and this is its flat design
pub record IsDesignOf (bytes : List ℕ) (tokens : List Lexeme) (tree : SourceText) (top : Option Text) (design : Flat) : Type 0 where
  pub text : IsText bytes tokens tree
  pub flat : flat_by (Some 1048576) tree top ≡ Ok design

-- the first word without a rule begins at this byte
pub record IsUnsupported (bytes : List ℕ) (offset : ℕ) : Type 0 where
  pub tokens : List Lexeme
  pub lexed : AreTokens bytes tokens
  pub at : ℕ
  pub within : at < length tokens
  pub outside : IsOutside tokens at
  pub first : (i : ℕ) → i < at → IsOutside tokens i → ⊥
  pub starts : offset ≡ start_of tokens at

-- the bytes are tokens that have rules, and spell no text
pub record IsUnparsed (bytes : List ℕ) : Type 0 where
  pub tokens : List Lexeme
  pub lexed : AreTokens bytes tokens
  pub rules : AllHaveRules tokens
  pub none : NoneSpells (words_of tokens)

-- a fault of elaboration with the byte at which its token begins in the place of the token's number
abbrev pub placed : List Lexeme → FlatFault → FlatFault
placed ts flat.NoTop = flat.NoTop
placed ts (flat.UnknownModule at) = flat.UnknownModule (start_of ts at)
placed ts (flat.SelfInstance at) = flat.SelfInstance (start_of ts at)
placed ts (flat.NameTwice at) = flat.NameTwice (start_of ts at)
placed ts (flat.UnknownName at) = flat.UnknownName (start_of ts at)
placed ts (flat.BadRange at) = flat.BadRange (start_of ts at)
placed ts (flat.NotConstant at) = flat.NotConstant (start_of ts at)
placed ts (flat.PortMismatch at) = flat.PortMismatch (start_of ts at)
placed ts (flat.TooWide at width) = flat.TooWide (start_of ts at) width
placed ts (flat.TooMany limit count) = flat.TooMany limit count
placed ts (flat.BadLoop at) = flat.BadLoop (start_of ts at)
placed ts flat.Memory = flat.Memory

-- the text has a tree, of which elaboration finds this fault first
pub record IsFlawed (bytes : List ℕ) (top : Option Text) (fault : FlatFault) : Type 0 where
  pub tokens : List Lexeme
  pub tree : SourceText
  pub text : IsText bytes tokens tree
  pub found : FlatFault
  pub flat : flat_by (Some 1048576) tree top ≡ Err found
  pub at : fault ≡ placed tokens found

-- why there is none; want of memory is free, and which byte is told of a text without a tree is not said
abbrev pub Refuses : List ℕ → Option Text → DesignFault → Type 0
Refuses bytes top (fault.Text wrong at) = IsFirstFault bytes wrong at
Refuses bytes top (fault.Unsupported at) = IsUnsupported bytes at
Refuses bytes top (fault.Syntax at) = IsUnparsed bytes
Refuses bytes top (fault.Flaw f) = IsFlawed bytes top f
Refuses bytes top fault.Memory = Unit {0}

-- two refusals are the same, but for want of memory and for the byte that is told of a text without a tree
pub data IsSameRefusal (e f : DesignFault) : Type 0 where
  same : e ≡ f → IsSameRefusal e f
  first_memory : e ≡ fault.Memory → IsSameRefusal e f
  second_memory : f ≡ fault.Memory → IsSameRefusal e f
  both_unparsed : (i j : ℕ) → e ≡ fault.Syntax i → f ≡ fault.Syntax j → IsSameRefusal e f
