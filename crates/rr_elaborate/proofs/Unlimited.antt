-- The flat design of a text is that of its tree, whatever its loops unfold to.
use Rattle.std.proofs.Common.{◌≡◌, List, ℕ, Option, Ok}
use Rattle.rr_syntax.specs.Tree.{SourceText}
use Rattle.rr_lex.specs.Tokens.{Lexeme}
use Rattle.rr_flat.specs.Plain.{Flat}
use Rattle.rr_flat.specs.Signals.{Text}
use Rattle.rr_flatten.specs.Walk.{flat_of}
use Rattle.rr_flatten.proofs.Limits.{design_stays}
use Rattle.rr_elaborate.specs.Designs.{IsDesign, IsDesignOf}

pub flat_of_text : (bytes : List ℕ) (ts : List Lexeme) (top : Option Text) (flat : Flat) (d : IsDesign bytes ts top flat) → flat_of d.tree top ≡ Ok flat
flat_of_text bytes ts top flat d = design_stays 1048576 d.tree top flat d.flat

pub flat_of_tree : (bytes : List ℕ) (ts : List Lexeme) (tree : SourceText) (top : Option Text) (flat : Flat) → IsDesignOf bytes ts tree top flat → flat_of tree top ≡ Ok flat
flat_of_tree bytes ts tree top flat d = design_stays 1048576 tree top flat d.flat
