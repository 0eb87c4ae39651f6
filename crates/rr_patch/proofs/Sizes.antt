-- The pieces of parts have as many tokens of the source as the parts have words.
use Rattle.std.proofs.Common.{◌≡◌, List, length, ap}
use Rattle.rr_syntax.specs.Tree.{DeclaredName, NetAssignment, NamedConnection, ModuleInstance, ModuleItem, ModuleDeclaration}
use Rattle.rr_syntax.specs.Items.{spell_declarator, spell_pair, spell_connection, spell_instance, spell_item, spell_module}
use Rattle.rr_choice.specs.declared.pick.Pick.{Pick}
use Rattle.rr_choice.specs.Sites.{Site}
use Rattle.rr_respell.specs.Pieces.{source_words}
use Rattle.rr_respell.specs.Printing.{net_pieces, pair_pieces, connection_pieces, child_pieces, item_pieces, module_pieces}
use Rattle.rr_respell.proofs.SourceParts.{Free, free, net_makes, pair_makes, connection_makes, child_makes, item_makes, module_makes}

module _ (ss : List Site) (ps : List Pick) where
  pub net_size : (x : DeclaredName) → length (source_words (net_pieces ss ps x)) ≡ length (spell_declarator x)
  net_size x = ap length (net_makes Free ss (free ss) ps x).source

  pub pair_size : (x : NetAssignment) → length (source_words (pair_pieces ss ps x)) ≡ length (spell_pair x)
  pair_size x = ap length (pair_makes Free ss (free ss) ps x).source

  pub connection_size : (x : NamedConnection) → length (source_words (connection_pieces ss ps x)) ≡ length (spell_connection x)
  connection_size x = ap length (connection_makes Free ss (free ss) ps x).source

  pub child_size : (x : ModuleInstance) → length (source_words (child_pieces ss ps x)) ≡ length (spell_instance x)
  child_size x = ap length (child_makes Free ss (free ss) ps x).source

  pub item_size : (x : ModuleItem) → length (source_words (item_pieces ss ps x)) ≡ length (spell_item x)
  item_size x = ap length (item_makes Free ss (free ss) ps x).source

  pub module_size : (x : ModuleDeclaration) → length (source_words (module_pieces ss ps x)) ≡ length (spell_module x)
  module_size x = ap length (module_makes Free ss (free ss) ps x).source
