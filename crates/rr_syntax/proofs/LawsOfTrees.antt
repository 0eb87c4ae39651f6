-- The laws of the trees.
use Rattle.std.proofs.Common.{◌≡◌, ◌↔◌, sym, subst}
use Rattle.rr_syntax.specs.Laws.{KeepsSpelling, KeepsRules, KeepsDepth, KeepsLevel, IsBare, SpellsSome}
use Rattle.rr_syntax.proofs.BareExpressions.{spell-bare, WellFormed-bare, depth-bare, level-bare, is_target-bare, bare-bare}
use Rattle.rr_syntax.proofs.BareStatements.{spell_statement-bare, spell_arm-bare, WellFormedStatement-bare, WellFormedArm-bare, depth_statement-bare, depth_arm-bare, is_open-bare, bare_statement-bare, bare_arm-bare}
use Rattle.rr_syntax.proofs.BareItems.{spell_item-bare, spell_module-bare, spell_source-bare, WellFormedItem-bare, WellFormedModule-bare, WellFormedSource-bare, depth_item-bare, depth_module-bare, depth_source-bare, bare_item-bare, bare_module-bare, bare_source-bare}
use Rattle.rr_syntax.proofs.Nonempty.{spell-some, spell_statement-some, spell_arm-some, spell_item-some, spell_module-some, source-none, none-source}

pub keeps_spelling : KeepsSpelling
keeps_spelling = record {
  expression = spell-bare;
  statement = spell_statement-bare;
  arm = spell_arm-bare;
  item = spell_item-bare;
  declaration = spell_module-bare;
  source = spell_source-bare;
}

-- equal facts follow from each other
both : (P Q : Type 0) → P ≡ Q → P ↔ Q
both P Q e = (λ p. subst (λ (R : Type 0). R) e p, λ q. subst (λ (R : Type 0). R) (sym e) q)

pub keeps_rules : KeepsRules
keeps_rules = record {
  expression = λ t. both _ _ (WellFormed-bare t);
  statement = λ s. both _ _ (WellFormedStatement-bare s);
  arm = λ a. both _ _ (WellFormedArm-bare a);
  item = λ i. both _ _ (WellFormedItem-bare i);
  declaration = λ m. both _ _ (WellFormedModule-bare m);
  source = λ s. both _ _ (WellFormedSource-bare s);
}

pub keeps_depth : KeepsDepth
keeps_depth = record {
  expression = depth-bare;
  statement = depth_statement-bare;
  arm = depth_arm-bare;
  item = depth_item-bare;
  declaration = depth_module-bare;
  source = depth_source-bare;
}

pub keeps_level : KeepsLevel
keeps_level = record { expression = level-bare; target = is_target-bare; statement = is_open-bare }

pub is_bare : IsBare
is_bare = record {
  expression = bare-bare;
  statement = bare_statement-bare;
  arm = bare_arm-bare;
  item = bare_item-bare;
  declaration = bare_module-bare;
  source = bare_source-bare;
}

pub spells_some : SpellsSome
spells_some = record {
  expression = spell-some;
  statement = spell_statement-some;
  arm = spell_arm-some;
  item = spell_item-some;
  declaration = spell_module-some;
  source = λ s. (source-none s, none-source s);
}
