use Rattle.std.proofs.Common.{sym, ◌∙◌, ap, subst, length}
use Rattle.rr_syntax.specs.View.{plain_source}
use Rattle.rr_edit.specs.Edits.{InOrder, edited}
use Rattle.rr_edit.specs.View.{plain_edits}
use Rattle.rr_lex.specs.Tokens.{lexemes}
use Rattle.rr_patch.proofs.Printed.{made_tree, made_whole}
use Rattle.rr_patch.proofs.printing.print.Goals as goal

pub patch-requires : goal.patch-requires
patch-requires c = record { order = subst (λ es. InOrder 0 (length c.args.bytes.now) (plain_edits es)) (sym c.deref.ensures.value) c.in_ok-made.ensures.order }

pub returns-clause-exact : goal.returns-clause-exact
returns-clause-exact c = c.in_ok-out.ensures ∙ ap (λ es. edited 0 c.args.bytes.now (plain_edits es)) c.deref.ensures.value ∙ c.in_ok-made.ensures.printed

pub returns-clause-tree : goal.returns-clause-tree
returns-clause-tree c =
    made_tree c.args.bytes.now (lexemes c.args.tokens.now) (plain_source c.args.source.now) c.args.list.now c.args.choice.now.picks.items c.requires.tokens c.requires.tree c.in_ok-out.out.items
    (returns-clause-exact c) c.sites.ensures.kept

pub returns-clause-whole : goal.returns-clause-whole
returns-clause-whole c =
    made_whole c.args.bytes.now (lexemes c.args.tokens.now) (plain_source c.args.source.now) c.args.list.now c.args.choice.now.picks.items c.requires.tokens c.requires.tree c.in_ok-out.out.items
    (returns-clause-exact c)
