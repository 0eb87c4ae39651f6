use Rattle.std.proofs.Common.{◌∙◌, sym, ap, false, rules}
use Rattle.rr_bits.specs.Words.{extend}
use Rattle.rr_syntax.specs.declared.tree.Expr.{the_lemmas}
use Rattle.rr_named_bits.proofs.Nodes.{shaped-Paren}
use Rattle.rr_exec.proofs.Labels.{literal_low, literal_high, wild-Paren, wild-Literal}
use Rattle.rr_exec.proofs.cases.+wild.Goals as goal

pub wild-requires : goal.wild-requires
wild-requires t c = (search (rules, the_lemmas), ((c.requires.shaped.0, shaped-Paren _ _ (rw c.in-Paren.is at c.requires.shaped.1)), (c.requires.low, c.requires.high)))

pub wild_digits-requires-clause-low : goal.wild_digits-requires-clause-low
wild_digits-requires-clause-low t c = literal_low c.requires.shaped.0 _ _ (rw c.in-Literal.is at c.requires.shaped.1)

pub wild_digits-requires-clause-high : goal.wild_digits-requires-clause-high
wild_digits-requires-clause-high t c = literal_high c.requires.shaped.0 _ _ (rw c.in-Literal.is at c.requires.shaped.1)

pub returns-in-Paren : goal.returns-in-Paren
returns-in-Paren t c = rw c.in-Paren.is (c.wild.ensures ∙ sym (wild-Paren _ _ _))

pub returns-in-Literal : goal.returns-in-Literal
returns-in-Literal t c = rw c.in-Literal.is (c.extend.ensures ∙ ap (extend c.args.width false) c.wild_digits.ensures ∙ sym (wild-Literal _ _ _ _))
