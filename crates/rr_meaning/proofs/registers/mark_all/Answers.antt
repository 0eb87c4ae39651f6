use Rattle.std.proofs.Common.{◌≡◌, ◌∙◌, subst, refl, true}
use Rattle.rr_expr.specs.Scopes.{env_of}
use Rattle.rr_named_bits.specs.declared.piece.Piece.{Piece}
use Rattle.rr_named_bits.specs.Pieces.{covers}
use Rattle.rr_writers.proofs.Reaching.{within_words}
use Rattle.rr_meaning.proofs.Marks.{words_more, words_none}
use Rattle.rr_meaning.proofs.registers.mark_all.Goals as goal

pub loop-word-init : goal.loop-word-init
loop-word-init c = record { env = λ b. words_none c.args.reach.now (env_of c.args.masks.now.items) b; count = refl }

pub mark-requires : goal.mark-requires
mark-requires c = λ b h.
    let f = c.requires b (within_words c.args.reach.now c.loop-word.word b c.loop-word-test.true (subst (λ (p : Piece). covers p b ≡ true) c.in_ok-piece.ensures h)) in
    (rw c.loop-word.invariant.count f.0, f.1)

pub loop-word-preserved : goal.loop-word-preserved
loop-word-preserved c = record {
  env = words_more c.args.reach.now c.loop-word.word c.in_ok-piece.piece (env_of c.args.masks.now.items) (env_of c.loop-word.masks.items) (env_of c.mark.new.masks.items) c.in_ok-piece.ensures c.loop-word.invariant.env c.mark.ensures.env;
  count = c.mark.ensures.count ∙ c.loop-word.invariant.count;
}
