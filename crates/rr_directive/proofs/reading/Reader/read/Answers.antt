use Rattle.std.proofs.Common.{◌≡◌, arith, refl, rules}
use Rattle.rr_directive.specs.declared.piece.Kind.TheVariants as kind
use Rattle.rr_directive.specs.declared.piece.Directive.TheVariants as directive
use Rattle.rr_directive.specs.Expand.{bad, Each, Last, Nowhere}
use Rattle.rr_directive.specs.View.{unit_at}
use Rattle.rr_directive.proofs.Acts.{act_comment, act_elsif, act_escaped, act_ifdef, act_ifndef, act_plain, act_stays, exact_each, exact_last, exact_nowhere, unit_length}
use Rattle.rr_directive.proofs.reading.Reader.read.Goals as goal

pub returns-in-Comment : goal.returns-in-Comment
returns-in-Comment c = λ s events h.
    let l = unit_length c.args.bytes.now c.args.at c.args.piece.end (omega (arith, c.requires.within.some)) c.requires.within.within in
    c.own.ensures s events Nowhere (act_comment s (unit_at c.args.bytes.now c.args.at c.args.piece) c.in-Comment.is) (exact_nowhere c.args.piece.end c.args.at _ (omega (arith, l, c.requires.within.some))) h

pub returns-in-Escaped : goal.returns-in-Escaped
returns-in-Escaped c = λ s events h.
    let l = unit_length c.args.bytes.now c.args.at c.args.piece.end (omega (arith, c.requires.within.some)) c.requires.within.within in
    c.own-in-Escaped.ensures s events Last (act_escaped s (unit_at c.args.bytes.now c.args.at c.args.piece) c.in-Escaped.is) (exact_last _ c.args.at _ (omega (arith, l, c.requires.within.some))) h

pub returns-in-Plain : goal.returns-in-Plain
returns-in-Plain c = λ s events h.
    c.own-in-Plain.ensures s events Each (act_plain s (unit_at c.args.bytes.now c.args.at c.args.piece) c.in-Plain.is) (exact_each c.args.at c.args.at _ (omega arith)) h

pub returns-in-Named-Stays : goal.returns-in-Named-Stays
returns-in-Named-Stays c = λ s events h.
    let k : c.args.piece.kind ≡ kind.Named directive.Stays = search rules in
    let l = unit_length c.args.bytes.now c.args.at c.args.piece.end (omega (arith, c.requires.within.some)) c.requires.within.within in
    c.own-in-Named-Stays.ensures s events Nowhere (act_stays s (unit_at c.args.bytes.now c.args.at c.args.piece) k) (exact_nowhere c.args.piece.end c.args.at _ (omega (arith, l, c.requires.within.some))) h

pub returns-in-Named-Ifdef : goal.returns-in-Named-Ifdef
returns-in-Named-Ifdef c = λ s events h.
    let k : c.args.piece.kind ≡ kind.Named directive.Ifdef = search rules in
    c.open_branch.ensures s events (act_ifdef s (unit_at c.args.bytes.now c.args.at c.args.piece) k) h

pub returns-in-Named-Ifndef : goal.returns-in-Named-Ifndef
returns-in-Named-Ifndef c = λ s events h.
    let k : c.args.piece.kind ≡ kind.Named directive.Ifndef = search rules in
    c.open_branch-in-Named-Ifndef.ensures s events (act_ifndef s (unit_at c.args.bytes.now c.args.at c.args.piece) k) h

pub returns-in-Named-Else : goal.returns-in-Named-Else
returns-in-Named-Else c = λ s events h.
    let k : c.args.piece.kind ≡ kind.Named directive.Else = search rules in
    c.turn.ensures c.args.bytes.now (unit_at c.args.bytes.now c.args.at c.args.piece) s events refl k h

pub returns-in-Named-Endif : goal.returns-in-Named-Endif
returns-in-Named-Endif c = λ s events h.
    let k : c.args.piece.kind ≡ kind.Named directive.Endif = search rules in
    c.close.ensures c.args.bytes.now (unit_at c.args.bytes.now c.args.at c.args.piece) s events refl k h

pub returns-in-Named-Elsif : goal.returns-in-Named-Elsif
returns-in-Named-Elsif c = λ s events h.
    let k : c.args.piece.kind ≡ kind.Named directive.Elsif = search rules in
    bad (act_elsif s (unit_at c.args.bytes.now c.args.at c.args.piece) k)
