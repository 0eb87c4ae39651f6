use Rattle.std.proofs.Common.{◌≡◌, ◌∙◌, sym, arith, false, true, None, Some, get_or}
use Rattle.rr_directive.specs.Expand.{text_of, is_expanding}
use Rattle.rr_directive.specs.View.{left_names, undefined, within}
use Rattle.rr_directive.proofs.Names.{no_text, some_text}
use Rattle.rr_directive.proofs.Frames.{pushed, opens_begun}
use Rattle.rr_directive.proofs.using.begin.Goals as goal

pub returns-in-None-clause-answer : goal.returns-in-None-clause-answer
returns-in-None-clause-answer c = λ names ds name ls events at h o a s n.
    let e : get_or c.args.texts.now c.args.number None ≡ None = sym c.text_at.ensures ∙ c.in-None.is in
    (undefined (no_text names _ (text_of name ds) e (h.each c.args.number name n)), omega (arith, s.left, c.in_ok-count_use.ensures.left))

pub returns-then-has_flag-clause-answer : goal.returns-then-has_flag-clause-answer
returns-then-has_flag-clause-answer c = λ names ds name ls events at h o a s n.
    let e : get_or c.args.texts.now c.args.number None ≡ Some c.in-Some.rest = sym c.text_at.ensures ∙ c.in-Some.is in
    let t = some_text names c.in-Some.rest _ (text_of name ds) e (h.each c.args.number name n) in
    let f : is_expanding (left_names ls) name ≡ true = sym (o.set c.args.number name n) ∙ (sym c.has_flag.ensures ∙ c.if-has_flag.true) in
    (within t.0 t.1.0 f, omega (arith, s.left, c.in_ok-count_use.ensures.left))

pub returns-clause-answer : goal.returns-clause-answer
returns-clause-answer c = λ names ds name ls events at h o a s n.
    let e : get_or c.args.texts.now c.args.number None ≡ Some c.in-Some.rest = sym c.text_at.ensures ∙ c.in-Some.is in
    let t = some_text names c.in-Some.rest _ (text_of name ds) e (h.each c.args.number name n) in
    let f : is_expanding (left_names ls) name ≡ false = sym (o.set c.args.number name n) ∙ (sym c.has_flag.ensures ∙ c.if-has_flag.false) in
    record {
      text = t.0;
      defined = t.1.0;
      fresh = f;
      shows = c.in_ok-count_use.ensures.counted events at s;
      stack = pushed names c.args.frames.now.items _ _ _ ls c.in_ok-push.ensures.items (n, t.1.1) a;
      opens = opens_begun names c.args.flags.now _ (left_names ls) c.args.number name h.distinct o n f c.set_flag.ensures;
    }
