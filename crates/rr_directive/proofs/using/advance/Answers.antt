use Rattle.std.proofs.Common.{◌≡◌, ◌∙◌, ◌∷◌, ap}
use Rattle.rr_directive.specs.declared.definitions.Part.{Part}
use Rattle.rr_directive.specs.declared.definitions.Part.TheVariants as part
use Rattle.rr_directive.specs.View.{left_names}
use Rattle.rr_directive.proofs.Names.{items_none, items_byte, items_use}
use Rattle.rr_directive.proofs.Frames.{behind, pushed, opens_ended}
use Rattle.rr_directive.proofs.Running.{end_answers, byte_answers, use_answers}
use Rattle.rr_directive.proofs.using.advance.Goals as goal

pub returns-in-None-clause-answer : goal.returns-in-None-clause-answer
returns-in-None-clause-answer c = λ names ds l ls events h o f a s.
    end_answers names ds l ls events c.args.offset _ _ _ (items_none names c.args.frame.rest.now l.rest c.in-None.ensures f.1) a
    (opens_ended names c.args.flags.now _ (left_names ls) c.args.frame.name l.name h.distinct o f.0 c.set_flag.ensures) s

pub returns-in-Byte-clause-answer : goal.returns-in-Byte-clause-answer
returns-in-Byte-clause-answer c = λ names ds l ls events h o f a s.
    let e : c.args.frame.rest.now ≡ part.Byte c.in-Byte.byte ∷ c.in-Some.rest.now = c.in-Some.ensures ∙ ap (λ (p : Part). p ∷ c.in-Some.rest.now) c.in-Byte.is in
    let t = items_byte names c.args.frame.rest.now c.in-Some.rest.now l.rest c.in-Byte.byte e f.1 in
    byte_answers names ds l ls events c.args.offset _ _ c.args.out.now _ c.in-Byte.byte t.0 _ t.1.0
    (pushed names c.args.frames.now.items _ _ (behind l t.0) ls c.in_ok-push-in-Some.ensures.items (f.0, t.1.1) a) o s c.give_for.ensures.given c.give_for.ensures.full

pub returns-in-Use-clause-answer : goal.returns-in-Use-clause-answer
returns-in-Use-clause-answer c = λ names ds l ls events h o f a s.
    let e : c.args.frame.rest.now ≡ part.Use c.in-Use.number ∷ c.in-Some.rest.now = c.in-Some.ensures ∙ ap (λ (p : Part). p ∷ c.in-Some.rest.now) c.in-Use.is in
    let t = items_use names c.args.frame.rest.now c.in-Some.rest.now l.rest c.in-Use.number e f.1 in
    use_answers names ds l ls events c.args.offset _ _ _ t.0 t.1.0 _ t.1.1.0
    (c.begin.ensures.answer names ds t.0 (behind l t.1.0 ∷ ls) events c.args.offset h o
    (pushed names c.args.frames.now.items _ _ (behind l t.1.0) ls c.in_ok-push-in-Some.ensures.items (f.0, t.1.1.1.1) a) s t.1.1.1.0)
