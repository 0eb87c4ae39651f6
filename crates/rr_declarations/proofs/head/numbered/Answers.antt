use Rattle.std.proofs.Common.{◌≡◌, ◌∙◌, sym, ap, ℕ, ◌+◌, length, map, inr, arith}
use Rattle.std.proofs.lemmas.List.{length-map}
use Rattle.std.proofs.lemmas.List.Elements.{All-weaker}
use Rattle.rr_flat.specs.View.{plain_signal}
use Rattle.rr_declarations.specs.Heads.{joined}
use Rattle.rr_declarations.specs.Sound.{HasWords, IsDeclared}
use Rattle.rr_declarations.specs.View.{plain_list}
use Rattle.rr_declarations.proofs.HeadLemmas.{constants_named, numbered_full}
use Rattle.rr_declarations.proofs.head.numbered.Goals as goal

pub joined-requires : goal.joined-requires
joined-requires c = All-weaker (λ x. IsDeclared c.args.instance x) (λ x. HasWords x) (λ x d. d.1) c.args.list.now c.requires.sound

pub returns-then-count-gt-FLAT_BITS-clause-value : goal.returns-then-count-gt-FLAT_BITS-clause-value
returns-then-count-gt-FLAT_BITS-clause-value c =
    let long : length c.in_ok-signals.signals.items ≡ length (joined (plain_list c.args.list.now)) = sym (length-map c.in_ok-signals.signals.items plain_signal) ∙ ap length c.in_ok-signals.ensures.value in
    inr (numbered_full c.args.instance c.args.base c.args.bits c.args.list.now c.args.names (c.args.base + c.len.result) (omega (arith, long)) (omega arith))

pub invariant_of-result : goal.invariant_of-result
invariant_of-result c =
    let long : length c.in_ok-signals.signals.items ≡ length (joined (plain_list c.args.list.now)) = sym (length-map c.in_ok-signals.signals.items plain_signal) ∙ ap length c.in_ok-signals.ensures.value in
    record {
      signals_in = c.in_ok-signals.ensures.sound c.args.instance c.requires.sound;
      scope_in = rw c.in_ok-signals.ensures.value (c.in_ok-name_signals.ensures.sound (constants_named c.args.base (joined (plain_list c.args.list.now)) _ c.requires.constants));
      numbers = omega (arith, long);
      few = c.requires.few;
    }

pub name_signals-requires-clause-few : goal.name_signals-requires-clause-few
name_signals-requires-clause-few c =
    let long : length c.in_ok-signals.signals.items ≡ length (joined (plain_list c.args.list.now)) = sym (length-map c.in_ok-signals.signals.items plain_signal) ∙ ap length c.in_ok-signals.ensures.value in
    omega (arith, long)

pub name_signals-requires-clause-words : goal.name_signals-requires-clause-words
name_signals-requires-clause-words c = All-weaker (λ x. IsDeclared c.args.instance x) (λ x. HasWords x) (λ x d. d.1) c.args.list.now c.requires.sound
