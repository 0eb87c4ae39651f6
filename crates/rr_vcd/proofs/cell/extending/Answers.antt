use Rattle.std.proofs.Common.{◌-◌, ◌^◌, ◌∙◌, sym, ap, if◌then◌else◌}
use Rattle.std.specs.Option.{option_copied}
use Rattle.rr_vcd.proofs.Extending.{extension_known, extension_none}
use Rattle.rr_vcd.proofs.cell.extending.Goals as goal

pub returns-in-None : goal.returns-in-None
returns-in-None c = sym (ap (λ b. if b then 2 ^ 128 - 1 else 0) (extension_none c.args.digits.now (sym c.first.ensures.value ∙ ap option_copied c.in-None.is)))

pub returns-then-is_known : goal.returns-then-is_known
returns-then-is_known c = let e = sym c.first.ensures.value ∙ ap option_copied c.in-Some.is in
    sym (ap (λ b. if b then 2 ^ 128 - 1 else 0) (extension_known c.args.digits.now _ e ∙ (sym c.is_known.ensures ∙ c.if-is_known.true)))

pub returns-else-is_known : goal.returns-else-is_known
returns-else-is_known c = let e = sym c.first.ensures.value ∙ ap option_copied c.in-Some.is in
    sym (ap (λ b. if b then 2 ^ 128 - 1 else 0) (extension_known c.args.digits.now _ e ∙ (sym c.is_known.ensures ∙ c.if-is_known.false)))
