use Rattle.std.proofs.Common.{◌∙◌, sym, ap, option_map}
use Rattle.rr_trace.proofs.Fields.{field_some, field_none}
use Rattle.rr_trace.proofs.header.field.Goals as goal

pub unreachable-requires : goal.unreachable-requires
unreachable-requires c = field_none _ _ c.requires (sym c.get.ensures.value ∙ ap (option_map (λ s. s.now)) c.in-None.is)

pub returns : goal.returns
returns c = field_some _ _ _ (sym c.get.ensures.value ∙ ap (option_map (λ s. s.now)) c.in-Some.is)
