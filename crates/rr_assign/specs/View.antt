-- What the targets of blocks stand for.
use Rattle.rr_flat.specs.Plain.{Flat}
use Rattle.rr_text_names.specs.View.{plain_target}
use Rattle.rr_assign.specs.Kinds.{Aim, aim_of}
use Rattle.rr_assign.specs.declared.kinds.Assignment.{Assignment}

abbrev pub plain_aim : Flat → Assignment → Aim
plain_aim flat a = aim_of flat a.scope a.combinational (plain_target a.target)
