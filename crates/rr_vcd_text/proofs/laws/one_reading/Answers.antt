use Rattle.rr_vcd_text.proofs.Once.{one_dump, dump_or_line, one_line}
use Rattle.rr_vcd_text.proofs.laws.one_reading.Goals as goal

pub returns-clause-one_dump : goal.returns-clause-one_dump
returns-clause-one_dump c = λ bytes d e told again x y. let s = one_dump bytes d e told again x y in (s.declared, s.tells)

pub returns-clause-dump_or_line : goal.returns-clause-dump_or_line
returns-clause-dump_or_line c = λ bytes d told line x b. dump_or_line bytes d told line x b

pub returns-clause-one_line : goal.returns-clause-one_line
returns-clause-one_line c = λ bytes line other x y. one_line bytes line other x y
