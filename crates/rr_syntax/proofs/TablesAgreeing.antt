-- The tables, computed once over their whole length.
use Rattle.std.proofs.Common.{refl}
use Rattle.rr_syntax.specs.Expressions.{infix_level, is_prefix}
use Rattle.rr_syntax.specs.Tables.{TablesAgree, LevelsAgree}

pub tables_agree : TablesAgree
tables_agree = record {
  texts_of_words = refl;
  constants_of_words = refl;
  numbers_of_words = refl;
  texts_of_marks = refl;
  constants_of_marks = refl;
  numbers_of_marks = refl;
}

pub levels_agree : LevelsAgree
unfolding infix_level is_prefix
levels_agree = record {
  operators = refl;
  conditional = refl;
  sum_of_levels = refl;
  unary = refl;
  sum_of_prefixes = refl;
}
