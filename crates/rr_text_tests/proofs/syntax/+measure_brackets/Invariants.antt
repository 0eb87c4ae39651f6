use Rattle.rr_text_tests.proofs.syntax.+measure_brackets.Given as goal

abbrev pub decreases-measure_brackets : goal.decreases-measure_brackets
decreases-measure_brackets l = l.brackets
