-- A statement whose loops are unfolded, and what was found of it.
use Rattle.std.proofs.Common.{◌≡◌, ◌∙◌, sym, ap, subst, Bool, true, false, IsTrue, List, [], ◌∷◌, Option, Some, None, fold, nat_lt, refl}
use Rattle.std.specs.Prelude.{option_to_list}
use Rattle.rr_syntax.specs.Tree.{Statement}
use Rattle.rr_syntax.specs.Statements.{WellFormedStatement, FitLiteralsStatement, is_initial}
use Rattle.rr_expr.specs.Scopes.{Names}
use Rattle.rr_flat.specs.declared.fault.FlatFault.{FlatFault}
use Rattle.rr_flat.specs.Faults.{earlier, earliest_of, token}
use Rattle.rr_flat.specs.Loops.{is_loop_free}
use Rattle.rr_flat.specs.Shapes.{statement_faults}
use Rattle.rr_flat.specs.Sound.{IsStatement}
use Rattle.rr_starts.specs.Starts.{initial_faults}
use Rattle.rr_starts.proofs.Shaped.{initial_shaped}
use Rattle.rr_unfold.specs.Unfold.{unfold_statement}
use Rattle.rr_unfold.proofs.Rules.{form_kept, initial_kept, literals_kept, loops_gone}

-- where nothing was found there is no fault

stays : (g : FlatFault) (fs : List FlatFault) → fold earlier (Some g) fs ≡ None → ⊥
unfolding earlier
stays g [] e = cc
stays g (f ∷ fs) e = go (nat_lt (token f) (token g)) refl (stays f fs) (stays g fs)
  where
    go : (b : Bool) → nat_lt (token f) (token g) ≡ b → (fold earlier (Some f) fs ≡ None → ⊥) → (fold earlier (Some g) fs ≡ None → ⊥) → ⊥
    go true h recf recg = recf (rw h at e)
    go false h recf recg = recg (rw h at e)

pub none_earliest : (fs : List FlatFault) → earliest_of fs ≡ None → fs ≡ []
unfolding earlier
none_earliest [] e = refl
none_earliest (f ∷ fs) e = absurd (stays f fs e)

pub none_listed : (o : Option FlatFault) → option_to_list o ≡ [] → o ≡ None
none_listed None e = refl
none_listed (Some f) e = cc

-- each loop is gone, and the expressions are well-formed as they were

pub statement_unfolded : (s : Names) (t u : Statement) → WellFormedStatement t → FitLiteralsStatement t → u ≡ unfold_statement s [] t → statement_faults s u ≡ [] → IsStatement s u
statement_unfolded s t u w f e n = record {
  formed = subst WellFormedStatement (sym e) (form_kept s t w);
  fit = subst FitLiteralsStatement (sym e) (literals_kept s t f);
  shaped = n;
  loops = ap is_loop_free e ∙ loops_gone s t;
}

-- an `initial` item sets whole variables and words alone, also where its loops are unfolded

pub item_unfolded : (s : Names) (t u : Statement) → IsTrue (is_initial t) → WellFormedStatement t → FitLiteralsStatement t → u ≡ unfold_statement s [] t → initial_faults s u ≡ [] → IsStatement s u
item_unfolded s t u i w f e n = statement_unfolded s t u w f e (initial_shaped s u (subst (λ x. IsTrue (is_initial x)) (sym e) (initial_kept s t i)) n)
