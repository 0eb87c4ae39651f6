-- the wild places of a label's instance
use Rattle.std.proofs.Common.{◌≡◌, ◌∙◌, sym, ap, refl, ℕ, ◌≤◌, ◌==◌, Bool, true, false, cond, if◌then◌else◌, List, [], Option, Some, None, get_or}
use Rattle.std.proofs.lemmas.Nat.{pow_pos}
use denote.Ref.{Bor}
use Rattle.std.specs.Prelude.{Vec}
use Rattle.std.specs.Global.{Global}
use Rattle.rr_circuit.specs.declared.Wire.{Wire}
use Rattle.rr_circuit.specs.Values.{Netlist}
use Rattle.rr_bits.specs.Words.{either, extend, word}
use Rattle.rr_bits.proofs.Operators.{Held, extend_zeros, held, or_is}
use Rattle.rr_syntax.specs.declared.token.Mark.{Mark}
use Rattle.rr_syntax.specs.declared.token.Number.{Number}
use Rattle.rr_syntax.specs.declared.tree.Expr.{Expr, the_lemmas}
use Rattle.rr_syntax.specs.declared.tree.Expr.TheVariants as expr
use Rattle.rr_syntax.specs.Tree.{Tree, Name, Literal, Bit as BitSelect, Part, Indexed, Unary, Binary, Cond, Concat, Repeat, Cast, Paren}
use Rattle.rr_syntax.specs.View.{plain}
use Rattle.rr_syntax.specs.Words.{keyword_case, keyword_casez}
use Rattle.rr_syntax.proofs.Rows.{plain_concat, plain_repeat}
use Rattle.rr_expr.specs.declared.operators.Infix.TheVariants.{Either}
use Rattle.rr_expr.specs.Faults.{fault, takes_constants}
use Rattle.rr_expr.specs.Operators.{infixes}
use Rattle.rr_expr.specs.Scopes.{Names, env_of_lists}
use Rattle.rr_expr.specs.Values.{form}
use Rattle.rr_named_bits.proofs.Nodes.{shaped_small, shaped_positive}
use Rattle.rr_cycle.specs.Exec.{wild, wild_digits}
use Rattle.rr_choice.specs.declared.pick.Pick.{Pick}
use Rattle.rr_choice.specs.Places.{find_pick, is_literal_at}
use Rattle.rr_instance.specs.Instances.{fresh, instance_tree, new_literal, number_with}
use Rattle.rr_choice.specs.Sites.{Site}
use Rattle.rr_blast_sites.specs.Signals.{signal_values}
use Rattle.rr_blast_sites.specs.Finding.{is_on}
use Rattle.rr_blast_terms.specs.Wild.{changes}
use Rattle.rr_signal_wires.specs.Words.{carried, word_values}

-- a word of zeros is one in each width
zeros : (w n : ℕ) → 1 ≤ n → n ≤ 128 → extend w false (word n 0) ≡ word w 0
zeros w n l h = sym (extend_zeros w n 0 false (word n 0) (held n 0 (word n 0) (l, h, pow_pos n) refl) refl)

both_zero : (n : ℕ) → 1 ≤ n → n ≤ 128 → either (word n 0) (word n 0) ≡ word n 0
both_zero n l h =
    let z : Held n 0 (word n 0) = held n 0 (word n 0) (l, h, pow_pos n) refl in
    sym (or_is n 0 0 (word n 0) (word n 0) z z)

known : (kind w value : ℕ) (n : Number) → 1 ≤ n.width → n.width ≤ 128 → extend w false (wild_digits kind (number_with n value)) ≡ word w 0
known kind w value n l h = by_kind (kind == keyword_case) (kind == keyword_casez)
  where
    by_kind : (a b : Bool) → extend w false (cond a (word n.width 0) (cond b (word n.width 0) (either (word n.width 0) (word n.width 0)))) ≡ word w 0
    by_kind true b = zeros w n.width l h
    by_kind false true = zeros w n.width l h
    by_kind false false = ap (extend w false) (both_zero n.width l h) ∙ zeros w n.width l h

literal_low : (s : Names) (token : ℕ) (n : Number) → fault s (Literal token n) false ≡ None → 1 ≤ n.width
unfolding form
literal_low s token n h = shaped_positive s (Literal token n) h

literal_high : (s : Names) (token : ℕ) (n : Number) → fault s (Literal token n) false ≡ None → n.width ≤ 128
unfolding form
literal_high s token n h = shaped_small s (Literal token n) h

literal_wild : (kind w token : ℕ) (n : Number) (o : Option (Site × Pick)) → 1 ≤ n.width → n.width ≤ 128 →
    wild kind (new_literal o token n) w ≡ (if is_on o then word w 0 else wild kind (Literal token n) w)
unfolding wild
literal_wild kind w token n None l h = refl
literal_wild kind w token n (Some (s, p)) l h = by_switch p.on
  where
    by_switch : (b : Bool) → wild kind (if b then Literal fresh (number_with n p.value) else Literal token n) w ≡ (if b then word w 0 else wild kind (Literal token n) w)
    by_switch true = known kind w p.value n l h
    by_switch false = refl

pub wild_instance : (s : Names) (ss : List Site) (ps : List Pick) (kind w : ℕ) (t : Tree) → fault s t false ≡ None →
    wild kind (instance_tree ss ps t) w ≡ (if changes ss ps t then word w 0 else wild kind t w)
unfolding wild changes instance_tree fault
wild_instance s ss ps kind w (Name token name) f = refl
wild_instance s ss ps kind w (Literal token n) f = literal_wild kind w token n (find_pick (is_literal_at token) ss ps) (literal_low s token n f) (literal_high s token n f)
wild_instance s ss ps kind w (BitSelect token name i) f = refl
wild_instance s ss ps kind w (Part token name l r) f = refl
wild_instance s ss ps kind w (Indexed token name a n up) f = refl
wild_instance s ss ps kind w (Unary op t) f = refl
wild_instance s ss ps kind w (Binary op l r) f = by_operator (takes_constants (get_or infixes op Either))
  where
    by_operator : (b : Bool) → wild kind (if b then Binary op l r else Binary op (instance_tree ss ps l) (instance_tree ss ps r)) w ≡ word w 0
    by_operator true = refl
    by_operator false = refl
wild_instance s ss ps kind w (Cond a b c) f = refl
wild_instance s ss ps kind w (Concat ts) f = refl
wild_instance s ss ps kind w (Repeat n ts) f = refl
wild_instance s ss ps kind w (Cast signed t) f = refl
wild_instance s ss ps kind w (Paren t) f = wild_instance s ss ps kind w t f

-- what the words of a machine carry
pub carried_signals : (n : Netlist) (env : ℕ → Bool) (words : List (Vec Wire Global)) → env_of_lists (signal_values n env words) ≡ carried n env words
unfolding carried word_values signal_values
carried_signals n env words = refl

-- at nodes of the arena
module _ (ss : List Site) (ps : List Pick) where
  pub changes-Name : (token : ℕ) (name : Bor (List ℕ)) → changes ss ps (plain (expr.Name token name)) ≡ false
  unfolding plain changes
  changes-Name token name = refl

  pub changes-Literal : (token : ℕ) (n : Number) → changes ss ps (plain (expr.Literal token n)) ≡ is_on (find_pick (is_literal_at token) ss ps)
  unfolding plain changes
  changes-Literal token n = refl

  pub changes-Bit : (token : ℕ) (name : Bor (List ℕ)) (i : Bor Expr) → changes ss ps (plain (expr.Bit token name i)) ≡ false
  unfolding plain changes
  changes-Bit token name i = refl

  pub changes-Part : (token : ℕ) (name : Bor (List ℕ)) (l r : Bor Expr) → changes ss ps (plain (expr.Part token name l r)) ≡ false
  unfolding plain changes
  changes-Part token name l r = refl

  pub changes-Indexed : (token : ℕ) (name : Bor (List ℕ)) (f n : Bor Expr) (up : Bool) → changes ss ps (plain (expr.Indexed token name f n up)) ≡ false
  unfolding plain changes
  changes-Indexed token name f n up = refl

  pub changes-Unary : (op : Mark) (t : Bor Expr) → changes ss ps (plain (expr.Unary op t)) ≡ false
  unfolding plain changes
  changes-Unary op t = refl

  pub changes-Binary : (op : Mark) (l r : Bor Expr) → changes ss ps (plain (expr.Binary op l r)) ≡ false
  unfolding plain changes
  changes-Binary op l r = refl

  pub changes-Cond : (a b c : Bor Expr) → changes ss ps (plain (expr.Cond a b c)) ≡ false
  unfolding plain changes
  changes-Cond a b c = refl

  pub changes-Concat : (ts : Bor (List Expr)) → changes ss ps (plain (expr.Concat ts)) ≡ false
  unfolding changes
  changes-Concat ts = rw (plain_concat ts) refl

  pub changes-Repeat : (n : Bor Expr) (ts : Bor (List Expr)) → changes ss ps (plain (expr.Repeat n ts)) ≡ false
  unfolding changes
  changes-Repeat n ts = rw (plain_repeat n ts) refl

  pub changes-Cast : (signed : Bool) (t : Bor Expr) → changes ss ps (plain (expr.Cast signed t)) ≡ false
  unfolding plain changes
  changes-Cast signed t = refl

  pub changes-Paren : (t : Bor Expr) → changes ss ps (plain (expr.Paren t)) ≡ changes ss ps (plain t.now)
  unfolding plain changes
  changes-Paren t = refl

pub ruleset change_nodes = (the_lemmas, changes-Name, changes-Literal, changes-Bit, changes-Part, changes-Indexed, changes-Unary, changes-Binary, changes-Cond, changes-Concat, changes-Repeat, changes-Cast, changes-Paren)
