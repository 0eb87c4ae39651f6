-- Declarations that were read, from their parts.
use Rattle.std.proofs.Common.{◌≡◌, ℕ, ◌+◌, ◌≤◌, List, [], ◌∷◌, ◌++◌, length, drop, map, Bool, true, false, not, ◌||◌, cond, nat_eq, refl, ap, ◌∙◌, sym, arith, Option, Some, None, length-append, append_assoc, subst}
use Rattle.std.specs.List.{list_all}
use Rattle.std.specs.Option.{is_some}
use Rattle.rr_syntax.specs.declared.token.Token.{Token}
use Rattle.rr_syntax.specs.declared.tree.Dir.{Dir}
use Rattle.rr_syntax.specs.declared.tree.Dir.TheVariants as dir
use Rattle.rr_syntax.specs.declared.tree.Expr.{Expr}
use Rattle.rr_syntax.specs.declared.tree.Named.{Named as Name}
use Rattle.rr_syntax.specs.declared.tree.Bounds.{Bounds}
use Rattle.rr_syntax.specs.declared.tree.Declarator.{Declarator}
use Rattle.rr_syntax.specs.declared.tree.Group.{Group}
use Rattle.rr_syntax.specs.declared.tree.Setting.{Setting}
use Rattle.rr_syntax.specs.declared.tree.Params.{Params}
use Rattle.rr_syntax.specs.Words.{Word, Marked, Reserved, words, keyword_input, keyword_integer, keyword_localparam, keyword_output, keyword_parameter, keyword_reg, keyword_signed, keyword_wire, mark_colon, mark_equals, mark_open_bracket}
use Rattle.rr_syntax.specs.Tree.{Tree, bare_range, bare_identifier, bare_port, bare_assignment, bare_parameter, bare_declarator, bare_pair}
use Rattle.rr_syntax.specs.Expressions.{spell, Numbered}
use Rattle.rr_syntax.specs.Items.{spell_where, spell_identifier, spell_range, spell_type, spell_dir, spell_port, spell_assignment, spell_parameter, spell_declarator, spell_pair, spell_separated, NumberedIdentifier, NumberedRange, NumberedType, NumberedPort, NumberedAssignment, NumberedParameter, NumberedValue, NumberedDeclarator, NumberedPair, NumberedSeparated}
use Rattle.rr_syntax.specs.View.{plain, plain_identifier, plain_range, plain_port, plain_assignment, plain_parameter, plain_value, plain_declarator, plain_pair}
use Rattle.rr_parse_expr.specs.Reading.{mapped, mark, rest}
use Rattle.rr_parse_expr.proofs.Answered.{not_equal, rest_drop}
use Rattle.rr_parse_stmt.specs.Reading.{keyword}
use Rattle.rr_grammar.specs.Formats.{both, shaped, respelled, list, Finds, FindsNone}
use Rattle.rr_grammar.specs.Leaves.{identifier, expression, target_of, flag, choice, where_mark, range, typed, direction, of_input, of_output}
use Rattle.rr_grammar.specs.Declarations.{declarator, to_declarator, of_declarator, has_no_words, single, is_variable_name, variable, is_output_reg, has_no_value, starts_right, port, to_port, of_port, setting, to_setting, of_setting, pair, to_pair, of_pair, kind, parameter, to_parameter, of_parameter, head_parameter, is_global}
use Rattle.rr_grammar.proofs.Exacts.{mapped_some}
use Rattle.rr_grammar.proofs.LeavesExact.{range_words, range_bare}
use Rattle.rr_grammar.proofs.DeclarationsExact.{declarator_words, declarator_bare, words_bare, variable_bare, starts_bare}
use Rattle.rr_parse_expr.specs.declared.lists.Piece.{Piece}
use Rattle.rr_parse.specs.declared.declarations.Type as typing
use Rattle.rr_parse.specs.declared.declarations.ParameterType.{ParameterType}
use Rattle.rr_parse.specs.Answer.{MarkAt, WordAt, FindsDirection, bounds_of, plain_bounds}
use Rattle.rr_parse.specs.Trees.{plain_type, plain_kind}
use Rattle.rr_parse.proofs.Founds.{same, if_true, if_false, mapped_none, chain_then, cond_second, finds_both, finds_after_mark, finds_shaped, finds_respelled, finds_narrowed, finds_guarded, finds_absent, finds_there}
use denote.Ref.{Bor}

-- ---- ranges

pub made_no_range : (k : ℕ) (T : List Token) (from : ℕ) → (mark (drop from (words T)) ≡ mark_open_bracket → ⊥) → from ≤ length T → Finds (range k) T from (plain_range None) from
unfolding plain_range spell_range bare_range NumberedRange
made_no_range k T from h i = finds_respelled spell_range bare_range NumberedRange refl refl tt (finds_absent (bounds_of k) h i)

pub made_range : {k : ℕ} {T : List Token} {from middle : ℕ} (b : Bounds) {next : ℕ} → MarkAt T from mark_open_bracket middle → Finds (bounds_of k) T middle (plain_bounds b) next → Finds (range k) T from (plain_range (Some b)) next
unfolding plain_range NumberedRange
made_range {from = from} b e f =
    finds_respelled spell_range bare_range NumberedRange (range_words (Some (plain_bounds b))) (range_bare (Some (plain_bounds b))) (
      subst (Numbered (plain b.left.now)) e.0 f.numbered.0,
      subst (Numbered (plain b.right.now)) (omega (arith, e.0, length-append (spell (plain b.left.now)) (Marked mark_colon ∷ []))) f.numbered.1,
    )
    (finds_there e f)

pub made_type : {k : ℕ} {T : List Token} {from : ℕ} (s : Bool) (b : Option Bounds) {middle next : ℕ} → Finds (flag keyword_signed) T from s middle → Finds (range k) T middle (plain_range b) next → Finds (typed k) T from (s, plain_range b) next
made_type s b f g = finds_both f (finds_narrowed g)

-- ---- ports

direction_by : (T : List Token) (from : ℕ) (r : Piece Dir) → direction.read (drop from (words T)) ≡ Some (r.value, drop r.next (words T)) → r.next ≤ length T → r.next ≡ from + length (spell_dir r.value) → Finds direction T from r.value r.next
direction_by T from r e w t = record { found_is = e; within = w; taken = t; numbered = tt }

pub made_input : (T : List Token) (from : ℕ) (r : Piece Dir) → keyword (drop from (words T)) ≡ keyword_input → FindsDirection of_input T (from + 1) r → Finds direction T from r.value r.next
made_input T from r e f =
    direction_by T from r
    (if_true (nat_eq (keyword (drop from (words T))) keyword_input) (of_input (rest (drop from (words T)))) _ (Some (r.value, drop r.next (words T))) (same (keyword (drop from (words T))) keyword_input e) (ap of_input (rest_drop (words T) from) ∙ f.found_is))
    f.within (omega (arith, f.taken))

pub made_output : (T : List Token) (from : ℕ) (r : Piece Dir) → (keyword (drop from (words T)) ≡ keyword_input → ⊥) → keyword (drop from (words T)) ≡ keyword_output → FindsDirection of_output T (from + 1) r → Finds direction T from r.value r.next
made_output T from r h e f =
    let ws : List Word = drop from (words T) in
    let p = Some (r.value, drop r.next (words T)) in
    direction_by T from r
    (if_false (nat_eq (keyword ws) keyword_input) (of_input (rest ws)) _ p (not_equal (keyword ws) keyword_input h)
    (if_true (nat_eq (keyword ws) keyword_output) (of_output (rest ws)) None p (same (keyword ws) keyword_output e) (ap of_output (rest_drop (words T) from) ∙ f.found_is)))
    f.within (omega (arith, f.taken))

pub no_direction : (T : List Token) (from : ℕ) → (keyword (drop from (words T)) ≡ keyword_input → ⊥) → (keyword (drop from (words T)) ≡ keyword_output → ⊥) → FindsNone direction T from
no_direction T from h i =
    let ws : List Word = drop from (words T) in
    record {
      none_is = if_false (nat_eq (keyword ws) keyword_input) (of_input (rest ws)) _ None (not_equal (keyword ws) keyword_input h)
          (if_false (nat_eq (keyword ws) keyword_output) (of_output (rest ws)) None None (not_equal (keyword ws) keyword_output i) refl);
    }

pub input_wire : (T : List Token) (from : ℕ) → WordAt T from keyword_wire (from + 1) → FindsDirection of_input T from (record { value = dir.InputWire; next = from + 1 })
unfolding spell_dir
input_wire T from e = record {
  found_is = if_true (nat_eq (keyword (drop from (words T))) keyword_wire) (Some (dir.InputWire, rest (drop from (words T)))) _ (Some (dir.InputWire, drop (from + 1) (words T))) (same (keyword (drop from (words T))) keyword_wire e.1) (ap (λ (us : List Word). Some (dir.InputWire, us)) (rest_drop (words T) from));
  within = omega (arith, e.2);
  taken = omega arith;
}

pub input_alone : (T : List Token) (from : ℕ) → from ≤ length T → (keyword (drop from (words T)) ≡ keyword_wire → ⊥) → FindsDirection of_input T from (record { value = dir.Input; next = from })
unfolding spell_dir
input_alone T from i h = record {
  found_is = if_false (nat_eq (keyword (drop from (words T))) keyword_wire) (Some (dir.InputWire, rest (drop from (words T)))) _ (Some (dir.Input, drop from (words T))) (not_equal (keyword (drop from (words T))) keyword_wire h) refl;
  within = i;
  taken = omega arith;
}

pub output_wire : (T : List Token) (from : ℕ) → WordAt T from keyword_wire (from + 1) → FindsDirection of_output T from (record { value = dir.OutputWire; next = from + 1 })
unfolding spell_dir
output_wire T from e = record {
  found_is = if_true (nat_eq (keyword (drop from (words T))) keyword_wire) (Some (dir.OutputWire, rest (drop from (words T)))) _ (Some (dir.OutputWire, drop (from + 1) (words T))) (same (keyword (drop from (words T))) keyword_wire e.1) (ap (λ (us : List Word). Some (dir.OutputWire, us)) (rest_drop (words T) from));
  within = omega (arith, e.2);
  taken = omega arith;
}

pub output_reg : (T : List Token) (from : ℕ) → (keyword (drop from (words T)) ≡ keyword_wire → ⊥) → WordAt T from keyword_reg (from + 1) → FindsDirection of_output T from (record { value = dir.OutputReg; next = from + 1 })
unfolding spell_dir
output_reg T from h e =
    let ws : List Word = drop from (words T) in
    let p = Some (dir.OutputReg, drop (from + 1) (words T)) in
    record {
      found_is = if_false (nat_eq (keyword ws) keyword_wire) (Some (dir.OutputWire, rest ws)) _ p (not_equal (keyword ws) keyword_wire h)
          (if_true (nat_eq (keyword ws) keyword_reg) (Some (dir.OutputReg, rest ws)) _ p (same (keyword ws) keyword_reg e.1) (ap (λ (us : List Word). Some (dir.OutputReg, us)) (rest_drop (words T) from)));
      within = omega (arith, e.2);
      taken = omega arith;
    }

pub output_alone : (T : List Token) (from : ℕ) → from ≤ length T → (keyword (drop from (words T)) ≡ keyword_wire → ⊥) → (keyword (drop from (words T)) ≡ keyword_reg → ⊥) → FindsDirection of_output T from (record { value = dir.Output; next = from })
unfolding spell_dir
output_alone T from i h j =
    let ws : List Word = drop from (words T) in
    let p = Some (dir.Output, ws) in
    record {
      found_is = if_false (nat_eq (keyword ws) keyword_wire) (Some (dir.OutputWire, rest ws)) _ p (not_equal (keyword ws) keyword_wire h)
          (if_false (nat_eq (keyword ws) keyword_reg) (Some (dir.OutputReg, rest ws)) _ p (not_equal (keyword ws) keyword_reg j) refl);
      within = i;
      taken = omega arith;
    }

-- before its starting values are tested
declared_port : {k : ℕ} {T : List Token} {from : ℕ} (d : Dir) (t : typing.Type) (ns : Bor (List Declarator)) {first second next : ℕ} →
    Finds direction T from d first → Finds (typed k) T first (plain_type t) second → Finds (list (single k)) T second (map plain_declarator ns.now) next →
    Finds (respelled (shaped (both direction (both (typed k) (list (single k)))) to_port of_port) spell_port bare_port NumberedPort) T from (plain_port (record { dir = d; signed = t.signed; range = t.range; names = ns })) next
unfolding plain_port spell_port spell_type bare_port NumberedPort NumberedType NumberedRange
declared_port {k = k} {from = from} d t ns f g h =
    let p = plain_port (record { dir = d; signed = t.signed; range = t.range; names = ns }) in
    let w = finds_both f (finds_both g h) in
    finds_respelled spell_port bare_port NumberedPort refl refl
    (subst (NumberedRange (plain_range t.range)) (omega (arith, f.taken)) g.numbered.1, subst (NumberedSeparated spell_declarator NumberedDeclarator (map plain_declarator ns.now)) (omega (arith, f.taken, g.taken)) h.numbered)
    (finds_shaped to_port of_port p w)

pub made_port : {k : ℕ} {T : List Token} {from : ℕ} (d : Dir) (t : typing.Type) (ns : Bor (List Declarator)) {first second next : ℕ} → starts_right (plain_port (record { dir = d; signed = t.signed; range = t.range; names = ns })) ≡ true →
    Finds direction T from d first → Finds (typed k) T first (plain_type t) second → Finds (list (single k)) T second (map plain_declarator ns.now) next →
    Finds (port k) T from (plain_port (record { dir = d; signed = t.signed; range = t.range; names = ns })) next
made_port d t ns s f g h =
    let p = plain_port (record { dir = d; signed = t.signed; range = t.range; names = ns }) in
    finds_guarded starts_right (starts_bare p ∙ s) (declared_port d t ns f g h)

-- a port with a starting value that it may not have
pub no_start : {k : ℕ} {T : List Token} {from : ℕ} (d : Dir) (t : typing.Type) (ns : Bor (List Declarator)) {first second next : ℕ} → starts_right (plain_port (record { dir = d; signed = t.signed; range = t.range; names = ns })) ≡ false →
    Finds direction T from d first → Finds (typed k) T first (plain_type t) second → Finds (list (single k)) T second (map plain_declarator ns.now) next → FindsNone (port k) T from
no_start d t ns s f g h =
    let p = plain_port (record { dir = d; signed = t.signed; range = t.range; names = ns }) in
    record { none_is = chain_then _ (declared_port d t ns f g h).found_is (cond_second _ (starts_bare p ∙ s) refl) }

is_some_plain : (v : Option (Bor Expr)) → is_some (plain_value v) ≡ is_some v
unfolding plain_value
is_some_plain None = refl
is_some_plain (Some e) = refl

words_plain : (r : Option Bounds) → is_some (plain_range r) ≡ is_some r
unfolding plain_range
words_plain None = refl
words_plain (Some b) = refl

list_all_plain : (ns : List Declarator) → list_all has_no_value (map plain_declarator ns) ≡ list_all (λ n. not (is_some n.value)) ns
unfolding plain_declarator
list_all_plain [] = refl
list_all_plain (n ∷ ns) = let e = list_all_plain ns in let f = is_some_plain n.value in rw (e, f) refl

starts_plain : (g : Group) → starts_right (plain_port g) ≡ (is_output_reg g.dir || list_all (λ n. not (is_some n.value)) g.names.now)
unfolding plain_port
starts_plain g = ap (λ (b : Bool). is_output_reg g.dir || b) (list_all_plain g.names.now)

-- the test of the code
pub starts-OutputReg : (g : Group) → g.dir ≡ dir.OutputReg → starts_right (plain_port g) ≡ true
starts-OutputReg g e = let s = starts_plain g in rw (s, e) refl

other_start : (g : Group) → is_output_reg g.dir ≡ false → starts_right (plain_port g) ≡ list_all (λ n. not (is_some n.value)) g.names.now
other_start g e = let s = starts_plain g in rw (s, e) refl

pub starts-Input : (g : Group) → g.dir ≡ dir.Input → starts_right (plain_port g) ≡ list_all (λ n. not (is_some n.value)) g.names.now
starts-Input g e = other_start g (ap is_output_reg e)

pub starts-InputWire : (g : Group) → g.dir ≡ dir.InputWire → starts_right (plain_port g) ≡ list_all (λ n. not (is_some n.value)) g.names.now
starts-InputWire g e = other_start g (ap is_output_reg e)

pub starts-Output : (g : Group) → g.dir ≡ dir.Output → starts_right (plain_port g) ≡ list_all (λ n. not (is_some n.value)) g.names.now
starts-Output g e = other_start g (ap is_output_reg e)

pub starts-OutputWire : (g : Group) → g.dir ≡ dir.OutputWire → starts_right (plain_port g) ≡ list_all (λ n. not (is_some n.value)) g.names.now
starts-OutputWire g e = other_start g (ap is_output_reg e)

pub ruleset starts_forms = (starts-OutputReg, starts-Input, starts-InputWire, starts-Output, starts-OutputWire)

-- ---- settings, declared names and assignments

pub made_setting : {k : ℕ} {T : List Token} {from : ℕ} (n : Name) (v : Bor Expr) {first second next : ℕ} → Finds identifier T from (plain_identifier n) first → MarkAt T first mark_equals second → Finds (expression k) T second (plain v.now) next →
    Finds (setting k) T from (plain_assignment (record { token = n.token; name = n.name; value = v })) next
unfolding plain_assignment plain_identifier spell_assignment spell_identifier bare_assignment bare_identifier NumberedAssignment NumberedIdentifier
made_setting n v f e g =
    finds_respelled spell_assignment bare_assignment NumberedAssignment refl refl (f.numbered, subst (Numbered (plain v.now)) (omega (arith, f.taken, e.0)) g.numbered)
    (finds_shaped to_setting of_setting (plain_assignment (record { token = n.token; name = n.name; value = v })) (finds_both f (finds_after_mark e g)))

pub made_no_value : (k : ℕ) (T : List Token) (from : ℕ) → (mark (drop from (words T)) ≡ mark_equals → ⊥) → from ≤ length T → Finds (where_mark mark_equals (expression k)) T from (plain_value None) from
unfolding plain_value
made_no_value k T from h i = finds_absent (expression k) h i

pub made_value : {k : ℕ} {T : List Token} {from middle : ℕ} (v : Bor Expr) {next : ℕ} → MarkAt T from mark_equals middle → Finds (expression k) T middle (plain v.now) next → Finds (where_mark mark_equals (expression k)) T from (plain_value (Some v)) next
unfolding plain_value
made_value v e f = finds_there e f

value_numbered : (k : ℕ) (v : Option Tree) (at : ℕ) → (where_mark mark_equals (expression k)).Numbered v at → NumberedValue v at
unfolding NumberedValue
value_numbered k None at n = tt
value_numbered k (Some t) at n = n

pub made_declarator : {k : ℕ} {T : List Token} {from : ℕ} (n : Name) (r : Option Bounds) (v : Option (Bor Expr)) {first second next : ℕ} →
    Finds identifier T from (plain_identifier n) first → Finds (range k) T first (plain_range r) second → Finds (where_mark mark_equals (expression k)) T second (plain_value v) next →
    Finds (declarator k) T from (plain_declarator (record { token = n.token; name = n.name; words = r; value = v })) next
unfolding plain_declarator plain_identifier spell_identifier bare_identifier NumberedDeclarator NumberedIdentifier
made_declarator {k = k} n r v {second = second} f g h =
    let a = plain_declarator (record { token = n.token; name = n.name; words = r; value = v }) in
    finds_respelled spell_declarator bare_declarator NumberedDeclarator (declarator_words a) (declarator_bare a) (
      f.numbered,
      subst (NumberedRange (plain_range r)) (omega (arith, f.taken)) g.numbered,
      subst (NumberedValue (plain_value v)) (omega (arith, f.taken, g.taken)) (value_numbered k (plain_value v) second h.numbered),
    )
    (finds_shaped to_declarator of_declarator a (finds_both f (finds_both g h)))

-- a name that is no memory, and one that is
pub made_single : {k : ℕ} {T : List Token} {from : ℕ} (n : Declarator) {next : ℕ} → has_no_words (plain_declarator n) ≡ true → Finds (declarator k) T from (plain_declarator n) next → Finds (single k) T from (plain_declarator n) next
made_single n e f = finds_guarded has_no_words (words_bare (plain_declarator n) ∙ e) f

pub no_single : {k : ℕ} {T : List Token} {from : ℕ} (n : Declarator) {next : ℕ} → has_no_words (plain_declarator n) ≡ false → Finds (declarator k) T from (plain_declarator n) next → FindsNone (single k) T from
no_single n e f = record { none_is = chain_then _ f.found_is (cond_second _ (words_bare (plain_declarator n) ∙ e) refl) }

-- a variable or a memory, and a memory with a starting value
pub made_variable : {k : ℕ} {T : List Token} {from : ℕ} (n : Declarator) {next : ℕ} → is_variable_name (plain_declarator n) ≡ true → Finds (declarator k) T from (plain_declarator n) next → Finds (variable k) T from (plain_declarator n) next
made_variable n e f = finds_guarded is_variable_name (variable_bare (plain_declarator n) ∙ e) f

pub no_variable : {k : ℕ} {T : List Token} {from : ℕ} (n : Declarator) {next : ℕ} → is_variable_name (plain_declarator n) ≡ false → Finds (declarator k) T from (plain_declarator n) next → FindsNone (variable k) T from
no_variable n e f = record { none_is = chain_then _ f.found_is (cond_second _ (variable_bare (plain_declarator n) ∙ e) refl) }

-- the tests of the code
pub single-words : (n : Declarator) → has_no_words (plain_declarator n) ≡ not (is_some n.words)
unfolding plain_declarator
single-words n = ap (λ (b : Bool). not b) (words_plain n.words)

pub variable-None : (n : Declarator) → n.words ≡ None → is_variable_name (plain_declarator n) ≡ true
unfolding plain_declarator plain_range
variable-None n e = rw e refl

pub variable-Some : (n : Declarator) (b : Bounds) → n.words ≡ Some b → is_variable_name (plain_declarator n) ≡ not (is_some n.value)
unfolding plain_declarator plain_range
variable-Some n b e = let f = is_some_plain n.value in rw (e, f) refl

pub ruleset single_forms = single-words

pub ruleset variable_forms = (variable-None, variable-Some)

pub made_pair : {k : ℕ} {T : List Token} {from : ℕ} (t v : Bor Expr) {first second next : ℕ} → Finds (target_of k) T from (plain t.now) first → MarkAt T first mark_equals second → Finds (expression k) T second (plain v.now) next →
    Finds (pair k) T from (plain_pair (record { target = t; value = v })) next
unfolding plain_pair spell_pair bare_pair NumberedPair
made_pair t v f e g =
    finds_respelled spell_pair bare_pair NumberedPair refl refl (f.numbered, subst (Numbered (plain v.now)) (omega (arith, f.taken, e.0)) g.numbered)
    (finds_shaped to_pair of_pair (plain_pair (record { target = t; value = v })) (finds_both f (finds_after_mark e g)))

-- ---- parameters

pub made_integer : (k : ℕ) (T : List Token) (from : ℕ) → WordAt T from keyword_integer (from + 1) → Finds (kind k) T from (plain_kind (record { integer = true; typed = record { signed = false; range = None } })) (from + 1)
unfolding plain_range spell_where spell_range bare_range NumberedType NumberedRange
made_integer k T from e = record {
  found_is = if_true (nat_eq (keyword (drop from (words T))) keyword_integer) (Some ((true, (false, None)), rest (drop from (words T)))) (mapped (λ t. (false, t)) ((typed k).read (drop from (words T)))) (Some ((true, (false, None)), drop (from + 1) (words T)))
      (same (keyword (drop from (words T))) keyword_integer e.1) (ap (λ (us : List Word). Some ((true, (false, None)), us)) (rest_drop (words T) from));
  within = omega (arith, e.2);
  taken = omega arith;
  numbered = tt;
}

pub made_kind : {k : ℕ} (T : List Token) (from : ℕ) (t : typing.Type) {next : ℕ} → (keyword (drop from (words T)) ≡ keyword_integer → ⊥) → Finds (typed k) T from (plain_type t) next → Finds (kind k) T from (plain_kind (record { integer = false; typed = t })) next
unfolding spell_where NumberedType
made_kind {k = k} T from t {next = next} h f =
    let ws : List Word = drop from (words T) in
    record {
      found_is = if_false (nat_eq (keyword ws) keyword_integer) (Some ((true, (false, None)), rest ws)) (mapped (λ t. (false, t)) ((typed k).read ws)) (Some ((false, (typed k).bare (plain_type t)), drop next (words T)))
          (not_equal (keyword ws) keyword_integer h) (mapped_some (λ t. (false, t)) ((typed k).read ws) ((typed k).bare (plain_type t), drop next (words T)) f.found_is);
      within = f.within;
      taken = omega (arith, f.taken);
      numbered = subst (NumberedRange (plain_range t.range)) (omega arith) f.numbered.1;
    }

pub none_kind : (k : ℕ) (T : List Token) (from : ℕ) → (keyword (drop from (words T)) ≡ keyword_integer → ⊥) → FindsNone (typed k) T from → FindsNone (kind k) T from
none_kind k T from h n =
    let ws : List Word = drop from (words T) in
    record {
      none_is = if_false (nat_eq (keyword ws) keyword_integer) (Some ((true, (false, None)), rest ws)) (mapped (λ t. (false, t)) ((typed k).read ws)) None
          (not_equal (keyword ws) keyword_integer h) (mapped_none _ n.none_is);
    }

pub made_parameter : {k : ℕ} {T : List Token} {from : ℕ} (local : Bool) (p : ParameterType) (s : Bor (List Setting)) {first second next : ℕ} →
    Finds (choice keyword_localparam keyword_parameter) T from local first → Finds (kind k) T first (plain_kind p) second → Finds (list (setting k)) T second (map plain_assignment s.now) next →
    Finds (parameter k) T from (plain_parameter (record { local = local; integer = p.integer; signed = p.typed.signed; range = p.typed.range; sets = s })) next
unfolding plain_parameter spell_parameter spell_type bare_parameter NumberedParameter NumberedType
made_parameter local p s f g h =
    let a = plain_parameter (record { local = local; integer = p.integer; signed = p.typed.signed; range = p.typed.range; sets = s }) in
    finds_respelled spell_parameter bare_parameter NumberedParameter
    (ap (λ (us : List Word). Reserved (cond local keyword_localparam keyword_parameter) ∷ us) (sym (append_assoc (spell_where p.integer keyword_integer) (spell_where p.typed.signed keyword_signed ++ spell_range (plain_range p.typed.range)) (spell_separated spell_assignment (map plain_assignment s.now)))))
    refl (
      subst (NumberedRange (plain_range p.typed.range)) (omega (arith, f.taken)) g.numbered,
      subst (NumberedSeparated spell_assignment NumberedAssignment (map plain_assignment s.now))
          (omega (arith, f.taken, g.taken, length-append (spell_where p.integer keyword_integer) (spell_where p.typed.signed keyword_signed ++ spell_range (plain_range p.typed.range)))) h.numbered,
    )
    (finds_shaped to_parameter of_parameter a (finds_both f (finds_both g h)))

not_local : (b : Bool) → b ≡ false → not b ≡ true
not_local true h = absurd cc
not_local false h = refl

is_local : (b : Bool) → b ≡ true → not b ≡ false
is_local true h = refl
is_local false h = absurd cc

pub made_head : {k : ℕ} {T : List Token} {from : ℕ} (p : Params) {next : ℕ} → p.local ≡ false → Finds (parameter k) T from (plain_parameter p) next → Finds (head_parameter k) T from (plain_parameter p) next
unfolding plain_parameter bare_parameter
made_head p e f = finds_guarded is_global (not_local p.local e) f

pub local_head : {k : ℕ} {T : List Token} {from : ℕ} (p : Params) {next : ℕ} → p.local ≡ true → Finds (parameter k) T from (plain_parameter p) next → FindsNone (head_parameter k) T from
unfolding plain_parameter bare_parameter
local_head p e f = record { none_is = chain_then _ f.found_is (cond_second _ (is_local p.local e) refl) }
