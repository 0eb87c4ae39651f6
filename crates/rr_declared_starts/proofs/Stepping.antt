-- Declarations one after the other: each variable begins with what the declarations so far give it, and with 0 where none does.
use Rattle.std.proofs.Common.{◌≡◌, ◌∙◌, sym, ap, ap₂, nat_eq, ◌⊎◌, inl, inr, ℕ, ◌-◌, ◌<◌, ◌≤◌, Bool, true, false, not, ◌&&◌, if◌then◌else◌, is_some, is_none, List, [], ◌∷◌, ◌++◌, length, Option, Some, None, Result, Ok, refl, subst, arith, length-append}
use Rattle.std.specs.Prelude.{slice_set}
use Rattle.std.specs.List.{AllByRecursion, flat_map, IsDistinct}
use Rattle.std.specs.Str.{bytes_eq}
use Rattle.std.proofs.lemmas.Slice.Eq.{bytes_eq-Decides}
use Rattle.std.proofs.lemmas.Bool.{both_ways, and_parts, eqb-true, cases_eq, cases_lt}
use Rattle.std.proofs.lemmas.List.{append-nil, append_assoc, get_or_append_left, get_or-append_right, length-set, get_or-set_same, get_or-set_other}
use Rattle.rr_syntax.specs.declared.tree.Dir.{Dir}
use Rattle.rr_syntax.specs.declared.tree.Dir.TheVariants as dir
use Rattle.rr_syntax.specs.Tree.{Tree, Range, Identifier, DeclaredName, PortDeclaration, ModuleItem, Ports, Nets, Variables, Integers, Parameters, Assigns, Always, Initial, Instances, ModuleDeclaration}
use Rattle.rr_expr.specs.Faults.{fault}
use Rattle.rr_expr.specs.Scopes.{Names, lookup, range_width}
use Rattle.rr_expr.specs.declared.types.Entity.{Entity}
use Rattle.rr_expr.specs.declared.types.Entity.TheVariants as entity
use Rattle.rr_expr.specs.declared.types.ExprFault.{ExprFault}
use Rattle.rr_flat.specs.declared.fault.FlatFault.{FlatFault}
use Rattle.rr_flat.specs.declared.fault.FlatFault.TheVariants.{NameTwice, UnknownName, BadRange}
use Rattle.rr_flat.specs.Faults.{fault_if, and_then, each, answer_of, faults_in}
use Rattle.rr_flat.specs.Signals.{Text, Signal, with_name}
use Rattle.rr_starts.specs.Starts.{start_of}
use Rattle.rr_declarations.specs.Declarations.{Declared, Declarations, is_port, is_reg, signal_of, indices, declared_words, declare_new, no_declared, declared_at, is_same_range, redeclared, declare_again, again_place, repeated_place, declare_at, declare, declare_integer, integer_name, starting, start_faults, start_or, start_again, port_declaration, inner_declaration, integer_declaration, declare_ports, declare_nets, declare_variables, declare_item, declarations}
use Rattle.rr_declarations.specs.Parameters.{width_faults}
use Rattle.rr_declarations.specs.Values.{range_in}
use Rattle.rr_flatten.proofs.HeadOf.{ok_is, first_ok, all_append, all_weaker}
use Rattle.rr_flat_laws.proofs.Answers.{nil_left, nil_right, not_if, settled}
use Rattle.rr_flat_laws.proofs.Declaring.{Lists, done_ports, done_item}
use Rattle.rr_flat_laws.proofs.Texts.{some_is, none_some, with_stays, with_new, flat_none, is_none_of}
use Rattle.rr_flat_laws.proofs.Words.{new_is}
use Rattle.rr_declared_starts.specs.Starts.{Valued, value_of, values_by, port_values, item_values, values_of, names_in, BeginsAs}

-- Lists

-- of a list and one more
at_more : (Q : Declared → Type 0) (xs : List Declared) (x : Declared) → ((p : ℕ) → p < length xs → Q (declared_at xs p)) → Q x → (p : ℕ) → p < length (xs ++ x ∷ []) → Q (declared_at (xs ++ x ∷ []) p)
at_more Q xs x h q p l = by (cases_lt p (length xs))
  where
    by : (p < length xs) ⊎ (length xs ≤ p) → Q (declared_at (xs ++ x ∷ []) p)
    by (inl m) = subst Q (sym (get_or_append_left xs (x ∷ []) no_declared p m)) (h p m)
    by (inr m) =
        let z : p - length xs ≡ 0 = omega (arith, l, m, length-append xs (x ∷ [])) in
        subst Q (sym (get_or-append_right xs (x ∷ []) (length xs) p no_declared refl m ∙ ap (λ (i : ℕ). declared_at (x ∷ []) i) z)) q

-- of a list in which one changed
at_set : (Q : Declared → Type 0) (xs : List Declared) (i : ℕ) (x : Declared) → ((p : ℕ) → p < length xs → (p ≡ i → ⊥) → Q (declared_at xs p)) → Q x → (p : ℕ) → p < length (slice_set xs i x) → Q (declared_at (slice_set xs i x) p)
at_set Q xs i x h q p l = by (cases_eq p i)
  where
    m : p < length xs
    m = omega (arith, l, length-set xs i x)

    by : (p ≡ i) ⊎ (p ≡ i → ⊥) → Q (declared_at (slice_set xs i x) p)
    by (inl e) =
        let k : i < length xs = omega (arith, m, e) in
        subst (λ (j : ℕ). Q (declared_at (slice_set xs i x) j)) (sym e) (subst Q (sym (get_or-set_same xs i x no_declared k)) q)
    by (inr n) = subst Q (sym (get_or-set_other xs i p x no_declared n)) (h p m n)

all_left : {X : Type 0} (P : X → Type 0) (xs ys : List X) → AllByRecursion P (xs ++ ys) → AllByRecursion P xs
all_left P [] ys h = tt
all_left P (x ∷ xs) ys h = (h.0, all_left P xs ys h.1)

all_right : {X : Type 0} (P : X → Type 0) (xs ys : List X) → AllByRecursion P (xs ++ ys) → AllByRecursion P ys
all_right P [] ys h = h
all_right P (x ∷ xs) ys h = all_right P xs ys h.1

same_range : (r s : Option (ℕ × ℕ)) → is_same_range r s ≡ true → r ≡ s
same_range None None e = refl
same_range None (Some s) e = absurd (both_ways false refl e)
same_range (Some r) None e = absurd (both_ways false refl e)
same_range (Some r) (Some s) e = let p = and_parts (nat_eq r.0 s.0) (nat_eq r.1 s.1) e in ap Some (ap₂ (λ (x y : ℕ). (x, y)) (eqb-true r.0 s.0 p.0) (eqb-true r.1 s.1 p.1))

not_false : (b : Bool) → not b ≡ false → b ≡ true
not_false true e = refl
not_false false e = absurd (both_ways true e refl)

-- Values

-- none of these is of that name
abbrev pub Without : List Valued → Text → Type 0
Without vs name = AllByRecursion (λ v. v.name ≡ name → ⊥) vs

-- a name that none of these has is apart from theirs

named_apart : (v : Valued) (name : Text) → (v.name ≡ name → ⊥) → bytes_eq v.name name ≡ false
named_apart v name differs = by (bytes_eq v.name name) refl
  where
    by : (b : Bool) → bytes_eq v.name name ≡ b → b ≡ false
    by true e = absurd (differs ((bytes_eq-Decides v.name name).0 e))
    by false e = refl

name_more : (P : Text → Type 0) (vs : List Valued) (w : Valued) → AllByRecursion P (names_in vs) → P w.name → AllByRecursion P (names_in (vs ++ w ∷ []))
name_more P [] w h q = (q, tt)
name_more P (v ∷ vs) w h q = (h.0, name_more P vs w h.1 q)

once_more : (vs : List Valued) (w : Valued) → IsDistinct bytes_eq (names_in vs) → Without vs w.name → IsDistinct bytes_eq (names_in (vs ++ w ∷ []))
unfolding IsDistinct
once_more [] w d h = (tt, tt)
once_more (v ∷ vs) w d h = (name_more (λ y. bytes_eq v.name y ≡ false) vs w d.0 (named_apart v w.name h.0), once_more vs w d.1 h.1)

once_with : (vs : List Valued) (range : Option Range) (name : Text) (o : Option Tree) → IsDistinct bytes_eq (names_in vs) → Without vs name → IsDistinct bytes_eq (names_in (vs ++ value_of range name o))
once_with vs range name None d h = subst (λ (z : List Valued). IsDistinct bytes_eq (names_in z)) (sym (append-nil vs)) d
once_with vs range name (Some t) d h = once_more vs (record { name = name; range = range; value = t }) d h

module _ (seen : Names) where
  -- a signal begins with what these give its name, and with 0 where none does
  pub record Right (vs : List Valued) (s : Signal) : Type 0 where
    pub given : AllByRecursion (λ v. v.name ≡ s.name → BeginsAs seen v s) vs
    pub none : Without vs s.name → s.start ≡ 0

  -- none gives a value to a signal that may be declared once more
  record Fine (vs : List Valued) (x : Declared) : Type 0 where
    wide : x.signal.width ≡ range_width x.signal.range
    free : x.again ≡ true → Without vs x.signal.name
    right : Right vs x.signal

  -- a declaration of another name changes nothing
  fine_other : (vs : List Valued) (range : Option Range) (name : Text) (o : Option Tree) (x : Declared) → (name ≡ x.signal.name → ⊥) → Fine vs x → Fine (vs ++ value_of range name o) x
  fine_other vs range name o x differs f = record {
    wide = f.wide;
    free = λ a. all_append (λ v. v.name ≡ x.signal.name → ⊥) vs (value_of range name o) (f.free a) (others o);
    right = record {
      given = all_append (λ v. v.name ≡ x.signal.name → BeginsAs seen v x.signal) vs (value_of range name o) f.right.given
          (all_weaker (λ v. v.name ≡ x.signal.name → ⊥) (λ v. v.name ≡ x.signal.name → BeginsAs seen v x.signal) (value_of range name o) (λ v n e. absurd (n e)) (others o));
      none = λ h. f.right.none (all_left (λ v. v.name ≡ x.signal.name → ⊥) vs (value_of range name o) h);
    };
  }
    where
      others : (o : Option Tree) → Without (value_of range name o) x.signal.name
      others None = tt
      others (Some t) = (differs, tt)

  no_fault : {A : Type 0} (o : Option ExprFault) (x : A) → faults_in (answer_of o x) ≡ [] → o ≡ None
  no_fault None x e = refl
  no_fault (Some f) x e = absurd (cc)

  -- one of its name, to which none gave a value before
  module _ (vs : List Valued) (range : Option Range) (name : Text) (x : Declared) (named : x.signal.name ≡ name) (wide : x.signal.width ≡ range_width x.signal.range) (before : Without vs name) where
    abbrev Given : Option Tree → Type 0
    Given o = AllByRecursion (λ v. v.name ≡ x.signal.name → BeginsAs seen v x.signal) (value_of range name o)

    given : (o : Option Tree) → x.signal.start ≡ start_or seen (range_width x.signal.range) 0 o → ((t : Tree) → o ≡ Some t → range_in seen range ≡ Ok x.signal.range) → start_faults seen o ≡ [] → Given o
    given None s r f = tt
    given (Some t) s r f = (λ e. record { ranged = r t refl; constant = no_fault (fault seen t true) t f; begins = s }, tt)

    none : (o : Option Tree) → x.signal.start ≡ start_or seen (range_width x.signal.range) 0 o → Without (value_of range name o) x.signal.name → x.signal.start ≡ 0
    none None s h = s
    none (Some t) s h = absurd (h.0 (sym named))

    without : Without vs x.signal.name
    without = subst (Without vs) (sym named) before

    fine_own : (o : Option Tree) → x.signal.start ≡ start_or seen (range_width x.signal.range) 0 o → ((t : Tree) → o ≡ Some t → range_in seen range ≡ Ok x.signal.range) → start_faults seen o ≡ [] → (x.again ≡ true → o ≡ None) → Fine (vs ++ value_of range name o) x
    fine_own o s r f a = record {
      wide = wide;
      free = λ q. all_append (λ v. v.name ≡ x.signal.name → ⊥) vs (value_of range name o) without (subst (λ o. Without (value_of range name o) x.signal.name) (sym (a q)) tt);
      right = record {
        given = all_append (λ v. v.name ≡ x.signal.name → BeginsAs seen v x.signal) vs (value_of range name o)
            (all_weaker (λ v. v.name ≡ x.signal.name → ⊥) (λ v. v.name ≡ x.signal.name → BeginsAs seen v x.signal) vs (λ v n e. absurd (n e)) without) (given o s r f);
        none = λ h. none o s (all_right (λ v. v.name ≡ x.signal.name → ⊥) vs (value_of range name o) h);
      };
    }

-- The declarations of a module

abbrev Anything : Text × Bool → Type 0
Anything z = Unit {0}

module _ (bracketed params seen : Names) where
  abbrev pub Listed : Declarations → Type 0
  Listed d = Lists bracketed params Anything d

  -- each name that was given a value is one of a signal
  pub record Begun (vs : List Valued) (d : Declarations) : Type 0 where
    fine : (p : ℕ) → p < length d.list → Fine seen vs (declared_at d.list p)
    named : AllByRecursion (λ v. (e : Entity) × (lookup v.name d.names ≡ Some e)) vs
    once : IsDistinct bytes_eq (names_in vs)

  -- names of values before have no new name
  unnamed : (vs : List Valued) (d : Declarations) (name : Text) → Begun vs d → lookup name d.names ≡ None → Without vs name
  unnamed vs d name g new =
      all_weaker (λ v. (e : Entity) × (lookup v.name d.names ≡ Some e)) (λ v. v.name ≡ name → ⊥) vs
      (λ v n q. none_some n.0 (sym new ∙ (ap (λ (z : Text). lookup z d.names) (sym q) ∙ n.1))) g.named

  named_more : (vs : List Valued) (range : Option Range) (name : Text) (o : Option Tree) (names : Names) (e : Entity) → AllByRecursion (λ v. (e : Entity) × (lookup v.name names ≡ Some e)) vs → lookup name names ≡ Some e →
      AllByRecursion (λ v. (e : Entity) × (lookup v.name names ≡ Some e)) (vs ++ value_of range name o)
  named_more vs range name o names e h q = all_append (λ v. (e : Entity) × (lookup v.name names ≡ Some e)) vs (value_of range name o) h (by o)
    where
      by : (o : Option Tree) → AllByRecursion (λ v. (e : Entity) × (lookup v.name names ≡ Some e)) (value_of range name o)
      by None = tt
      by (Some t) = ((e, q), tt)

  no_value : (b : Bool) (o : Option Tree) → not b ≡ true → (if b then o else None) ≡ None
  no_value true o h = absurd (both_ways false refl h)
  no_value false o h = refl

  -- a declaration of a name, where its range has this value
  module _ (k : _) (own : DeclaredName) (range : Option Range) (ranged : (t : Tree) → starting k own ≡ Some t → range_in seen range ≡ Ok k.range) (vs : List Valued) (d t : Declarations) (l : Listed d) (g : Begun vs d) where
    abbrev more : List Valued
    more = vs ++ value_of range own.text (starting k own)

    new_step : declare_new bracketed seen k own d ≡ Ok t → Begun more t
    new_step q =
        let start = start_or seen (range_width k.range) 0 (starting k own) in
        let a = fault_if (is_some (lookup own.text d.names)) (NameTwice own.token) in
        let b = fault_if (is_port k.port && is_none (lookup own.text bracketed)) (UnknownName own.token) in
        let c = width_faults own.token k.range in
        let f = start_faults seen (starting k own) in
        let w = faults_in (range_in seen (indices k own)) in
        let s = new_is bracketed seen k own d t q in
        let new : lookup own.text d.names ≡ None = is_none_of (lookup own.text d.names) (not_if (is_some (lookup own.text d.names)) (NameTwice own.token) (nil_left a (b ++ (w ++ (c ++ f))) s.faults)) in
        let clear : f ≡ [] = nil_right c f (nil_right w (c ++ f) (nil_right b (w ++ (c ++ f)) (nil_right a (b ++ (w ++ (c ++ f))) s.faults))) in
        let x : Declared = record { signal = signal_of d.instance k own start; words = declared_words seen k own; again = is_port k.port && not k.variable } in
        let e : Entity = entity.Signal (length d.list) None false in
        subst (Begun more) s.is (record {
          fine = at_more (Fine seen more) d.list x
              (λ p m. fine_other seen vs range own.text (starting k own) (declared_at d.list p) (λ n. none_some (entity.Signal p None false) (sym new ∙ (ap (λ (z : Text). lookup z d.names) n ∙ l.placed p m))) (g.fine p m))
              (fine_own seen vs range own.text x refl refl (unnamed vs d own.text g new) (starting k own) refl ranged clear (λ h. no_value k.variable own.value (and_parts (is_port k.port) (not k.variable) h).1));
          named = named_more vs range own.text (starting k own) (with_name d.names own.text e) e
              (all_weaker (λ v. (e : Entity) × (lookup v.name d.names ≡ Some e)) (λ v. (e : Entity) × (lookup v.name (with_name d.names own.text (entity.Signal (length d.list) None false)) ≡ Some e)) vs
              (λ v n. (n.0, with_stays d.names own.text v.name n.0 e n.1)) g.named)
              (with_new d.names own.text e new);
          once = once_with vs range own.text (starting k own) g.once (unnamed vs d own.text g new);
        })

    same_place : (p q : ℕ) (r s : Option (ℕ × ℕ)) (a b : Bool) → Some (entity.Signal p r a) ≡ Some (entity.Signal q s b) → p ≡ q
    same_place p q r s a b h = cc

    again_step : (place : ℕ) (r : Option (ℕ × ℕ)) (s : Bool) → lookup own.text d.names ≡ Some (entity.Signal place r s) → (declared_at d.list place).again ≡ true → declare_again seen k own place d ≡ Ok t → Begun more t
    unfolding declare_again
    again_step place r s found again q =
        let x : Declared = declared_at d.list place in
        let y : Declared = redeclared k (start_again seen (starting k own) x) x in
        let a = fault_if (not (is_same_range x.signal.range k.range)) (BadRange own.token) in
        let f = start_faults seen (starting k own) in
        let u = settled (a ++ f) (record d { list = slice_set d.list place y }) t q in
        let same : x.signal.range ≡ k.range = same_range x.signal.range k.range (not_false _ (not_if (not (is_same_range x.signal.range k.range)) (BadRange own.token) (nil_left a f u.0))) in
        let n = l.named own.text place r s found in
        let fine = g.fine place n.0 in
        let before : Without vs x.signal.name = fine.free again in
        let start : y.signal.start ≡ start_or seen (range_width x.signal.range) 0 (starting k own) = by (starting k own) x (fine.right.none before) fine.wide in
        subst (Begun more) u.1 (record {
          fine = at_set (Fine seen more) d.list place y
              (λ p m other. fine_other seen vs range own.text (starting k own) (declared_at d.list p)
              (λ e. other (same_place p place None r false s (sym (l.placed p m) ∙ (ap (λ (z : Text). lookup z d.names) (sym e) ∙ found)))) (g.fine p m))
              (fine_own seen vs range own.text y n.1 fine.wide (subst (Without vs) n.1 before) (starting k own) start (λ t e. ranged t e ∙ ap Ok (sym same)) (nil_right a f u.0) (λ h. absurd (both_ways false refl h)));
          named = named_more vs range own.text (starting k own) d.names (entity.Signal place r s) g.named found;
          once = once_with vs range own.text (starting k own) g.once (subst (Without vs) n.1 before);
        })
      where
        by : (o : Option Tree) (x : Declared) → x.signal.start ≡ 0 → x.signal.width ≡ range_width x.signal.range → start_again seen o x ≡ start_or seen (range_width x.signal.range) 0 o
        by None x z w = z
        by (Some t) x z w = ap (λ (n : ℕ). start_of seen n t) w

    -- a place comes only from a signal that may be declared once more
    from_place : (b : Bool) (o : Option Entity) (list : List Declared) (place : ℕ) → repeated_place b (again_place o list) ≡ Some place → (r : Option (ℕ × ℕ)) × ((s : Bool) × ((o ≡ Some (entity.Signal place r s)) × ((declared_at list place).again ≡ true)))
    from_place false o list place h = absurd (none_some place h)
    from_place true None list place h = absurd (none_some place h)
    from_place true (Some (entity.Constant bits signed)) list place h = absurd (none_some place h)
    from_place true (Some (entity.Signal id range signed)) list place h = by (declared_at list id).again refl h
      where
        by : (b : Bool) → (declared_at list id).again ≡ b → (if b then Some id else None) ≡ Some place →
            (r : Option (ℕ × ℕ)) × ((s : Bool) × ((Some (entity.Signal id range signed) ≡ Some (entity.Signal place r s)) × ((declared_at list place).again ≡ true)))
        by true e h =
            let same : id ≡ place = some_is id place h in
            (range, (signed, (ap (λ (i : ℕ). Some (entity.Signal i range signed)) same, subst (λ (i : ℕ). (declared_at list i).again ≡ true) same e)))
        by false e h = absurd (none_some place h)
    from_place true (Some (entity.Memory first low words range signed)) list place h = absurd (none_some place h)
    from_place true (Some entity.Instance) list place h = absurd (none_some place h)

    declare_step : declare bracketed seen k own d ≡ Ok t → Begun more t
    unfolding declare
    declare_step q = by (repeated_place (k.repeats && is_none own.words) (again_place (lookup own.text d.names) d.list)) refl q
      where
        by : (o : Option ℕ) → repeated_place (k.repeats && is_none own.words) (again_place (lookup own.text d.names) d.list) ≡ o → declare_at bracketed seen k own d o ≡ Ok t → Begun more t
        by None e q = new_step q
        by (Some place) e q = let p = from_place (k.repeats && is_none own.words) (lookup own.text d.names) d.list place e in again_step place p.0 p.1.0 p.1.1.0 p.1.1.1 q

  -- Items

  abbrev pub State : List Valued → Declarations → Type 0
  State vs d = Listed d × Begun vs d

  -- one step for each of a list
  each_step : {X : Type 0} (step : X → Declarations → Result Declarations FlatFault) (f : X → List Valued) → ((x : X) (vs : List Valued) (d t : Declarations) → State vs d → step x d ≡ Ok t → State (vs ++ f x) t) →
      (xs : List X) (vs : List Valued) (d t : Declarations) → State vs d → each step xs d ≡ Ok t → State (vs ++ flat_map f xs) t
  unfolding each
  each_step step f one [] vs d t s q = subst (λ (z : List Valued). State z t) (sym (append-nil vs)) (subst (State vs) (ok_is d t q) s)
  each_step step f one (x ∷ xs) vs d t s q =
      let r = first_ok (step x d) (each step xs) t q in
      subst (λ (z : List Valued). State z t) (append_assoc vs (f x) (flat_map f xs)) (each_step step f one xs (vs ++ f x) r.0 t (one x vs d r.0 s r.1.0) r.1.1)

  -- a name as one that a declaration has alone
  alone : (o : Option Range) (k : Option (ℕ × ℕ) → _) (own : DeclaredName) (d t : Declarations) (r : Option (ℕ × ℕ)) → range_in seen o ≡ Ok r → declare bracketed seen (k r) own d ≡ Ok t
      → and_then (range_in seen o) (λ r. each (declare bracketed seen (k r)) (own ∷ []) d) ≡ Ok t
  unfolding each
  alone o k own d t r e q = ap (λ (z : Result (Option (ℕ × ℕ)) FlatFault). and_then z (λ r. each (declare bracketed seen (k r)) (own ∷ []) d)) e ∙ ap (λ (z : Result Declarations FlatFault). and_then z (each (declare bracketed seen (k r)) [])) q

  ranged_step : (o : Option Range) (k : Option (ℕ × ℕ) → _) → ((own : DeclaredName) (d t : Declarations) → Listed d → and_then (range_in seen o) (λ r. each (declare bracketed seen (k r)) (own ∷ []) d) ≡ Ok t → Listed t) → ((r : Option (ℕ × ℕ)) → (k r).range ≡ r) →
      (list : List DeclaredName) (vs : List Valued) (d t : Declarations) → State vs d → and_then (range_in seen o) (λ r. each (declare bracketed seen (k r)) list d) ≡ Ok t
      → (r : Option (ℕ × ℕ)) × State (vs ++ flat_map (λ own. value_of o own.text (starting (k r) own)) list) t
  ranged_step o k lists same list vs d t s q =
      let r = first_ok (range_in seen o) (λ r. each (declare bracketed seen (k r)) list d) t q in (
        r.0,
        each_step (declare bracketed seen (k r.0)) (λ own. value_of o own.text (starting (k r.0) own))
            (λ own us u v z e. (lists own u v z.0 (alone o k own u v r.0 r.1.0 e), declare_step (k r.0) own o (λ t c. r.1.0 ∙ ap Ok (sym (same r.0))) us u v z.0 z.1 e))
            list vs d t s r.1.1,
      )

  -- what a direction gives
  by_dir : (way : Dir) (o : Option Range) (list : List DeclaredName) → flat_map (λ (own : DeclaredName). value_of o own.text (if is_reg way then own.value else None)) list ≡ values_by way o list
  by_dir dir.Input o list = flat_none list
  by_dir dir.InputWire o list = flat_none list
  by_dir dir.Output o list = flat_none list
  by_dir dir.OutputWire o list = flat_none list
  by_dir dir.OutputReg o list = refl

  ports_step : (p : PortDeclaration) (vs : List Valued) (d t : Declarations) → State vs d → declare_ports bracketed seen p d ≡ Ok t → State (vs ++ port_values p) t
  unfolding declare_ports
  ports_step p vs d t s q =
      let r = ranged_step p.range (port_declaration p) (λ own d t l e. (done_ports bracketed params Anything seen (record p { names = own ∷ [] }) d t l (λ n c. tt) e).lists) (λ r. refl) p.names vs d t s q in
      subst (λ (z : List Valued). State (vs ++ z) t) (by_dir p.dir p.range p.names) r.1

  -- what has no values
  plain : (vs : List Valued) (d t : Declarations) → State vs d → d ≡ t → State (vs ++ []) t
  plain vs d t s e = subst (λ (z : List Valued). State z t) (sym (append-nil vs)) (subst (State vs) e s)

  integer_alone : (i : Identifier) (d t : Declarations) → declare_integer bracketed seen i d ≡ Ok t → each (declare_integer bracketed seen) (i ∷ []) d ≡ Ok t
  unfolding each
  integer_alone i d t e = ap (λ (z : Result Declarations FlatFault). and_then z (each (declare_integer bracketed seen) [])) e

  item_step : (x : ModuleItem) (vs : List Valued) (d t : Declarations) → State vs d → declare_item bracketed seen x d ≡ Ok t → State (vs ++ item_values x) t
  unfolding declare_item declare_nets declare_variables
  item_step (Ports p) vs d t s q = ports_step p vs d t s q
  item_step (Nets signed range list) vs d t s q =
      let r = ranged_step range (inner_declaration false signed) (λ own d t l e. (done_item bracketed params Anything seen (Nets signed range (own ∷ [])) d t l (λ n c. tt) e).lists) (λ r. refl) list vs d t s q in
      subst (λ (z : List Valued). State (vs ++ z) t) (flat_none list) r.1
  item_step (Variables signed range list) vs d t s q =
      (ranged_step range (inner_declaration true signed) (λ own d t l e. (done_item bracketed params Anything seen (Variables signed range (own ∷ [])) d t l (λ n c. tt) e).lists) (λ r. refl) list vs d t s q).1
  item_step (Integers list) vs d t s q =
      subst (λ (z : List Valued). State (vs ++ z) t) (flat_none list)
      (each_step (declare_integer bracketed seen) (λ (i : Identifier). value_of None i.text None)
      (λ i us u v z e. ((done_item bracketed params Anything seen (Integers (i ∷ [])) u v z.0 (λ n c. tt) (integer_alone i u v e)).lists, declare_step integer_declaration (integer_name i) None (λ t c. absurd (none_some t c)) us u v z.0 z.1 e)) list vs d t s q)
  item_step (Parameters p) vs d t s q = plain vs d t s (ok_is d t q)
  item_step (Assigns pairs) vs d t s q = plain vs d t s (ok_is d t q)
  item_step (Always events body token) vs d t s q = plain vs d t s (ok_is d t q)
  item_step (Initial body token) vs d t s q = plain vs d t s (ok_is d t q)
  item_step (Instances m token overrides list) vs d t s q = plain vs d t s (ok_is d t q)

  -- all declarations of a module
  pub record AllBegun (m : ModuleDeclaration) (t : Declarations) : Type 0 where
    pub right : (p : ℕ) → p < length t.list → Right seen (values_of m) (declared_at t.list p).signal
    pub once : IsDistinct bytes_eq (names_in (values_of m))

  pub all_begun : (m : ModuleDeclaration) (d t : Declarations) → State [] d → declarations bracketed seen m d ≡ Ok t → AllBegun m t
  unfolding declarations
  all_begun m d t s q =
      let r = first_ok (each (declare_ports bracketed seen) m.groups d) (each (declare_item bracketed seen) m.items) t q in
      let a = each_step (declare_ports bracketed seen) port_values (λ g vs d t s e. ports_step g vs d t s e) m.groups [] d r.0 s r.1.0 in
      let b = each_step (declare_item bracketed seen) item_values (λ x vs d t s e. item_step x vs d t s e) m.items (flat_map port_values m.groups) r.0 t a r.1.1 in
      record { right = λ p l. (b.1.fine p l).right; once = b.1.once }

  -- none yet
  pub nothing_begun : (d : Declarations) → d.list ≡ [] → Begun [] d
  unfolding IsDistinct
  nothing_begun d e = record { fine = λ p l. absurd (omega (arith, l, ap length e)); named = tt; once = tt }
