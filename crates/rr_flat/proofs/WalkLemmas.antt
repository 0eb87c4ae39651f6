-- What the list of the walk keeps as it grows.
use Rattle.std.proofs.Common.{◌≡◌, ◌∙◌, sym, ap, ℕ, ◌+◌, ◌≤◌, List, [], ◌∷◌, ◌++◌, length, refl, arith, length-append}
use Rattle.std.specs.List.{range_with_len}
use Rattle.std.proofs.lemmas.List.{map-id, append-nil}
use Rattle.std.proofs.lemmas.List.FromFn.{map-range_with_len_more}
use Rattle.std.proofs.lemmas.List.Elements.{All-push, All-weaker, All-nil}
use Rattle.rr_expr.specs.Scopes.{Names}
use Rattle.rr_flat.specs.declared.signal.Signal.{Signal}
use Rattle.rr_flat.specs.declared.design.Driver.{Driver}
use Rattle.rr_flat.specs.declared.design.Block.{Block}
use Rattle.rr_flat.specs.declared.design.Part as design
use Rattle.rr_flat.specs.declared.design.Part.TheVariants as part
use Rattle.rr_flat.specs.declared.design.Initial.{Initial}
use Rattle.rr_flat.specs.Sound.{drivers_of, clocked_of, combinational_of, initials_of, IsPart, IsWalk, IsDriver, IsBlock, IsInitial, IsFlat}

numbers_more : (n : ℕ) → range_with_len 0 (n + 1) ≡ range_with_len 0 n ++ n ∷ []
numbers_more n = sym (map-id (range_with_len 0 (n + 1))) ∙ (map-range_with_len_more (λ k. k) 0 n n (omega arith) ∙ ap (λ z. z ++ n ∷ []) (map-id (range_with_len 0 n)))

drivers_append : (ps qs : List design.Part) → drivers_of (ps ++ qs) ≡ drivers_of ps ++ drivers_of qs
unfolding drivers_of
drivers_append [] qs = refl
drivers_append (part.Driver k ∷ ps) qs = ap (λ z. k ∷ z) (drivers_append ps qs)
drivers_append (part.Clocked k ∷ ps) qs = drivers_append ps qs
drivers_append (part.Combinational k ∷ ps) qs = drivers_append ps qs
drivers_append (part.Initial k ∷ ps) qs = drivers_append ps qs

clocked_append : (ps qs : List design.Part) → clocked_of (ps ++ qs) ≡ clocked_of ps ++ clocked_of qs
unfolding clocked_of
clocked_append [] qs = refl
clocked_append (part.Driver k ∷ ps) qs = clocked_append ps qs
clocked_append (part.Clocked k ∷ ps) qs = ap (λ z. k ∷ z) (clocked_append ps qs)
clocked_append (part.Combinational k ∷ ps) qs = clocked_append ps qs
clocked_append (part.Initial k ∷ ps) qs = clocked_append ps qs

combinational_append : (ps qs : List design.Part) → combinational_of (ps ++ qs) ≡ combinational_of ps ++ combinational_of qs
unfolding combinational_of
combinational_append [] qs = refl
combinational_append (part.Driver k ∷ ps) qs = combinational_append ps qs
combinational_append (part.Clocked k ∷ ps) qs = combinational_append ps qs
combinational_append (part.Combinational k ∷ ps) qs = ap (λ z. k ∷ z) (combinational_append ps qs)
combinational_append (part.Initial k ∷ ps) qs = combinational_append ps qs

initials_append : (ps qs : List design.Part) → initials_of (ps ++ qs) ≡ initials_of ps ++ initials_of qs
unfolding initials_of
initials_append [] qs = refl
initials_append (part.Driver k ∷ ps) qs = initials_append ps qs
initials_append (part.Clocked k ∷ ps) qs = initials_append ps qs
initials_append (part.Combinational k ∷ ps) qs = initials_append ps qs
initials_append (part.Initial k ∷ ps) qs = ap (λ z. k ∷ z) (initials_append ps qs)

part_later : (d c m n e f g o : ℕ) (p : design.Part) → d ≤ e → c ≤ f → m ≤ g → n ≤ o → IsPart d c m n p → IsPart e f g o p
part_later d c m n e f g o (part.Driver k) h i j l here = omega (arith, h, here)
part_later d c m n e f g o (part.Clocked k) h i j l here = omega (arith, i, here)
part_later d c m n e f g o (part.Combinational k) h i j l here = omega (arith, j, here)
part_later d c m n e f g o (part.Initial k) h i j l here = omega (arith, l, here)

none_more : (xs ys zs : List ℕ) → xs ≡ ys ++ [] → ys ≡ zs → xs ≡ zs
none_more xs ys zs h e = h ∙ (append-nil ys ∙ e)

one_more : (n : ℕ) (xs ys : List ℕ) → xs ≡ ys ++ n ∷ [] → ys ≡ range_with_len 0 n → xs ≡ range_with_len 0 (n + 1)
one_more n xs ys h e = h ∙ (ap (λ z. z ++ n ∷ []) e ∙ sym (numbers_more n))

pub walk_driver : (d c m n : ℕ) (ps : List design.Part) → IsWalk d c m n ps → IsWalk (d + 1) c m n (ps ++ part.Driver d ∷ [])
unfolding drivers_of clocked_of combinational_of initials_of
walk_driver d c m n ps w = record {
  parts_in = All-push (λ p. IsPart (d + 1) c m n p) ps (part.Driver d) (All-weaker (λ p. IsPart d c m n p) (λ p. IsPart (d + 1) c m n p) (λ p. part_later d c m n (d + 1) c m n p (omega arith) (omega arith) (omega arith) (omega arith)) ps w.parts_in) (omega arith);
  all_drivers = one_more d _ (drivers_of ps) (drivers_append ps (part.Driver d ∷ [])) w.all_drivers;
  all_clocked = none_more _ (clocked_of ps) _ (clocked_append ps (part.Driver d ∷ [])) w.all_clocked;
  all_combinational = none_more _ (combinational_of ps) _ (combinational_append ps (part.Driver d ∷ [])) w.all_combinational;
  all_initials = none_more _ (initials_of ps) _ (initials_append ps (part.Driver d ∷ [])) w.all_initials;
}

pub walk_clocked : (d c m n : ℕ) (ps : List design.Part) → IsWalk d c m n ps → IsWalk d (c + 1) m n (ps ++ part.Clocked c ∷ [])
unfolding drivers_of clocked_of combinational_of initials_of
walk_clocked d c m n ps w = record {
  parts_in = All-push (λ p. IsPart d (c + 1) m n p) ps (part.Clocked c) (All-weaker (λ p. IsPart d c m n p) (λ p. IsPart d (c + 1) m n p) (λ p. part_later d c m n d (c + 1) m n p (omega arith) (omega arith) (omega arith) (omega arith)) ps w.parts_in) (omega arith);
  all_drivers = none_more _ (drivers_of ps) _ (drivers_append ps (part.Clocked c ∷ [])) w.all_drivers;
  all_clocked = one_more c _ (clocked_of ps) (clocked_append ps (part.Clocked c ∷ [])) w.all_clocked;
  all_combinational = none_more _ (combinational_of ps) _ (combinational_append ps (part.Clocked c ∷ [])) w.all_combinational;
  all_initials = none_more _ (initials_of ps) _ (initials_append ps (part.Clocked c ∷ [])) w.all_initials;
}

pub walk_combinational : (d c m n : ℕ) (ps : List design.Part) → IsWalk d c m n ps → IsWalk d c (m + 1) n (ps ++ part.Combinational m ∷ [])
unfolding drivers_of clocked_of combinational_of initials_of
walk_combinational d c m n ps w = record {
  parts_in = All-push (λ p. IsPart d c (m + 1) n p) ps (part.Combinational m) (All-weaker (λ p. IsPart d c m n p) (λ p. IsPart d c (m + 1) n p) (λ p. part_later d c m n d c (m + 1) n p (omega arith) (omega arith) (omega arith) (omega arith)) ps w.parts_in) (omega arith);
  all_drivers = none_more _ (drivers_of ps) _ (drivers_append ps (part.Combinational m ∷ [])) w.all_drivers;
  all_clocked = none_more _ (clocked_of ps) _ (clocked_append ps (part.Combinational m ∷ [])) w.all_clocked;
  all_combinational = one_more m _ (combinational_of ps) (combinational_append ps (part.Combinational m ∷ [])) w.all_combinational;
  all_initials = none_more _ (initials_of ps) _ (initials_append ps (part.Combinational m ∷ [])) w.all_initials;
}

pub walk_initial : (d c m n : ℕ) (ps : List design.Part) → IsWalk d c m n ps → IsWalk d c m (n + 1) (ps ++ part.Initial n ∷ [])
unfolding drivers_of clocked_of combinational_of initials_of
walk_initial d c m n ps w = record {
  parts_in = All-push (λ p. IsPart d c m (n + 1) p) ps (part.Initial n) (All-weaker (λ p. IsPart d c m n p) (λ p. IsPart d c m (n + 1) p) (λ p. part_later d c m n d c m (n + 1) p (omega arith) (omega arith) (omega arith) (omega arith)) ps w.parts_in) (omega arith);
  all_drivers = none_more _ (drivers_of ps) _ (drivers_append ps (part.Initial n ∷ [])) w.all_drivers;
  all_clocked = none_more _ (clocked_of ps) _ (clocked_append ps (part.Initial n ∷ [])) w.all_clocked;
  all_combinational = none_more _ (combinational_of ps) _ (combinational_append ps (part.Initial n ∷ [])) w.all_combinational;
  all_initials = one_more n _ (initials_of ps) (initials_append ps (part.Initial n ∷ [])) w.all_initials;
}

-- a design with one part more

pub flat_driven : (signals : List Signal) (scopes : List Names) (drivers : List Driver) (clocked combinational : List Block) (walk room after : List design.Part) (inputs outputs owners starts : List ℕ) (initials : List Initial) (x : Driver) (xs : List Driver) (n : ℕ)
    → IsFlat signals scopes drivers clocked combinational walk inputs outputs owners starts initials → IsDriver signals scopes x
    → xs ≡ drivers ++ x ∷ [] → after ≡ room ++ part.Driver n ∷ [] → room ≡ walk → n ≡ length drivers
    → IsFlat signals scopes xs clocked combinational after inputs outputs owners starts initials
flat_driven signals scopes drivers clocked combinational walk room after inputs outputs owners starts initials x xs n f h e a r k =
    let more : length xs ≡ length drivers + 1 = rw e (length-append drivers (x ∷ [])) in
    record {
      signals_in = f.signals_in;
      starts_in = f.starts_in;
      scopes_in = f.scopes_in;
      drivers_in = rw e (All-push (λ d. IsDriver signals scopes d) drivers x f.drivers_in h);
      clocked_in = f.clocked_in;
      combinational_in = f.combinational_in;
      initials_in = f.initials_in;
      walked = rw (more, a, r, k) (walk_driver (length drivers) (length clocked) (length combinational) (length initials) walk f.walked);
      inputs_in = f.inputs_in;
      outputs_in = f.outputs_in;
      owned = f.owned;
      numbers = f.numbers;
      instances = f.instances;
    }

pub flat_clocked : (signals : List Signal) (scopes : List Names) (drivers : List Driver) (clocked combinational : List Block) (walk room after : List design.Part) (inputs outputs owners starts : List ℕ) (initials : List Initial) (x : Block) (xs : List Block) (n : ℕ)
    → IsFlat signals scopes drivers clocked combinational walk inputs outputs owners starts initials → IsBlock scopes x
    → xs ≡ clocked ++ x ∷ [] → after ≡ room ++ part.Clocked n ∷ [] → room ≡ walk → n ≡ length clocked
    → IsFlat signals scopes drivers xs combinational after inputs outputs owners starts initials
flat_clocked signals scopes drivers clocked combinational walk room after inputs outputs owners starts initials x xs n f h e a r k =
    let more : length xs ≡ length clocked + 1 = rw e (length-append clocked (x ∷ [])) in
    record {
      signals_in = f.signals_in;
      starts_in = f.starts_in;
      scopes_in = f.scopes_in;
      drivers_in = f.drivers_in;
      clocked_in = rw e (All-push (λ b. IsBlock scopes b) clocked x f.clocked_in h);
      combinational_in = f.combinational_in;
      initials_in = f.initials_in;
      walked = rw (more, a, r, k) (walk_clocked (length drivers) (length clocked) (length combinational) (length initials) walk f.walked);
      inputs_in = f.inputs_in;
      outputs_in = f.outputs_in;
      owned = f.owned;
      numbers = f.numbers;
      instances = f.instances;
    }

pub flat_combined : (signals : List Signal) (scopes : List Names) (drivers : List Driver) (clocked combinational : List Block) (walk room after : List design.Part) (inputs outputs owners starts : List ℕ) (initials : List Initial) (x : Block) (xs : List Block) (n : ℕ)
    → IsFlat signals scopes drivers clocked combinational walk inputs outputs owners starts initials → IsBlock scopes x
    → xs ≡ combinational ++ x ∷ [] → after ≡ room ++ part.Combinational n ∷ [] → room ≡ walk → n ≡ length combinational
    → IsFlat signals scopes drivers clocked xs after inputs outputs owners starts initials
flat_combined signals scopes drivers clocked combinational walk room after inputs outputs owners starts initials x xs n f h e a r k =
    let more : length xs ≡ length combinational + 1 = rw e (length-append combinational (x ∷ [])) in
    record {
      signals_in = f.signals_in;
      starts_in = f.starts_in;
      scopes_in = f.scopes_in;
      drivers_in = f.drivers_in;
      clocked_in = f.clocked_in;
      combinational_in = rw e (All-push (λ b. IsBlock scopes b) combinational x f.combinational_in h);
      initials_in = f.initials_in;
      walked = rw (more, a, r, k) (walk_combinational (length drivers) (length clocked) (length combinational) (length initials) walk f.walked);
      inputs_in = f.inputs_in;
      outputs_in = f.outputs_in;
      owned = f.owned;
      numbers = f.numbers;
      instances = f.instances;
    }

pub flat_begun : (signals : List Signal) (scopes : List Names) (drivers : List Driver) (clocked combinational : List Block) (walk room after : List design.Part) (inputs outputs owners starts : List ℕ) (initials : List Initial) (x : Initial) (xs : List Initial) (n : ℕ)
    → IsFlat signals scopes drivers clocked combinational walk inputs outputs owners starts initials → IsInitial scopes x
    → xs ≡ initials ++ x ∷ [] → after ≡ room ++ part.Initial n ∷ [] → room ≡ walk → n ≡ length initials
    → IsFlat signals scopes drivers clocked combinational after inputs outputs owners starts xs
flat_begun signals scopes drivers clocked combinational walk room after inputs outputs owners starts initials x xs n f h e a r k =
    let more : length xs ≡ length initials + 1 = rw e (length-append initials (x ∷ [])) in
    record {
      signals_in = f.signals_in;
      starts_in = f.starts_in;
      scopes_in = f.scopes_in;
      drivers_in = f.drivers_in;
      clocked_in = f.clocked_in;
      combinational_in = f.combinational_in;
      initials_in = rw e (All-push (λ z. IsInitial scopes z) initials x f.initials_in h);
      walked = rw (more, a, r, k) (walk_initial (length drivers) (length clocked) (length combinational) (length initials) walk f.walked);
      inputs_in = f.inputs_in;
      outputs_in = f.outputs_in;
      owned = f.owned;
      numbers = f.numbers;
      instances = f.instances;
    }

-- a design without a part

pub flat_none : IsFlat [] [] [] [] [] [] [] [] [] [] []
unfolding drivers_of clocked_of combinational_of initials_of
flat_none = record {
  signals_in = All-nil _;
  starts_in = record { all = refl; fit = λ id lt. absurd (omega (arith, lt)) };
  scopes_in = All-nil _;
  drivers_in = All-nil _;
  clocked_in = All-nil _;
  combinational_in = All-nil _;
  initials_in = All-nil _;
  walked = record { parts_in = All-nil _; all_drivers = refl; all_clocked = refl; all_combinational = refl; all_initials = refl };
  inputs_in = All-nil _;
  outputs_in = All-nil _;
  owned = refl;
  numbers = omega arith;
  instances = omega arith;
}
