-- The drivers of one port among those of an instance.
use Rattle.std.proofs.Common.{◌≡◌, ◌∙◌, sym, ap, ℕ, Bool, true, false, not, ◌&&◌, cond, List, [], ◌∷◌, ◌++◌, map, Some, refl, subst, nat_eq, if◌then◌else◌}
use Rattle.std.specs.List.{Contains, filter, flat_map}
use Rattle.std.specs.Str.{bytes_eq}
use Rattle.std.proofs.lemmas.Bool.{and_parts, and_from, and_left, both_ways, eqb-true, eq-eqb, ne_eqb}
use Rattle.std.proofs.lemmas.List.{append-nil}
use Rattle.rr_syntax.specs.Tree.{Tree}
use Rattle.rr_flat.specs.declared.signal.Port.{Port}
use Rattle.rr_flat.specs.declared.signal.Port.TheVariants.{Inner, Input, Output}
use Rattle.rr_flat.specs.Plain.{Side, Written, Whole, Driver, Flat}
use Rattle.rr_flat.specs.Signals.{Text, signal_at}
use Rattle.rr_flat_laws.specs.Drivers.{signal_instance, signal_number, port_driver, driver_of_connection, is_between, is_connection, expression_of, driver_of_port, is_joined, joins}
use Rattle.rr_flat_laws.proofs.Shares.{filter_all, filter_nothing, filter_both}
use Rattle.rr_flat_laws.proofs.Texts.{here, later, Distinct, same_text, text_same}

-- one test after a weaker one
filter_through : {X : Type 0} (p q : X → Bool) (xs : List X) → ((x : X) → p x ≡ true → q x ≡ true) → filter p xs ≡ filter p (filter q xs)
filter_through p q [] h = refl
filter_through p q (x ∷ xs) h = by (p x) (q x) refl refl (filter_through p q xs h)
  where
    by : (a b : Bool) → p x ≡ a → q x ≡ b → filter p xs ≡ filter p (filter q xs) → cond a (x ∷ filter p xs) (filter p xs) ≡ filter p (cond b (x ∷ filter q xs) (filter q xs))
    by true true u v e = rw u (ap (λ zs. x ∷ zs) e)
    by true false u v e = absurd (both_ways (q x) v (h x u))
    by false true u v e = rw u e
    by false false u v e = e

module _ (F : Flat) (i k : ℕ) (apart : i ≡ k → ⊥) where
  -- the signal of a port of the instance
  pub record IsOwn (name : Text) : Type 0 where
    pub instance : signal_instance F (signal_number F k name) ≡ k
    pub named : (signal_at F.signals (signal_number F k name)).name ≡ name

  between : (x j id : ℕ) → signal_instance F id ≡ k → (nat_eq x id && not (nat_eq j (signal_instance F id))) ≡ true → (nat_eq (signal_instance F x) k && not (nat_eq j k)) ≡ true
  between x j id e h =
      let p = and_parts (nat_eq x id) (not (nat_eq j (signal_instance F id))) h in
      let s : x ≡ id = eqb-true x id p.0 in
      and_from (nat_eq (signal_instance F x) k) (not (nat_eq j k)) (eq-eqb (signal_instance F x) k (ap (λ (z : ℕ). signal_instance F z) s ∙ e)) (ap (λ (z : ℕ). not (nat_eq j z)) (sym e) ∙ p.1)

  weaker : (id : ℕ) → signal_instance F id ≡ k → (a b : Side) → is_joined F id a b ≡ true → is_between F k a b ≡ true
  weaker id e (Written t j) (Written v l) h = h
  weaker id e (Whole x) (Written v j) h = between x j id e h
  weaker id e (Written t j) (Whole x) h = between x j id e h
  weaker id e (Whole x) (Whole y) h = h

  own_test : (id : ℕ) → signal_instance F id ≡ k → (nat_eq id id && not (nat_eq i (signal_instance F id))) ≡ true
  own_test id e = rw (eq-eqb id id refl, e, ne_eqb i k apart) refl

  other_test : (x id : ℕ) → (x ≡ id → ⊥) → (nat_eq x id && not (nat_eq i (signal_instance F id))) ≡ false
  other_test x id d = and_left (nat_eq x id) (not (nat_eq i (signal_instance F id))) (ne_eqb x id d)

  own_port : (p : Port) (id : ℕ) (t : Tree) → signal_instance F id ≡ k → filter (joins F id) (port_driver p id i t) ≡ port_driver p id i t
  own_port Inner id t e = refl
  own_port Input id t e = filter_all (joins F id) (port_driver Input id i t) (own_test id e, tt)
  own_port Output id t e = filter_all (joins F id) (port_driver Output id i t) (own_test id e, tt)

  other_port : (p : Port) (x id : ℕ) (t : Tree) → (x ≡ id → ⊥) → filter (joins F id) (port_driver p x i t) ≡ []
  other_port Inner x id t d = refl
  other_port Input x id t d = filter_nothing (joins F id) (port_driver Input x i t) (other_test x id d, tt)
  other_port Output x id t d = filter_nothing (joins F id) (port_driver Output x i t) (other_test x id d, tt)

  -- ports of other names are other signals
  other_name : (p q : Text) → IsOwn p → IsOwn q → (p ≡ q → ⊥) → signal_number F k q ≡ signal_number F k p → ⊥
  other_name p q a b d e = d (sym a.named ∙ (ap (λ (z : ℕ). (signal_at F.signals z).name) (sym e) ∙ b.named))

  abbrev names_of : List (Text × Tree) → List Text
  names_of cs = map (λ (x : Text × Tree). x.0) cs

  not_named : (p : Text) (cs : List (Text × Tree)) → IsOwn p → ((q : Text) → Contains (names_of cs) q → IsOwn q) → (Contains (names_of cs) p → ⊥) → filter (joins F (signal_number F k p)) (flat_map (driver_of_connection F i k) cs) ≡ []
  not_named p [] a h d = refl
  not_named p (c ∷ cs) a h d =
      filter_both (joins F (signal_number F k p)) (driver_of_connection F i k c) (flat_map (driver_of_connection F i k) cs) [] []
      (other_port (signal_at F.signals (signal_number F k c.0)).port (signal_number F k c.0) (signal_number F k p) c.1
      (other_name p c.0 a (h c.0 (here c.0 (names_of cs))) (λ e. d (subst (λ z. Contains (c.0 ∷ names_of cs) z) (sym e) (here c.0 (names_of cs))))))
      (not_named p cs a (λ q m. h q (later c.0 (names_of cs) q m)) (λ m. d (later c.0 (names_of cs) p m)))

  one_port : (p : Text) (cs : List (Text × Tree)) → IsOwn p → ((q : Text) → Contains (names_of cs) q → IsOwn q) → Distinct (names_of cs) →
      filter (joins F (signal_number F k p)) (flat_map (driver_of_connection F i k) cs) ≡ driver_of_port F i k p (expression_of p cs)
  unfolding expression_of
  one_port p [] a h d = refl
  one_port p (c ∷ cs) a h d = by (bytes_eq p c.0) refl (one_port p cs a (λ q m. h q (later c.0 (names_of cs) q m)) d.1)
    where
      id : ℕ
      id = signal_number F k p

      by : (b : Bool) → bytes_eq p c.0 ≡ b → filter (joins F id) (flat_map (driver_of_connection F i k) cs) ≡ driver_of_port F i k p (expression_of p cs) →
          filter (joins F id) (driver_of_connection F i k c ++ flat_map (driver_of_connection F i k) cs) ≡ driver_of_port F i k p (if b then Some c.1 else expression_of p cs)
      by true q e =
          let s : p ≡ c.0 = same_text p c.0 q in
          let own : filter (joins F id) (driver_of_connection F i k c) ≡ driver_of_connection F i k (p, c.1) =
          ap (λ (z : Text). filter (joins F id) (driver_of_connection F i k (z, c.1))) (sym s) ∙ own_port (signal_at F.signals id).port id c.1 a.instance in
          let rest : filter (joins F id) (flat_map (driver_of_connection F i k) cs) ≡ [] =
          not_named p cs a (λ n m. h n (later c.0 (names_of cs) n m)) (λ m. d.0 (subst (λ z. Contains (names_of cs) z) s m)) in
          filter_both (joins F id) (driver_of_connection F i k c) (flat_map (driver_of_connection F i k) cs) (driver_of_connection F i k (p, c.1)) [] own rest ∙ append-nil (driver_of_connection F i k (p, c.1))
      by false q e =
          filter_both (joins F id) (driver_of_connection F i k c) (flat_map (driver_of_connection F i k) cs) [] (driver_of_port F i k p (expression_of p cs))
          (other_port (signal_at F.signals (signal_number F k c.0)).port (signal_number F k c.0) id c.1 (other_name p c.0 a (h c.0 (here c.0 (names_of cs))) (λ e. both_ways (bytes_eq p c.0) q (text_same p c.0 e))))
          e

  -- of all drivers, where those of the instance are these
  pub port_drivers : (p : Text) (cs : List (Text × Tree)) → IsOwn p → ((q : Text) → Contains (names_of cs) q → IsOwn q) → Distinct (names_of cs) → filter (is_connection F k) F.drivers ≡ flat_map (driver_of_connection F i k) cs →
      filter (joins F (signal_number F k p)) F.drivers ≡ driver_of_port F i k p (expression_of p cs)
  port_drivers p cs a h d e =
      filter_through (joins F (signal_number F k p)) (is_connection F k) F.drivers (λ x q. weaker (signal_number F k p) a.instance x.target x.value q)
      ∙ (ap (λ (ds : List Driver). filter (joins F (signal_number F k p)) ds) e ∙ one_port p cs a h d)
