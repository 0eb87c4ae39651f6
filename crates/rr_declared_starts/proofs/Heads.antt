-- The signals of a head begin with what the declarations of its module give them.
use Rattle.std.proofs.Common.{◌≡◌, sym, ap, inl, inr, ℕ, ◌+◌, Bool, false, List, [], ◌∷◌, length, map, fold, Option, Some, None, Ok, refl, subst, arith}
use Rattle.std.specs.Prelude.{nat_lt}
use Rattle.std.specs.List.{AllByRecursion, IsDistinct, range_with_len}
use Rattle.std.specs.Str.{bytes_eq}
use Rattle.rr_syntax.specs.Tree.{PortDeclaration, ModuleItem, Ports, Nets, Variables, Integers, Parameters, Assigns, Always, Initial, Instances, ModuleDeclaration}
use Rattle.rr_expr.specs.Scopes.{Names, lookup, meant, or_instance}
use Rattle.rr_expr.specs.declared.types.Entity.{Entity}
use Rattle.rr_expr.specs.declared.types.Entity.TheVariants as entity
use Rattle.rr_flat.specs.declared.fault.FlatFault.TheVariants.{TooMany}
use Rattle.rr_flat.specs.declared.fault.Limit.TheVariants.{FlatBits}
use Rattle.rr_flat.specs.Faults.{fault_if, first_of, and_then}
use Rattle.rr_flat.specs.Signals.{Text, Signal}
use Rattle.rr_memory_words.specs.Words.{indexed_word, words_signals}
use Rattle.rr_declarations.specs.Declarations.{Declared, Declarations, known, know, know_declarator, know_identifier, know_ports, know_item, brackets, declarations}
use Rattle.rr_declarations.specs.Heads.{Head, head, declared, declared_in_order, joined, signals_of, with_signals, numbered}
use Rattle.rr_declarations.specs.Parameters.{parameters}
use Rattle.rr_flatten.proofs.HeadOf.{first_ok, settled_is, fold_keeps, all_append, all_weaker, Entries, NoSignal, constants}
use Rattle.rr_flat_laws.proofs.Declaring.{Lists}
use Rattle.rr_flat_laws.proofs.Texts.{with_cases, found_entry}
use Rattle.rr_flat_laws.proofs.Windows.{stays}
use Rattle.rr_declared_ranges.proofs.Scalars.{all_in_order, all_by_index}
use Rattle.rr_declared_starts.specs.Starts.{Valued, names_in, values_of, BeginsAs}
use Rattle.rr_declared_starts.proofs.Constants.{IsConstant, Carries}
use Rattle.rr_declared_starts.proofs.Stepping.{Right, Listed, nothing_begun, all_begun}

-- The signals in order

-- the words of a signal begin as it does
module _ (seen : Names) (vs : List Valued) where
  word_right : (s : Signal) (low k : ℕ) → Right seen vs s → Right seen vs (indexed_word s low k)
  word_right s low k r = record {
    given = all_weaker (λ v. v.name ≡ s.name → BeginsAs seen v s) (λ v. v.name ≡ s.name → BeginsAs seen v (indexed_word s low k)) vs
        (λ v g e. let b = g e in record { ranged = b.ranged; constant = b.constant; begins = b.begins }) r.given;
    none = r.none;
  }

  words_right : (s : Signal) (low : ℕ) (ks : List ℕ) → Right seen vs s → AllByRecursion (Right seen vs) (map (indexed_word s low) ks)
  words_right s low [] r = tt
  words_right s low (k ∷ ks) r = (word_right s low k r, words_right s low ks r)

  signals_right : (s : Signal) (words : Option (ℕ × ℕ)) → Right seen vs s → AllByRecursion (Right seen vs) (words_signals s words)
  signals_right s None r = (r, tt)
  signals_right s (Some w) r = words_right s w.0 (range_with_len 0 w.1) r

  joined_right : (list : List Declared) → AllByRecursion (λ (x : Declared). Right seen vs x.signal) list → AllByRecursion (Right seen vs) (joined list)
  unfolding joined
  joined_right [] h = tt
  joined_right (x ∷ xs) h = all_append (Right seen vs) (signals_of x) (joined xs) (signals_right x.signal x.words h.0) (joined_right xs h.1)

-- The constants of the names that declarations see are those of the instance

module _ (params : Names) where
  abbrev Only : Names → Type 0
  Only names = (n : Text) (bits : List Bool) (signed : Bool) → lookup n names ≡ Some (entity.Constant bits signed) → lookup n params ≡ Some (entity.Constant bits signed)

  no_constant : (bits : List Bool) (sign signed : Bool) (id : ℕ) (range : Option (ℕ × ℕ)) → entity.Constant bits sign ≡ entity.Signal id range signed → ⊥
  no_constant bits sign signed id range e = cc

  known_one : (names : Names) (x : Text) → Only names → Only (know names x)
  known_one names x h n bits signed e = elim (with_cases names n x (entity.Constant bits signed) (entity.Signal 0 None false) e) [
    | inl a ↦ h n bits signed a
    | inr b ↦ absurd (no_constant bits signed false 0 None b.1)
  ]

  known_ports : (p : PortDeclaration) (names : Names) → Only names → Only (know_ports names p)
  unfolding know_ports
  known_ports p names h = fold_keeps Only know_declarator (λ x s h. known_one s x.text h) p.names names h

  known_item : (x : ModuleItem) (names : Names) → Only names → Only (know_item names x)
  unfolding know_item
  known_item (Ports p) names h = known_ports p names h
  known_item (Nets signed range list) names h = fold_keeps Only know_declarator (λ x s h. known_one s x.text h) list names h
  known_item (Variables signed range list) names h = fold_keeps Only know_declarator (λ x s h. known_one s x.text h) list names h
  known_item (Integers list) names h = fold_keeps Only know_identifier (λ x s h. known_one s x.text h) list names h
  known_item (Parameters p) names h = h
  known_item (Assigns pairs) names h = h
  known_item (Always events body token) names h = h
  known_item (Initial body token) names h = h
  known_item (Instances m token overrides list) names h = h

  only_known : (m : ModuleDeclaration) → Only (known m params)
  unfolding known
  only_known m = fold_keeps Only know_item known_item m.items (fold know_ports params m.groups) (fold_keeps Only know_ports known_ports m.groups params (λ n bits signed e. e))

  carried : (m : ModuleDeclaration) (k : ℕ) (list : List Declared) → Carries (known m params) (with_signals k list params)
  unfolding meant
  carried m k list name c = by (lookup name (known m params)) refl c
    where
      by : (o : Option Entity) → lookup name (known m params) ≡ o → IsConstant (or_instance o) → or_instance o ≡ or_instance (lookup name (with_signals k list params))
      by None q c = absurd c
      by (Some (entity.Constant bits signed)) q c = sym (ap or_instance (stays k list params name (entity.Constant bits signed) (only_known m name bits signed q)))
      by (Some (entity.Signal id range signed)) q c = absurd c
      by (Some (entity.Memory first low words range signed)) q c = absurd c
      by (Some entity.Instance) q c = absurd c

-- Heads

no_lists : (bracketed params : Names) (P : Text × Bool → Type 0) (i bits : ℕ) → Entries NoSignal params → Lists bracketed params P (record { instance = i; names = params; list = []; bits = bits })
no_lists bracketed params P i bits h = record {
  kept = λ n x e. e;
  placed = λ p l. absurd (omega (arith, l));
  named = λ n id range signed e. absurd (found_entry NoSignal params n (entity.Signal id range signed) h e);
  true_of = λ p l. absurd (omega (arith, l));
  ported = λ p l. absurd (omega (arith, l));
  single = λ p l. absurd (omega (arith, l));
  worded = λ p l. absurd (omega (arith, l));
}

-- by the names that its declarations see
pub record Founded (m : ModuleDeclaration) (h : Head) : Type 0 where
  pub seen : Names
  pub carries : Carries seen h.scope
  pub begin : AllByRecursion (Right seen (values_of m)) h.signals
  pub once : IsDistinct bytes_eq (names_in (values_of m))

pub founded : (i base bits : ℕ) (given : Names) (m : ModuleDeclaration) (h : Head) → head i base bits given m ≡ Ok h → Founded m h
unfolding head numbered declared
founded i base bits given m h e =
    let r = first_ok (parameters given m) (λ names. and_then (declared i bits m names) (λ d. numbered i base d.bits (declared_in_order m d) names)) h e in
    let s = first_ok (declared i bits m r.0) (λ d. numbered i base d.bits (declared_in_order m d) r.0) h r.1.1 in
    let d = s.0 in
    let first : Declarations = record { instance = i; names = r.0; list = []; bits = bits } in
    let b = first_ok (brackets m) (λ bracketed. declarations bracketed (known m r.0) m first) d s.1.0 in
    let lists : Listed b.0 r.0 (known m r.0) first = no_lists b.0 r.0 _ i bits (constants given m r.0 r.1.0) in
    let so = all_begun b.0 r.0 (known m r.0) m first d (lists, nothing_begun b.0 r.0 (known m r.0) first refl) b.1.1 in
    let list = declared_in_order m d in
    let signals = joined list in
    let made : Head = record { instance = i; base = base; bits = d.bits; signals = signals; scope = with_signals base list r.0 } in
    subst (Founded m) (settled_is (first_of (fault_if (nat_lt 65536 (base + length signals)) (TooMany FlatBits (base + length signals)))) made h s.1.1) (record {
      seen = known m r.0;
      carries = carried r.0 m base list;
      begin = joined_right (known m r.0) (values_of m) list
          (all_in_order d (λ (x : Declared). Right (known m r.0) (values_of m) x.signal) (all_by_index (λ (x : Declared). Right (known m r.0) (values_of m) x.signal) d.list so.right) m);
      once = so.once;
    })
