-- Which names a guard may be, by what is kept of a module.
use Rattle.std.proofs.Common.{◌≡◌, ◌∙◌, ap, ℕ, Bool, not, ◌&&◌, ◌||◌, List, filter}
use Rattle.rr_syntax.specs.Tree.{Identifier, ModuleDeclaration}
use Rattle.rr_flat.specs.Signals.{Text}
use Rattle.rr_guard.specs.declared.candidates.Uses.{Uses}
use Rattle.rr_guard.specs.Candidates.{AreUses, is_among, may_be}
use Rattle.rr_guard.specs.Names.{scalars, firsts, first_names, may_guard, guard_names, names_at, writes_now}
use Rattle.rr_guard.proofs.Lists.{filter_same}

may_same : (m : ModuleDeclaration) (clocks : List Text) (u : Uses) → AreUses m clocks u → (clocked : Bool) (name : Text) → may_be u clocked name ≡ may_guard m clocks clocked name
may_same m clocks u h clocked name =
    ap (λ b. not b && (not (is_among name u.at_once) && (clocked || is_among name u.later))) (h.clock name)
    ∙ (ap (λ b. not (is_among name clocks) && (not b && (clocked || is_among name u.later))) (h.now name)
    ∙ ap (λ b. not (is_among name clocks) && (not (writes_now m name) && (clocked || b))) (h.later name))

chosen_are : (m : ModuleDeclaration) (clocks : List Text) (u : Uses) → AreUses m clocks u → (clocked : Bool) → filter (λ (x : Identifier). may_be u clocked x.text) (firsts (scalars m)) ≡ guard_names m clocks clocked
unfolding guard_names
chosen_are m clocks u h clocked = filter_same (λ (x : Identifier). may_be u clocked x.text) (λ (x : Identifier). may_guard m clocks clocked x.text) (firsts (scalars m)) (λ x. may_same m clocks u h clocked x.text)

-- a list that was chosen and then shortened tells the names at each token
pub names_told : (m : ModuleDeclaration) (clocks : List Text) (u : Uses) → AreUses m clocks u → (clocked : Bool) (declared names list short : List Identifier)
    → declared ≡ scalars m → names ≡ firsts declared → list ≡ filter (λ (x : Identifier). may_be u clocked x.text) names → ((token : ℕ) → first_names short token ≡ first_names list token)
    → (token : ℕ) → first_names short token ≡ names_at m clocks clocked token
names_told m clocks u h clocked declared names list short d n l s token =
    s token ∙ ap (λ (xs : List Identifier). first_names xs token)
    (l ∙ (ap (λ xs. filter (λ (x : Identifier). may_be u clocked x.text) xs) (n ∙ ap firsts d) ∙ chosen_are m clocks u h clocked))
