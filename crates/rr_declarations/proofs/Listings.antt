-- Lists of declarations.
use Rattle.std.proofs.Common.{◌≡◌, ◌∙◌, sym, ap, ℕ, ◌+◌, ◌<◌, true, false, Bool, not, List, [], ◌∷◌, ◌++◌, length, get_or, Option, Some, None, Ok, Err, refl, fold, nat_lt, arith, slice_set, is_some, is_none, ◌&&◌, ◌||◌}
use Rattle.std.proofs.lemmas.Bool.Decides.{nat_tests}
use Rattle.std.proofs.lemmas.List.{map-set, get_or-map}
use Rattle.std.proofs.lemmas.List.Sums.{fold-append}
use Rattle.rr_expr.specs.Scopes.{Names, lookup, range_width}
use Rattle.rr_flat.specs.Faults.{sooner, fault_if, faults_in}
use Rattle.rr_syntax.specs.Tree.{DeclaredName}
use Rattle.rr_declarations.specs.Parameters.{width_faults}
use Rattle.rr_declarations.specs.Values.{range_in}
use Rattle.rr_declarations.specs.View.{Listing, plain_declared, plain_list, plain_declarations}
use Rattle.rr_declarations.specs.Declarations.{Declarations, start_faults, start_or, starting, is_port, indices, declared_words, declared_bits, words_faults, new_faults, counted, declare_new, declare_again, is_same_range, declared_at, no_declared}
use Rattle.rr_declarations.specs.declared.declare.Declaration.{Declaration}
use Rattle.rr_declarations.specs.declared.declare.Declared.{Declared}
use Rattle.rr_flat.specs.declared.fault.FlatFault.{FlatFault}
use Rattle.rr_flat.specs.declared.fault.FlatFault.TheVariants.{NameTwice, UnknownName, TooMany, BadRange}
use Rattle.rr_flat.specs.declared.fault.Limit.TheVariants.{FlatBits}

-- a declaration that lifts the bits above the limit
pub counted_full : (k : Declaration) (n : DeclaredName) (words : Option (ℕ × ℕ)) (start : ℕ) (d : Declarations) (w : ℕ) → w ≡ declared_bits k words → 65536 < d.bits + w → counted k n words start d ≡ Err (TooMany FlatBits (d.bits + w))
unfolding sooner
counted_full k n words start d w is lt = let b : nat_lt 65536 (d.bits + w) ≡ true = grind (arith, nat_tests) in rw (← is, b) refl

-- the faults of a new name, as they are noted one after the other
pub new_found : (brackets known : Names) (k : Declaration) (n : DeclaredName) (d : Declarations)
    → fold sooner (fold sooner (fold sooner (fold sooner (fold sooner None (fault_if (is_some (lookup n.text d.names)) (NameTwice n.token))) (fault_if (is_port k.port && is_none (lookup n.text brackets)) (UnknownName n.token))) (faults_in (range_in known (indices k n)))) (width_faults n.token k.range)) (start_faults known (starting k n))
    ≡ fold sooner None (new_faults brackets known k n d)
new_found brackets known k n d =
    let twice = fault_if (is_some (lookup n.text d.names)) (NameTwice n.token) in
    let stray = fault_if (is_port k.port && is_none (lookup n.text brackets)) (UnknownName n.token) in
    let bounds = faults_in (range_in known (indices k n)) in
    let wide = width_faults n.token k.range in
    let start = start_faults known (starting k n) in
    sym (fold-append sooner None twice (stray ++ (bounds ++ (wide ++ start)))
    ∙ (fold-append sooner (fold sooner None twice) stray (bounds ++ (wide ++ start))
    ∙ (fold-append sooner (fold sooner (fold sooner None twice) stray) bounds (wide ++ start) ∙ fold-append sooner (fold sooner (fold sooner (fold sooner None twice) stray) bounds) wide start)))

pub new_refused : (brackets known : Names) (k : Declaration) (n : DeclaredName) (d : Declarations) (f : FlatFault) → fold sooner None (new_faults brackets known k n d) ≡ Some f → declare_new brackets known k n d ≡ Err f
unfolding declare_new
new_refused brackets known k n d f e = rw e refl

-- more words than there may be
pub new_many : (brackets known : Names) (k : Declaration) (n : DeclaredName) (d : Declarations) (f : FlatFault) → fold sooner None (new_faults brackets known k n d) ≡ None → words_faults (declared_words known k n) ≡ f ∷ []
    → declare_new brackets known k n d ≡ Err f
unfolding declare_new sooner
new_many brackets known k n d f e w = rw (e, w) refl

pub new_counted : (brackets known : Names) (k : Declaration) (n : DeclaredName) (d : Declarations) → fold sooner None (new_faults brackets known k n d) ≡ None → words_faults (declared_words known k n) ≡ []
    → declare_new brackets known k n d ≡ counted k n (declared_words known k n) (start_or known (range_width k.range) 0 (starting k n)) d
unfolding declare_new
new_counted brackets known k n d e w = rw (e, w) refl

-- what stands at a place
pub declared_here : (list : List Declared) (place : ℕ) (x : Declared) → place < length list → x ≡ get_or list place x → declared_at (plain_list list) place ≡ plain_declared x
declared_here list place x lt is = get_or-map plain_declared list place x no_declared lt ∙ sym (ap plain_declared is)

-- the faults of a port that is declared once more
pub again_refused : (known : Names) (k : Declaration) (n : DeclaredName) (place : ℕ) (d : Listing) (x : Declared) (same : Bool) (f : FlatFault) → place < length d.list → x ≡ get_or d.list place x → same ≡ is_same_range x.signal.range k.range
    → fold sooner (fold sooner None (fault_if (not same) (BadRange n.token))) (start_faults known (starting k n)) ≡ Some f → declare_again known k n place (plain_declarations d) ≡ Err f
unfolding declare_again
again_refused known k n place d x same f lt is t e =
    rw (declared_here d.list place x lt is, ← t, fold-append sooner None (fault_if (not same) (BadRange n.token)) (start_faults known (starting k n)), e) refl

pub again_fits : (known : Names) (k : Declaration) (n : DeclaredName) (place : ℕ) (d : Listing) (x : Declared) (same signed : Bool) (start : ℕ) → place < length d.list → x ≡ get_or d.list place x → same ≡ is_same_range x.signal.range k.range
    → fold sooner (fold sooner None (fault_if (not same) (BadRange n.token))) (start_faults known (starting k n)) ≡ None → signed ≡ (k.signed || x.signal.signed) → start ≡ start_or known x.signal.width x.signal.start (starting k n)
    → declare_again known k n place (plain_declarations d) ≡ Ok (plain_declarations (record d { list = slice_set d.list place (record { signal = record x.signal { variable = k.variable; signed = signed; start = start }; words = None; again = false }) }))
unfolding declare_again
again_fits known k n place d x same signed start lt is t e s b =
    rw (declared_here d.list place x lt is, ← t, fold-append sooner None (fault_if (not same) (BadRange n.token)) (start_faults known (starting k n)), e, s, b, map-set plain_declared d.list place (record { signal = record x.signal { variable = k.variable; signed = k.signed || x.signal.signed; start = start_or known x.signal.width x.signal.start (starting k n) }; words = None; again = false })) refl
