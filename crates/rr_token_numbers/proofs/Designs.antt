-- Sources that are equal without token numbers have flat designs that are, or none.
use Rattle.std.proofs.Common.{◌≡◌, ◌∙◌, sym, ap, Option, None, Result, Ok, Err, refl}
use Rattle.rr_syntax.specs.Tree.{SourceText, IsSameSource, bare_source}
use Rattle.rr_flat.specs.declared.fault.FlatFault.{FlatFault}
use Rattle.rr_flat.specs.Signals.{Text}
use Rattle.rr_flat.specs.Plain.{Flat}
use Rattle.rr_flatten.specs.Walk.{flat_of}
use Rattle.rr_token_numbers.specs.Bare.{bare_flat, HasSameFlat}
use Rattle.rr_token_numbers.proofs.Results.{Barely}
use Rattle.rr_token_numbers.proofs.Walks.{design_bare}

answered : (r q : Result Flat FlatFault) (f : Flat) → r ≡ Ok f → Barely bare_flat r q → q ≡ Ok (bare_flat f)
answered (Ok g) q f e h = let is : g ≡ f = cc in h ∙ ap (λ (x : Flat). Ok (bare_flat x)) is
answered (Err x) q f e h = absurd (cc)

back : (r q : Result Flat FlatFault) (f : Flat) → q ≡ Ok f → Barely bare_flat r q → (g : Flat) × ((r ≡ Ok g) × (f ≡ bare_flat g))
back (Ok g) q f e h = (g, (refl, (let k : Ok f ≡ Ok (bare_flat g) = sym e ∙ h in cc)))
back (Err x) q f e h = let k : Ok f ≡ Err h.0 = sym e ∙ h.1 in absurd (cc)

pub same_flat : (s u : SourceText) (top : Option Text) (f : Flat) → IsSameSource s u → flat_of s top ≡ Ok f → HasSameFlat u top f
same_flat s u top f same e =
    let there : flat_of (bare_source s) top ≡ Ok (bare_flat f) = answered (flat_of s top) (flat_of (bare_source s) top) f e (design_bare None s top) in
    let here : flat_of (bare_source u) top ≡ Ok (bare_flat f) = rw same at there in
    let b = back (flat_of u top) (flat_of (bare_source u) top) (bare_flat f) here (design_bare None u top) in
    record { flat = b.0; is = b.1.0; same = b.1.1 }
