-- Who stands beside two different payloads: by words, where an entry has nobody, in four entries, and in two of any number.
-- Assumes nothing.
use mathlib.Core.Path.{◌≡◌, refl, sym, ap, ap₂, ◌∙◌}
use mathlib.Core.Logic.{◌⊎◌, inl, inr}
use mathlib.Core.Bool.{Bool, true, false, not, ◌&&◌, ◌||◌, and-false, and-true, or-false, or-true, true≢false}
use mathlib.Core.List.{List, [], ◌∷◌}
use Prim.Native.Nat.{ℕ}
use Rattle.octets.specs.Octets.{same}
use Rattle.octets.proofs.Same.{same_self, same-flip}
use Rattle.signers.specs.Signers.{member, union, common}
use Rattle.signers.proofs.Members.{member_union, member-common, nobody}
use Rattle.equivocators.specs.Entries.{Entry, signed_both, signed_beside, signed_two}

module _ (a b : Entry) (node : ℕ) where
  -- of one payload nobody has signed two
  pub both-same : same a.payload b.payload ≡ true → signed_both a b node ≡ false
  unfolding signed_both
  both-same e = rw (e, and-false, and-false)

  -- of two the common signers have
  pub both-other : same a.payload b.payload ≡ false → member (common a.signers b.signers) node ≡ signed_both a b node
  unfolding signed_both
  both-other e = rw (e, and-true) (member-common a.signers b.signers node)

  -- beside nobody there is nobody
  pub both-nobody : b.signers ≡ 0 → member (common a.signers b.signers) node ≡ signed_both a b node
  unfolding signed_both
  both-nobody e = member-common a.signers b.signers node ∙ rw (e, nobody)

  -- either way
  pub both-distinct : (b.signers ≡ 0) ⊎ (same a.payload b.payload ≡ false) → member (common a.signers b.signers) node ≡ signed_both a b node
  both-distinct (inl e) = both-nobody e
  both-distinct (inr e) = both-other e

-- so nobody stands in both where one of them has nobody
pub both-none : (a b : Entry) (node : ℕ) → (a.signers ≡ 0) ⊎ (b.signers ≡ 0) → signed_both a b node ≡ false
unfolding signed_both
both-none a b node (inl e) = rw (e, nobody)
both-none a b node (inr e) = rw (e, nobody) (and-false (member a.signers node))

-- the same entry, or one with the same signers where there are none
abbrev pub Alike : (a b : Entry) → Type 0
Alike a b = (a.signers ≡ b.signers) × ((a.signers ≡ 0) ⊎ (a.payload ≡ b.payload))

pub both-alike : (a b c d : Entry) (node : ℕ) → Alike a c → Alike b d → signed_both a b node ≡ signed_both c d node
unfolding signed_both
both-alike a b c d node (e, inl z) (f, y) = rw (sym e, z, nobody)
both-alike a b c d node (e, inr p) (f, inl z) = rw (sym f, z, nobody) (and-false (member a.signers node) ∙ sym (and-false (member c.signers node)))
both-alike a b c d node (e, inr p) (f, inr q) = rw (e, f, p, q)

-- four entries, two by two
pub four : (a b c d : Entry) (node : ℕ)
    → signed_two (a ∷ b ∷ c ∷ d ∷ []) node
    ≡ ((signed_both a b node || (signed_both a c node || signed_both a d node)) || ((signed_both b c node || signed_both b d node) || signed_both c d node))
unfolding signed_two signed_beside
four a b c d node = simp (or-false)

-- of which the second and the fourth have nobody
pub four-two : (a b c d : Entry) (node : ℕ) → b.signers ≡ 0 → d.signers ≡ 0 → signed_two (a ∷ b ∷ c ∷ d ∷ []) node ≡ signed_both a c node
four-two a b c d node none other =
    four a b c d node
    ∙ simp
    (both-none a b node (inr none), both-none a d node (inr other), both-none b c node (inl none), both-none b d node (inl none), both-none c d node (inr other), or-false)

pub four-alike : (a b c d e f g h : Entry) (node : ℕ) → Alike a e → Alike b f → Alike c g → Alike d h
    → signed_two (a ∷ b ∷ c ∷ d ∷ []) node ≡ signed_two (e ∷ f ∷ g ∷ h ∷ []) node
four-alike a b c d e f g h node ae bf cg dh =
    rw (
      four a b c d node,
      four e f g h node,
      both-alike a b e f node ae bf,
      both-alike a c e g node ae cg,
      both-alike a d e h node ae dh,
      both-alike b c f g node bf cg,
      both-alike b d f h node bf dh,
      both-alike c d g h node cg dh,
    )

-- a word that joins two others
pub joined : (w a b node : ℕ) (p q : Bool) → w ≡ union a b → member a node ≡ p → member b node ≡ q → member w node ≡ (p || q)
joined w a b node p q e f g = ap (λ (x : ℕ). member x node) e ∙ (member_union a b node ∙ ap₂ ◌||◌ f g)

-- ---- two entries of some

-- each of the entries has a property; one of them is this
abbrev pub Each : (P : Entry → Type 0) → List Entry → Type 0
Each P [] = Unit
Each P (a ∷ others) = P a × Each P others

abbrev pub Among : Entry → List Entry → Type 0
Among a [] = ⊥
Among a (b ∷ others) = (a ≡ b) ⊎ Among a others

-- a node that stands in two of them does so in two that have the property
module _ (P : Entry → Type 0) (node : ℕ) where
  beside-says : (a : Entry) (others : List Entry) → Each P others → signed_beside a others node ≡ true → (b : Entry) × P b × (signed_both a b node ≡ true)
  unfolding signed_beside
  beside-says a [] all e = absurd (true≢false (sym e))
  beside-says a (b ∷ others) all e = go (signed_both a b node) refl e (beside-says a others all.1)
    where
      go : (m : Bool) → signed_both a b node ≡ m → (m || signed_beside a others node) ≡ true
          → (signed_beside a others node ≡ true → (c : Entry) × P c × (signed_both a c node ≡ true)) → (c : Entry) × P c × (signed_both a c node ≡ true)
      go true m e later = (b, all.0, m)
      go false m e later = later e

  pub two-says : (entries : List Entry) → Each P entries → signed_two entries node ≡ true → (a : Entry) × (b : Entry) × P a × P b × (signed_both a b node ≡ true)
  unfolding signed_two
  two-says [] all e = absurd (true≢false (sym e))
  two-says (a ∷ others) all e = go (signed_beside a others node) refl e (two-says others all.1)
    where
      go : (m : Bool) → signed_beside a others node ≡ m → (m || signed_two others node) ≡ true
          → (signed_two others node ≡ true → (c : Entry) × (d : Entry) × P c × P d × (signed_both c d node ≡ true))
          → (c : Entry) × (d : Entry) × P c × P d × (signed_both c d node ≡ true)
      go true m e later = let found = beside-says a others all.1 m in (a, found.0, all.0, found.1, found.2)
      go false m e later = later e

-- it does not matter which comes first, and nobody stands in one entry twice
both-flip : (a b : Entry) (node : ℕ) → signed_both a b node ≡ signed_both b a node
unfolding signed_both
both-flip a b node =
    rw (same-flip a.payload b.payload) (go (member a.signers node) (member b.signers node) (not (same b.payload a.payload)))
  where
    go : (x y z : Bool) → (x && (y && z)) ≡ (y && (x && z))
    go true y z = refl
    go false true z = refl
    go false false z = refl

module _ (node : ℕ) where
  beside-some : (a b : Entry) (others : List Entry) → Among b others → signed_both a b node ≡ true → signed_beside a others node ≡ true
  unfolding signed_beside
  beside-some a b [] there e = absurd there
  beside-some a b (c ∷ others) (inl is) e = let now : signed_both a c node ≡ true = rw is at e in rw now
  beside-some a b (c ∷ others) (inr later) e = rw (beside-some a b others later e) (or-true (signed_both a c node))

  pub some-two : (a b : Entry) (entries : List Entry) → Among a entries → Among b entries → signed_both a b node ≡ true → signed_two entries node ≡ true
  unfolding signed_two
  some-two a b [] there also e = absurd there
  some-two a b (c ∷ others) (inl is) (inl also) e =
      absurd (true≢false (sym e ∙ both-same a b node (ap (λ (d : Entry). same a.payload d.payload) (also ∙ sym is) ∙ same_self a.payload)))
  some-two a b (c ∷ others) (inl is) (inr later) e =
      let now : signed_both c b node ≡ true = rw is at e in
      rw (beside-some c b others later now)
  some-two a b (c ∷ others) (inr later) (inl also) e =
      let now : signed_both c a node ≡ true = ap (λ (d : Entry). signed_both d a node) (sym also) ∙ (both-flip b a node ∙ e) in
      rw (beside-some c a others later now)
  some-two a b (c ∷ others) (inr later) (inr also) e = rw (some-two a b others later also e) (or-true (signed_beside c others node))
