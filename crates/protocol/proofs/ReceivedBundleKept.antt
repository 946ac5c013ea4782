-- After a correct node has received a bundle, also one that it refused, its record is delivered or held. If it is held, record and bundle have fewer
-- than q signers each, and if the record holds the bundle's payload, it has every signer of the bundle. Assumes nothing.
use mathlib.Core.Path.{◌≡◌, sym, ◌∙◌}
use mathlib.Core.Logic.{◌⊎◌, inl, inr}
use mathlib.Core.Bool.{true, true≢false, false≢true}
use mathlib.Core.List.{List}
use Prim.Native.Nat.{ℕ, ◌≤◌, ◌<◌}
use native.Mathlib.Omega.{arith}
use Rattle.octets.proofs.Same.{same_self}
use Rattle.signers.specs.Sets.{NodeSet}
use Rattle.signers.specs.Signers.{member, union, size}
use Rattle.signers.proofs.Members.{insert-keeps, union_left, union_right, within-lt, within-union, size_mono, size-some, size-insert}
use Rattle.refusal.specs.Outcome.{Outcome, after}
use Rattle.protocol.specs.Update.{Record, Empty, Held, Delivered, Update}
use Rattle.protocol.specs.Trace as trace
use Rattle.protocol.specs.Trace.{Trace, ◌then◌calls◌}
use Rattle.protocol.specs.OneSlot.{Act, Receive, receives, current_record, ever, correct, Allowed, Lawful}
use Rattle.protocol.proofs.CorrectNodes.{correct-below}
use Rattle.protocol.proofs.UpdateCases.{RefusalCase, own-signature-unknown, third-payload, UpdateCase, refusing, broadcasting, signing, signing-and-delivering, joining, completing, replacing, noting}
use Rattle.protocol.proofs.TraceInduction.{NodeView, trace-induction}
use Rattle.protocol.proofs.SignedSoFar.{SignedSoFar, signed-so-far}
use Rattle.protocol.proofs.GenuineSignatures.{HeldGenuine, RecordGenuine, record-genuine}

-- what holds of the record after the bundle
abbrev pub BundleKept : (q signers : ℕ) (payload : List ℕ) (r : Record) → Type 0
BundleKept q signers payload Empty = ⊥
BundleKept q signers payload (Held all held note) =
    (size all < q) × (size signers < q) × (payload ≡ held → (v : ℕ) → member signers v ≡ true → member all v ≡ true)
BundleKept q signers payload (Delivered all held note) = Unit

-- every later update keeps it so
kept-still : (q u caller : ℕ) (act : Act) (r : Record) (o : Outcome Update) (given : ℕ) (first : List ℕ)
    → UpdateCase q u caller act r o → BundleKept q given first r → BundleKept q given first (after o (λ result. result.new_record) r)
kept-still q u caller act r o given first (refusing why) h = h
kept-still q u caller act r o given first (broadcasting own) h = absurd h
kept-still q u caller act r o given first (signing absent few) h = absurd h
kept-still q u caller act r o given first (signing-and-delivering absent enough) h = absurd h
kept-still q u caller act r o given first (joining {signers = signers} {old = old} few) h =
    (few, h.1, λ e v m. union_left old signers v (h.2 e v m))
kept-still q u caller act r o given first (completing enough) h = tt
kept-still q u caller act r o given first (replacing other absent enough) h = tt
kept-still q u caller act r o given first (noting other few known) h = h

module _ (n q sender : ℕ) (faulty : NodeSet) (fits : n ≤ 64) where
  -- a bundle with a second payload, which leaves the one that is held with fewer than q signers
  kept_second : (earlier : Trace Act) (u caller signers : ℕ) (payload : List ℕ) (old : ℕ) (held : List ℕ) → (held ≡ payload → ⊥) → size signers < q
      → Allowed n q sender faulty earlier caller (Receive signers payload) → HeldGenuine n q sender faulty earlier u old held
      → (size old < q) × (size signers < q) × (payload ≡ held → (v : ℕ) → member signers v ≡ true → member old v ≡ true)
  kept_second earlier u caller signers payload old held other few a k =
      let nonempty = size-some signers n sender a.0 a.1 in
      (k.few (omega arith), few, λ e. absurd (other (sym e)))

  -- a bundle that is refused: 22 leaves a delivered record, 23 cannot be, and 24 leaves another payload with fewer than q signers
  kept-refused : (earlier : Trace Act) (u caller signers : ℕ) (payload : List ℕ) (r : Record) → RefusalCase q u (Receive signers payload) r
      → Allowed n q sender faulty earlier caller (Receive signers payload) → correct n faulty u ≡ true → RecordGenuine n q sender faulty earlier u r → SignedSoFar q earlier u r
      → BundleKept q signers payload r
  kept-refused earlier u caller signers payload (Delivered old held note) why a c k s = tt
  kept-refused earlier u caller signers payload Empty (own-signature-unknown own apart) a c k s = absurd (s payload (a.2 u c own))
  kept-refused earlier u caller signers payload (Held old held note) (own-signature-unknown own apart) a c k s =
      absurd (true≢false (sym (same_self held) ∙ rw (s.only payload (a.2 u c own)) at apart))
  kept-refused earlier u caller signers payload (Held old held note) (third-payload other few known) a c k s =
      kept_second earlier u caller signers payload old held other few a k

  -- a bundle that is received now
  kept-now : (earlier : Trace Act) (u caller signers : ℕ) (payload : List ℕ) (r : Record) (o : Outcome Update) → u ≡ caller
      → UpdateCase q u caller (Receive signers payload) r o
      → Allowed n q sender faulty earlier caller (Receive signers payload) → correct n faulty u ≡ true → RecordGenuine n q sender faulty earlier u r → SignedSoFar q earlier u r
      → BundleKept q signers payload (after o (λ result. result.new_record) r)
  kept-now earlier u caller signers payload r o own (refusing why) a c k s = kept-refused earlier u caller signers payload r (why own) a c k s
  kept-now earlier u caller signers payload r o own (signing absent few) a c k s =
      let room : u < 64 = omega (arith, correct-below n faulty u c) in
      (few, omega (arith, size-insert signers u room absent), λ e v m. insert-keeps signers u v room m)
  kept-now earlier u caller signers payload r o own (signing-and-delivering absent enough) a c k s = tt
  kept-now earlier u caller signers payload r o own (joining {old = old} few) a c k s =
      let inside = within-union old signers n k.genuine.inside a.0 in
      let larger =
      size_mono signers (union old signers) n (within-lt signers n a.0) (within-lt (union old signers) n inside) (λ v l m. union_right old signers v m) in
      (few, omega arith, λ e v m. union_right old signers v m)
  kept-now earlier u caller signers payload r o own (completing enough) a c k s = tt
  kept-now earlier u caller signers payload r o own (replacing other absent enough) a c k s = tt
  kept-now earlier u caller signers payload r o own (noting {old = old} {held = held} other few known) a c k s =
      kept_second earlier u caller signers payload old held other few a k

  -- it holds after one act more, for the bundles received before and for the one received now
  kept_step : (earlier : Trace Act) (u caller : ℕ) (act : Act) (r : Record) (o : Outcome Update)
      → UpdateCase q u caller act r o → NodeView q earlier u caller act r o
      → Lawful n q sender faulty (earlier then caller calls act) → correct n faulty u ≡ true
      → ((signers : ℕ) (payload : List ℕ) → ever q (receives q signers payload) earlier u ≡ true → BundleKept q signers payload r)
      → (signers : ℕ) (payload : List ℕ) → ever q (receives q signers payload) (earlier then caller calls act) u ≡ true
      → BundleKept q signers payload (after o (λ result. result.new_record) r)
  kept_step earlier u caller act r o kind view l c before signers payload e = go (view.received signers payload e)
    where
      go : ((u ≡ caller) × (act ≡ Receive signers payload)) ⊎ (ever q (receives q signers payload) earlier u ≡ true)
          → BundleKept q signers payload (after o (λ result. result.new_record) r)
      go (inl (own, this)) =
          kept-now earlier u caller signers payload r o own (rw this at kind) (rw this at l.2) c
          (rw view.found at (record-genuine n q sender faulty fits earlier u l.0 c))
          (rw view.found at (signed-so-far q earlier u (omega (arith, correct-below n faulty u c))))
      go (inr h) = kept-still q u caller act r o signers payload kind (before signers payload h)

  -- so it holds for every bundle that a correct node received, after every lawful trace
  pub bundle-kept : (trace : Trace Act) (u : ℕ) → Lawful n q sender faulty trace → correct n faulty u ≡ true
      → (signers : ℕ) (payload : List ℕ) → ever q (receives q signers payload) trace u ≡ true → BundleKept q signers payload (current_record q trace u)
  unfolding trace.ever
  bundle-kept =
      trace-induction q
      (λ trace u r. Lawful n q sender faulty trace → correct n faulty u ≡ true
      → (signers : ℕ) (payload : List ℕ) → ever q (receives q signers payload) trace u ≡ true → BundleKept q signers payload r)
      (λ u l c signers payload e. false≢true e)
      (λ earlier u caller act r o kind view below l c. kept_step earlier u caller act r o kind view l c (below l.0 c))
