-- Delivery: if every bundle that a correct node sends is received by all correct nodes but d at most, then each payload that a correct node delivered,
-- and each that a correct sender broadcast, is delivered by all correct nodes but d at most. Assumes nothing.
use mathlib.Core.Path.{◌≡◌, refl, sym, subst}
use mathlib.Core.Logic.{inl, inr}
use mathlib.Core.Bool.{Bool, true, false, ◌&&◌, false≢true, and-eq-true_iff}
use mathlib.Core.List.{List}
use Prim.Native.Nat.{ℕ, suc, ◌+◌, ◌*◌, ◌-◌, ◌≤◌, ◌<◌}
use native.Mathlib.Nat.{mul-le-mul_left}
use native.Mathlib.Omega.{arith}
use lib.Dec.{eqb}
use borrow.Author.Tests.{eqb-true, eq-eqb}
use Rattle.octets.specs.Octets.{same}
use Rattle.signers.specs.Sets.{NodeSet, count, both}
use Rattle.signers.specs.Signers.{member, size}
use Rattle.signers.proofs.Counting.{count-mono, count-some, some-member, pigeonhole}
use Rattle.signers.proofs.Members.{insert-own, within-lt, size-count}
use Rattle.refusal.specs.Outcome.{Outcome, refused, done, after, unless}
use Rattle.protocol.specs.Update as protocol
use Rattle.protocol.specs.Update.{Note, Record, Empty, Held, Delivered, signers_of, payload_of, is_empty, Update, announced_by}
use Rattle.protocol.specs.Trace.{Trace}
use Rattle.protocol.specs.OneSlot.{Act, Broadcast, Receive, outcome, record_after, sends_this, signs, delivers_this, broadcasts, broadcasts_this, receives, current_record, ever, correct, Quorum, Lawful, NearlyAll, Reached, Delivery}
use Rattle.protocol.proofs.CorrectNodes.{correct-below, correct-many}
use Rattle.protocol.proofs.TraceLaws.{ever-finds, ever-mono}
use Rattle.protocol.proofs.TraceInduction.{result_sends, result_signs}
use Rattle.protocol.proofs.SentSoFar.{delivered-record, record-delivered}
use Rattle.protocol.proofs.GenuineSignatures.{RecordGenuine, record-genuine}
use Rattle.protocol.proofs.SignedSoFar.{signs-one-payload}
use Rattle.protocol.proofs.CorrectSender.{sender_signed, record-signed}
use Rattle.protocol.proofs.ReceivedBundleKept.{BundleKept, bundle-kept}
use Rattle.protocol.proofs.AgreementValidity.{delivered-genuine, agreement}

-- ---- acts that pass one test pass another

-- a bundle with the payload and the signer's signature is received
unfoldable pub receives_signed : (payload : List ℕ) (signer own : ℕ) (act : Act) (r : Record) → Bool
receives_signed payload signer own (Broadcast first) r = false
receives_signed payload signer own (Receive given first) r = member given signer && same first payload

module _ (q : ℕ) (trace : Trace Act) (u : ℕ) where
  -- then there is such a bundle, with its signers
  received-signed : (payload : List ℕ) (node : ℕ) → ever q (receives_signed payload node) trace u ≡ true
      → (signers : ℕ) × (ever q (receives q signers payload) trace u ≡ true) × (member signers node ≡ true)
  unfolding receives_signed receives
  received-signed payload node =
      ever-finds (λ v. Empty) (record_after q) (receives_signed payload node) (λ signers. receives q signers payload) (λ signers. member signers node ≡ true) u each trace
    where
      each : (act : Act) (r : Record) → receives_signed payload node u act r ≡ true
          → (signers : ℕ) × (receives q signers payload u act r ≡ true) × (member signers node ≡ true)
      each (Broadcast first) r e = absurd (false≢true e)
      each (Receive given first) r e =
          let (m, s) = (and-eq-true_iff (member given node) (same first payload)).0 e in
          (given, rw (eq-eqb given given refl) s, m)

  -- and back
  signed-received : (payload : List ℕ) (signers node : ℕ) → member signers node ≡ true → ever q (receives q signers payload) trace u ≡ true
      → ever q (receives_signed payload node) trace u ≡ true
  unfolding receives_signed receives
  signed-received payload signers node m =
      ever-mono (λ v. Empty) (record_after q) (receives q signers payload) (receives_signed payload node) u each trace
    where
      each : (act : Act) (r : Record) → receives q signers payload u act r ≡ true → receives_signed payload node u act r ≡ true
      each (Broadcast first) r k = absurd (false≢true k)
      each (Receive given first) r k =
          let (g, s) = (and-eq-true_iff (eqb given signers) (same first payload)).0 k in
          rw (eqb-true given signers g, m) s

  -- a node that signed has sent a bundle with its signature
  signed_sent : (payload : List ℕ) → ever q (signs q payload) trace u ≡ true
      → (signers : ℕ) × (ever q (sends_this q signers payload) trace u ≡ true) × (member signers u ≡ true)
  unfolding signs sends_this
  signed_sent payload =
      ever-finds (λ v. Empty) (record_after q) (signs q payload) (λ signers. sends_this q signers payload) (λ signers. member signers u ≡ true) u each trace
    where
      each : (act : Act) (r : Record) → signs q payload u act r ≡ true
          → (signers : ℕ) × (sends_this q signers payload u act r ≡ true) × (member signers u ≡ true)
      each act r = go (outcome q u act r)
        where
          go : (o : Outcome Update) → after o (result_signs payload u) false ≡ true
              → (signers : ℕ) × (after o (result_sends signers payload) false ≡ true) × (member signers u ≡ true)
          go (refused number) e = absurd (false≢true e)
          go (done result) e =
              let (s, rest) = (and-eq-true_iff (protocol.sends result.answer) _).0 e in
              let (p, m) = (and-eq-true_iff (same (payload_of result.new_record) payload) _).0 rest in
              (signers_of result.new_record, rw (s, eq-eqb (signers_of result.new_record) (signers_of result.new_record) refl) p, m)

  -- a node that broadcast has signed
  broadcast-signed : (payload : List ℕ) → u < 64 → ever q (broadcasts_this q payload) trace u ≡ true → ever q (signs q payload) trace u ≡ true
  unfolding broadcasts broadcasts_this signs outcome unless announced_by
  broadcast-signed payload room =
      ever-mono (λ v. Empty) (record_after q) (broadcasts_this q payload) (signs q payload) u each trace
    where
      each : (act : Act) (r : Record) → broadcasts_this q payload u act r ≡ true → signs q payload u act r ≡ true
      each (Broadcast first) Empty k = rw (k, insert-own 0 u room)
      each (Broadcast first) (Held signers held note) k = absurd (false≢true k)
      each (Broadcast first) (Delivered signers held note) k = absurd (false≢true k)
      each (Receive signers first) r k = absurd (false≢true k)

-- ---- counting the nodes that deliver

module _ (n t d q sender : ℕ) (faulty : NodeSet) (trace : Trace Act) (quorum : Quorum n t d q) (few : count faulty n ≤ t)
    (lawful : Lawful n q sender faulty trace) where
  -- a set that has nearly all correct nodes stays so if it grows
  nearly-mono : (p r : NodeSet) → ((v : ℕ) → correct n faulty v ≡ true → p v ≡ true → r v ≡ true)
      → NearlyAll n q sender faulty d trace p → count (correct n faulty) n ≤ d + count (both (correct n faulty) r) n
  nearly-mono p r h near =
      let larger = count-mono (both (correct n faulty) p) (both (correct n faulty) r) n (λ v l e. each v e) in
      omega arith
    where
      each : (v : ℕ) → (correct n faulty v && p v) ≡ true → (correct n faulty v && r v) ≡ true
      each v e =
          let (c, m) = (and-eq-true_iff (correct n faulty v) (p v)).0 e in
          (and-eq-true_iff (correct n faulty v) (r v)).1 (c, h v c m)

  module _ (reached : Reached n q sender faulty d trace) where
    -- What one correct node delivered, it has sent with a quorum of signers, and every node that receives a quorum has delivered.
    pub delivered-delivery : (u : ℕ) (payload : List ℕ) → correct n faulty u ≡ true → ever q (delivers_this q payload) trace u ≡ true
        → NearlyAll n q sender faulty d trace (ever q (delivers_this q payload) trace)
    delivered-delivery u payload c e =
        let (signers, note, is, sent) = delivered-record q trace u payload e in
        let enough = (delivered-genuine n t d q sender faulty trace quorum few lawful u signers payload note c is).enough in
        nearly-mono (ever q (receives q signers payload) trace) (ever q (delivers_this q payload) trace)
        (λ v cv h. each signers enough v cv (current_record q trace v) refl (bundle-kept n q sender faulty quorum.fits trace v lawful cv signers payload h))
        (reached u signers payload c sent)
      where
        each : (signers : ℕ) → q ≤ size signers → (v : ℕ) → correct n faulty v ≡ true → (r : Record) → current_record q trace v ≡ r
            → BundleKept q signers payload r → ever q (delivers_this q payload) trace v ≡ true
        each signers enough v cv Empty is h = absurd h
        each signers enough v cv (Held all held note) is h = absurd (omega (arith, h.1))
        each signers enough v cv (Delivered all held note) is h =
            let done-so = record-delivered q trace v all held note is in
            rw (agreement n t d q sender faulty trace quorum few lawful u v payload held c cv e done-so) done-so

    module _ (payload : List ℕ) (good : correct n faulty sender ≡ true) (sender-has : ever q (signs q payload) trace sender ≡ true) where
      -- the correct nodes that signed the sender's payload
      abbrev Signers : NodeSet
      Signers = both (correct n faulty) (ever q (signs q payload) trace)

      -- no record has another payload
      one-payload : (v : ℕ) → correct n faulty v ≡ true → is_empty (current_record q trace v) ≡ false → payload_of (current_record q trace v) ≡ payload
      one-payload v c e =
          signs-one-payload q trace sender (omega (arith, correct-below n faulty sender good, quorum.fits)) (payload_of (current_record q trace v)) payload
          (sender_signed n q sender faulty quorum.fits good trace lawful v c e) sender-has

      -- a node that received a bundle with the payload has signed the payload
      receiver-signed : (v signers : ℕ) → correct n faulty v ≡ true → ever q (receives q signers payload) trace v ≡ true
          → ever q (signs q payload) trace v ≡ true
      receiver-signed v signers c h =
          let e = filled (current_record q trace v) (bundle-kept n q sender faulty quorum.fits trace v lawful c signers payload h) in
          subst (λ (p : List ℕ). ever q (signs q p) trace v ≡ true) (one-payload v c e)
          (record-signed n q sender faulty quorum.fits good trace v lawful c e)
        where
          filled : (r : Record) → BundleKept q signers payload r → is_empty r ≡ false
          filled Empty a = absurd a
          filled (Held all held note) a = refl
          filled (Delivered all held note) a = refl

      -- each signer's bundle reaches all correct nodes but d, and they are signers
      signer-reaches : (s : ℕ) → Signers s ≡ true
          → count (correct n faulty) n ≤ d + count (both Signers (ever q (receives_signed payload s) trace)) n
      signer-reaches s is =
          let (c, has) = (and-eq-true_iff (correct n faulty s) (ever q (signs q payload) trace s)).0 is in
          let (signers, sent, own) = signed_sent q trace s payload has in
          let near = reached s signers payload c sent in
          let larger =
          count-mono (both (correct n faulty) (ever q (receives q signers payload) trace)) (both Signers (ever q (receives_signed payload s) trace)) n
          (λ v l e. each signers own v e) in
          omega arith
        where
          each : (signers : ℕ) → member signers s ≡ true → (v : ℕ) → (correct n faulty v && ever q (receives q signers payload) trace v) ≡ true
              → (Signers v && ever q (receives_signed payload s) trace v) ≡ true
          each signers own v e =
              let (c, h) = (and-eq-true_iff (correct n faulty v) (ever q (receives q signers payload) trace v)).0 e in
              (and-eq-true_iff (Signers v) (ever q (receives_signed payload s) trace v)).1 (
                (and-eq-true_iff (correct n faulty v) (ever q (signs q payload) trace v)).1 (c, receiver-signed v signers c h),
                signed-received q trace v payload signers s own h,
              )

      -- so some signer has received the signatures of a quorum,
      quorum-receiver : (v : ℕ) × (v < n) × (Signers v ≡ true) × (q - 1 < count (both Signers (λ s. ever q (receives_signed payload s) trace v)) n)
      quorum-receiver =
          let c : ℕ = count (correct n faulty) n in
          let k : ℕ = count Signers n in
          let some-signer : 0 < k = count-some Signers n sender (correct-below n faulty sender good)
          ((and-eq-true_iff (correct n faulty sender) (ever q (signs q payload) trace sender)).1 (good, sender-has)) in
          let many = correct-many n t faulty few in
          let i = quorum.intersects in
          let r = quorum.reachable in
          let room : suc (q - 1) ≤ c - d = omega arith in
          let more : k * suc (q - 1) ≤ k * (c - d) = mul-le-mul_left k room in
          pigeonhole Signers Signers (λ s v. ever q (receives_signed payload s) trace v) n (c - d) (q - 1)
          (λ s l is. omega (arith, signer-reaches s is))
          (omega arith)

      -- and has delivered
      quorum-receiver-delivers : (v : ℕ) → Signers v ≡ true → q - 1 < count (both Signers (λ s. ever q (receives_signed payload s) trace v)) n
          → ever q (delivers_this q payload) trace v ≡ true
      quorum-receiver-delivers v is many =
          let (c, has) = (and-eq-true_iff (correct n faulty v) (ever q (signs q payload) trace v)).0 is in
          let (s, below, one) = some-member (both Signers (λ s. ever q (receives_signed payload s) trace v)) n (omega arith) in
          let (given, h, m) = received-signed q trace v payload s ((and-eq-true_iff (Signers s) (ever q (receives_signed payload s) trace v)).0 one).1 in
          go c given h (current_record q trace v) refl (bundle-kept n q sender faulty quorum.fits trace v lawful c given payload h)
          (record-genuine n q sender faulty quorum.fits trace v lawful c)
        where
          -- if its record were held, it would have all those signers, and so a quorum
          member-all : correct n faulty v ≡ true → (all : ℕ) (held : List ℕ) (note : Note) → current_record q trace v ≡ Held all held note
              → (s : ℕ) → (Signers s && ever q (receives_signed payload s) trace v) ≡ true → member all s ≡ true
          member-all c all held note rec s e =
              let (given, h, m) = received-signed q trace v payload s ((and-eq-true_iff (Signers s) (ever q (receives_signed payload s) trace v)).0 e).1 in
              let a = rw rec at (bundle-kept n q sender faulty quorum.fits trace v lawful c given payload h) in
              let one : held ≡ payload = (rw rec at (one-payload v c)) refl in
              a.2 (sym one) s m

          go : correct n faulty v ≡ true → (given : ℕ) → ever q (receives q given payload) trace v ≡ true
              → (r : Record) → current_record q trace v ≡ r → BundleKept q given payload r → RecordGenuine n q sender faulty trace v r
              → ever q (delivers_this q payload) trace v ≡ true
          go c given h Empty rec a k = absurd a
          go c given h (Held all held note) rec a k =
              let larger = count-mono (both Signers (λ s. ever q (receives_signed payload s) trace v)) (member all) n (λ s l e. member-all c all held note rec s e) in
              absurd (omega (arith, size-count all n (within-lt all n k.genuine.inside), a.0))
          go c given h (Delivered all held note) rec a k =
              let one : held ≡ payload = (rw rec at (one-payload v c)) refl in
              rw (sym one) (record-delivered q trace v all held note rec)

      -- so nearly all deliver
      pub signed-delivery : NearlyAll n q sender faulty d trace (ever q (delivers_this q payload) trace)
      signed-delivery =
          let (v, below, is, many) = quorum-receiver in
          delivered-delivery v payload ((and-eq-true_iff (correct n faulty v) (ever q (signs q payload) trace v)).0 is).0
          (quorum-receiver-delivers v is many)

    -- a correct sender has signed what it broadcast
    pub delivery : Delivery n q sender faulty d trace
    delivery u payload c (inr e) = delivered-delivery u payload c e
    delivery u payload c (inl (s, e)) =
        let good = subst (λ (w : ℕ). correct n faulty w ≡ true) s c in
        let room : u < 64 = omega (arith, correct-below n faulty u c, quorum.fits) in
        signed-delivery payload good
        (subst (λ (w : ℕ). ever q (signs q payload) trace w ≡ true) s (broadcast-signed q trace u payload room e))
