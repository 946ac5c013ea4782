-- Agreement and validity: two correct nodes deliver one payload, and what is delivered in a correct sender's slot is what the sender broadcast.
-- Assumes nothing.
use mathlib.Core.Path.{◌≡◌}
use mathlib.Core.Bool.{true}
use mathlib.Core.List.{List}
use Prim.Native.Nat.{ℕ, ◌≤◌}
use native.Mathlib.Omega.{arith}
use Rattle.signers.specs.Sets.{NodeSet, count}
use Rattle.signers.proofs.Members.{words-share-correct}
use Rattle.protocol.specs.Update.{Note, Delivered}
use Rattle.protocol.specs.Trace.{Trace}
use Rattle.protocol.specs.OneSlot.{Act, current_record, correct, Quorum, Lawful, Agreement, Validity}
use Rattle.protocol.proofs.CorrectNodes.{below-correct}
use Rattle.protocol.proofs.SentSoFar.{delivered-record}
use Rattle.protocol.proofs.GenuineSignatures.{DeliveredGenuine, record-genuine, signed-announced}
use Rattle.protocol.proofs.SignedSoFar.{signs-one-payload}

module _ (n t d q sender : ℕ) (faulty : NodeSet) (trace : Trace Act) (quorum : Quorum n t d q) (few : count faulty n ≤ t)
    (lawful : Lawful n q sender faulty trace) where
  -- the signatures of a delivered record are genuine
  pub delivered-genuine : (u signers : ℕ) (payload : List ℕ) (note : Note) → correct n faulty u ≡ true → current_record q trace u ≡ Delivered signers payload note
      → DeliveredGenuine n q sender faulty trace u signers payload
  delivered-genuine u signers payload note c is = rw is at (record-genuine n q sender faulty quorum.fits trace u lawful c)

  -- the signers of two delivered records share a correct node, which has signed both payloads
  pub agreement : Agreement n q sender faulty d trace
  agreement u v first second cu cv du dv =
      let (a, note-a, is-a, sent-a) = delivered-record q trace u first du in
      let (b, note-b, is_b, sent-b) = delivered-record q trace v second dv in
      let ka = delivered-genuine u a first note-a cu is-a in
      let kb = delivered-genuine v b second note-b cv is_b in
      let (w, below, in-a, in_b, is-correct) =
      words-share-correct a b n t q faulty ka.genuine.inside kb.genuine.inside quorum.intersects few ka.enough kb.enough in
      let cw = below-correct n faulty w below is-correct in
      signs-one-payload q trace w (omega (arith, below, quorum.fits)) first second (ka.genuine.signed w cw in-a) (kb.genuine.signed w cw in_b)

  -- the sender is a signer of every delivered record, and has broadcast what it signed
  pub validity : Validity n q sender faulty d trace
  validity u payload cu cs du =
      let (a, note, is, sent) = delivered-record q trace u payload du in
      let k = delivered-genuine u a payload note cu is in
      signed-announced n q sender faulty quorum.fits trace lawful payload cs (k.genuine.signed sender cs k.has-sender)
