-- The signatures in a correct node's record are genuine, after every lawful trace: all signers are nodes, the sender is among them, and each correct
-- signer has signed the payload. So a correct sender signs only what it broadcast.
-- Assumes nothing.
use mathlib.Core.Path.{◌≡◌, refl, sym, ◌∙◌, subst}
use mathlib.Core.Logic.{◌⊎◌, inl, inr}
use mathlib.Core.Bool.{true, false, true≢false}
use mathlib.Core.List.{List}
use Prim.Native.Nat.{ℕ, ◌≤◌, ◌<◌}
use native.Mathlib.Omega.{arith}
use lib.Dec.{eqb, lit<}
use lib.Pow.{pow_pos}
use borrow.Author.Tests.{eqb-true}
use Rattle.octets.proofs.Booleans.{or_cases}
use Rattle.octets.proofs.Same.{same_self}
use Rattle.signers.specs.Sets.{NodeSet, count}
use Rattle.signers.specs.Signers.{member, insert, union, size, within}
use Rattle.signers.proofs.Members.{nobody, insert-own, insert-keeps, union_left, member_union, member-insert, lt-within, within-union, within-insert, size-count, size-insert}
use Rattle.refusal.specs.Outcome.{Outcome, after}
use Rattle.protocol.specs.Update.{Record, Empty, Held, Delivered, Update}
use Rattle.protocol.specs.Trace as trace
use Rattle.protocol.specs.Trace.{Trace, ◌then◌calls◌}
use Rattle.protocol.specs.OneSlot.{Act, Receive, record_after, signs, broadcasts, broadcasts_this, current_record, ever, correct, Allowed, Lawful}
use Rattle.protocol.proofs.CorrectNodes.{correct-below}
use Rattle.protocol.proofs.TraceLaws.{ever-grows}
use Rattle.protocol.proofs.UpdateCases.{UpdateCase, refusing, broadcasting, signing, signing-and-delivering, joining, completing, replacing, noting}
use Rattle.protocol.proofs.TraceInduction.{NodeView, trace-induction}
use Rattle.protocol.proofs.SignedSoFar.{SignedSoFar, signed-so-far, signs-one-payload}

-- the empty word has no member
size_none : size 0 ≡ 0
unfolding count
size_none = size-count 0 0 (lit< tt)

module _ (n q sender : ℕ) (faulty : NodeSet) where
  -- all signers are nodes, and each correct one has signed the payload
  pub record Genuine (trace : Trace Act) (signers : ℕ) (payload : List ℕ) : Type 0 where
    pub inside : within signers n ≡ true
    pub signed : (v : ℕ) → correct n faulty v ≡ true → member signers v ≡ true → ever q (signs q payload) trace v ≡ true

  -- a held record has the sender's and the node's own signature, and, where more than one is needed, no quorum; a sender has broadcast what it holds
  pub record HeldGenuine (trace : Trace Act) (u signers : ℕ) (payload : List ℕ) : Type 0 where
    pub genuine : Genuine trace signers payload
    pub has-sender : member signers sender ≡ true
    pub has-own : member signers u ≡ true
    pub few : 1 < q → size signers < q
    pub own-signed : ever q (signs q payload) trace u ≡ true
    pub announced : u ≡ sender → ever q (broadcasts_this q payload) trace u ≡ true

  -- a delivered record has a quorum; the payload that the node signed may be another one
  pub record DeliveredGenuine (trace : Trace Act) (u signers : ℕ) (payload : List ℕ) : Type 0 where
    pub genuine : Genuine trace signers payload
    pub has-sender : member signers sender ≡ true
    pub enough : q ≤ size signers
    pub signed-payload : List ℕ
    pub own-signed : ever q (signs q signed-payload) trace u ≡ true
    pub announced : u ≡ sender → ever q (broadcasts_this q signed-payload) trace u ≡ true

  -- what holds in each state of the record
  abbrev pub RecordGenuine : (trace : Trace Act) (u : ℕ) (r : Record) → Type 0
  RecordGenuine trace u Empty = Unit
  RecordGenuine trace u (Held signers payload note) = HeldGenuine trace u signers payload
  RecordGenuine trace u (Delivered signers payload note) = DeliveredGenuine trace u signers payload

  -- the signatures of a bundle that may be received are genuine
  pub allowed-genuine : (earlier : Trace Act) (caller signers : ℕ) (payload : List ℕ) → Allowed n q sender faulty earlier caller (Receive signers payload)
      → Genuine earlier signers payload
  allowed-genuine earlier caller signers payload a = record { inside = a.0; signed = a.2 }

  module _ (earlier : Trace Act) (caller : ℕ) (act : Act) where
    -- what was signed stays signed after one act more,
    signed-grows : (payload : List ℕ) (u : ℕ) → ever q (signs q payload) earlier u ≡ true
        → ever q (signs q payload) (earlier then caller calls act) u ≡ true
    signed-grows payload u = ever-grows (λ node. Empty) (record_after q) (signs q payload) earlier u caller act

    -- so genuine signatures stay genuine,
    pub genuine-grows : (signers : ℕ) (payload : List ℕ) → Genuine earlier signers payload → Genuine (earlier then caller calls act) signers payload
    genuine-grows signers payload b =
        record { inside = b.inside; signed = λ v c m. signed-grows payload v (b.signed v c m) }

    -- also joined with others,
    pub genuine-union : (a b : ℕ) (payload : List ℕ) → Genuine earlier a payload → Genuine earlier b payload
        → Genuine (earlier then caller calls act) (union a b) payload
    genuine-union a b payload ba bb =
        record {
          inside = within-union a b n ba.inside bb.inside;
          signed = λ v c m. signed-grows payload v (from_either v c (or_cases (member a v) (member b v) (sym (member_union a b v) ∙ m)));
        }
      where
        from_either : (v : ℕ) → correct n faulty v ≡ true → (member a v ≡ true) ⊎ (member b v ≡ true) → ever q (signs q payload) earlier v ≡ true
        from_either v c (inl m) = ba.signed v c m
        from_either v c (inr m) = bb.signed v c m

    -- and with that of a node that has signed now
    genuine-insert : (a u : ℕ) (payload : List ℕ) → u < n → u < 64 → Genuine earlier a payload
        → ever q (signs q payload) (earlier then caller calls act) u ≡ true
        → Genuine (earlier then caller calls act) (insert a u) payload
    genuine-insert a u payload below fits b now =
        record {
          inside = within-insert a u n b.inside below;
          signed = λ v c m. from_either v c (or_cases (member a v) (eqb v u) (sym (member-insert a u v fits) ∙ m));
        }
      where
        from_either : (v : ℕ) → correct n faulty v ≡ true → (member a v ≡ true) ⊎ (eqb v u ≡ true)
            → ever q (signs q payload) (earlier then caller calls act) v ≡ true
        from_either v c (inl m) = signed-grows payload v (b.signed v c m)
        from_either v c (inr m) = rw (eqb-true v u m) now

    -- and so does what was broadcast
    announced-grows : (payload : List ℕ) (u : ℕ) → ever q (broadcasts_this q payload) earlier u ≡ true
        → ever q (broadcasts_this q payload) (earlier then caller calls act) u ≡ true
    announced-grows payload u = ever-grows (λ node. Empty) (record_after q) (broadcasts_this q payload) earlier u caller act

    -- an act that is refused
    genuine-refused : (u : ℕ) (r : Record) → RecordGenuine earlier u r → RecordGenuine (earlier then caller calls act) u r
    genuine-refused u Empty before = tt
    genuine-refused u (Held signers payload note) before =
        record {
          genuine = genuine-grows signers payload before.genuine;
          has-sender = before.has-sender;
          has-own = before.has-own;
          few = before.few;
          own-signed = signed-grows payload u before.own-signed;
          announced = λ s. announced-grows payload u (before.announced s);
        }
    genuine-refused u (Delivered signers payload note) before =
        record {
          genuine = genuine-grows signers payload before.genuine;
          has-sender = before.has-sender;
          enough = before.enough;
          signed-payload = before.signed-payload;
          own-signed = signed-grows before.signed-payload u before.own-signed;
          announced = λ s. announced-grows before.signed-payload u (before.announced s);
        }

  -- no bundle makes the sender sign for the first time, since it has the sender's signature already
  first-not-sender : (u signers : ℕ) {A : Type 0} → member signers sender ≡ true → member signers u ≡ false → u ≡ sender → A
  first-not-sender u signers has-sender absent s = absurd (true≢false (sym has-sender ∙ subst (λ (w : ℕ). member signers w ≡ false) s absent))

  -- every update keeps the record's signatures genuine
  genuine-step : n ≤ 64 → (earlier : Trace Act) (u caller : ℕ) (act : Act) (r : Record) (o : Outcome Update)
      → UpdateCase q u caller act r o → NodeView q earlier u caller act r o
      → Allowed n q sender faulty earlier caller act → u < n
      → RecordGenuine earlier u r → RecordGenuine (earlier then caller calls act) u (after o (λ result. result.new_record) r)
  unfolding broadcasts broadcasts_this
  genuine-step fits earlier u caller act r o (refusing why) view a below before = genuine-refused earlier caller act u r before
  genuine-step fits earlier u caller act r o (broadcasting {payload = payload} own) view a below before =
      let room : u < 64 = omega arith in
      let none : Genuine earlier 0 payload = record { inside = lt-within 0 n (pow_pos n); signed = λ v c m. absurd (true≢false (sym m ∙ nobody v)) } in
      let now : ever q (signs q payload) (earlier then caller calls act) u ≡ true = view.signed payload ∙ rw (same_self payload, insert-own 0 u room) in
      record {
        genuine = genuine-insert earlier caller act 0 u payload below room none now;
        has-sender = subst (λ (w : ℕ). member (insert 0 u) w ≡ true) (own ∙ a) (insert-own 0 u room);
        has-own = insert-own 0 u room;
        few = λ l. omega (arith, size-insert 0 u room (nobody u), size_none);
        own-signed = now;
        announced = λ s. view.announced payload own (same_self payload);
      }
  genuine-step fits earlier u caller act r o (signing {signers = signers} {payload = payload} absent few) view a below before =
      let room : u < 64 = omega arith in
      let now : ever q (signs q payload) (earlier then caller calls act) u ≡ true = view.signed payload ∙ rw (same_self payload, insert-own signers u room) in
      record {
        genuine = genuine-insert earlier caller act signers u payload below room (allowed-genuine earlier caller signers payload a) now;
        has-sender = insert-keeps signers u sender room a.1;
        has-own = insert-own signers u room;
        few = λ l. few;
        own-signed = now;
        announced = first-not-sender u signers a.1 absent;
      }
  genuine-step fits earlier u caller act r o (signing-and-delivering {signers = signers} {payload = payload} absent enough) view a below before =
      let room : u < 64 = omega arith in
      let now : ever q (signs q payload) (earlier then caller calls act) u ≡ true = view.signed payload ∙ rw (same_self payload, insert-own signers u room) in
      record {
        genuine = genuine-insert earlier caller act signers u payload below room (allowed-genuine earlier caller signers payload a) now;
        has-sender = insert-keeps signers u sender room a.1;
        enough = enough;
        signed-payload = payload;
        own-signed = now;
        announced = first-not-sender u signers a.1 absent;
      }
  genuine-step fits earlier u caller act r o (joining {signers = signers} {payload = payload} {old = old} few) view a below before =
      record {
        genuine = genuine-union earlier caller act old signers payload before.genuine (allowed-genuine earlier caller signers payload a);
        has-sender = union_left old signers sender before.has-sender;
        has-own = union_left old signers u before.has-own;
        few = λ l. few;
        own-signed = signed-grows earlier caller act payload u before.own-signed;
        announced = λ s. announced-grows earlier caller act payload u (before.announced s);
      }
  genuine-step fits earlier u caller act r o (completing {signers = signers} {payload = payload} {old = old} enough) view a below before =
      record {
        genuine = genuine-union earlier caller act old signers payload before.genuine (allowed-genuine earlier caller signers payload a);
        has-sender = union_left old signers sender before.has-sender;
        enough = enough;
        signed-payload = payload;
        own-signed = signed-grows earlier caller act payload u before.own-signed;
        announced = λ s. announced-grows earlier caller act payload u (before.announced s);
      }
  genuine-step fits earlier u caller act r o (replacing {signers = signers} {payload = payload} {held = held} other absent enough) view a below before =
      record {
        genuine = genuine-grows earlier caller act signers payload (allowed-genuine earlier caller signers payload a);
        has-sender = a.1;
        enough = enough;
        signed-payload = held;
        own-signed = signed-grows earlier caller act held u before.own-signed;
        announced = λ s. announced-grows earlier caller act held u (before.announced s);
      }
  genuine-step fits earlier u caller act r o (noting {old = old} {held = held} {note = note} other few known) view a below before =
      genuine-refused earlier caller act u (Held old held note) before

  -- so they are genuine at every correct node after every lawful trace
  pub record-genuine : n ≤ 64 → (trace : Trace Act) (u : ℕ) → Lawful n q sender faulty trace → correct n faulty u ≡ true → RecordGenuine trace u (current_record q trace u)
  unfolding trace.ever
  record-genuine fits =
      trace-induction q (λ trace u r. Lawful n q sender faulty trace → correct n faulty u ≡ true → RecordGenuine trace u r)
      (λ u l c. tt)
      (λ earlier u caller act r o kind view below l c.
      genuine-step fits earlier u caller act r o kind view l.2 (correct-below n faulty u c) (below l.0 c))

  module _ (fits : n ≤ 64) (trace : Trace Act) (lawful : Lawful n q sender faulty trace) where
    -- a correct sender has broadcast what it signed
    pub signed-announced : (payload : List ℕ) → correct n faulty sender ≡ true
        → ever q (signs q payload) trace sender ≡ true → ever q (broadcasts_this q payload) trace sender ≡ true
    signed-announced payload c e = go (current_record q trace sender) (record-genuine fits trace sender lawful c) (signed-so-far q trace sender room)
      where
        room : sender < 64
        room = omega (arith, correct-below n faulty sender c)

        -- what it signed is what it has signed and broadcast
        broadcast : (first : List ℕ) → ever q (signs q first) trace sender ≡ true → ever q (broadcasts_this q first) trace sender ≡ true
            → ever q (broadcasts_this q payload) trace sender ≡ true
        broadcast first signed told = rw (signs-one-payload q trace sender room payload first e signed) told

        go : (r : Record) → RecordGenuine trace sender r → SignedSoFar q trace sender r → ever q (broadcasts_this q payload) trace sender ≡ true
        go Empty k none = absurd (none payload e)
        go (Held signers first note) k s = broadcast first k.own-signed (k.announced refl)
        go (Delivered signers first note) k s = broadcast k.signed-payload k.own-signed (k.announced refl)
