-- Who is named is who stands beside two payloads: what specs/Named.antt claims. The tests that were passed say that all records are well-formed, so that every signer
-- is a node. Assumes nothing.
use mathlib.Core.Path.{◌≡◌, refl, sym, ap, ap₂, ◌∙◌, subst}
use mathlib.Core.Logic.{inl, inr}
use mathlib.Core.Bool.{Bool, true, false, not, true≢false, and-eq-true_iff}
use mathlib.Core.List.{List, [], ◌∷◌, ◌++◌}
use Prim.Native.Nat.{ℕ, ◌<◌, ◌^◌}
use native.Mathlib.Nat.{le_of_eq}
use native.Mathlib.Omega.{arith}
use lib.ListN.{length}
use borrow.Author.Tests.{eqb-true, eqb-false, not-true, not-false}
use Rattle.octets.specs.Octets.{same}
use Rattle.octets.proofs.Same.{same-says, same_self}
use Rattle.signers.specs.Signers.{member, within}
use Rattle.signers.specs.Words.{set_word}
use Rattle.signers.proofs.Members.{nobody, same-members, within-lt, within-says, says-within, word-within, member-word}
use Rattle.refusal.specs.Outcome.{done}
use Rattle.refusal.proofs.Reasons.{done-clear}
use Rattle.config.specs.declared.Config.{Config}
use Rattle.config.specs.Config.{good, slots, slot_of_day, with_own, quorum, records_size}
use Rattle.config.proofs.Laws.{good-says, in-range}
use Rattle.protocol.specs.Update.{Note, Nothing, Noted, Record, Empty, Held, Delivered, signers_of, payload_of, note_of}
use Rattle.protocol.specs.Notes.{Beside}
use Rattle.protocol.proofs.WellFormed.{NoteWellFormed, WellFormed, well-formed-bundled, well-formed-note}
use Rattle.protocol.proofs.ComputedTests.{each-says}
use Rattle.record.proofs.Encoding.{decoded-well-formed}
use Rattle.calls.specs.Records.{record_at}
use Rattle.calls.specs.WellFormed.{slot_well_formed, sender_well_formed, all_well_formed}
use Rattle.calls.specs.Algorithm.{record_of}
use Rattle.calls.proofs.Records.{record_at-length}
use Rattle.equivocators.specs.Entries.{Entry, noted_entry, entries, signed_both, signed_two}
use Rattle.equivocators.specs.Equivocators.{slot_entries, equivocates, equivocators_reasons, equivocators}
use Rattle.equivocators.specs.Named.{StandsInEither, Equivocated, NamedExactly, NamedAreNodes, SenderNamed, EitherOrder}
use Rattle.equivocators.proofs.Entries.{Among, two-says, some-two}
use Rattle.equivocators.proofs.Below.{some_below_lem, below-some}
use Rattle.equivocators.proofs.Refusals.{names}

-- ---- a record's entries, and what stands beside its payloads

module _ (node : ℕ) where
  noted-stands : (r : Record) (note : Note) → note_of r ≡ note → member (noted_entry note).signers node ≡ true → Beside r (noted_entry note).signers (noted_entry note).payload
  noted-stands r Nothing is m = absurd (true≢false (sym m ∙ nobody node))
  noted-stands r (Noted signers payload) is m = inr is

  held-stands : (r : Record) → member (signers_of r) node ≡ true → Beside r (signers_of r) (payload_of r)
  held-stands Empty m = absurd (true≢false (sym m ∙ nobody node))
  held-stands (Held signers payload note) m = inl (refl, refl, refl)
  held-stands (Delivered signers payload note) m = inl (refl, refl, refl)

-- an entry with these signers and this payload is among those of the record, and so among those of two
beside-among : (r : Record) (signers : ℕ) (payload : List ℕ) → Beside r signers payload → Among (record { signers = signers; payload = payload }) (entries r)
unfolding entries
beside-among r signers payload (inl (some, s, p)) = inl (ap₂ (λ (x : ℕ) (y : List ℕ). record { signers = x; payload = y }) (sym s) (sym p))
beside-among r signers payload (inr is) = inr (inl (sym (ap noted_entry is)))

among_first : (a : Entry) (xs ys : List Entry) → Among a xs → Among a (xs ++ ys)
among_first a [] ys there = absurd there
among_first a (x ∷ xs) ys (inl is) = inl is
among_first a (x ∷ xs) ys (inr later) = inr (among_first a xs ys later)

among_second : (a : Entry) (xs ys : List Entry) → Among a ys → Among a (xs ++ ys)
among_second a [] ys there = there
among_second a (x ∷ xs) ys there = inr (among_second a xs ys there)

-- the signers beside a payload of a well-formed record are nodes, and the sender is one of them
beside-known : (n sender q own : ℕ) (r : Record) (signers : ℕ) (payload : List ℕ) → WellFormed n sender q own r → Beside r signers payload
    → (within signers n ≡ true) × (member signers sender ≡ true)
beside-known n sender q own r signers payload fine (inl (some, s, p)) =
    let bundled = well-formed-bundled n sender q own r some fine in
    subst (λ (x : ℕ). (within x n ≡ true) × (member x sender ≡ true)) s (bundled.known, bundled.authentic)
beside-known n sender q own r signers payload fine (inr is) =
    let bundled = (subst (NoteWellFormed n sender (payload_of r)) is (well-formed-note n sender q own r fine)).0 in
    (bundled.known, bundled.authentic)

-- the record of a slot, where all of the buffer are well-formed
record-formed : (config : Config) (records : List ℕ) → good config ≡ true → length records ≡ records_size config → all_well_formed config records ≡ true
    → (sender seq : ℕ) → sender < config.n → seq < slots
    → WellFormed config.n sender (quorum config) config.own (record_of config (slot_of_day config sender seq) records)
unfolding all_well_formed sender_well_formed slot_well_formed slot_of_day
record-formed config records g sized all sender seq s k =
    let slot = slot_of_day config sender seq in
    decoded-well-formed config sender (record_at config slot records) (record_at-length config g records sized slot (in-range config slot s k))
    (each-says (slot_well_formed config records sender) slots seq (each-says (sender_well_formed config records) config.n sender all s) k)

-- ---- who is named

-- what is known where the records were compared
record Compares (config : Config) (other : ℕ) (first second : List ℕ) (word : ℕ) : Type 0 where
  good-here : good config ≡ true
  good-there : good (with_own config other) ≡ true
  sized : length first ≡ records_size config
  formed : all_well_formed config first ≡ true
  other-sized : length second ≡ records_size (with_own config other)
  other-formed : all_well_formed (with_own config other) second ≡ true
  apart : config.own ≡ other → ⊥
  is_word : set_word (equivocates config other first second) 64 ≡ word

compares : (config : Config) (other : ℕ) (first second : List ℕ) (word : ℕ) → equivocators config other first second ≡ done word → Compares config other first second word
unfolding equivocators equivocators_reasons
compares config other first second word e =
    let (clear, is) = done-clear (equivocators_reasons config other first second) (set_word (equivocates config other first second) 64) word e in
    record {
      good-here = not-false _ clear.0;
      good-there = not-false _ clear.1.0;
      sized = eqb-true _ _ (not-false _ clear.1.1.0);
      formed = not-false _ clear.1.1.1.0;
      other-sized = eqb-true _ _ (not-false _ clear.1.1.1.1.0);
      other-formed = not-false _ clear.1.1.1.1.1.0;
      apart = eqb-false _ _ clear.1.1.1.1.1.1.0;
      is_word = is;
    }

module _ (config : Config) (other : ℕ) (first second : List ℕ) (word : ℕ) (c : Compares config other first second word) (node : ℕ) where
  -- every signer is a node, and the sender is among them
  stands-known : (sender seq signers : ℕ) (payload : List ℕ) → sender < config.n → seq < slots → StandsInEither config other first second sender seq signers payload
      → (within signers config.n ≡ true) × (member signers sender ≡ true)
  unfolding with_own slot_of_day
  stands-known sender seq signers payload s k (inl here) =
      beside-known config.n sender (quorum config) config.own (record_of config (slot_of_day config sender seq) first) signers payload
      (record-formed config first c.good-here c.sized c.formed sender seq s k) here
  stands-known sender seq signers payload s k (inr there) =
      beside-known config.n sender (quorum (with_own config other)) other (record_of (with_own config other) (slot_of_day config sender seq) second) signers payload
      (record-formed (with_own config other) second c.good-there c.other-sized c.other-formed sender seq s k) there

  named-word : node < 64 → member word node ≡ equivocates config other first second node
  named-word l = ap (λ (w : ℕ). member w node) (sym c.is_word) ∙ member-word (equivocates config other first second) 64 node (le_of_eq refl) l

  -- from its bit to two payloads
  named-says : member word node ≡ true → Equivocated config other first second node
  unfolding equivocates slot_entries entries signed_both
  named-says m =
      let small = within-says word 64 node (ap (λ (w : ℕ). within w 64) (sym c.is_word) ∙ word-within (equivocates config other first second) 64) m in
      let (sender, s, in-sender) = below-some _ config.n (sym (named-word small) ∙ m) in
      let (seq, k, in-slot) = below-some _ slots in-sender in
      in_two sender seq s k in-slot
    where
      in_two : (sender seq : ℕ) → sender < config.n → seq < slots → signed_two (slot_entries config other first second sender seq) node ≡ true → Equivocated config other first second node
      in_two sender seq s k e =
          let here = record_of config (slot_of_day config sender seq) first in
          let there = record_of (with_own config other) (slot_of_day config sender seq) second in
          let (a, b, pa, pb, both) = two-says (λ (x : Entry). member x.signers node ≡ true → StandsInEither config other first second sender seq x.signers x.payload) node
          (entries here ++ entries there) (
            (λ m. inl (held-stands node here m)),
            (
              (λ m. inl (noted-stands node here (note_of here) refl m)),
              ((λ m. inr (held-stands node there m)), ((λ m. inr (noted-stands node there (note_of there) refl m)), tt)),
            ),
          ) e in
          let (in-a, rest) = (and-eq-true_iff (member a.signers node) _).0 both in
          let (in_b, apart) = (and-eq-true_iff (member b.signers node) _).0 rest in
          record {
            sender = sender;
            seq = seq;
            known = s;
            below = k;
            signers = a.signers;
            others = b.signers;
            payload = a.payload;
            other_payload = b.payload;
            stands = pa in-a;
            other_stands = pb in_b;
            signed = in-a;
            other_signed = in_b;
            differ = λ is. true≢false (sym (same_self b.payload) ∙ (ap (λ (x : List ℕ). same x b.payload) (sym is) ∙ not-true _ apart));
          }

  -- and back
  says-named : Equivocated config other first second node → member word node ≡ true
  unfolding equivocates slot_entries signed_both
  says-named q =
      let most = (good-says config c.good-here).most in
      let known = within-says q.signers config.n node (stands-known q.sender q.seq q.signers q.payload q.known q.below q.stands).0 q.signed in
      let a : Entry = record { signers = q.signers; payload = q.payload } in
      let b : Entry = record { signers = q.others; payload = q.other_payload } in
      named-word (omega arith)
      ∙ some_below_lem _ config.n q.sender q.known
      (some_below_lem _ slots q.seq q.below
      (some-two node a b _ (among q.sender q.seq q.signers q.payload q.stands) (among q.sender q.seq q.others q.other_payload q.other_stands)
      ((and-eq-true_iff _ _).1 (q.signed, (and-eq-true_iff _ _).1 (q.other_signed, apart q.payload q.other_payload q.differ)))))
    where
      among : (sender seq signers : ℕ) (payload : List ℕ) → StandsInEither config other first second sender seq signers payload
          → Among (record { signers = signers; payload = payload })
          (entries (record_of config (slot_of_day config sender seq) first) ++ entries (record_of (with_own config other) (slot_of_day config sender seq) second))
      among sender seq signers payload (inl here) =
          among_first (record { signers = signers; payload = payload }) (entries (record_of config (slot_of_day config sender seq) first)) _ (beside-among (record_of config (slot_of_day config sender seq) first) signers payload here)
      among sender seq signers payload (inr there) =
          among_second (record { signers = signers; payload = payload }) (entries (record_of config (slot_of_day config sender seq) first)) _
          (beside-among (record_of (with_own config other) (slot_of_day config sender seq) second) signers payload there)

      apart : (x y : List ℕ) → (x ≡ y → ⊥) → not (same x y) ≡ true
      apart x y differ = go (same x y) refl
        where
          go : (m : Bool) → same x y ≡ m → not m ≡ true
          go true e = absurd (differ (same-says x y e))
          go false e = refl

pub named-exactly : NamedExactly
named-exactly config other first second word e node =
    let c = compares config other first second word e in
    (named-says config other first second word c node, says-named config other first second word c node)

pub named-are-nodes : NamedAreNodes
named-are-nodes config other first second word e =
    let c = compares config other first second word e in
    says-within word config.n
    (λ node m.
    let q = named-says config other first second word c node m in
    within-says q.signers config.n node
    (stands-known config other first second word c node q.sender q.seq q.signers q.payload q.known q.below q.stands).0 q.signed)

pub sender-named : SenderNamed
sender-named config other first second word e sender seq signers others payload other_payload s k stands other_stands differ =
    let c = compares config other first second word e in
    says-named config other first second word c sender
    (record {
      sender = sender;
      seq = seq;
      known = s;
      below = k;
      signers = signers;
      others = others;
      payload = payload;
      other_payload = other_payload;
      stands = stands;
      other_stands = other_stands;
      signed = (stands-known config other first second word c sender sender seq signers payload s k stands).1;
      other_signed = (stands-known config other first second word c sender sender seq others other_payload s k other_stands).1;
      differ = differ;
    })

-- ---- the other way round

-- what stands in one of two buffers stands in one of them
exchanged : (config : Config) (other : ℕ) (first second : List ℕ) (sender seq signers : ℕ) (payload : List ℕ)
    → StandsInEither (with_own config other) config.own second first sender seq signers payload → StandsInEither config other first second sender seq signers payload
unfolding with_own slot_of_day
exchanged config other first second sender seq signers payload (inl there) = inr there
exchanged config other first second sender seq signers payload (inr here) = inl here

two-exchanged : (config : Config) (other : ℕ) (first second : List ℕ) (node : ℕ)
    → Equivocated (with_own config other) config.own second first node → Equivocated config other first second node
unfolding with_own
two-exchanged config other first second node q =
    record {
      sender = q.sender;
      seq = q.seq;
      known = q.known;
      below = q.below;
      signers = q.signers;
      others = q.others;
      payload = q.payload;
      other_payload = q.other_payload;
      stands = exchanged config other first second q.sender q.seq q.signers q.payload q.stands;
      other_stands = exchanged config other first second q.sender q.seq q.others q.other_payload q.other_stands;
      signed = q.signed;
      other_signed = q.other_signed;
      differ = q.differ;
    }

pub either_order : EitherOrder
unfolding with_own
either_order config other first second word e =
    let c = compares config other first second word e in
    let back : ℕ = set_word (equivocates (with_own config other) config.own second first) 64 in
    let is : equivocators (with_own config other) config.own second first ≡ done back =
    names (with_own config other) config.own second first c.good-there c.good-here c.other-sized c.other-formed c.sized c.formed (λ q. c.apart (sym q)) in
    is ∙ ap done (same-members back word 64 (within-lt back 64 (word-within (equivocates (with_own config other) config.own second first) 64)) (fits c) (λ node l. same_bit back is node))
  where
    fits : Compares config other first second word → word < 2 ^ 64
    fits c = within-lt word 64 (ap (λ (w : ℕ). within w 64) (sym c.is_word) ∙ word-within (equivocates config other first second) 64)

    same_bit : (back : ℕ) → equivocators (with_own config other) config.own second first ≡ done back → (node : ℕ) → member back node ≡ member word node
    same_bit back is node =
        go (member back node) refl (member word node) refl
      where
        go : (a : Bool) → member back node ≡ a → (b : Bool) → member word node ≡ b → a ≡ b
        go true x true y = refl
        go true x false y =
            absurd (true≢false (sym ((named-exactly config other first second word e node).1 (two-exchanged config other first second node ((named-exactly (with_own config other) config.own second first back is node).0 x))) ∙ y))
        go false x true y =
            absurd (true≢false (sym ((named-exactly (with_own config other) config.own second first back is node).1 (two-exchanged (with_own config other) config.own second first node ((named-exactly config other first second word e node).0 y))) ∙ x))
        go false x false y = refl
