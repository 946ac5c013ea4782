-- R10.3 and R10.4: the two statements of specs/RoundTrip.antt, proved.
-- Assumes nothing.
use mathlib.Core.Path.{◌≡◌, refl, sym, ap, ap₂, ◌∙◌, subst}
use mathlib.Core.Bool.{true}
use mathlib.Core.List.{List, [], ◌∷◌, ◌++◌, append_assoc}
use Prim.Native.Nat.{ℕ, ◌<◌, ◌^◌}
use native.Mathlib.Nat.{lt_of_lt_of_le}
use native.Mathlib.Omega.{arith}
use lib.ListN.{length, get_or, drop, length-drop, take-append-drop}
use lib.Pow.{pow_mono}
use lib.Seq.{drop-drop, take_all, take-add}
use borrow.Author.Tests.{eq-eqb, not-false}
use Rattle.octets.specs.Octets.{Bytes, number, bytes_of, part}
use Rattle.octets.proofs.Numbers.{number-bytes_of, length_part, number-part}
use Rattle.octets.proofs.WordRead.{elements-part}
use Rattle.signers.proofs.Members.{within-lt}
use Rattle.refusal.specs.Outcome.{done}
use Rattle.refusal.proofs.Reasons.{Clear}
use Rattle.payload.specs.Payload.{payload_size}
use Rattle.config.specs.declared.Config.{Config}
use Rattle.config.specs.Config.{good, slot_of_day}
use Rattle.config.proofs.Laws.{good-says}
use Rattle.bundle.specs.declared.Header.{Header}
use Rattle.bundle.specs.Bundle.{bundle_size, payload_start, bundle_of, slot_in, header_in, payload_in, header_reasons, read, payload_part, header_of, header_of_day}
use Rattle.bundle.specs.Inner.{encoded_like}
use Rattle.bundle.specs.RoundTrip.{WrittenReadsBack, AcceptedWritesBack}
use Rattle.bundle.proofs.Accepted.{Readable, accepted-readable, readable-accepted, accepted-payload, written-writable, writable-written}

-- the fields of a bundle that was put together are those that it was put together from
module _ (h : Header) (payload : List ℕ) where
  length-bundle : length payload ≡ payload_size → length (bundle_of h payload) ≡ bundle_size
  unfolding bundle_of bytes_of
  length-bundle l = omega arith

  header-bundle : h.day < 2 ^ 32 → h.signers < 2 ^ 64 → header_in (bundle_of h payload) ≡ h
  unfolding bundle_of slot_in header_in bytes_of
  header-bundle d s =
      ap₂ {C = Header} (λ (day signers : ℕ). record { day = day; sender = h.sender; seq = h.seq; signers = signers })
      (number-bytes_of 4 h.day d) (number-bytes_of 8 h.signers s)

  payload-bundle : length payload ≡ payload_size → payload_in (bundle_of h payload) ≡ payload
  unfolding bundle_of bytes_of
  payload-bundle l = take_all 16 payload (omega arith)

  reserved-bundle : (get_or (bundle_of h payload) 6 0 ≡ 0) × (get_or (bundle_of h payload) 7 0 ≡ 0)
  unfolding bundle_of bytes_of
  reserved-bundle = (refl, refl)

-- a bundle's bytes are its header, two zero bytes and its payload, put together again
together : (bundle : List ℕ) → Bytes bundle → length bundle ≡ bundle_size → get_or bundle 6 0 ≡ 0 → get_or bundle 7 0 ≡ 0
    → bundle_of (header_in bundle) (payload_in bundle) ≡ bundle
unfolding bundle_of slot_in header_in
together xs bytes l six seven =
    let four : bytes_of 4 (number (part 0 4 xs)) ≡ part 0 4 xs = number-part xs 0 4 bytes (omega arith) in
    let eight : bytes_of 8 (number (part 8 8 xs)) ≡ part 8 8 xs = number-part xs 8 8 bytes (omega arith) in
    let last : payload_in xs ≡ drop 8 (drop 8 xs) = take_all 16 (drop 16 xs) (simp length-drop (omega arith)) ∙ sym (drop-drop 8 8 xs) in
    let rest : bytes_of 8 (number (part 8 8 xs)) ++ payload_in xs ≡ drop 8 xs = ap₂ ◌++◌ eight last ∙ take-append-drop 8 (drop 8 xs) in
    let middle : get_or xs 4 0 ∷ get_or xs 5 0 ∷ 0 ∷ 0 ∷ drop 8 xs ≡ drop 4 xs =
    ap₂ (λ (a b : ℕ). get_or xs 4 0 ∷ get_or xs 5 0 ∷ a ∷ b ∷ drop 8 xs) (sym six) (sym seven)
    ∙ ap₂ ◌++◌ (elements-part xs 4 4 (omega arith)) (sym (drop-drop 4 4 xs))
    ∙ take-append-drop 4 (drop 4 xs) in
    ap₂ ◌++◌ four (ap (λ (r : List ℕ). get_or xs 4 0 ∷ get_or xs 5 0 ∷ 0 ∷ 0 ∷ r) rest ∙ middle) ∙ take-append-drop 4 xs

-- the signers of an accepted header fit a word
clear-signers : (config : Config) (h : Header) → good config ≡ true → Clear (header_reasons config h) → h.signers < 2 ^ 64
unfolding header_reasons
clear-signers config h g c =
    lt_of_lt_of_le (within-lt h.signers config.n (not-false _ c.1.1.0)) (pow_mono (good-says config g).most)

-- the reasons that a header gives depend on n alone
peers-clear : (first second : Config) (h : Header) → second.n ≡ first.n → Clear (header_reasons first h) → Clear (header_reasons second h)
unfolding header_reasons
peers-clear first second h e c = rw e c

-- R10.3: what is written reads back,
pub written-reads-back : WrittenReadsBack
unfolding slot_of_day slot_in header_in
written-reads-back writer reader sender seq signers payload out bundle peers d e =
    let h : Header = header_of_day writer sender seq signers in
    let (ok, same) = written-writable writer sender seq signers payload out bundle e in
    let written : List ℕ = bundle_of h payload in
    let back : header_in written ≡ h = header-bundle h payload d (clear-signers writer h ok.configured ok.clear) in
    let reading : read reader written ≡ done h =
    readable-accepted reader written
    (record {
      configured = peers.configured;
      long = length-bundle h payload ok.whole;
      sixth = (reserved-bundle h payload).0;
      seventh = (reserved-bundle h payload).1;
      today = ap (λ (x : Header). x.day) back ∙ sym peers.today;
      clear = subst (λ (x : Header). Clear (header_reasons reader x)) (sym back) (peers-clear writer reader h peers.nodes ok.clear);
    })
    ∙ ap done back in
    rw (← same) (reading, (accepted-payload reader written h reading).0 ∙ payload-bundle h payload ok.whole)

-- a header of a configuration's day is the one that writing takes apart
day-back : (writer : Config) (h : Header) → h.day ≡ writer.day → header_of_day writer h.sender h.seq h.signers ≡ h
unfolding slot_of_day
day-back writer h e =
    ap {B = Header} (λ (day : ℕ). record { day = day; sender = h.sender; seq = h.seq; signers = h.signers }) (sym e)

-- R10.4: and what is accepted writes back
pub accepted-writes-back : AcceptedWritesBack
unfolding header_in
accepted-writes-back reader writer h bundle out peers bytes l e =
    let (ok, same) = accepted-readable reader bundle h e in
    let rest : payload_part reader bundle ≡ payload_in bundle = (accepted-payload reader bundle h e).0 in
    let long : length bundle ≡ bundle_size = ok.long in
    let again : header_of_day writer h.sender h.seq h.signers ≡ h =
    day-back writer h (ap (λ (x : Header). x.day) (sym same) ∙ ok.today ∙ sym peers.today) in
    writable-written writer h.sender h.seq h.signers (payload_part reader bundle) out
    (record {
      configured = peers.configured;
      clear = rw again (peers-clear reader writer h peers.nodes (subst (λ (x : Header). Clear (header_reasons reader x)) same ok.clear));
      whole = ap length rest ∙ length_part bundle payload_start payload_size (omega arith);
      room = l;
    })
    ∙ ap done (rw (again, rest, ← same) (together bundle bytes long ok.sixth ok.seventh))

-- in the slot of an accepted bundle it is the bundle of that slot
pub like-accepted : (config : Config) (bundle out payload : List ℕ) (h : Header) (signers : ℕ) → Bytes bundle → read config bundle ≡ done h → length out ≡ bundle_size
    → encoded_like bundle signers payload out ≡ bundle_of (header_of (slot_in bundle) signers) payload
unfolding encoded_like bundle_of slot_in
like-accepted config xs out payload h signers bytes e room =
    let ok : Readable config xs = (accepted-readable config xs h e).0 in
    let long : length xs ≡ bundle_size = ok.long in
    let four : part 0 4 xs ≡ bytes_of 4 (number (part 0 4 xs)) = sym (number-part xs 0 4 bytes (omega arith)) in
    let middle : part 4 4 xs ≡ get_or xs 4 0 ∷ get_or xs 5 0 ∷ 0 ∷ 0 ∷ [] =
    sym (elements-part xs 4 4 (omega arith)) ∙ ap₂ (λ (a b : ℕ). get_or xs 4 0 ∷ get_or xs 5 0 ∷ a ∷ b ∷ []) ok.sixth ok.seventh in
    let first : part 0 8 xs ≡ bytes_of 4 (number (part 0 4 xs)) ++ (get_or xs 4 0 ∷ get_or xs 5 0 ∷ 0 ∷ 0 ∷ []) = take-add 4 4 xs ∙ ap₂ ◌++◌ four middle in
    rw (eq-eqb (length xs) bundle_size long, eq-eqb (length out) bundle_size room)
    (ap (λ (r : List ℕ). r ++ (bytes_of 8 signers ++ payload)) first ∙ append_assoc (bytes_of 4 (number (part 0 4 xs))) _ _)
