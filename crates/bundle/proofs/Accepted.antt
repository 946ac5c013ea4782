-- What reading and writing accept and refuse, and that an answer is known by its number and values.
-- Assumes nothing.
use mathlib.Core.Path.{◌≡◌, ◌∙◌, sym}
use mathlib.Core.Bool.{true, false, and-eq-true_iff, or-false}
use mathlib.Core.List.{List, []}
use Prim.Native.Nat.{ℕ}
use Rattle.std.specs.Prelude.{Result}
use borrow.Author.Tests.{eqb-true, eq-eqb, ne_eqb, not-true, not-false}
use lib.ListN.{length, get_or}
use Rattle.signers.specs.Signers.{member}
use Rattle.refusal.specs.Outcome.{refused, done, unless}
use Rattle.refusal.specs.declared.Refusal.{Refusal}
use Rattle.refusal.proofs.Unique.{outcome-one}
use Rattle.refusal.proofs.Reasons.{passed, Clear, pass, stop, done-clear, clear-done, append-clear, clear-append, refused-first, done_first, refused-asked}
use Rattle.payload.specs.Payload.{payload_size}
use Rattle.config.specs.declared.Config.{Config}
use Rattle.config.specs.Config.{good}
use Rattle.bundle.specs.declared.Header.{Header}
use Rattle.bundle.specs.Bundle.{reading_of, bundle_size, payload_start, payload_in, empty_start, bundle_of, slot_in, header_in, header_reasons, read_reasons, read, payload_part, payload_place, header_of_day, write_reasons, write}

pub record Readable (config : Config) (bundle : List ℕ) : Type 0 where
  pub configured : good config ≡ true
  pub long : length bundle ≡ bundle_size
  pub sixth : get_or bundle 6 0 ≡ 0
  pub seventh : get_or bundle 7 0 ≡ 0
  pub today : (slot_in bundle).day ≡ config.day
  pub clear : Clear (header_reasons config (header_in bundle))

pub accepted-readable : (config : Config) (bundle : List ℕ) (h : Header) → read config bundle ≡ done h → Readable config bundle × (header_in bundle ≡ h)
unfolding read read_reasons
accepted-readable config bundle h e =
    let (clear, same) = done-clear (read_reasons config bundle) (header_in bundle) h e in
    let reserved = (and-eq-true_iff _ _).0 (not-false _ clear.1.1.0) in (
      record {
        configured = not-false _ clear.0;
        long = eqb-true _ _ (not-false _ clear.1.0);
        sixth = eqb-true _ _ reserved.0;
        seventh = eqb-true _ _ reserved.1;
        today = eqb-true _ _ (not-false _ clear.1.1.1.0);
        clear = clear.1.1.1.1;
      },
      same,
    )

pub readable-accepted : (config : Config) (bundle : List ℕ) → Readable config bundle → read config bundle ≡ done (header_in bundle)
unfolding read read_reasons
readable-accepted config bundle r =
    clear-done (read_reasons config bundle) (header_in bundle) (
      passed r.configured,
      (
        passed (eq-eqb _ _ r.long),
        (
          passed ((and-eq-true_iff _ _).1 (eq-eqb _ _ r.sixth, eq-eqb _ _ r.seventh)),
          (passed (eq-eqb _ _ r.today), r.clear),
        ),
      ),
    )

-- R17.1: a reading is known by its number and values, so the contract of `read` leaves one answer
pub reading-one : (a b : Result Header Refusal) → reading_of a ≡ reading_of b → a ≡ b
reading-one a b e = outcome-one (λ h. h) (λ h k same. same) a b e

-- the payload of an accepted bundle is its last 16 bytes; of a refused one, the empty part at its start
module _ (config : Config) (bundle : List ℕ) where
  pub accepted-payload : (h : Header) → read config bundle ≡ done h → (payload_part config bundle ≡ payload_in bundle) × (payload_place config bundle ≡ payload_start)
  unfolding payload_part payload_place
  accepted-payload h e = (rw e, rw e)

  pub refused-payload : (number : ℕ) → read config bundle ≡ refused number → (payload_part config bundle ≡ []) × (payload_place config bundle ≡ empty_start)
  unfolding payload_part payload_place
  refused-payload number e = (rw e, rw e)

-- ---- writing

module _ (config : Config) (sender seq signers : ℕ) (payload out : List ℕ) where
  -- what is written
  abbrev header : Header
  header = header_of_day config sender seq signers

  -- what writing asks for
  pub record Writable : Type 0 where
    pub configured : good config ≡ true
    pub clear : Clear (header_reasons config header)
    pub whole : length payload ≡ payload_size
    pub room : length out ≡ bundle_size

  pub written-writable : (bytes : List ℕ) → write config sender seq signers payload out ≡ done bytes → Writable × (bundle_of header payload ≡ bytes)
  unfolding write write_reasons
  written-writable bytes e =
      let (clear, same) = done-clear (write_reasons config sender seq signers payload out) (bundle_of header payload) bytes e in
      let (fine, lengths) = append-clear (header_reasons config header) _ clear.1 in (
        record {
          configured = not-false _ clear.0;
          clear = fine;
          whole = eqb-true _ _ (not-false _ lengths.0);
          room = eqb-true _ _ (not-false _ lengths.1.0);
        },
        same,
      )

  pub writable-written : Writable → write config sender seq signers payload out ≡ done (bundle_of header payload)
  unfolding write write_reasons
  writable-written r =
      clear-done (write_reasons config sender seq signers payload out) (bundle_of header payload) (
        passed r.configured,
        clear-append (header_reasons config header) _ r.clear (passed (eq-eqb _ _ r.whole), (passed (eq-eqb _ _ r.room), tt)),
      )

  -- why writing refuses, in the order of its checks
  pub write-unconfigured : good config ≡ false → write config sender seq signers payload out ≡ refused 1
  unfolding write write_reasons
  write-unconfigured e = stop 1 _ _ (rw e)

  pub write-header : (number : ℕ) → good config ≡ true → unless {A = Unit} (header_reasons config header) tt ≡ refused number
      → write config sender seq signers payload out ≡ refused number
  unfolding write write_reasons
  write-header number g e = pass 1 _ _ (passed g) ∙ refused-first _ _ _ (header_reasons config header) number e

  pub write-payload : good config ≡ true → unless {A = Unit} (header_reasons config header) tt ≡ done tt → (length payload ≡ payload_size → ⊥)
      → write config sender seq signers payload out ≡ refused 9
  unfolding write write_reasons
  write-payload g e l = pass 1 _ _ (passed g) ∙ done_first _ _ _ (header_reasons config header) tt e ∙ stop 9 _ _ (rw (ne_eqb _ _ l))

  pub write-out : good config ≡ true → unless {A = Unit} (header_reasons config header) tt ≡ done tt → length payload ≡ payload_size → (length out ≡ bundle_size → ⊥)
      → write config sender seq signers payload out ≡ refused 10
  unfolding write write_reasons
  write-out g e l r =
      pass 1 _ _ (passed g)
      ∙ done_first _ _ _ (header_reasons config header) tt e
      ∙ pass 9 _ _ (passed (eq-eqb _ _ l))
      ∙ stop 10 _ _ (rw (ne_eqb _ _ r))

-- a bundle that reading refuses by 8 lacks its sender's signature
pub unsigned-says : (config : Config) (bundle : List ℕ) → read config bundle ≡ refused 8 → member (header_in bundle).signers (header_in bundle).sender ≡ false
unfolding read read_reasons header_reasons
unsigned-says config bundle e =
    not-true _ (sym (or-false _) ∙ refused-asked (read_reasons config bundle) (header_in bundle) 8 e)
