-- R19.1: what stands in a record: payloads, each with the signers beside it; and who stands beside two different ones.
-- Assumes nothing.
use Rattle.std.specs.Prelude.{false, not, ◌&&◌, ◌||◌, List, [], ◌∷◌, ℕ}
use Rattle.octets.specs.Octets.{same}
use Rattle.signers.specs.Sets.{NodeSet}
use Rattle.signers.specs.Signers.{member}
use Rattle.protocol.specs.Update.{Note, Nothing, Noted, Record, signers_of, payload_of, note_of}

-- a payload, and the signers that stand beside it
pub record Entry : Type 0 where
  pub signers : ℕ
  pub payload : List ℕ

-- what is noted; nobody stands beside nothing
abbrev pub noted_entry : Note → Entry
noted_entry Nothing = record { signers = 0; payload = [] }
noted_entry (Noted signers payload) = record { signers = signers; payload = payload }

-- the two halves of a record: what it holds or has delivered, and what it notes. An empty record has nobody in either.
unfoldable pub entries : Record → List Entry
entries r = record { signers = signers_of r; payload = payload_of r } ∷ noted_entry (note_of r) ∷ []

-- the node stands beside both, and the payloads differ
unfoldable pub signed_both : (a b : Entry) → NodeSet
signed_both a b node = member a.signers node && (member b.signers node && not (same a.payload b.payload))

-- the node stands so in one entry, and in some of the others
unfoldable pub signed_beside : (a : Entry) (others : List Entry) → NodeSet
signed_beside a [] node = false
signed_beside a (b ∷ others) node = signed_both a b node || signed_beside a others node

-- in two of these entries
unfoldable pub signed_two : List Entry → NodeSet
signed_two [] node = false
signed_two (a ∷ others) node = signed_beside a others node || signed_two others node
