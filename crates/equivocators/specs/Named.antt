-- R19.2, read back: a node has its bit exactly if it is a signer in two of the four halves of some slot's records, and the payloads there differ. Every node that is
-- named is one of the n (R19.5); where a slot has two payloads its sender is named (R19.10); and which buffer comes first does not matter (R19.11). They are proved in
-- proofs/Named.antt.
-- Assumes nothing.
use Rattle.std.specs.Prelude.{◌≡◌, ◌⊎◌, true, List, ℕ, ◌<◌}
use Rattle.signers.specs.Signers.{member, within}
use Rattle.refusal.specs.Outcome.{done}
use Rattle.config.specs.declared.Config.{Config}
use Rattle.config.specs.Config.{slots, slot_of_day, with_own}
use Rattle.protocol.specs.Notes.{Beside}
use Rattle.calls.specs.Algorithm.{record_of}
use Rattle.equivocators.specs.Equivocators.{equivocators}

module _ (config : Config) (other : ℕ) (first second : List ℕ) where
  -- in the slot's record of the one or of the other buffer these signers stand beside this payload: held, delivered or noted
  abbrev pub StandsInEither : (sender seq signers : ℕ) (payload : List ℕ) → Type 0
  StandsInEither sender seq signers payload =
      Beside (record_of config (slot_of_day config sender seq) first) signers payload
      ⊎ Beside (record_of (with_own config other) (slot_of_day config sender seq) second) signers payload

  -- the node is among the signers beside two payloads of a slot
  pub record Equivocated (node : ℕ) : Type 0 where
    pub sender : ℕ
    pub seq : ℕ
    pub known : sender < config.n
    pub below : seq < slots
    pub signers : ℕ
    pub others : ℕ
    pub payload : List ℕ
    pub other_payload : List ℕ
    pub stands : StandsInEither sender seq signers payload
    pub other_stands : StandsInEither sender seq others other_payload
    pub signed : member signers node ≡ true
    pub other_signed : member others node ≡ true
    pub differ : payload ≡ other_payload → ⊥

abbrev pub NamedExactly : Type 0
NamedExactly =
    (config : Config) (other : ℕ) (first second : List ℕ) (word : ℕ) → equivocators config other first second ≡ done word
    → (node : ℕ)
    → (member word node ≡ true → Equivocated config other first second node)
    × (Equivocated config other first second node → member word node ≡ true)

abbrev pub NamedAreNodes : Type 0
NamedAreNodes =
    (config : Config) (other : ℕ) (first second : List ℕ) (word : ℕ) → equivocators config other first second ≡ done word → within word config.n ≡ true

-- R19.10: no payload stands in a well-formed record without its sender's bit.
abbrev pub SenderNamed : Type 0
SenderNamed =
    (config : Config) (other : ℕ) (first second : List ℕ) (word : ℕ) → equivocators config other first second ≡ done word
    → (sender seq signers others : ℕ) (payload other_payload : List ℕ) → sender < config.n → seq < slots
    → StandsInEither config other first second sender seq signers payload → StandsInEither config other first second sender seq others other_payload → (payload ≡ other_payload → ⊥)
    → member word sender ≡ true

-- R19.11: the second node's records first, and the first node's second.
abbrev pub EitherOrder : Type 0
EitherOrder =
    (config : Config) (other : ℕ) (first second : List ℕ) (word : ℕ) → equivocators config other first second ≡ done word
    → equivocators (with_own config other) config.own second first ≡ done word
