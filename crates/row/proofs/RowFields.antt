-- A step row by its fields: what they are where it is read, and how they are known by the bytes at which they stand.
-- Assumes nothing.
use mathlib.Core.Path.{◌≡◌, refl, sym, ap, ◌∙◌}
use mathlib.Core.Bool.{Bool, true, false, cond, and-eq-true_iff}
use mathlib.Core.List.{List, [], ◌∷◌, ◌++◌}
use Prim.Native.Nat.{ℕ, ◌-◌, ◌<◌}
use native.Mathlib.Omega.{arith}
use lib.Dec.{ltb, leb, lit<}
use lib.ListN.{length, get_or, take, drop, length-drop, take-append-drop}
use lib.Seq.{drop-cons}
use borrow.Author.Tests.{ltb-true, leb-false, leb-true}
use Rattle.std.specs.Prelude.{Option, Some, None}
use Rattle.octets.specs.Octets.{same}
use Rattle.octets.proofs.Same.{same-says}
use Rattle.text.specs.Text.{ascii, space, before, first_field, rest_after_field, after_fields, field, value, plain_up_to, hex}
use Rattle.text.proofs.Fields.{before-le, before_here, join, cut-first, cut-rest, first-length, rest-none, hex-none}
use Rattle.text.proofs.HexWords.{hex-length}
use Rattle.text.proofs.FieldPositions.{Starts, part_end}
use Rattle.payload.specs.declared.Payload.{Payload}
use Rattle.row.specs.declared.Step.{Step}
use Rattle.row.specs.declared.StepRow.{StepRow}
use Rattle.row.specs.declared.Step.TheVariants.{Broadcast, Receive}
use Rattle.row.specs.Row.{absent, node, payload_digits, payload_of_digits, in_system, broadcast_fields, broadcast_row, receive_fields, receive_row}
use Rattle.row.proofs.Choices.{chosen, refused}

-- ---- what the fields are

-- the node,
pub record NodeField (n : ℕ) (line : List ℕ) : Type 0 where
  pub plain : plain_up_to 255 (field 1 line) ≡ true
  pub below : node line < n

-- those of a broadcast,
pub record BroadcastFields (n : ℕ) (line : List ℕ) : Type 0 where
  pub at-node : in_system n line ≡ true
  pub no-sender : absent (field 2 line) ≡ true
  pub no-seq : absent (field 3 line) ≡ true
  pub no-signers : absent (field 4 line) ≡ true
  pub payload : hex 32 (payload_digits line) ≡ true

-- and those of a bundle that a node receives
pub record ReceiveFields (n : ℕ) (line : List ℕ) : Type 0 where
  pub at-node : in_system n line ≡ true
  pub sender : plain_up_to 255 (field 2 line) ≡ true
  pub seq : plain_up_to 255 (field 3 line) ≡ true
  pub signers : hex 16 (field 4 line) ≡ true
  pub payload : hex 32 (payload_digits line) ≡ true

module _ (n : ℕ) (line : List ℕ) where
  pub node-field : in_system n line ≡ true → NodeField n line
  unfolding in_system
  node-field e =
      let (plain, below) = (and-eq-true_iff (plain_up_to 255 (field 1 line)) (ltb (node line) n)).0 e in
      record { plain = plain; below = ltb-true (node line) n below }

  pub broadcast-fields : broadcast_fields n line ≡ true → BroadcastFields n line
  unfolding broadcast_fields
  broadcast-fields e =
      let (at, others) = (and-eq-true_iff (in_system n line) _).0 e in
      let (sender, others) = (and-eq-true_iff (absent (field 2 line)) _).0 others in
      let (seq, others) = (and-eq-true_iff (absent (field 3 line)) _).0 others in
      let (signers, payload) = (and-eq-true_iff (absent (field 4 line)) _).0 others in
      record { at-node = at; no-sender = sender; no-seq = seq; no-signers = signers; payload = payload }

  pub fields-broadcast : BroadcastFields n line → broadcast_fields n line ≡ true
  unfolding broadcast_fields
  fields-broadcast f = rw (f.at-node, f.no-sender, f.no-seq, f.no-signers) f.payload

  pub receive-fields : receive_fields n line ≡ true → ReceiveFields n line
  unfolding receive_fields
  receive-fields e =
      let (at, others) = (and-eq-true_iff (in_system n line) _).0 e in
      let (sender, others) = (and-eq-true_iff (plain_up_to 255 (field 2 line)) _).0 others in
      let (seq, others) = (and-eq-true_iff (plain_up_to 255 (field 3 line)) _).0 others in
      let (signers, payload) = (and-eq-true_iff (hex 16 (field 4 line)) _).0 others in
      record { at-node = at; sender = sender; seq = seq; signers = signers; payload = payload }

  pub fields-receive : ReceiveFields n line → receive_fields n line ≡ true
  unfolding receive_fields
  fields-receive f = rw (f.at-node, f.sender, f.seq, f.signers) f.payload

-- ---- two fields, the second of which is not empty

module _ (xs : List ℕ) (some : 0 < length (rest_after_field xs)) where
  -- there is a space after the first,
  space-inside : before space xs < length xs
  space-inside = go (leb (length xs) (before space xs)) refl
    where
      go : (t : Bool) → leb (length xs) (before space xs) ≡ t → before space xs < length xs
      go true h =
          let bound = before-le space xs in
          let over = leb-true (length xs) (before space xs) h in
          let none = ap length (rest-none xs (omega arith)) in
          absurd (omega arith)
      go false h = leb-false (length xs) (before space xs) h

  -- and the text is the first, the space and the second
  two_fields : xs ≡ first_field xs ++ (space ∷ rest_after_field xs)
  two_fields = join xs space-inside

-- ---- three dashes and a payload

-- the three dashes with their spaces
abbrev pub dashes : List ℕ
dashes = ascii "- - - "

dash-first : (xs : List ℕ) → absent (first_field xs) ≡ true → 0 < length (rest_after_field xs) → xs ≡ 45 ∷ (32 ∷ rest_after_field xs)
unfolding absent ascii
dash-first xs dash some = two_fields xs some ∙ ap (λ (ys : List ℕ). ys ++ (space ∷ rest_after_field xs)) (same-says (first_field xs) (45 ∷ []) dash)

-- where the fields are three dashes and more, the bytes are these,
dashes-bytes : (n : ℕ) (line : List ℕ) → BroadcastFields n line → after_fields 2 line ≡ dashes ++ payload_digits line
unfolding after_fields payload_digits ascii
dashes-bytes n line f =
    let long : length (after_fields 5 line) ≡ 32 = hex-length 32 (payload_digits line) f.payload in
    let third = dash-first (after_fields 4 line) f.no-signers (omega arith) in
    let second = dash-first (after_fields 3 line) f.no-seq (omega (arith, ap length third)) in
    let first = dash-first (after_fields 2 line) f.no-sender (omega (arith, ap length second)) in
    first ∙ ap (λ (ys : List ℕ). 45 ∷ (32 ∷ ys)) (second ∙ ap (λ (ys : List ℕ). 45 ∷ (32 ∷ ys)) third)

pub dashes-there : (n : ℕ) (line : List ℕ) → BroadcastFields n line → same (take 6 (after_fields 2 line)) dashes ≡ true
unfolding ascii same
dashes-there n line f = rw (dashes-bytes n line f)

pub dashes-some : (n : ℕ) (line : List ℕ) → BroadcastFields n line → 0 < length (after_fields 2 line)
unfolding ascii
dashes-some n line f = omega (arith, ap length (dashes-bytes n line f))

-- and where the bytes are, the fields are three dashes and more
pub record DashesRead (line : List ℕ) : Type 0 where
  pub no-sender : absent (field 2 line) ≡ true
  pub no-seq : absent (field 3 line) ≡ true
  pub no-signers : absent (field 4 line) ≡ true
  pub payload : payload_digits line ≡ drop 6 (after_fields 2 line)

dashes-split : (line xs : List ℕ) → after_fields 2 line ≡ dashes ++ xs → DashesRead line
unfolding after_fields payload_digits ascii absent same first_field rest_after_field before
dashes-split line xs here = record { no-sender = rw here; no-seq = rw here; no-signers = rw here; payload = rw here }

pub dashes-read : (line : List ℕ) → same (take 6 (after_fields 2 line)) dashes ≡ true → DashesRead line
dashes-read line e =
    let xs : List ℕ = after_fields 2 line in
    dashes-split line (drop 6 xs)
    (sym (take-append-drop 6 xs) ∙ ap (λ (ys : List ℕ). ys ++ drop 6 xs) (same-says (take 6 xs) dashes e))

-- ---- signers and a payload

-- where the fields are 16 digits and more, the bytes are 16 digits and a space,
pub record SignersThere (line : List ℕ) : Type 0 where
  pub long : 16 < length (after_fields 4 line)
  pub digits : hex 16 (take 16 (after_fields 4 line)) ≡ true
  pub spaced : same (take 1 (drop 16 (after_fields 4 line))) (space ∷ []) ≡ true

pub signers-there : (n : ℕ) (line : List ℕ) → ReceiveFields n line → SignersThere line
unfolding payload_digits after_fields first_field same
signers-there n line f =
    let xs : List ℕ = after_fields 4 line in
    let some : 0 < length (rest_after_field xs) = omega (arith, hex-length 32 (rest_after_field xs) f.payload) in
    let ends : before space xs ≡ 16 = sym (first-length xs) ∙ hex-length 16 (first_field xs) f.signers in
    let long : 16 < length xs = omega (arith, space-inside xs some) in
    let here : get_or xs 16 0 ≡ space = ap (λ (k : ℕ). get_or xs k 0) (sym ends) ∙ before_here space xs (space-inside xs some) in
    record {
      long = long;
      digits = ap (λ (k : ℕ). hex 16 (take k xs)) (sym ends) ∙ f.signers;
      spaced = rw (drop-cons xs 16 0 long, here);
    }

-- and where the bytes are, the fields are these
pub record SignersRead (line : List ℕ) : Type 0 where
  pub signers : field 4 line ≡ take 16 (after_fields 4 line)
  pub payload : payload_digits line ≡ drop 1 (drop 16 (after_fields 4 line))

pub signers-read : (line : List ℕ) → hex 16 (take 16 (after_fields 4 line)) ≡ true → same (take 1 (drop 16 (after_fields 4 line))) (space ∷ []) ≡ true
    → SignersRead line
unfolding payload_digits after_fields
signers-read line digits spaced =
    let xs : List ℕ = after_fields 4 line in
    let ys : List ℕ = drop 16 xs in
    let rest : ys ≡ space ∷ drop 1 ys = sym (take-append-drop 1 ys) ∙ ap (λ (zs : List ℕ). zs ++ drop 1 ys) (same-says (take 1 ys) (space ∷ []) spaced) in
    let split : xs ≡ take 16 xs ++ (space ∷ drop 1 ys) = sym (take-append-drop 16 xs) ∙ ap (λ (zs : List ℕ). take 16 xs ++ zs) rest in
    let none = hex-none space 16 (take 16 xs) (lit< tt) digits in
    record {
      signers = ap first_field split ∙ cut-first (take 16 xs) (drop 1 ys) none;
      payload = ap rest_after_field split ∙ cut-rest (take 16 xs) (drop 1 ys) none;
    }

-- ---- fields by the index at which they start

module _ {k at : ℕ} {line : List ℕ} (start : Starts k at line) where
  -- where there is a byte of them, they start within the line,
  pub starts-inside : 0 < length (after_fields k line) → at < length line
  starts-inside some = omega (arith, ap length start.here, length-drop at line)

  -- and they are the part of the line from there on
  pub starts-part : (part : List ℕ) → part ≡ take (length line - at) (drop at line) → part ≡ after_fields k line
  starts-part part is = is ∙ part_end at line ∙ sym start.here

-- ---- the row of such fields

-- a row that is read
abbrev pub row_of : (node : ℕ) (step : Step) → Option StepRow
row_of node step = Some (record { node = node; step = step })

module _ (n : ℕ) (line : List ℕ) where
  pub broadcast-row : {v : ℕ} {payload : Payload} → value 10 0 (field 1 line) ≡ v → payload_of_digits (payload_digits line) ≡ payload → BroadcastFields n line
      → row_of v (Broadcast payload) ≡ cond (broadcast_fields n line) (broadcast_row line) None
  unfolding broadcast_row node
  broadcast-row at payload f = rw (← at, ← payload) (chosen (broadcast_fields n line) (broadcast_row line) None (fields-broadcast n line f))

  pub broadcast-refused : (BroadcastFields n line → ⊥) → None ≡ cond (broadcast_fields n line) (broadcast_row line) None
  broadcast-refused not = refused (broadcast_fields n line) (broadcast_row line) None (λ e. not (broadcast-fields n line e))

  pub receive-row : {v sender seq signers : ℕ} {payload : Payload} → value 10 0 (field 1 line) ≡ v → value 10 0 (field 2 line) ≡ sender
      → value 10 0 (field 3 line) ≡ seq → value 16 0 (field 4 line) ≡ signers → payload_of_digits (payload_digits line) ≡ payload → ReceiveFields n line
      → row_of v (Receive sender seq signers payload) ≡ cond (receive_fields n line) (receive_row line) None
  unfolding receive_row node
  receive-row at sender seq signers payload f =
      rw (← at, ← sender, ← seq, ← signers, ← payload) (chosen (receive_fields n line) (receive_row line) None (fields-receive n line f))

  pub receive-refused : (ReceiveFields n line → ⊥) → None ≡ cond (receive_fields n line) (receive_row line) None
  receive-refused not = refused (receive_fields n line) (receive_row line) None (λ e. not (receive-fields n line e))
