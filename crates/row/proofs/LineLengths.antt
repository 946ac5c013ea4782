-- How long the lines of a run file are, and that none that is read has a line feed in it.
-- Assumes nothing.
use mathlib.Core.Path.{◌≡◌, refl, sym, ap, subst, ◌∙◌}
use mathlib.Core.Bool.{Bool, true, false, and-eq-true_iff}
use mathlib.Core.List.{List, [], ◌∷◌}
use Prim.Native.Nat.{ℕ, suc, ◌+◌, ◌-◌, ◌^◌, ◌≤◌, ◌<◌}
use native.Mathlib.Omega.{arith}
use lib.Dec.{leb, lit<, lit≤}
use lib.ListN.{length, length-append}
use borrow.Author.Tests.{ne_eqb, leb-true, leb-false}
use Rattle.octets.specs.Octets.{same}
use Rattle.octets.proofs.Same.{same-says}
use Rattle.text.specs.Text.{ascii, line_feed, space, before, first_field, rest_after_field, after_fields, value, plain_number, plain_up_to, hex}
use Rattle.text.proofs.Fields.{before-le, before-join, join, first-whole, plain-none, hex-none}
use Rattle.text.proofs.DigitValues.{plain-short}
use Rattle.text.proofs.HexWords.{hex-length}
use Rattle.row.specs.Row.{table_names, step_names, is_table, absent, act, payload_digits, in_system, broadcast_fields, receive_fields, is_broadcast, is_receive}
use Rattle.row.proofs.TableFields.{table-fields}
use Rattle.row.proofs.RowFields.{node-field, broadcast-fields, receive-fields}

-- the names lines
pub names-length : (length table_names ≡ 30) × (length step_names ≡ 35)
unfolding table_names step_names ascii
names-length = (refl, refl)

-- ---- texts of at most k bytes with no line feed

pub record Line (k : ℕ) (xs : List ℕ) : Type 0 where
  pub feedless : before line_feed xs ≡ length xs
  pub short : length xs ≤ k

-- a text is one where its first field and the text after it are
line-join : (a b : ℕ) (xs : List ℕ) → Line a (first_field xs) → Line b (rest_after_field xs) → Line (a + suc b) xs
line-join a b xs f r = go (leb (length xs) (before space xs)) refl
  where
    go : (t : Bool) → leb (length xs) (before space xs) ≡ t → Line (a + suc b) xs
    go true h =
        let end = before-le space xs in
        let over = leb-true (length xs) (before space xs) h in
        let whole : Line a xs = subst (Line a) (first-whole xs (omega arith)) f in
        record { feedless = whole.feedless; short = omega (arith, whole.short) }
    go false h =
        let joined = join xs (leb-false (length xs) (before space xs) h) in
        let long : length xs ≡ length (first_field xs) + suc (length (rest_after_field xs)) = ap length joined ∙ length-append (first_field xs) (space ∷ rest_after_field xs) in
        let free = ap (before line_feed) joined ∙ before-join line_feed space (first_field xs) (rest_after_field xs) f.feedless (λ q. omega arith) in
        record { feedless = omega (arith, long, free, r.feedless); short = omega (arith, long, f.short, r.short) }

-- a letter,
line-letter : (c : ℕ) (xs : List ℕ) → (c ≡ line_feed → ⊥) → same xs (c ∷ []) ≡ true → Line 1 xs
unfolding before
line-letter c xs other e = rw (same-says xs (c ∷ []) e) (record { feedless = rw (ne_eqb c line_feed other); short = lit≤ tt })

line-dash : (xs : List ℕ) → absent xs ≡ true → Line 1 xs
unfolding absent ascii
line-dash xs e = line-letter 45 xs (λ q. omega arith) e

-- a plain number,
line_plain : (limit k : ℕ) (xs : List ℕ) → 0 < k → limit < 10 ^ k → plain_up_to limit xs ≡ true → Line k xs
unfolding plain_up_to
line_plain limit k xs pos h e =
    let (digits, small) = (and-eq-true_iff (plain_number xs) (leb (value 10 0 xs) limit)).0 e in
    record {
      feedless = plain-none line_feed xs (lit< tt) digits;
      short = plain-short k xs pos digits (omega (arith, leb-true (value 10 0 xs) limit small));
    }

line-byte : (xs : List ℕ) → plain_up_to 255 xs ≡ true → Line 3 xs
line-byte xs e = line_plain 255 3 xs (lit< tt) (lit< tt) e

line_word : (xs : List ℕ) → plain_up_to (2 ^ 32 - 1) xs ≡ true → Line 10 xs
line_word xs e = line_plain (2 ^ 32 - 1) 10 xs (lit< tt) (lit< tt) e

-- and hexadecimal digits are such texts
line-hex : (k : ℕ) (xs : List ℕ) → hex k xs ≡ true → Line k xs
line-hex k xs e = record { feedless = hex-none line_feed k xs (lit< tt) e; short = omega (arith, hex-length k xs e) }

-- ---- the table row

module _ (line : List ℕ) (e : is_table line ≡ true) where
  -- it has at most 33 bytes
  table-line : Line 33 line
  unfolding after_fields
  table-line =
      let f = table-fields line e in
      line-join 3 29 line (line-byte _ f.nodes)
      (line-join 3 25 (after_fields 1 line) (line-byte _ f.faults)
      (line-join 3 21 (after_fields 2 line) (line-byte _ f.losses)
      (line-join 10 10 (after_fields 3 line) (line_word _ f.day)
      (line_word (after_fields 4 line) (ap (plain_up_to (2 ^ 32 - 1)) (sym f.last) ∙ f.quorum)))))

  pub table-short : length line ≤ 120
  table-short = omega (arith, table-line.short)

  pub table-no-feed : before line_feed line ≡ length line
  table-no-feed = table-line.feedless

-- ---- a step row

module _ (n : ℕ) (line : List ℕ) where
  -- one whose act is a letter, with a node, and at most 57 bytes after them
  letter-line : (c : ℕ) → (c ≡ line_feed → ⊥) → same (act line) (c ∷ []) ≡ true → in_system n line ≡ true → Line 57 (after_fields 2 line) → Line 63 line
  unfolding act after_fields
  letter-line c other letter at tail =
      line-join 1 61 line (line-letter c _ other letter) (line-join 3 57 (after_fields 1 line) (line-byte _ (node-field n line at).plain) tail)

  -- so a row of act A
  pub broadcast-line : is_broadcast n line ≡ true → Line 63 line
  unfolding is_broadcast ascii payload_digits after_fields
  broadcast-line e =
      let (letter, fields) = (and-eq-true_iff (same (act line) (ascii "A")) (broadcast_fields n line)).0 e in
      let f = broadcast-fields n line fields in
      let tail : Line 38 (after_fields 2 line) =
      line-join 1 36 (after_fields 2 line) (line-dash _ f.no-sender)
      (line-join 1 34 (after_fields 3 line) (line-dash _ f.no-seq)
      (line-join 1 32 (after_fields 4 line) (line-dash _ f.no-signers) (line-hex 32 (payload_digits line) f.payload))) in
      letter-line 65 (λ q. omega arith) letter f.at-node (record { feedless = tail.feedless; short = omega (arith, tail.short) })

  -- and one of act B
  pub receive-line : is_receive n line ≡ true → Line 63 line
  unfolding is_receive ascii payload_digits after_fields
  receive-line e =
      let (letter, fields) = (and-eq-true_iff (same (act line) (ascii "B")) (receive_fields n line)).0 e in
      let f = receive-fields n line fields in
      letter-line 66 (λ q. omega arith) letter f.at-node
      (line-join 3 53 (after_fields 2 line) (line-byte _ f.sender)
      (line-join 3 49 (after_fields 3 line) (line-byte _ f.seq)
      (line-join 16 32 (after_fields 4 line) (line-hex 16 _ f.signers) (line-hex 32 (payload_digits line) f.payload))))
