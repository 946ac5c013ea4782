-- Fields by the index at which they start. The first field starts at 0; where a field is read as a plain number, the next one starts at the index that
-- the reader gives.
-- Assumes nothing.
use mathlib.Core.Path.{◌≡◌, refl, sym, ap, ◌∙◌}
use mathlib.Core.Bool.{Bool, true, false, cond, and-eq-true_iff, true≢false}
use mathlib.Core.List.{List, [], ◌∷◌}
use Prim.Native.Nat.{ℕ, suc, ◌+◌, ◌-◌, ◌≤◌, ◌<◌}
use native.Mathlib.Omega.{arith}
use lib.Dec.{leb, lit<}
use lib.ListN.{length, take, drop, length-drop, drop_of_length-le}
use lib.Seq.{take_all, drop-drop}
use borrow.Author.Tests.{leb-true}
use Rattle.std.specs.Prelude.{Option, Some, None}
use Rattle.std.proofs.lemmas.Option.{none-some, some_pair_parts}
use Rattle.text.specs.Text.{space, before, first_field, rest_after_field, after_fields, field, value, plain_number, plain_up_to, number_at}
use Rattle.text.proofs.Fields.{before-le, first-whole, first-length, plain-none}

-- the part of a text from some index to its end
pub part_end : (start : ℕ) (text : List ℕ) → take (length text - start) (drop start text) ≡ drop start text
part_end start text = take_all (length text - start) (drop start text) (omega (arith, length-drop start text))

-- the text after its first k fields starts at an index
pub record Starts (k at : ℕ) (text : List ℕ) : Type 0 where
  pub here : after_fields k text ≡ drop at text

pub starts_first : (text : List ℕ) → Starts 0 0 text
unfolding after_fields
starts_first text = record { here = refl }

-- ---- what a plain number is

module _ (limit : ℕ) (xs : List ℕ) (e : plain_up_to limit xs ≡ true) where
  parts : (plain_number xs ≡ true) × (value 10 0 xs ≤ limit)
  unfolding plain_up_to
  parts =
      let (digits, small) = (and-eq-true_iff (plain_number xs) (leb (value 10 0 xs) limit)).0 e in
      (digits, leb-true (value 10 0 xs) limit small)

  -- it is at most its limit
  pub plain-within : value 10 0 xs ≤ limit
  plain-within = parts.1

  -- a text that is one is its own first field
  pub plain-whole : first_field xs ≡ xs
  plain-whole = first-whole xs (plain-none space xs (lit< tt) parts.0)

-- an empty text is none
pub empty-plain : (limit : ℕ) → plain_up_to limit [] ≡ false
unfolding plain_up_to plain_number
empty-plain limit = refl

some-plain : (limit : ℕ) (xs : List ℕ) → plain_up_to limit (first_field xs) ≡ true → 0 < length xs
unfolding first_field before
some-plain limit [] e = absurd (true≢false (sym e ∙ empty-plain limit))
some-plain limit (x ∷ xs) e = omega arith

-- ---- what the reader of a number says

-- field number k was read as the number v, and the next field starts at `next`
pub record NumberRead (limit k : ℕ) (text : List ℕ) (v next : ℕ) : Type 0 where
  pub plain : plain_up_to limit (field k text) ≡ true
  pub is : value 10 0 (field k text) ≡ v
  pub within : v ≤ limit
  pub starts : Starts (suc k) next text
  pub inside : next ≤ length text + 1
  -- it is the last field exactly if the next one would start after the end
  pub last : next ≡ length text + 1 → field k text ≡ after_fields k text
  pub ends : field k text ≡ after_fields k text → next ≡ length text + 1

-- the answer that there is a number, and that there is none
number-says : (limit : ℕ) (text : List ℕ) (at v next : ℕ) → number_at limit text at ≡ Some (v, next)
    → (plain_up_to limit (first_field (drop at text)) ≡ true) × (value 10 0 (first_field (drop at text)) ≡ v) × (at + length (first_field (drop at text)) + 1 ≡ next)
unfolding number_at
number-says limit text at v next e = go (plain_up_to limit (first_field (drop at text))) refl e
  where
    go : (t : Bool) → plain_up_to limit (first_field (drop at text)) ≡ t
        → cond {A = Option (ℕ × ℕ)} t (Some (value 10 0 (first_field (drop at text)), at + length (first_field (drop at text)) + 1)) None ≡ Some (v, next)
        → (plain_up_to limit (first_field (drop at text)) ≡ true)
        × (value 10 0 (first_field (drop at text)) ≡ v)
        × (at + length (first_field (drop at text)) + 1 ≡ next)
    go true plain h = let (is, sum) = some_pair_parts _ _ _ _ h in (plain, is, sum)
    go false plain h = absurd (none-some _ h)

number-denies : (limit : ℕ) (text : List ℕ) (at : ℕ) → number_at limit text at ≡ None → plain_up_to limit (first_field (drop at text)) ≡ false
unfolding number_at
number-denies limit text at e = go (plain_up_to limit (first_field (drop at text))) e
  where
    go : (t : Bool) → cond {A = Option (ℕ × ℕ)} t (Some (value 10 0 (first_field (drop at text)), at + length (first_field (drop at text)) + 1)) None ≡ None → t ≡ false
    go true h = cc
    go false h = refl

-- a number that is read is at most its limit
pub number-within : (limit : ℕ) (text : List ℕ) (at v next : ℕ) → number_at limit text at ≡ Some (v, next) → v ≤ limit
number-within limit text at v next e =
    let (plain, is, sum) = number-says limit text at v next e in
    omega (arith, plain-within limit (first_field (drop at text)) plain)

-- so, of a field that starts at index `at`: it is the number that was read there,
module _ (limit : ℕ) {k at : ℕ} {text : List ℕ} {read : Option (ℕ × ℕ)} (start : Starts k at text) (reader : read ≡ number_at limit text at) where
  pub number_read : {v next : ℕ} → read ≡ Some (v, next) → NumberRead limit k text v next
  unfolding after_fields rest_after_field
  number_read {v} {next} e =
      let (plain, is, sum) = number-says limit text at v next (sym reader ∙ e) in
      let some = some-plain limit (drop at text) plain in
      let size = length-drop at text in
      let length-is = first-length (drop at text) in
      let bound = before-le space (drop at text) in
      record {
        plain = rw start.here plain;
        is = rw start.here is;
        within = omega (arith, is, plain-within limit (first_field (drop at text)) plain);
        starts =
            record {
              here =
                  ap (λ (xs : List ℕ). drop (suc (before space xs)) xs) start.here
                  ∙ drop-drop (suc (before space (drop at text))) at text
                  ∙ ap (λ (j : ℕ). drop j text) (let same : at + suc (before space (drop at text)) ≡ next = omega arith in same);
            };
        inside = omega arith;
        last = λ end. rw start.here (first-whole (drop at text) (omega arith));
        ends = λ whole. omega (arith, ap length (rw start.here at whole));
      }

  -- or no number of at most the limit
  pub number-missing : read ≡ None → plain_up_to limit (field k text) ≡ true → ⊥
  number-missing e plain = true≢false (sym (rw start.here at plain) ∙ number-denies limit text at (sym reader ∙ e))

-- ---- the number at the start of a part of a text is the number at the index at which the part starts

module _ (limit : ℕ) (text : List ℕ) (at : ℕ) where
  -- after the end there is none,
  pub number-beyond : length text ≤ at → number_at limit text at ≡ None
  unfolding number_at first_field before
  number-beyond h = rw (drop_of_length-le text {i = at} h, empty-plain limit)

  pub none-shifted : number_at limit (drop at text) 0 ≡ None → number_at limit text at ≡ None
  unfolding number_at
  none-shifted e = rw (number-denies limit (drop at text) 0 e)

  pub number-shifted : (v next : ℕ) → number_at limit (drop at text) 0 ≡ Some (v, next) → number_at limit text at ≡ Some (v, at + next)
  unfolding number_at
  number-shifted v next e =
      let (plain, is, sum) = number-says limit (drop at text) 0 v next e in
      rw (plain, is) (ap (λ (n : ℕ). Some (v, n)) (omega arith))
