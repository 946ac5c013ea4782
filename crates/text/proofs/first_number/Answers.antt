-- `first_number` meets its contract: the first i bytes are digits, and write a number of at most the limit. Assumes nothing.
use mathlib.Core.Path.{◌≡◌, refl, sym, ap, ap₂, ◌∙◌}
use mathlib.Core.Bool.{Bool, true, false, cond, and-eq-true_iff, true≢false}
use mathlib.Core.List.{List}
use Prim.Native.Nat.{ℕ, ◌+◌, ◌-◌, ◌*◌, ◌≤◌, ◌<◌}
use native.Mathlib.Nat.{zero-add, add-sub_of_le}
use native.Mathlib.Omega.{arith}
use lib.Dec.{leb}
use lib.ListN.{length, get_or, take, drop}
use lib.Seq.{take-add, get_or-take, length-take-le}
use borrow.Author.Tests.{leb-true, le-leb, ltb-true, eqb-true, eqb-false}
use Rattle.std.specs.Prelude.{Option, Some, None}
use Rattle.text.specs.Text.{before, space, first_field, only, digit, plain_number, plain_up_to, number_at}
use Rattle.text.specs.Text as spec
use Rattle.text.proofs.Fields.{found_here, not-here, not_there, before-le, first-length, only-says, only-more, plain-only}
use Rattle.text.proofs.DigitValues.{digit-says, digit-holds, digit_value_lem, value-append, value-mono, value-more, plain-lead, plain-holds}
use Rattle.text.proofs.first_number.Goals as goal
use Rattle.text.proofs.first_number.Goals.{else-loop-i-test, then-loop-i-test+then-byte-eq32, then-len-eq0-via-then-len-eq0, then-len-eq0-via-else-len-eq0+then-text-eq48, then-len-gt1, else-len-gt1, Else-byte-eq32, Else-not-is_ascii_digit, Left-loop-i}

-- a number that was read, and where the next field starts
abbrev number : ℕ → ℕ → Option (ℕ × ℕ)
number value next = Some (value, next)

module _ (limit : ℕ) (xs : List ℕ) where
  -- a field is refused if it is no plain number or writes one that is too large,
  refused : (plain_number (first_field xs) ≡ true → spec.value 10 0 (first_field xs) ≤ limit → ⊥) → None ≡ number_at limit xs 0
  unfolding number_at plain_up_to
  refused h = go (plain_up_to limit (first_field xs)) refl
    where
      go : (t : Bool) → plain_up_to limit (first_field xs) ≡ t → None ≡ cond t (number (spec.value 10 0 (first_field xs)) (0 + length (first_field xs) + 1)) None
      go true e =
          let (is, small) = (and-eq-true_iff (plain_number (first_field xs)) (leb (spec.value 10 0 (first_field xs)) limit)).0 e in
          absurd (h is (leb-true (spec.value 10 0 (first_field xs)) limit small))
      go false e = refl

  -- so where a byte of it is no digit,
  no_digit : (i : ℕ) → i < before space xs → (digit (get_or xs i 0) ≡ true → ⊥) → None ≡ number_at limit xs 0
  unfolding first_field
  no_digit i h other =
      refused
      (λ (is : plain_number (first_field xs) ≡ true) small.
      let inside : i < length (first_field xs) = omega (arith, first-length xs) in
      other (ap digit (sym (get_or-take (before space xs) xs i 0 h)) ∙ only-says digit (first_field xs) (plain-only (first_field xs) is) i inside))

  -- where the first i bytes write too much already,
  too_large : (i : ℕ) → i ≤ before space xs → limit < spec.value 10 0 (take i xs) → None ≡ number_at limit xs 0
  unfolding first_field
  too_large i h large =
      refused
      (λ (is : plain_number (first_field xs) ≡ true) (small : spec.value 10 0 (first_field xs) ≤ limit).
      let cut : spec.value 10 0 (take (i + (before space xs - i)) xs) ≡ spec.value 10 (spec.value 10 0 (take i xs)) (take (before space xs - i) (drop i xs)) =
      rw (take-add i (before space xs - i) xs) (value-append 10 0 (take i xs) (take (before space xs - i) (drop i xs))) in
      let whole : spec.value 10 0 (take (i + (before space xs - i)) xs) ≡ spec.value 10 0 (take (before space xs) xs) = rw (add-sub_of_le h) in
      omega (arith, value-mono (spec.value 10 0 (take i xs)) (take (before space xs - i) (drop i xs))))

  -- where it is empty,
  no_field : before space xs ≡ 0 → None ≡ number_at limit xs 0
  unfolding first_field plain_number
  no_field e = refused (λ (is : plain_number (first_field xs) ≡ true) small. true≢false (sym is ∙ ap (λ (k : ℕ). plain_number (take k xs)) e))

  -- and where it begins with a zero that is not all of it
  zero-first : 1 < before space xs → get_or xs 0 0 ≡ 48 → None ≡ number_at limit xs 0
  unfolding first_field spec.digit_value
  zero-first h e =
      refused
      (λ (is : plain_number (first_field xs) ≡ true) small.
      let lead : 0 < spec.digit_value (get_or (first_field xs) 0 0) = plain-lead (first_field xs) is (omega (arith, first-length xs)) in
      let none : spec.digit_value (get_or (first_field xs) 0 0) ≡ 0 = ap spec.digit_value (get_or-take (before space xs) xs 0 0 (omega arith) ∙ e) in
      omega arith)

  -- any other is taken
  taken : (i : ℕ) → before space xs ≡ i → 0 < i → only digit (take i xs) ≡ true → (1 < i → get_or xs 0 0 ≡ 48 → ⊥) → spec.value 10 0 (take i xs) ≤ limit
      → number (spec.value 10 0 (take i xs)) (i + 1) ≡ number_at limit xs 0
  unfolding number_at plain_up_to first_field
  taken i e pos digits other small =
      let count : length (take i xs) ≡ i = length-take-le i xs (omega (arith, before-le space xs)) in
      let is : plain_number (take i xs) ≡ true = plain-holds (take i xs) (omega arith) digits (λ (h : 1 < length (take i xs)) (f : get_or (take i xs) 0 0 ≡ 48). other (omega arith) (sym (get_or-take i xs 0 0 pos) ∙ f)) in
      rw (e, is, le-leb (spec.value 10 0 (take i xs)) limit small, count, zero-add i)

pub loop-i-init : goal.loop-i-init
unfolding only spec.value
loop-i-init c = (sym (zero-add _), refl, refl, omega arith, refl)

-- a byte that is no space is in the field
inside : (c : Else-byte-eq32) → c.loop-i.i < before space c.args.text.now
inside c =
    omega
    (arith, not-here space c.args.text.now c.loop-i.i c.loop-i.invariant.0 c.loop-i-test.true c.if-byte-eq32.false)

pub returns-then-not-is_ascii_digit : goal.returns-then-not-is_ascii_digit
returns-then-not-is_ascii_digit c =
    no_digit _ _ _ (inside (goal.at.returns-then-not-is_ascii_digit c).Else-byte-eq32)
    (λ e. let (low, high) = digit-says _ e in omega (arith, c.if-not-is_ascii_digit.ensures.cases))

-- a digit is read
read-on : (c : Else-not-is_ascii_digit)
    → c.loop-i.value * 10 + (get_or c.args.text.now c.loop-i.i 0 - 48)
    ≡ spec.value 10 0 (take (c.loop-i.i + 1) c.args.text.now)
read-on c =
    let xs = c.args.text.now in
    let i = c.loop-i.i in
    let digit-is : spec.digit_value (get_or xs i 0) ≡ get_or xs i 0 - 48 = digit_value_lem _ c.if-not-is_ascii_digit.ensures.cases.1 in
    let same : c.loop-i.value ≡ spec.value 10 0 (take i xs) = c.loop-i.invariant.2 in
    omega (arith, value-more 10 xs i c.loop-i-test.true)

pub returns-then-from-value : goal.returns-then-from-value
returns-then-from-value c =
    let field : c.loop-i.i < before space c.args.text.now = inside (goal.at.returns-then-from-value c).Else-byte-eq32 in
    let read = read-on (goal.at.returns-then-from-value c).Else-not-is_ascii_digit in
    too_large _ _ (c.loop-i.i + 1) (omega arith) (omega (arith, c.from.ensures, c.from-in-loop-i.ensures, c.if-from-value.true))

pub loop-i-preserved : goal.loop-i-preserved
loop-i-preserved c =
    let h = c.loop-i-test.true in (
      not-here _ _ _ c.loop-i.invariant.0 h c.if-byte-eq32.false,
      only-more digit _ _ h (digit-holds _ c.if-not-is_ascii_digit.ensures.cases.0 c.if-not-is_ascii_digit.ensures.cases.1) c.loop-i.invariant.1,
      rw c.from.ensures (read-on (goal.at.loop-i-preserved c).Else-not-is_ascii_digit),
      omega (arith, c.if-from-value.false),
      c.loop-i.invariant.4,
    )

-- after the loop, `len` is where the field ends, and i too
ended : (c : Left-loop-i) → (before space c.args.text.now ≡ c.loop-i-test.len) × (c.loop-i-test.len ≡ c.loop-i.i)
ended c =
    let n : ℕ = length c.args.text.now in
    elim c.loop-i-test.branch [
      | else-loop-i-test w ↦ let all : c.loop-i.i ≡ n = omega arith in (not_there _ _ _ c.loop-i.invariant.0 all ∙ all ∙ sym c.loop-i.invariant.4 ∙ sym w.len-is, w.len-is ∙ c.loop-i.invariant.4 ∙ sym all)
      | then-loop-i-test+then-byte-eq32 w ↦ (found_here _ _ _ c.loop-i.invariant.0 w.loop-i-test.true w.if-byte-eq32.true ∙ sym w.len-is, w.len-is)
    ]

pub returns-then-len-eq0 : goal.returns-then-len-eq0
returns-then-len-eq0 c =
    let (end, same) = ended (goal.at.returns-then-len-eq0 c).Left-loop-i in
    elim c.then-len-eq0.branch [
      | then-len-eq0-via-then-len-eq0 w ↦ no_field _ _ (end ∙ w.if-len-eq0.true)
      | then-len-eq0-via-else-len-eq0+then-text-eq48 w ↦
          elim w.if-len-gt1.branch [
            | then-len-gt1 v ↦ zero-first _ _ (omega arith) (eqb-true _ _ (sym v.value-is ∙ w.if-text-eq48.true))
            | else-len-gt1 v ↦ absurd (omega (arith, ltb-true _ _ (sym v.value-is ∙ w.if-text-eq48.true)))
          ]
    ]

pub returns : goal.returns
returns c =
    let xs = c.args.text.now in
    let (none, digits, read, small, all) = c.loop-i.invariant in
    let (end, same) = ended (goal.at.returns c).Left-loop-i in
    let other : 1 < c.loop-i-test.len → get_or xs 0 0 ≡ 48 → ⊥ =
    elim c.if-len-gt1.branch [ then-len-gt1 w ↦ λ h. eqb-false _ _ (sym w.value-is ∙ c.if-text-eq48.false) | else-len-gt1 w ↦ λ h. absurd (omega (arith, w.if-len-gt1.false)) ] in
    ap₂ number read (ap (λ (k : ℕ). k + 1) same)
    ∙ taken _ xs c.loop-i.i (end ∙ same) (omega arith) digits (rw same at other) (omega arith)
