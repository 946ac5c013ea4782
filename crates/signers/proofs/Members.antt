-- Words as sets of nodes: the members of a union and of an insertion, what it means that a word is within n, and that the count of a word's ones
-- is the number of its members. From the definitions of specs/Signers.antt and the laws of counts, for words of any length n. Assumes nothing.
use mathlib.Core.Bool.{Bool, true, false, not, cond, ◌&&◌, ◌||◌, true≢false, and-false, and-true, or-false, or-true}
use mathlib.Core.Logic.{◌⊎◌, inl, inr}
use mathlib.Core.Path.{◌≡◌, refl, sym, ap, ap₂, ◌∙◌}
use Prim.Native.Nat.{ℕ, zero, suc, ◌+◌, ◌*◌, ◌/◌, ◌%◌, ◌^◌, ◌-◌, ◌≤◌, ◌<◌, zero-le, suc-le-suc}
use native.Mathlib.Nat.{eq-zero-or-pos, zero-lt-suc, lt_of_lt_of_le, lt_of_not-le, lt-suc_self, one-mul, pow-suc, mod-lt, mul-mod_left, div-one, div-eq_of_lt, div-eq_of_lt-le}
use native.Mathlib.Numerals.{one-add}
use native.Mathlib.Omega.{arith}
use borrow.Author.Tests.{ltb-true, ltb-false, lt-ltb, le-ltb, leb-true, leb-false, le-leb, lt-leb, eqb-true, eqb-false, eq-eqb, ne_eqb}
use lib.Arith.{lt_of_le-ne}
use lib.Bits.{bit_and, bit_or, or_shr, or_mod, or_lt, and_shr, and_mod, and_lt, and_zero_r}
use lib.Count.{ones_step, ones-le, leading_top}
use lib.Dec.{ltb, leb, eqb, leb-suc-suc, eqb-suc-suc, eqb-zero-suc, eqb-suc-zero, lit<}
use lib.Pow.{pow_pos, pow_mono, pow-lt, shr-shr, shl_exact, ones_split, ones_lt, high, le_ones, lt_of_le_ones}
use Rattle.signers.specs.Sets.{NodeSet, indicator, count, both, either}
use Rattle.signers.specs.Signers.{member, insert, without, union, common, size, meets, below, within}
use Rattle.signers.specs.Words.{set_word}
use Rattle.signers.proofs.Counting.{count_same, count-mono, count_none, count-single, count-some, count-first, count-either, quorums-share-correct}

-- ---- the bits of a word

-- a test as a bit, and a bit as a test
eqb-indicator : (p : Bool) → eqb (indicator p) 1 ≡ p
eqb-indicator true = refl
eqb-indicator false = refl

indicator-eqb : (x : ℕ) → x < 2 → x ≡ indicator (eqb x 1)
indicator-eqb zero h = refl
indicator-eqb (suc zero) h = refl
indicator-eqb (suc (suc x)) h = absurd (omega arith)

-- bit u is 1 for a member and 0 for any other node
pub bit-member : (a u : ℕ) → a / 2 ^ u % 2 ≡ indicator (member a u)
unfolding member
bit-member a u = indicator-eqb (a / 2 ^ u % 2) (mod-lt (a / 2 ^ u) (zero-lt-suc 1))

-- the lowest bit stands for node 0
pub lowest-member : (a : ℕ) → a % 2 ≡ indicator (member a 0)
lowest-member a = ap (λ (x : ℕ). x % 2) (sym (div-one a)) ∙ bit-member a 0

-- the other bits stand for the nodes that follow
pub member-half : (a u : ℕ) → member (a / 2) u ≡ member a (suc u)
unfolding member
member-half a u = rw (shr-shr a 1 u, one-add)

-- a word below 2 to the power n has no node of n or more
pub member_below : (a n u : ℕ) → a < 2 ^ n → n ≤ u → member a u ≡ false
unfolding member
member_below a n u h l = rw (div-eq_of_lt (lt_of_lt_of_le h (pow_mono l)))

-- a word of n nodes is known by its members
pub same-members : (a b n : ℕ) → a < 2 ^ n → b < 2 ^ n → ((u : ℕ) → u < n → member a u ≡ member b u) → a ≡ b
same-members a b zero ha hb h = omega arith
same-members a b (suc n) ha hb h =
    let ha' : a / 2 < 2 ^ n = omega (arith, pow-suc 2 n) in
    let hb' : b / 2 < 2 ^ n = omega (arith, pow-suc 2 n) in
    let halves = same-members (a / 2) (b / 2) n ha' hb' (λ u l. member-half a u ∙ h (suc u) (suc-le-suc l) ∙ sym (member-half b u)) in
    omega (arith, lowest-member a, lowest-member b, ap indicator (h 0 (zero-lt-suc n)))

-- n ones stand for the nodes 0 to n - 1
pub member-ones : (n u : ℕ) → member (2 ^ n - 1) u ≡ ltb u n
unfolding member
member-ones zero u = member_below 0 0 u (lit< tt) (zero-le) ∙ sym (le-ltb u 0 zero-le)
member-ones (suc n) zero =
    let odd : (2 ^ suc n - 1) % 2 ≡ 1 = omega (arith, pow-suc 2 n, pow_pos n) in
    rw (div-one, odd, lt-ltb 0 (suc n) (zero-lt-suc n))
member-ones (suc n) (suc u) =
    let half : (2 ^ suc n - 1) / 2 ≡ 2 ^ n - 1 = omega (arith, pow-suc 2 n, pow_pos n) in
    sym (member-half (2 ^ suc n - 1) u) ∙ rw (half, leb-suc-suc) (member-ones n u)

-- ---- unions and insertions

-- the members of what an operation on each bit apart makes of two words
module _ (op : ℕ → ℕ → ℕ) (f : Bool → Bool → Bool)
    (shifted : (a b k : ℕ) → op a b / 2 ^ k ≡ op (a / 2 ^ k) (b / 2 ^ k))
    (masked : (a b k : ℕ) → op a b % 2 ^ k ≡ op (a % 2 ^ k) (b % 2 ^ k))
    (digit : (p q : Bool) → op (indicator p) (indicator q) ≡ indicator (f p q)) where
  member-op : (a b u : ℕ) → member (op a b) u ≡ f (member a u) (member b u)
  unfolding member
  member-op a b u =
      let bits = masked (a / 2 ^ u) (b / 2 ^ u) 1 ∙ ap₂ op (bit-member a u) (bit-member b u) ∙ digit (member a u) (member b u) in
      rw (shifted a b u, bits, eqb-indicator)

-- the operations on one bit
or-digit : (p q : Bool) → bit_or (indicator p) (indicator q) ≡ indicator (p || q)
or-digit true true = refl
or-digit true false = refl
or-digit false q = refl

and-digit : (p q : Bool) → bit_and (indicator p) (indicator q) ≡ indicator (p && q)
and-digit true true = refl
and-digit true false = refl
and-digit false q = refl

-- a node is in the union if it is in one of the words
pub member_union : (a b u : ℕ) → member (union a b) u ≡ (member a u || member b u)
member_union = member-op bit_or (λ p q. p || q) or_shr or_mod or-digit

-- a node is in the common part if it is in both words
pub member-common : (a b u : ℕ) → member (common a b) u ≡ (member a u && member b u)
member-common = member-op bit_and (λ p q. p && q) and_shr and_mod and-digit

-- the word 2 to the power v has node v alone
pub member-power : (v u : ℕ) → member (2 ^ v) u ≡ eqb u v
unfolding member
member-power zero zero = refl
member-power (suc v) zero = rw (div-one, pow-suc, mul-mod_left, eqb-zero-suc v)
member-power zero (suc u) = member_below 1 1 (suc u) (lit< tt) (omega arith) ∙ sym (eqb-suc-zero u)
member-power (suc v) (suc u) =
    let half : 2 ^ suc v / 2 ≡ 2 ^ v = omega (arith, pow-suc 2 v) in
    sym (member-half (2 ^ suc v) u) ∙ rw (half, eqb-suc-suc) (member-power v u)

-- the bit of a node below 64 fits a word
pub node-bit : (v : ℕ) → v < 64 → (1 * 2 ^ v) % 2 ^ 64 ≡ 2 ^ v
node-bit v h = shl_exact 1 v 64 (lit< tt) (omega arith) ∙ one-mul (2 ^ v)

-- a node with a bit is inserted by setting it
pub insert-bit : (a v : ℕ) → v < 64 → insert a v ≡ bit_or a (2 ^ v)
unfolding insert
insert-bit a v h = rw (lt-ltb v 64 h)

-- a node without a bit is not inserted
pub insert-past : (a v : ℕ) → 64 ≤ v → insert a v ≡ a
unfolding insert
insert-past a v h = rw (le-ltb v 64 h)

-- an insertion adds one node and no other
pub member-insert : (a v u : ℕ) → v < 64 → member (insert a v) u ≡ (member a u || eqb u v)
member-insert a v u h = rw (insert-bit a v h, member_union, member-power)

-- so it is in, and so is every node that was in
pub insert-own : (a v : ℕ) → v < 64 → member (insert a v) v ≡ true
insert-own a v h = member-insert a v v h ∙ rw (eq-eqb v v refl) (or-true (member a v))

pub insert-keeps : (a v u : ℕ) → v < 64 → member a u ≡ true → member (insert a v) u ≡ true
insert-keeps a v u h m = member-insert a v u h ∙ rw m

-- every node of either word is in their union
pub union_left : (a b u : ℕ) → member a u ≡ true → member (union a b) u ≡ true
union_left a b u m = member_union a b u ∙ rw m

pub union_right : (a b u : ℕ) → member b u ≡ true → member (union a b) u ≡ true
union_right a b u m = member_union a b u ∙ rw m (or-true (member a u))

-- nobody is in the empty word
pub nobody : (u : ℕ) → member 0 u ≡ false
nobody u = member_below 0 0 u (pow_pos 0) zero-le

-- a word that has a node is no smaller than that node's bit
member-weight : (a v : ℕ) → member a v ≡ true → 2 ^ v ≤ a
member-weight a v m = go (leb (2 ^ v) a) refl
  where
    go : (b : Bool) → leb (2 ^ v) a ≡ b → 2 ^ v ≤ a
    go true e = leb-true (2 ^ v) a e
    go false e = absurd (true≢false (sym m ∙ member_below a v v (leb-false (2 ^ v) a e) (omega arith)))

-- node 0 is in a word by its remainder
member-zero : (a : ℕ) → member a 0 ≡ eqb (a % 2) 1
unfolding member
member-zero a = rw div-one

-- with that bit taken off, the node is out and every other node is as it was
bit-off : (a v u : ℕ) → member a v ≡ true → member (a - 2 ^ v) u ≡ (member a u && not (eqb u v))
bit-off a zero zero m =
    let odd : a % 2 ≡ 1 = lowest-member a ∙ ap indicator m in
    let even : (a - 1) % 2 ≡ 0 = omega arith in
    member-zero (a - 1) ∙ rw even (sym (and-false (member a 0)))
bit-off a zero (suc u) m =
    let odd : a % 2 ≡ 1 = lowest-member a ∙ ap indicator m in
    let half : (a - 1) / 2 ≡ a / 2 = omega arith in
    sym (member-half (a - 1) u) ∙ rw (half, member-half a u, eqb-suc-zero u) (sym (and-true (member a (suc u))))
bit-off a (suc v) zero m =
    let weight = member-weight a (suc v) m in
    let same : (a - 2 ^ suc v) % 2 ≡ a % 2 = omega (arith, pow-suc 2 v) in
    member-zero (a - 2 ^ suc v) ∙ rw (same, ← member-zero a, eqb-zero-suc v) (sym (and-true (member a 0)))
bit-off a (suc v) (suc u) m =
    let weight = member-weight a (suc v) m in
    let half : (a - 2 ^ suc v) / 2 ≡ a / 2 - 2 ^ v = omega (arith, pow-suc 2 v) in
    sym (member-half (a - 2 ^ suc v) u) ∙ rw (half, bit-off (a / 2) v u (member-half a v ∙ m), member-half a u, eqb-suc-suc)

-- a word without a node has every other node that it had
pub member-without : (a v u : ℕ) → member (without a v) u ≡ (member a u && not (eqb u v))
unfolding without
member-without a v u = go (member a v) refl (eqb u v) refl
  where
    go : (m : Bool) → member a v ≡ m → (b : Bool) → eqb u v ≡ b → member (cond m (a - 2 ^ v) a) u ≡ (member a u && not (eqb u v))
    go true m b e = bit-off a v u m
    go false m true e = rw (eqb-true u v e, m)
    go false m false e = rw e (sym (and-true (member a u)))

-- ---- words within n

-- within n: below 2 to the power n
pub within-lt : (a n : ℕ) → within a n ≡ true → a < 2 ^ n
unfolding within
within-lt a n = ltb-true a (2 ^ n)

-- and back
pub lt-within : (a n : ℕ) → a < 2 ^ n → within a n ≡ true
unfolding within
lt-within a n = lt-ltb a (2 ^ n)

-- k ones shifted out of j + k leave j ones
ones-shift : (j k : ℕ) → (2 ^ (j + k) - 1) / 2 ^ k ≡ 2 ^ j - 1
ones-shift j k = ap (λ (x : ℕ). x / 2 ^ k) (ones_split j k) ∙ high (2 ^ j - 1) k (ones_lt k)

-- the nodes below n: n ones, which 64 ones shifted down by 64 - n are, and 64 of them for any n above
pub below-ones : (n : ℕ) → n ≤ 64 → below n ≡ 2 ^ n - 1
unfolding below
below-ones n h = rw (le-leb n 64 h)

pub below-shift : (n : ℕ) → n ≤ 64 → (2 ^ 64 - 1) / 2 ^ (64 - n) ≡ below n
below-shift n h =
    let e : n + (64 - n) ≡ 64 = omega arith in
    let shifted : (2 ^ 64 - 1) / 2 ^ (64 - n) ≡ 2 ^ n - 1 = rw e at (ones-shift n (64 - n)) in
    shifted ∙ sym (below-ones n h)

pub below-past : (n : ℕ) → 64 < n → below n ≡ 2 ^ 64 - 1
unfolding below
below-past n h = rw (lt-leb n 64 h)

-- a word of 64 bits is within n where it is at most that, and only there
pub within-below : (a n : ℕ) → a < 2 ^ 64 → leb a (below n) ≡ within a n
within-below a n word = go (leb n 64) refl
  where
    small : n ≤ 64 → (b : Bool) → within a n ≡ b → leb a (below n) ≡ b
    small h true e = rw (below-ones n h) (le-leb a (2 ^ n - 1) (le_ones n (within-lt a n e)))
    small h false e =
        rw (below-ones n h) (lt-leb a (2 ^ n - 1) (lt_of_not-le (λ l. true≢false (sym (lt-within a n (lt_of_le_ones n l)) ∙ e))))

    go : (b : Bool) → leb n 64 ≡ b → leb a (below n) ≡ within a n
    go true e = small (leb-true n 64 e) (within a n) refl
    go false e =
        let past : 64 < n = leb-false n 64 e in
        let wide : 64 ≤ n = omega arith in
        rw (below-past n past) (le-leb a (2 ^ 64 - 1) (le_ones 64 word))
        ∙ sym (lt-within a n (lt_of_lt_of_le word (pow_mono wide)))

-- every member of a word within n is below n
pub within-says : (a n u : ℕ) → within a n ≡ true → member a u ≡ true → u < n
within-says a n u h m = lt_of_not-le (λ l. true≢false (sym m ∙ member_below a n u (within-lt a n h) l))

-- a word of any size has its bits below some n
below_power : (a : ℕ) → a < 2 ^ a
below_power zero = lit< tt
below_power (suc a) = omega (arith, below_power a, pow-suc 2 a)

-- the highest bit that is set stands for a member
highest-member : (a j : ℕ) → 2 ^ j ≤ a → a < 2 ^ suc j → member a j ≡ true
unfolding member
highest-member a j l h = rw (div-eq_of_lt-le {k = 1} (2 ^ j) {m = a} (omega arith) (omega (arith, pow-suc 2 j)))

-- a word whose members are all below n is within n
pub says-within : (a n : ℕ) → ((u : ℕ) → member a u ≡ true → u < n) → within a n ≡ true
says-within a n h = lt-within a n (go (eq-zero-or-pos a))
  where
    go : (a ≡ zero) ⊎ (zero < a) → a < 2 ^ n
    go (inl e) = rw e (pow_pos n)
    go (inr p) =
        let t = leading_top a a p (below_power a) in
        lt_of_lt_of_le t.3 (pow_mono (h t.0 (highest-member a t.0 t.2 t.3)))

-- a union of words within n is within n
pub within-union : (a b n : ℕ) → within a n ≡ true → within b n ≡ true → within (union a b) n ≡ true
within-union a b n ha hb = lt-within (union a b) n (or_lt n a b (within-lt a n ha) (within-lt b n hb))

-- a word within n with a node below n is within n
pub within-insert : (a v n : ℕ) → within a n ≡ true → v < n → within (insert a v) n ≡ true
unfolding insert
within-insert a v n h l = go (ltb v 64)
  where
    go : (m : Bool) → within (cond m (bit_or a (2 ^ v)) a) n ≡ true
    go true = within-union a (2 ^ v) n h (lt-within (2 ^ v) n (pow-lt l))
    go false = h

-- ---- the word of a set

pub word-within : (p : NodeSet) (n : ℕ) → within (set_word p n) n ≡ true
unfolding set_word
word-within p zero = lt-within 0 0 (pow_pos 0)
word-within p (suc n) =
    go (lt-within (set_word p n) (suc n) (lt_of_lt_of_le (within-lt (set_word p n) n (word-within p n)) (pow_mono (omega arith)))) (p n)
  where
    go : within (set_word p n) (suc n) ≡ true → (m : Bool) → within (cond m (insert (set_word p n) n) (set_word p n)) (suc n) ≡ true
    go wider true = within-insert (set_word p n) n (suc n) wider (lt-suc_self n)
    go wider false = wider

-- its members are those of the set
pub member-word : (p : NodeSet) (n u : ℕ) → n ≤ 64 → u < n → member (set_word p n) u ≡ p u
unfolding set_word
member-word p zero u most h = absurd (omega arith)
member-word p (suc n) u most h = go (p n) refl (eqb u n) refl (λ l. member-word p n u (omega arith) l)
  where
    go : (m : Bool) → p n ≡ m → (e : Bool) → eqb u n ≡ e → (u < n → member (set_word p n) u ≡ p u) → member (cond m (insert (set_word p n) n) (set_word p n)) u ≡ p u
    go true is true here below = rw (eqb-true u n here) (insert-own (set_word p n) n (omega arith) ∙ sym is)
    go true is false here below =
        let other = eqb-false u n here in
        member-insert (set_word p n) n u (omega arith) ∙ rw here (or-false (member (set_word p n) u) ∙ below (lt_of_le-ne (omega arith) other))
    go false is true here below = rw (eqb-true u n here) (member_below (set_word p n) n n (within-lt (set_word p n) n (word-within p n)) (omega arith) ∙ sym is)
    go false is false here below = let other = eqb-false u n here in below (lt_of_le-ne (omega arith) other)

-- and a word that has them is that one
pub word_same : (a : ℕ) (p : NodeSet) (n : ℕ) → n ≤ 64 → a < 2 ^ n → ((u : ℕ) → u < n → member a u ≡ p u) → a ≡ set_word p n
word_same a p n most h same =
    same-members a (set_word p n) n h (within-lt (set_word p n) n (word-within p n)) (λ u l. same u l ∙ sym (member-word p n u most l))

-- ---- sizes

-- the count of ones is the number of members
pub size-count : (a n : ℕ) → a < 2 ^ n → size a ≡ count (member a) n
unfolding count
size-count a zero h = omega (arith, ones-le 0 a h)
size-count a (suc n) h =
    let halves = size-count (a / 2) n (omega (arith, pow-suc 2 n)) in
    let follow = count_same (member (a / 2)) (λ u. member a (suc u)) n (λ u l. member-half a u) in
    omega (arith, ones_step a, lowest-member a, count-first (member a) n)

-- a word that stands for a set has its size
pub size_of : (a n : ℕ) (p : NodeSet) → a < 2 ^ n → ((u : ℕ) → u < n → member a u ≡ p u) → size a ≡ count p n
size_of a n p h same = size-count a n h ∙ count_same (member a) p n same

-- the size of a union is the number of nodes in one of the words
pub size-union-count : (a b n : ℕ) → within a n ≡ true → within b n ≡ true → size (union a b) ≡ count (either (member a) (member b)) n
size-union-count a b n ha hb =
    size_of (union a b) n (either (member a) (member b)) (within-lt (union a b) n (within-union a b n ha hb)) (λ u l. member_union a b u)

-- the two sizes have a node of both words twice: once for the union, once for the common part
pub size-union : (a b : ℕ) → size (union a b) + size (bit_and a b) ≡ size a + size b
size-union a b =
    let n = a + b in
    let ha : a < 2 ^ n = lt_of_lt_of_le (below_power a) (pow_mono (omega arith)) in
    let hb : b < 2 ^ n = lt_of_lt_of_le (below_power b) (pow_mono (omega arith)) in
    let united = size-union-count a b n (lt-within a n ha) (lt-within b n hb) in
    let common = size_of (bit_and a b) n (both (member a) (member b)) (and_lt n a b ha hb) (λ u l. member-common a b u) in
    omega (arith, size-count a n ha, size-count b n hb, count-either (member a) (member b) n)

-- a word whose members are all in another is no larger, so a union has no fewer members than either word
pub size_mono : (a b n : ℕ) → a < 2 ^ n → b < 2 ^ n → ((u : ℕ) → u < n → member a u ≡ true → member b u ≡ true) → size a ≤ size b
size_mono a b n ha hb h = omega (arith, size-count a n ha, size-count b n hb, count-mono (member a) (member b) n h)

-- a word with a member counts at least 1
pub size-some : (a n v : ℕ) → within a n ≡ true → member a v ≡ true → 0 < size a
size-some a n v h m = omega (arith, count-some (member a) n v (within-says a n v h m) m, size-count a n (within-lt a n h))

-- a node is one signer
size-power : (v : ℕ) → size (2 ^ v) ≡ 1
size-power v = size_of (2 ^ v) (suc v) (λ u. eqb u v) (pow-lt (lt-suc_self v)) (λ u l. member-power v u) ∙ count-single v (suc v) (lt-suc_self v)

-- a node that is not yet in the word makes it larger by one,
pub size-insert : (a v : ℕ) → v < 64 → member a v ≡ false → size (insert a v) ≡ suc (size a)
size-insert a v h absent =
    let n = a + suc v in
    let below : bit_and a (2 ^ v) < 2 ^ n = and_lt n a (2 ^ v) (lt_of_lt_of_le (below_power a) (pow_mono (omega arith))) (pow-lt (omega arith)) in
    let common : size (bit_and a (2 ^ v)) ≡ 0 = size_of (bit_and a (2 ^ v)) n (λ u. false) below (λ u l. member-common a (2 ^ v) u ∙ apart u (eqb u v) refl) ∙ count_none (λ u. false) n (λ u l. refl) in
    rw (insert-bit a v h) (omega (arith, size-union a (2 ^ v), size-power v))
  where
    apart : (u : ℕ) (b : Bool) → eqb u v ≡ b → (member a u && member (2 ^ v) u) ≡ false
    apart u true e = rw (eqb-true u v e, absent)
    apart u false e = rw (member-power v u, e) (and-false (member a u))

-- and one that is in it leaves it as it is
pub insert-known : (a v : ℕ) → v < 64 → member a v ≡ true → insert a v ≡ a
insert-known a v h present =
    let n = a + suc v in
    let ha : a < 2 ^ n = lt_of_lt_of_le (below_power a) (pow_mono (omega arith)) in
    let hv : 2 ^ v < 2 ^ n = pow-lt (omega arith) in
    same-members (insert a v) a n (rw (insert-bit a v h) (or_lt n a (2 ^ v) ha hv)) ha (λ u l. member-insert a v u h ∙ joined u (eqb u v) refl)
  where
    joined : (u : ℕ) (b : Bool) → eqb u v ≡ b → (member a u || eqb u v) ≡ member a u
    joined u true e = rw (eqb-true u v e, present)
    joined u false e = rw e (or-false (member a u))

-- a word meets a single node where that node is in it. One without a bit is in no word.
pub meets-node : (a v : ℕ) → a < 2 ^ 64 → meets a (insert 0 v) ≡ member a v
unfolding meets
meets-node a v word = go (ltb v 64) refl
  where
    common : v < 64 → (u : ℕ) → member (bit_and a (insert 0 v)) u ≡ (member a u && eqb u v)
    common h u = member-common a (insert 0 v) u ∙ ap (λ p. member a u && p) (member-insert 0 v u h ∙ ap (λ p. p || eqb u v) (nobody u))

    single : v < 64 → (b : Bool) → member a v ≡ b → not (eqb (bit_and a (insert 0 v)) 0) ≡ b
    single h true e =
        let own : member (bit_and a (insert 0 v)) v ≡ true = common h v ∙ rw (e, eq-eqb v v refl) in
        rw (ne_eqb (bit_and a (insert 0 v)) 0 (λ z. true≢false (sym own ∙ ap (λ x. member x v) z ∙ nobody v)))
    single h false e =
        let none : bit_and a (insert 0 v) ≡ 0 = same-members (bit_and a (insert 0 v)) 0 64 (and_lt 64 a (insert 0 v) word (rw (insert-bit 0 v h) (or_lt 64 0 (2 ^ v) (pow_pos 64) (pow-lt h)))) (pow_pos 64) (λ u l. common h u ∙ apart e u (eqb u v) refl ∙ sym (nobody u)) in
        rw (eq-eqb (bit_and a (insert 0 v)) 0 none)
      where
        apart : member a v ≡ false → (u : ℕ) (b : Bool) → eqb u v ≡ b → (member a u && eqb u v) ≡ false
        apart absent u true q = rw (eqb-true u v q, absent)
        apart absent u false q = rw q (and-false (member a u))

    go : (b : Bool) → ltb v 64 ≡ b → not (eqb (bit_and a (insert 0 v)) 0) ≡ member a v
    go true e = single (ltb-true v 64 e) (member a v) refl
    go false e =
        let past : 64 ≤ v = ltb-false v 64 e in
        rw (insert-past 0 v past, and_zero_r a) (sym (member_below a 64 v word past))

-- two words that hold a quorum each share a correct node
pub words-share-correct : (a b n t k : ℕ) (faulty : NodeSet) → within a n ≡ true → within b n ≡ true → n + t < k + k → count faulty n ≤ t
    → k ≤ size a → k ≤ size b → (u : ℕ) × (u < n) × (member a u ≡ true) × (member b u ≡ true) × (faulty u ≡ false)
words-share-correct a b n t k faulty ha hb big few la lb =
    let ca = size-count a n (within-lt a n ha) in
    let cb = size-count b n (within-lt b n hb) in
    quorums-share-correct (member a) (member b) faulty n t k big few (omega arith) (omega arith)
