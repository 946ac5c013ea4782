-- What the search over our records finds: the claims of specs/FreeNumber.antt, each by induction on how many records are left.
-- Assumes nothing.
use mathlib.Core.Path.{◌≡◌, refl, sym, ap, ◌∙◌, subst}
use mathlib.Core.Logic.{◌⊎◌, inl, inr}
use mathlib.Core.Bool.{Bool, true, false, cond, true≢false}
use mathlib.Core.List.{List}
use Prim.Native.Nat.{ℕ, zero, suc, ◌+◌, ◌≤◌, ◌<◌, zero-le}
use native.Mathlib.Omega.{arith}
use lib.Arith.{lt_of_le-ne}
use lib.Dec.{eqb}
use borrow.Author.Tests.{eqb-true, eqb-false}
use Rattle.octets.specs.Octets.{blank}
use Rattle.refusal.specs.Outcome.{Outcome, refused, done, checked, ◌and_then◌}
use Rattle.refusal.proofs.Reasons.{refused-not-done, asked, refused-asked}
use Rattle.config.specs.declared.Config.{Config}
use Rattle.config.specs.Config.{slots}
use Rattle.record.specs.Record.{well_formed}
use Rattle.calls.specs.Broadcast.{search, broadcast_reasons, broadcast}
use Rattle.calls.specs.FreeNumber.{own_record, Used, LowestFree, MalformedBeforeFree, AllUsed, AnnouncedIsLowestFree, RefusedByMalformed, RefusedByAllUsed, SearchDecides, SearchEnds}

module _ (config : Config) (records : List ℕ) where
  -- ---- one look

  module _ (seq left : ℕ) where
    pub look-free : blank (own_record config records seq) ≡ true → search config records seq (suc left) ≡ done seq
    unfolding search
    look-free b = rw b

    pub look-used : Used config records seq → search config records seq (suc left) ≡ search config records (suc seq) left
    unfolding search
    look-used u = rw (u.not_blank, u.formed)

    pub look-malformed : blank (own_record config records seq) ≡ false → well_formed config config.own (own_record config records seq) ≡ false
        → search config records seq (suc left) ≡ refused 21
    unfolding search
    look-malformed b f = rw (b, f)

  -- a number from this one on is this one, or comes after it
  split_from : (P : ℕ → Type 0) (seq k : ℕ) → seq ≤ k → P seq → (suc seq ≤ k → P k) → P k
  split_from P seq k from here later = go (eqb seq k) refl
    where
      go : (b : Bool) → eqb seq k ≡ b → P k
      go true e = subst P (eqb-true seq k e) here
      go false e = later (lt_of_le-ne from (eqb-false seq k e))

  -- ---- what is found

  -- The first record that is not both well-formed and in use decides.
  pub data Finds (seq left : ℕ) : Outcome ℕ → Type 0 where
    finds-free : (k : ℕ) → seq ≤ k → k < seq + left → blank (own_record config records k) ≡ true → ((j : ℕ) → seq ≤ j → j < k → Used config records j)
        → Finds seq left (done k)
    finds-malformed : (k : ℕ) → seq ≤ k → k < seq + left → well_formed config config.own (own_record config records k) ≡ false
        → ((j : ℕ) → seq ≤ j → j ≤ k → blank (own_record config records j) ≡ false) → Finds seq left (refused 21)
    finds-none : ((j : ℕ) → seq ≤ j → j < seq + left → Used config records j) → Finds seq left (refused 25)

  -- with one more that is in use before
  used-first : (seq left : ℕ) (o : Outcome ℕ) → Used config records seq → Finds (suc seq) left o → Finds seq (suc left) o
  used-first seq left o u (finds-free k from to free before) =
      finds-free k (omega arith) (omega arith) free
      (λ j h l. split_from (Used config records) seq j h u (λ later. before j later l))
  used-first seq left o u (finds-malformed k from to malformed none) =
      finds-malformed k (omega arith) (omega arith) malformed
      (λ j h l. split_from (λ i. blank (own_record config records i) ≡ false) seq j h u.not_blank (λ later. none j later l))
  used-first seq left o u (finds-none all) =
      finds-none (λ j h l. split_from (Used config records) seq j h u (λ later. all j later (omega arith)))

  pub search-finds : (seq left : ℕ) → Finds seq left (search config records seq left)
  unfolding search
  search-finds seq zero = finds-none (λ j h l. absurd (omega arith))
  search-finds seq (suc left) =
      go (search-finds (suc seq) left) (blank (own_record config records seq)) refl (well_formed config config.own (own_record config records seq)) refl
    where
      go : Finds (suc seq) left (search config records (suc seq) left)
          → (b : Bool) → blank (own_record config records seq) ≡ b → (f : Bool) → well_formed config config.own (own_record config records seq) ≡ f
          → Finds seq (suc left) (cond b (done seq) (cond f (search config records (suc seq) left) (refused 21)))
      go below true b f k = finds-free seq (omega arith) (omega arith) b (λ j h l. absurd (omega arith))
      go below false b true f = used-first seq left _ (record { formed = f; not_blank = b }) below
      go below false b false f =
          finds-malformed seq (omega arith) (omega arith) f (λ j h l. let e : seq ≡ j = omega arith in rw (← e) b)

  -- ---- and back

  free-found : (seq left k : ℕ) → seq ≤ k → k < seq + left → blank (own_record config records k) ≡ true → ((j : ℕ) → seq ≤ j → j < k → Used config records j)
      → search config records seq left ≡ done k
  free-found seq zero k from to free before = absurd (omega arith)
  free-found seq (suc left) k from to free before = go (λ more. free-found (suc seq) left k more (omega arith) free (λ j h. before j (omega arith))) (eqb seq k) refl
    where
      go : (suc seq ≤ k → search config records (suc seq) left ≡ done k) → (b : Bool) → eqb seq k ≡ b → search config records seq (suc left) ≡ done k
      go later true e = let here : seq ≡ k = eqb-true seq k e in look-free seq left (rw here free) ∙ ap done here
      go later false e =
          let more : suc seq ≤ k = lt_of_le-ne from (eqb-false seq k e) in
          look-used seq left (before seq (omega arith) more) ∙ later more

  malformed-found : (seq left k : ℕ) → seq ≤ k → k < seq + left → well_formed config config.own (own_record config records k) ≡ false
      → ((j : ℕ) → seq ≤ j → j ≤ k → blank (own_record config records j) ≡ false) → search config records seq left ≡ refused 21
  malformed-found seq zero k from to malformed none = absurd (omega arith)
  malformed-found seq (suc left) k from to malformed none =
      go (λ more. malformed-found (suc seq) left k more (omega arith) malformed (λ j h. none j (omega arith)))
      (well_formed config config.own (own_record config records seq)) refl
    where
      here : blank (own_record config records seq) ≡ false
      here = none seq (omega arith) from

      go : (suc seq ≤ k → search config records (suc seq) left ≡ refused 21) → (f : Bool) → well_formed config config.own (own_record config records seq) ≡ f
          → search config records seq (suc left) ≡ refused 21
      go later true f =
          let other : seq ≡ k → ⊥ = λ e. true≢false (sym f ∙ rw e malformed) in
          look-used seq left (record { formed = f; not_blank = here }) ∙ later (lt_of_le-ne from other)
      go later false f = look-malformed seq left here f

  none_found : (seq left : ℕ) → ((j : ℕ) → seq ≤ j → j < seq + left → Used config records j) → search config records seq left ≡ refused 25
  unfolding search
  none_found seq zero all = refl
  none_found seq (suc left) all =
      look-used seq left (all seq (omega arith) (omega arith)) ∙ none_found (suc seq) left (λ j h l. all j (omega arith) (omega arith))

-- ---- the answer

module _ (config : Config) (payload records out : List ℕ) where
  -- an answer that is by none of 1, 9, 10 and 20 is the search's,
  found-by-search : (o : Outcome ℕ) → broadcast config payload records out ≡ o
      → ((number : ℕ) → o ≡ refused number → asked number (broadcast_reasons config payload records out) ≡ false) → search config records 0 slots ≡ o
  unfolding broadcast
  found-by-search o e other = go (checked (broadcast_reasons config payload records out)) refl e
    where
      go : (c : Outcome Unit) → checked (broadcast_reasons config payload records out) ≡ c → (c and_then (λ _. search config records 0 slots)) ≡ o
          → search config records 0 slots ≡ o
      go (refused number) h f = absurd (true≢false (sym (refused-asked (broadcast_reasons config payload records out) tt number h) ∙ other number (sym f)))
      go (done first) h f = f

  -- and so is what it finds
  pub finds : (o : Outcome ℕ) → broadcast config payload records out ≡ o
      → ((number : ℕ) → o ≡ refused number → asked number (broadcast_reasons config payload records out) ≡ false) → Finds config records 0 slots o
  finds o e other = subst (Finds config records 0 slots) (found-by-search o e other) (search-finds config records 0 slots)

  not-asked : (number other : ℕ) → ◌≡◌ {A = Outcome ℕ} (refused number) (refused other) → asked number (broadcast_reasons config payload records out) ≡ false
      → asked other (broadcast_reasons config payload records out) ≡ false
  not-asked number other e h = let same : number ≡ other = cc in rw (← same) h

-- what is found, as specs/FreeNumber.antt has it
module _ (config : Config) (records : List ℕ) where
  found-free : (seq : ℕ) → Finds config records 0 slots (done seq) → LowestFree config records seq
  found-free seq = go (done seq) refl
    where
      go : (o : Outcome ℕ) → o ≡ done seq → Finds config records 0 slots o → LowestFree config records seq
      go o is (finds-free k from to free before) =
          let same : k ≡ seq = cc in
          record { ours = omega arith; free = rw (← same) free; before = λ j l. before j zero-le (omega arith) }
      go o is (finds-malformed k from to malformed none) = absurd (refused-not-done 21 seq is)
      go o is (finds-none all) = absurd (refused-not-done 25 seq is)

  found-malformed : Finds config records 0 slots (refused 21) → (seq : ℕ) × MalformedBeforeFree config records seq
  found-malformed = go (refused 21) refl
    where
      go : (o : Outcome ℕ) → o ≡ refused 21 → Finds config records 0 slots o → (seq : ℕ) × MalformedBeforeFree config records seq
      go o is (finds-free k from to free before) = absurd (refused-not-done 21 k (sym is))
      go o is (finds-malformed k from to malformed none) =
          (k, record { ours = omega arith; malformed = malformed; none_free = λ j l. none j zero-le l })
      go o is (finds-none all) = let same : ◌≡◌ {A = ℕ} 25 21 = cc in absurd (omega arith)

  found_none : Finds config records 0 slots (refused 25) → AllUsed config records
  found_none = go (refused 25) refl
    where
      go : (o : Outcome ℕ) → o ≡ refused 25 → Finds config records 0 slots o → AllUsed config records
      go o is (finds-free k from to free before) = absurd (refused-not-done 25 k (sym is))
      go o is (finds-malformed k from to malformed none) = let same : ◌≡◌ {A = ℕ} 21 25 = cc in absurd (omega arith)
      go o is (finds-none all) = λ k l. all k zero-le (omega arith)

pub announced-is-lowest-free : AnnouncedIsLowestFree
announced-is-lowest-free config payload records out seq e =
    found-free config records seq (finds config payload records out (done seq) e (λ number f. absurd (refused-not-done number seq (sym f))))

pub refused-by-malformed : RefusedByMalformed
unfolding broadcast_reasons
refused-by-malformed config payload records out e =
    found-malformed config records (finds config payload records out (refused 21) e (λ number f. not-asked config payload records out 21 number f refl))

pub refused-by-all-used : RefusedByAllUsed
unfolding broadcast_reasons
refused-by-all-used config payload records out e =
    found_none config records (finds config payload records out (refused 25) e (λ number f. not-asked config payload records out 25 number f refl))

pub search-ends : SearchEnds
search-ends config records = go (search config records 0 slots) (search-finds config records 0 slots)
  where
    go : (o : Outcome ℕ) → Finds config records 0 slots o
        → ((seq : ℕ) × LowestFree config records seq) ⊎ ((seq : ℕ) × MalformedBeforeFree config records seq) ⊎ AllUsed config records
    go o (finds-free k from to free before) = inl (k, found-free config records k (finds-free k from to free before))
    go o (finds-malformed k from to malformed none) = inr (inl (found-malformed config records (finds-malformed k from to malformed none)))
    go o (finds-none all) = inr (inr (found_none config records (finds-none all)))

pub search-decides : SearchDecides
unfolding broadcast
search-decides config payload records out e = (
  λ seq h. rw e (free-found config records 0 slots seq zero-le (omega (arith, h.ours)) h.free (λ j from. h.before j)),
  λ seq h. rw e (malformed-found config records 0 slots seq zero-le (omega (arith, h.ours)) h.malformed (λ j from. h.none_free j)),
  λ h. rw e (none_found config records 0 slots (λ j from l. h j (omega arith))),
)
