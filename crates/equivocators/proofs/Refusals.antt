-- The refusals of the call, one after the other, and what it gives where none applies.
-- Assumes nothing.
use mathlib.Core.Path.{◌≡◌, refl, sym, ap, ap₂, ◌∙◌, fun_ext}
use mathlib.Core.Bool.{Bool, true, false, ◌&&◌, true≢false}
use mathlib.Core.List.{List}
use Prim.Native.Nat.{ℕ}
use lib.ListN.{length}
use borrow.Author.Tests.{eq-eqb, ne_eqb, eqb-true, not-false}
use Rattle.signers.specs.Words.{set_word}
use Rattle.refusal.specs.Outcome.{refused, done}
use Rattle.refusal.proofs.Reasons.{passed, failed, pass, stop, clear-done, done-clear, refused-first}
use Rattle.config.specs.declared.Config.{Config}
use Rattle.config.specs.Config.{good, slots, with_own, records_size}
use Rattle.protocol.specs.Trace.{each}
use Rattle.calls.specs.Open.{open_reasons}
use Rattle.calls.specs.Day.{day_of}
use Rattle.calls.proofs.Days as days
use Rattle.calls.specs.WellFormed.{slot_well_formed, sender_well_formed, all_well_formed}
use Rattle.equivocators.specs.Equivocators.{equivocates, equivocators_reasons, equivocators}
use Rattle.equivocators.specs.Inner.{first_reasons, first_of, all_formed}
use Rattle.equivocators.proofs.Below.{each_both}

-- ---- the first buffer

module _ (config : Config) (other : ℕ) (first : List ℕ) where
  -- a configuration that is not good with the other number is refused as one that is not good
  pub first-bad : good (with_own config other) ≡ false → first_of config other first ≡ refused 1
  first-bad h = go (good config) refl
    where
      go : (b : Bool) → good config ≡ b → first_of config other first ≡ refused 1
      go true g = pass 1 _ _ (passed g) ∙ stop 1 _ _ (failed h)
      go false g = stop 1 _ _ (failed g)

  -- and with one that is, the day itself is the rest of the test
  pub first-day : good (with_own config other) ≡ true → day_of config first ≡ first_of config other first
  unfolding day_of open_reasons
  first-day h = go (good config) refl
    where
      go : (b : Bool) → good config ≡ b → day_of config first ≡ first_of config other first
      go true g = pass 1 _ _ (passed g) ∙ sym (pass 1 _ _ (passed g) ∙ pass 1 _ _ (passed h))
      go false g = stop 1 _ _ (failed g) ∙ sym (stop 1 _ _ (failed g))

  -- what is known of the day that is made
  pub record Made (day : Config × List ℕ) : Type 0 where
    pub config_is : day.0 ≡ config
    pub records_is : day.1 ≡ first
    pub here_good : good config ≡ true
    pub there_good : good (with_own config other) ≡ true
    pub records_whole : length first ≡ records_size config

  pub first-made : (day : Config × List ℕ) → done day ≡ first_of config other first → Made day
  first-made day e =
      let (clear, same) = done-clear (first_reasons config other first) (config, first) day (sym e) in
      record {
        config_is = sym (ap (λ (d : Config × List ℕ). d.0) same);
        records_is = sym (ap (λ (d : Config × List ℕ). d.1) same);
        here_good = not-false _ clear.0;
        there_good = not-false _ clear.1.0;
        records_whole = eqb-true _ _ (not-false _ clear.1.1.0);
      }

  -- whether its records are well-formed
  pub first-formed : (day : Config × List ℕ) → Made day → all_well_formed config first ≡ all_well_formed day.0 day.1
  first-formed day m = sym (ap₂ all_well_formed m.config_is m.records_is)

-- ---- both

-- two days that are made of what was given
module _ (config : Config) (other : ℕ) (first second : List ℕ) (here there : Config × List ℕ)
    (m : Made config other first here) (n : days.Made (with_own config other) second there) where
  own_is : there.0.own ≡ other
  unfolding with_own
  own_is = ap (λ (k : Config). k.own) n.config_is

  -- are of one system,
  pub same-system : there.0 ≡ with_own here.0 there.0.own
  same-system = n.config_is ∙ sym (ap₂ with_own m.config_is own_is)

  -- and what is said of them is said of what was given
  pub told-of : {A : Type 0} (f : Config → ℕ → List ℕ → List ℕ → A) → f here.0 there.0.own here.1 there.1 ≡ f config other first second
  told-of f = rw (m.config_is, own_is, m.records_is, n.records_is)

module _ (config : Config) (other : ℕ) (first second : List ℕ) where
  abbrev there : Config
  there = with_own config other

  -- all records of both buffers are well-formed where those of the one and those of the other are
  pub both-formed : all_formed config other first second ≡ (all_well_formed config first && all_well_formed there second)
  unfolding all_well_formed sender_well_formed with_own
  both-formed =
      ap (λ (f : ℕ → Bool). each f config.n) (fun_ext (λ sender. each_both (slot_well_formed config first sender) (slot_well_formed there second sender) slots))
      ∙ each_both (sender_well_formed config first) (sender_well_formed there second) config.n

  -- what refuses the first day refuses the call
  pub refused-early : (number : ℕ) → refused number ≡ first_of config other first → equivocators config other first second ≡ refused number
  unfolding equivocators equivocators_reasons
  refused-early number e = refused-first _ (config, first) _ (first_reasons config other first) number (sym e)

  module _ (g : good config ≡ true) where
    module _ (h : good there ≡ true) where
      module _ (r : length first ≡ records_size config) where
        pub refused-formed : all_well_formed config first ≡ false → equivocators config other first second ≡ refused 21
        unfolding equivocators equivocators_reasons
        refused-formed f = pass 1 _ _ (passed g) ∙ (pass 1 _ _ (passed h) ∙ (pass 20 _ _ (passed (eq-eqb _ _ r)) ∙ stop 21 _ _ (failed f)))

        module _ (f : all_well_formed config first ≡ true) where
          -- what is left once the first buffer has passed
          pub refused-other-size : (length second ≡ records_size there → ⊥) → equivocators config other first second ≡ refused 20
          unfolding equivocators equivocators_reasons
          refused-other-size q =
              pass 1 _ _ (passed g) ∙ (pass 1 _ _ (passed h) ∙ (pass 20 _ _ (passed (eq-eqb _ _ r)) ∙ (pass 21 _ _ (passed f) ∙ stop 20 _ _ (failed (ne_eqb _ _ q)))))

          module _ (q : length second ≡ records_size there) where
            pub refused-other-formed : all_well_formed there second ≡ false → equivocators config other first second ≡ refused 21
            unfolding equivocators equivocators_reasons
            refused-other-formed k =
                pass 1 _ _ (passed g)
                ∙ (pass 1 _ _ (passed h)
                ∙ (pass 20 _ _ (passed (eq-eqb _ _ r)) ∙ (pass 21 _ _ (passed f) ∙ (pass 20 _ _ (passed (eq-eqb _ _ q)) ∙ stop 21 _ _ (failed k)))))

            module _ (k : all_well_formed there second ≡ true) where
              pub refused-same : config.own ≡ other → equivocators config other first second ≡ refused 28
              unfolding equivocators equivocators_reasons
              refused-same e =
                  pass 1 _ _ (passed g)
                  ∙ (pass 1 _ _ (passed h)
                  ∙ (pass 20 _ _ (passed (eq-eqb _ _ r))
                  ∙ (pass 21 _ _ (passed f) ∙ (pass 20 _ _ (passed (eq-eqb _ _ q)) ∙ (pass 21 _ _ (passed k) ∙ stop 28 _ _ (eq-eqb _ _ e))))))

              pub names : (config.own ≡ other → ⊥) → equivocators config other first second ≡ done (set_word (equivocates config other first second) 64)
              unfolding equivocators equivocators_reasons
              names e =
                  clear-done (equivocators_reasons config other first second) (set_word (equivocates config other first second) 64)
                  (passed g, (passed h, (passed (eq-eqb _ _ r), (passed f, (passed (eq-eqb _ _ q), (passed k, (ne_eqb _ _ e, tt)))))))

        -- some record of the two buffers is not
        pub refused-either : length second ≡ records_size there → all_formed config other first second ≡ false → equivocators config other first second ≡ refused 21
        refused-either q e = go (all_well_formed config first) refl (all_well_formed there second) refl
          where
            go : (a : Bool) → all_well_formed config first ≡ a → (b : Bool) → all_well_formed there second ≡ b → equivocators config other first second ≡ refused 21
            go true x true y = absurd (true≢false (sym (both-formed ∙ rw (x, y)) ∙ e))
            go true x false y = refused-other-formed x q y
            go false x b y = refused-formed x
