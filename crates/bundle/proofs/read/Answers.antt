-- `read` meets its contract: each return follows from the tests passed before it, and the last two from the verdict of `check`.
-- Assumes nothing.
use mathlib.Core.Bool.{true, ◌&&◌}
use mathlib.Core.List.{List}
use mathlib.Core.Path.{◌≡◌, sym, ap, ap₂, ◌∙◌}
use Prim.Native.Nat.{ℕ, ◌/◌}
use borrow.Author.Tests.{eq-eqb, ne_eqb}
use lib.Dec.{eqb}
use lib.ListN.{length, get_or}
use Rattle.octets.specs.Octets.{Bytes}
use Rattle.refusal.specs.Outcome.{unless}
use Rattle.refusal.proofs.Passed.{passed-on}
use Rattle.refusal.proofs.Reasons.{done-again, refused-again}
use Rattle.config.specs.declared.Config.{Config}
use Rattle.config.specs.Config.{good}
use Rattle.bundle.specs.declared.Header.{Header}
use Rattle.bundle.specs.Bundle.{bundle_size, slot_in, header_in, header_reasons, read_reasons, read}
use Rattle.bundle.proofs.Fields.{slot-day, reserved-zero, reserved-set, signers-word}
use Rattle.bundle.proofs.read.Goals as goal
use Rattle.bundle.proofs.read.Goals.{After-check, After-word-first, Else-bundle-ne-SIZE, Else-first-ne0, Else-not-good}

-- ---- and after the first word
abbrev sized : After-word-first → Else-bundle-ne-SIZE
sized c = (goal.at.After-word-first c).Else-bundle-ne-SIZE

abbrev slot : Else-first-ne0 → After-word-first
slot c = (goal.at.Else-first-ne0 c).After-word-first

abbrev entered : After-check → Else-bundle-ne-SIZE
entered c = (goal.at.After-check c).Else-bundle-ne-SIZE

-- ---- what is known where the first two tests have passed
abbrev config : Else-bundle-ne-SIZE → Config
config c = c.args.config

abbrev bundle : Else-bundle-ne-SIZE → List ℕ
bundle c = c.args.bundle.now

good-known : (c : Else-not-good) → good c.args.config ≡ true
good-known c = sym c.good.ensures ∙ c.if-not-good.false

length-known : (c : Else-bundle-ne-SIZE) → eqb (length (bundle c)) bundle_size ≡ true
length-known c = eq-eqb _ _ c.if-bundle-ne-SIZE.false

bytes-known : (c : Else-bundle-ne-SIZE) → Bytes (bundle c)
bytes-known c i = (c.shared_slice_known-1.given i).fits

day-known : (c : After-word-first) → c.word-first.result / 0x1_0000_0000 ≡ (slot_in (bundle (sized c))).day
day-known c = ap (λ (x : ℕ). x / 0x1_0000_0000) c.word-first.ensures ∙ slot-day _ c.if-bundle-ne-SIZE.false (bytes-known (sized c))

reserved-known : (c : Else-first-ne0) → (eqb (get_or (bundle (sized (slot c))) 6 0) 0 && eqb (get_or (bundle (sized (slot c))) 7 0) 0) ≡ true
reserved-known c =
    reserved-zero (bundle (sized (slot c))) c.if-bundle-ne-SIZE.false (bytes-known (sized (slot c))) (rw c.word-first.ensures at c.if-first-ne0.false)

day-same : (c : After-check) → (slot_in (bundle (entered c))).day ≡ (config (entered c)).day
day-same c = sym (day-known (slot (goal.at.After-check c).Else-first-ne0)) ∙ c.if-first-config.false

-- what `check` is given
abbrev header : After-check → Header
header c =
    record {
      day = (config (entered c)).day;
      sender = get_or (bundle (entered c)) 4 0;
      seq = get_or (bundle (entered c)) 5 0;
      signers = c.word.result;
    }

header-known : (c : After-check) → header c ≡ header_in (bundle (entered c))
unfolding header_in slot_in
header-known c =
    ap₂ {C = Header} (λ (d g : ℕ). record { day = d; sender = (header c).sender; seq = (header c).seq; signers = g })
    (sym (day-same c)) (c.word.ensures ∙ signers-word (bundle (entered c)) c.if-bundle-ne-SIZE.false)

-- with the first four tests passed, the reasons left are those of the header
header-decides : (c : After-check) → read (config (entered c)) (bundle (entered c)) ≡ unless (header_reasons (config (entered c)) (header c)) (header c)
unfolding read read_reasons unless
header-decides c =
    simp (good-known (goal.at.After-check c).Else-not-good, length-known (entered c), reserved-known (goal.at.After-check c).Else-first-ne0, eq-eqb _ _ (day-same c), ← header-known c)

pub returns-then-not-good : goal.returns-then-not-good
unfolding read read_reasons unless
returns-then-not-good c = simp (sym c.good.ensures ∙ c.if-not-good.true)

pub returns-then-bundle-ne-SIZE : goal.returns-then-bundle-ne-SIZE
unfolding read read_reasons unless
returns-then-bundle-ne-SIZE c = simp (good-known (goal.at.returns-then-bundle-ne-SIZE c).Else-not-good, ne_eqb _ _ c.if-bundle-ne-SIZE.true)

pub returns-then-first-ne0 : goal.returns-then-first-ne0
unfolding read read_reasons unless
returns-then-first-ne0 c =
    simp (good-known (goal.at.returns-then-first-ne0 c).Else-not-good, length-known (sized (goal.at.returns-then-first-ne0 c).After-word-first), reserved-set (bundle (sized (goal.at.returns-then-first-ne0 c).After-word-first)) c.if-bundle-ne-SIZE.false (bytes-known (sized (goal.at.returns-then-first-ne0 c).After-word-first)) (rw c.word-first.ensures at c.if-first-ne0.true))

pub returns-then-first-config : goal.returns-then-first-config
unfolding read read_reasons unless
returns-then-first-config c =
    simp (good-known (goal.at.returns-then-first-config c).Else-not-good, length-known (sized (slot (goal.at.returns-then-first-config c).Else-first-ne0)), reserved-known (goal.at.returns-then-first-config c).Else-first-ne0, ne_eqb _ _ (λ q. c.if-first-config.true (day-known (slot (goal.at.returns-then-first-config c).Else-first-ne0) ∙ q)))

pub returns : goal.returns
returns c = sym (header-decides (goal.at.returns c).After-check ∙ done-again _ _ _ _ (sym c.in_ok-check.ensures))

pub returns-in_err-check : goal.returns-in_err-check
returns-in_err-check c =
    passed-on _ _ _ c.from_residual.ensures.1
    ∙ sym (header-decides (goal.at.returns-in_err-check c).After-check ∙ refused-again _ _ _ _ (sym c.in_err-check.ensures))
