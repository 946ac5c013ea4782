-- `read` meets its contract: the bytes that are tested are those of the law. Assumes nothing.
use mathlib.Core.Path.{◌≡◌, sym, ap, ◌∙◌}
use mathlib.Core.Bool.{cond, ◌&&◌}
use mathlib.Core.List.{List, [], ◌∷◌}
use Prim.Native.Nat.{ℕ, ◌+◌, ◌*◌, ◌/◌, ◌%◌}
use native.Mathlib.Omega.{arith}
use lib.Dec.{eqb}
use lib.IntN.{ℤ}
use lib.ListN.{get_or}
use borrow.Author.Tests.{eq-eqb, ne_eqb}
use mir.Facts.{to_z-of_z}
use mir.Syntax.{w16}
use Rattle.payload.specs.Payload.{bytes}
use Rattle.signed.specs.Signed.{signed}
use Rattle.setpoint.specs.Setpoint.{setpoint_in}
use Rattle.setpoint.proofs.Words.{top, rest, said-words}
use Rattle.setpoint.proofs.read.Goals as goal
use Rattle.setpoint.proofs.read.Goals.{After-to_be_bytes, then-tag-ne-TAG-via-then-tag-ne-TAG, then-tag-ne-TAG-via-else-tag-ne-TAG+then-payload-ne0, then-tag-ne-TAG-via-else-tag-ne-TAG+else-payload-ne0+then-payload-ne0-2}

by-words : (c : After-to_be_bytes) → setpoint_in (bytes c.args.payload)
    ≡ cond (eqb (c.args.payload.high / top % 256) 1 && (eqb (c.args.payload.high % rest) 0 && eqb c.args.payload.low 0))
    (signed (c.args.payload.high / 0x1_0000_0000_0000 % 256 * 256 + c.args.payload.high / rest % 256) ∷ []) []
by-words c = said-words c.args.payload (record { high_fits = omega arith; low_fits = omega arith })

-- the tag that is tested is the first byte
tag : (c : After-to_be_bytes) → get_or c.to_be_bytes.result 0 0 ≡ c.args.payload.high / top % 256
tag c = ap (λ (xs : List ℕ). get_or xs 0 0) c.to_be_bytes.ensures

pub returns-then-tag-ne-TAG : goal.returns-then-tag-ne-TAG
returns-then-tag-ne-TAG c =
    let read = (goal.at.returns-then-tag-ne-TAG c).After-to_be_bytes in
    rw (by-words read) (elim c.then-tag-ne-TAG.branch [
      | then-tag-ne-TAG-via-then-tag-ne-TAG w ↦ simp (ne_eqb _ _ (λ e. w.if-tag-ne-TAG.true (tag read ∙ e)))
      | then-tag-ne-TAG-via-else-tag-ne-TAG+then-payload-ne0 w ↦ simp (eq-eqb _ _ (sym (tag read) ∙ w.if-tag-ne-TAG.false), ne_eqb _ _ w.if-payload-ne0.true)
      | then-tag-ne-TAG-via-else-tag-ne-TAG+else-payload-ne0+then-payload-ne0-2 w ↦
          simp (eq-eqb _ _ (sym (tag read) ∙ w.if-tag-ne-TAG.false), eq-eqb _ _ w.if-payload-ne0.false, ne_eqb _ _ w.if-payload-ne0-2.true)
    ])

pub returns : goal.returns
returns c =
    let read = (goal.at.returns c).After-to_be_bytes in
    let number = ap (λ (xs : List ℕ). signed (get_or xs 1 0 * 256 + get_or xs 2 0)) c.to_be_bytes.ensures in
    rw (by-words read)
    (simp (eq-eqb _ _ (sym (tag read) ∙ c.if-tag-ne-TAG.false), eq-eqb _ _ c.if-payload-ne0.false, eq-eqb _ _ c.if-payload-ne0-2.false)
    (ap (λ (value : ℤ). value ∷ []) (to_z-of_z {w = w16} (record { sfits = c.from_bytes.type_inv }) ∙ (c.from_bytes.ensures ∙ number))))
