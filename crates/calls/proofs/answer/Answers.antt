-- `answer` meets its contract: the count is that of the record's signers, and the bundle is written as the answer says. Assumes nothing.
use mathlib.Core.Path.{◌≡◌, refl, sym, ap, ◌∙◌}
use mathlib.Core.Bool.{cond}
use native.Mathlib.Omega.{arith}
use Rattle.signers.specs.Signers as signers
use Rattle.payload.specs.Payload as payload
use Rattle.bundle.specs.Inner.{encoded_like}
use Rattle.protocol.specs.Update.{sends}
use Rattle.record.specs.declared.Record.{Record}
use Rattle.record.specs.declared.Answer.{Answer}
use Rattle.record.specs.declared.Answer.TheVariants.{Kept, Signed, Delivered, Noted}
use Rattle.record.specs.Record.{answer_of}
use Rattle.record.proofs.Words.{Fits}
use Rattle.calls.proofs.Settling.{counted_word, settled-record}
use Rattle.calls.proofs.answer.Goals as goal
use Rattle.calls.proofs.answer.Goals.{After-sends, then-sends, else-sends, in-Noted, in_default}

-- each word fits, as its type says
words-fit : (c : After-sends) → Fits c.args.received.«record»
words-fit c =
    record {
      head-fits = omega arith;
      signers-fits = omega arith;
      payload-fits = record { high_fits = omega arith; low_fits = omega arith };
      note-fits = record { signers-fits = omega arith; zero-fits = omega arith; payload-fits = record { high_fits = omega arith; low_fits = omega arith } };
    }

-- with every answer but noted the record's signers are counted
held_counted : (a : Answer) (r : Record) → (a ≡ Noted → ⊥) → counted_word (answer_of a) r ≡ r.signers
held_counted Kept r h = refl
held_counted Signed r h = refl
held_counted Delivered r h = refl
held_counted Noted r h = absurd (h refl)

pub returns : goal.returns
returns c =
    let counted : c.match-answer.counted ≡ counted_word (answer_of c.args.received.answer) c.args.received.«record»
    = elim c.match-answer.branch [ in-Noted w ↦ rw w.in-Noted.is w.counted-is | in_default w ↦ w.counted-is ∙ sym (held_counted _ _ w.in_default.not-Noted) ] in
    let written : c.if-sends.out
    ≡ cond (sends (answer_of c.args.received.answer)) (encoded_like c.args.bundle.now c.args.received.«record».signers (payload.bytes c.args.received.«record».payload) c.args.out.now) c.args.out.now
    = elim c.if-sends.branch [ then-sends w ↦ rw (sym w.if-sends.ensures) (w.out-is ∙ w.encode_like.ensures) | else-sends w ↦ rw (sym w.if-sends.ensures) w.out-is ] in
    let (told, left) = settled-record c.args.bundle.now c.args.out.now c.if-sends.out _ _ _ (words-fit (goal.at.returns c).After-sends) (c.size.ensures ∙ ap signers.size counted) written in
    record { result_value = told; out_after = left }
