use Rattle.writer.proofs.RemarkLaws.{second_none, second_trick, second_value}
use mathlib.Core.Path.{sym, ◌∙◌}
use native.Mathlib.Omega.{arith}
use Rattle.writer.proofs.items.Items.value.Goals.{then-self-lt2-via-then-self-lt2, then-self-lt2-via-else-self-lt2+then-word_at-eq-TRICK}
use Rattle.writer.proofs.items.Items.value.Goals as goal

pub returns-then-self-lt2 : goal.returns-then-self-lt2
returns-then-self-lt2 c =
    elim c.then-self-lt2.branch [
      | then-self-lt2-via-then-self-lt2 w ↦ sym (second_none c.args.self.now w.if-self-lt2.true)
      | then-self-lt2-via-else-self-lt2+then-word_at-eq-TRICK w ↦ sym (second_trick c.args.self.now (omega (arith, w.if-self-lt2.false)) (sym w.word_at.ensures.0 ∙ w.if-word_at-eq-TRICK.true))
    ]

pub returns : goal.returns
returns c =
    c.bytes_at.ensures ∙ sym (second_value c.args.self.now (omega (arith, c.if-self-lt2.false)) (λ z. c.if-word_at-eq-TRICK.false (c.word_at.ensures.0 ∙ z)))
