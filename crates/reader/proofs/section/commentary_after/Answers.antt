use Rattle.reader.specs.Sections.{commentary_after}
use Rattle.reader.proofs.SectionLaws.{commentary_opens}
use Rattle.reader.proofs.section.commentary_after.Goals as goal
use Rattle.reader.proofs.section.commentary_after.Goals.{then-commentary, else-commentary}

pub returns-then-byte_at-eq123 : goal.returns-then-byte_at-eq123
unfolding commentary_after
returns-then-byte_at-eq123 c =
    let a = c.args in
    elim c.if-commentary.branch [
      | then-commentary w ↦ rw (w.if-commentary.true, c.has_brace.ensures)
      | else-commentary w ↦ rw (w.if-commentary.false, commentary_opens a.l.now, ← w.lead_len.ensures.0, ← w.byte_at.ensures, ← w.value-is, c.if-byte_at-eq123.true, c.has_brace.ensures)
    ]

pub returns-else-byte_at-eq123 : goal.returns-else-byte_at-eq123
unfolding commentary_after
returns-else-byte_at-eq123 c =
    let a = c.args in
    elim c.if-commentary.branch [
      | then-commentary w ↦ absurd (cc (w.value-is, c.if-byte_at-eq123.false))
      | else-commentary w ↦ rw (w.if-commentary.false, commentary_opens a.l.now, ← w.lead_len.ensures.0, ← w.byte_at.ensures, ← w.value-is, c.if-byte_at-eq123.false)
    ]
