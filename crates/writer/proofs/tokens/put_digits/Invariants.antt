use Prim.Native.Nat.{◌-◌}
use Rattle.tables.proofs.PutsLaws.{PutsLeft}
use Rattle.tables.specs.Tables.{digits_text}
use Rattle.writer.specs.Held.{card_part}
use Rattle.writer.proofs.tokens.put_digits.Given as goal

abbrev pub invariant-loop-i : goal.invariant-loop-i
invariant-loop-i l =
    PutsLeft l.fn.page (digits_text (card_part l.board.cards.now l.board.index 18 20)) l.page (digits_text (card_part l.board.cards.now l.board.index l.i (38 - l.i)))
