use Rattle.writer.proofs.RemarkLaws.{items_made}
use Rattle.writer.specs.BoardTexts.{scan_of}
use Rattle.writer.specs.Held.{board_items}
use mathlib.Core.Path.{refl, ◌∙◌}
use Rattle.writer.proofs.held.Board.new.Goals as goal

pub returns-then-has_remarks : goal.returns-then-has_remarks
unfolding scan_of board_items
returns-then-has_remarks c =
    record {
      same_text = refl;
      same_cards = refl;
      same_entries = refl;
      index_is = refl;
      remarks_are = rw (← c.card_word-first.ensures.0, ← c.card_word-count.ensures.0, ← c.has_remarks.ensures, c.if-has_remarks.true);
    }

pub returns : goal.returns
unfolding scan_of board_items
returns c =
    let m = c.part.ensures in
    record {
      same_text = m.same_text;
      same_cards = refl;
      same_entries = m.same_entries;
      index_is = refl;
      remarks_are = items_made m ∙ rw (← c.card_word-first.ensures.0, ← c.card_word-count.ensures.0, ← c.has_remarks.ensures, c.if-has_remarks.false);
    }
