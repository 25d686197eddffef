-- The deal and the table of a board as they stand on its card, wherever its record stands.
use Prim.Native.Nat.{ℕ, ◌+◌}
use mathlib.Core.Path.{◌≡◌, sym, ap, ◌∙◌}
use mathlib.Core.List.{List, ◌++◌, append_assoc}
use native.Mathlib.Omega.{arith}
use lib.ListN.{length, take, drop}
use lib.Seq.{take_at, drop_at}
use Rattle.tables.specs.declared.letters.Conventions.{Conventions}
use Rattle.reader.specs.declared.board.DealCard.{DealCard}
use Rattle.reader.specs.declared.board.TableCard.{TableCard}
use Rattle.reader.specs.Boards.{record_out}
use Rattle.reader.specs.Editions.{back_words, card_words, card_of}
use Rattle.reader.specs.Plain.{plain_of}
use Rattle.reader.specs.Kept.{OnCard}
use Rattle.reader.proofs.CardShape.{word_back}
use Rattle.reader.proofs.PlainLaws.{word_small, plain_keeps}
use Rattle.reader.proofs.PlainBounds.{RecordBounded}

-- THEOREM. Words 9 to 38 of a card are the deal and the table of its plain board.
pub CardKept : (c : Conventions) (a n : ℕ) (r : List ℕ) → OnCard (card_of c a n r) (plain_of c r)
unfolding card_words
CardKept c a n r =
    let b = (record_out c r).state.board in
    let h = RecordBounded c r in
    let k = plain_keeps c r in
    let w = b.deal.words in
    let x = b.table.cells in
    let z = back_words a (a + length r) n b in
    let split : w ++ x ++ z ≡ w ++ (x ++ z) = append_assoc w x z in
    record {
      word_9 = word_small b.deal.kind (omega (arith, h.deal_in.deal_kind_low)) ∙ ap (λ (d : DealCard). d.kind) (sym k.deal_kept);
      words_10 = ap (take 8) split ∙ take_at w (x ++ z) 8 h.deal_in.words_eight ∙ ap (λ (d : DealCard). d.words) (sym k.deal_kept);
      words_18 = ap (λ (l : List ℕ). take 20 (drop 8 l)) split ∙ ap (take 20) (drop_at w (x ++ z) 8 h.deal_in.words_eight) ∙ take_at x z 20 h.table_in.twenty
          ∙ ap (λ (t : TableCard). t.cells) (sym k.table_kept);
      word_38 = word_back c a n r 0 ∙ word_small b.table.kind (omega (arith, h.table_in.kind_low)) ∙ ap (λ (t : TableCard). t.kind) (sym k.table_kept);
    }
