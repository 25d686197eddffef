use native.Mathlib.Omega.{arith}
use Rattle.tables.proofs.Laws.{is_empty_yes, is_empty_no}
use Rattle.reader.proofs.DealLaws.{blank_first, few_hands, many_hands, hands_four}
use mathlib.Core.Path.{sym, ◌∙◌}
use borrow.Author.Rules.{rules}
use Rattle.reader.proofs.deal.read_hands.Goals as goal

pub returns-then-is_white : goal.returns-then-is_white
returns-then-is_white c =
    (blank_first _ _ (rw c.byte_at.ensures at (sym c.is_white.ensures ∙ c.if-is_white.true)), search rules)

pub returns-then-is_empty : goal.returns-then-is_empty
returns-then-is_empty c =
    (few_hands _ _ _ _ _ (rw c.byte_at.ensures at (sym c.is_white.ensures ∙ c.if-is_white.false)) c.next_words-t.ensures c.next_words-u.ensures c.next_words-v.ensures (is_empty_yes _ c.is_empty.ensures c.if-is_empty.true), search rules)

pub returns-then-not-is_empty : goal.returns-then-not-is_empty
returns-then-not-is_empty c =
    (many_hands _ _ _ _ _ (rw c.byte_at.ensures at (sym c.is_white.ensures ∙ c.if-is_white.false)) c.next_words-t.ensures c.next_words-u.ensures c.next_words-v.ensures (is_empty_no _ c.is_empty.ensures c.if-is_empty.false) (omega (arith, is_empty_no _ (rw c.next_words.ensures at c.is_empty-2.ensures) c.if-not-is_empty.true)), search rules)

pub returns : goal.returns
returns c =
    (c.deal_words.ensures.0 ∙ hands_four _ _ _ _ _ (rw c.byte_at.ensures at (sym c.is_white.ensures ∙ c.if-is_white.false)) c.next_words-t.ensures c.next_words-u.ensures c.next_words-v.ensures (is_empty_no _ c.is_empty.ensures c.if-is_empty.false) (omega (arith, is_empty_yes _ (rw c.next_words.ensures at c.is_empty-2.ensures) c.if-not-is_empty.false)), c.deal_words.ensures.1)
