-- Laws of the end of converting a text.
use Prim.Native.Nat.{ℕ, suc, ◌≤◌, ◌<◌}
use mathlib.Core.Path.{◌≡◌, refl, ap, ◌∙◌, subst}
use mathlib.Core.Bool.{true, false, cond}
use mathlib.Core.List.{List, [], ◌∷◌}
use native.Mathlib.Omega.{arith}
use lib.Dec.{leb, eqb}
use lib.ListN.{length}
use borrow.Author.Tests.{lt-ltb, le-ltb, ne_eqb}
use Rattle.std.specs.Prelude.{Result, Ok, Err, is_ok, Option, Some, None}
use Rattle.tables.specs.declared.letters.Conventions.{Conventions}
use Rattle.tables.specs.declared.refusal.Refusal.TheVariants as refusal
use Rattle.tables.specs.Page.{page_of}
use Rattle.tables.specs.PageSteps.{Put, PageEnded}
use Rattle.tables.proofs.Laws.{by_cases, clash}
use Rattle.tables.proofs.PageLaws.{finished}
use Rattle.reader.specs.Store.{zeros}
use Rattle.reader.proofs.WordLaws.{and_false}
use Rattle.tables.specs.declared.page.Page as paper
use Rattle.tables.specs.Puts.{Puts}
use Rattle.writer.specs.Writings.{page_after}
use Rattle.lin.specs.declared.pieces.Progress.{Progress}
use Rattle.lin.specs.declared.convert.Converted.{Converted}
use Rattle.lin.specs.declared.convert.LinRefusal.{LinRefusal}
use Rattle.lin.specs.declared.convert.LinRefusal.TheVariants.{Overlong, NoDeal}
use Rattle.lin.specs.Pieces.{board_pieces}
use Rattle.lin.specs.LinBoards.{LinBoard, lin_boards, any_card, lin_text}
use Rattle.lin.specs.PieceSteps.{Gone, GoesAll}
use Rattle.lin.specs.Conversions.{gives_deals, lin_page_answer, converted_of, IsConverted}
use Rattle.lin.specs.ConversionSteps.{put_answer, ConvertingEnded}
use Rattle.lin.proofs.Sizes.{lin_text_few}

-- ---- a text

pub converted_long : {c : Conventions} {text page page' : List ℕ} → 16777215 < length text → page' ≡ zeros page
    → IsConverted c text page (Err (Overlong (length text))) page'
unfolding converted_of
converted_long {c} {text} h z = record { answer = rw (lt-ltb 16777215 (length text) h); page_left = z }

-- Where some board has a card, there is a board.
some_board : (bs : List LinBoard) → any_card bs ≡ true → eqb (length bs) 0 ≡ false
some_board [] e = clash e
some_board (b ∷ bs) e = ne_eqb (suc (length bs)) 0 (λ z. omega arith)

answer_is : (n k m : ℕ) → is_ok (lin_page_answer n k m) ≡ leb n m
answer_is n k m = by_cases (leb n m) (λ q. rw q) (λ q. rw q)

page_out : (bs : List ℕ) (k m : ℕ) → page_of bs m ≡ page_after (is_ok (lin_page_answer (length bs) k m)) bs m
unfolding page_of
page_out bs k m = by_cases (leb (length bs) m) (λ q. rw q) (λ q. rw q)

module _ {c : Conventions} {text page page' : List ℕ} (p q : paper.Page) {r : Result Converted LinRefusal} (h : length text ≤ 16777215)
    (z : p.at ≡ 0) (b : p.bytes.now ≡ page) where
  -- No deal.
  refused_deal : length q.bytes.now ≡ length page → (put : Option Progress) → ConvertingEnded put q.at q.bytes.now r page' → put_answer put q.at (length q.bytes.now) ≡ Err NoDeal → gives_deals (lin_boards c text) ≡ false
      → IsConverted c text page r page'
  unfolding converted_of
  refused_deal k put d t e =
      let a : r ≡ Err NoDeal = d.told ∙ t in
      record {
        answer = a ∙ rw (le-ltb 16777215 (length text) h, e);
        page_left = d.page_left ∙ rw (a, k);
      }

  -- Deals on a page.
  put_deals : {g : Progress} → Gone c (lin_boards c text) p q g → ConvertingEnded (Some g) q.at q.bytes.now r page' → any_card (lin_boards c text) ≡ true → IsConverted c text page r page'
  unfolding converted_of lin_text
  put_deals {g} n d e =
      let bs = lin_boards c text in
      let any : g.any ≡ true = n.any_is ∙ e in
      let count = n.boards_are in
      let text_put : Puts p (lin_text c text) q = rw (some_board bs e) at n.puts in
      let few = lin_text_few c text h in
      let put : Put page 0 (lin_text c text) q.bytes.now q.at = rw (← b) (rw z at (text_put.put (omega (arith, few, z)))) in
      let en : q.at ≡ length (lin_text c text) = omega (arith, put.next) in
      let el : length q.bytes.now ≡ length page = rw b at text_put.kept in
      let told : r ≡ lin_page_answer q.at g.boards (length q.bytes.now) = d.told ∙ rw any in
      let fits : is_ok r ≡ leb q.at (length q.bytes.now) = ap is_ok told ∙ answer_is q.at g.boards (length q.bytes.now) in
      let ended : PageEnded q.at q.bytes.now page' (cond (leb q.at (length q.bytes.now)) (Ok q.at) (Err (refusal.PageFull q.at))) =
      record { told = refl; page_left = rw fits at d.page_left } in
      let out : r ≡ lin_page_answer (length (lin_text c text)) (length bs) (length page) = rw (← en, ← el, ← count) told in
      record {
        answer = out ∙ rw (le-ltb 16777215 (length text) h, e, n.deals);
        page_left = (finished put ended).page_left ∙ (page_out (lin_text c text) (length bs) (length page) ∙ rw out);
      }

  put_ended : (put : Option Progress) → GoesAll c (board_pieces text) p q put → ConvertingEnded put q.at q.bytes.now r page' → IsConverted c text page r page'
  unfolding lin_boards
  put_ended None n d = refused_deal (rw b at n.lent.kept) None d refl (rw (← n.some_is) (and_false (any_card (lin_boards c text))))
  put_ended (Some g) n d =
      by_cases (any_card (lin_boards c text))
      (λ e. put_deals n.gone d e)
      (λ e. refused_deal (rw b at n.lent.kept) (Some g) d (rw (n.gone.any_is, e)) (rw e))

  -- What was put of a text, once the page is ended.
  pub converted : {put : Option Progress} {page₁ : List ℕ} → GoesAll c (board_pieces text) p q put → ConvertingEnded put q.at q.bytes.now r page₁ → page₁ ≡ page' → IsConverted c text page r page'
  converted {put} n d e = put_ended put n (subst (λ (l : List ℕ). ConvertingEnded put q.at q.bytes.now r l) e d)
