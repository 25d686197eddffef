-- The answers of converting a LIN text, and its contract.
use Rattle.std.specs.Prelude.{ℕ, ◌≡◌, Bool, cond, ◌&&◌, List, leb, ltb, length, Result, Ok, Err, is_ok}
use Rattle.tables.specs.declared.letters.Conventions.{Conventions}
use Rattle.writer.specs.Writings.{page_after}
use Rattle.lin.specs.declared.convert.LinRefusal.{LinRefusal}
use Rattle.lin.specs.declared.convert.LinRefusal.TheVariants.{Overlong, NoDeal, PageFull}
use Rattle.lin.specs.declared.convert.Converted.{Converted}
use Rattle.lin.specs.LinBoards.{LinBoard, lin_boards, any_card, all_deals, lin_text}

-- ---- refusals: 1 overlong (the text's length), 16 no deal (0), 7 page full (the bytes needed)

abbrev pub lin_number : LinRefusal → ℕ
lin_number (Overlong n) = 1
lin_number NoDeal = 16
lin_number (PageFull n) = 7

abbrev pub lin_carries : LinRefusal → ℕ
lin_carries (Overlong n) = n
lin_carries NoDeal = 0
lin_carries (PageFull n) = n

-- ---- the answer

-- Not refused with 16: some board has a card, and none has a card twice or a hand of more than 13 cards.
abbrev pub gives_deals : List LinBoard → Bool
gives_deals bs = any_card bs && all_deals bs

-- For n bytes of some boards on a page of m.
abbrev pub lin_page_answer : ℕ → ℕ → ℕ → Result Converted LinRefusal
lin_page_answer n boards m = cond (leb n m) (Ok (record { bytes = n; boards = boards })) (Err (PageFull n))

-- For a text, with a page of m bytes.
unfoldable pub converted_of : Conventions → List ℕ → ℕ → Result Converted LinRefusal
converted_of c text m =
    cond (ltb 16777215 (length text)) (Err (Overlong (length text)))
    (cond (gives_deals (lin_boards c text)) (lin_page_answer (length (lin_text c text)) (length (lin_boards c text)) m) (Err NoDeal))

-- ---- the contract

-- The answer, and every byte of the page: the text and zeros behind it, nothing but zeros after a refusal.
pub record IsConverted (c : Conventions) (text page : List ℕ) (r : Result Converted LinRefusal) (page' : List ℕ) : Type 0 where
  pub answer : r ≡ converted_of c text (length page)
  pub page_left : page' ≡ page_after (is_ok r) (lin_text c text) (length page)
