-- The answers of writing an edition, and its contract.
use Rattle.std.specs.Prelude.{ℕ, ◌≡◌, Bool, cond, List, leb, length, replicate, Result, Ok, Err, is_ok}
use Rattle.tables.specs.declared.letters.Conventions.{Conventions}
use Rattle.reader.specs.declared.edition.Counts.{Counts}
use Rattle.reader.specs.declared.edition.ReadRefusal.{ReadRefusal}
use Rattle.reader.specs.Store.{padded, lent}
use Rattle.reader.specs.Editions.{read_number, read_carries, reading_of, cards_of, entries_of}
use Rattle.writer.specs.declared.write.WriteRefusal.{WriteRefusal}
use Rattle.writer.specs.declared.write.WriteRefusal.TheVariants.{Edition, PageFull}
use Rattle.writer.specs.Pages.{written_text}

-- ---- refusals: 1 to 3 of the edition, then 7 page full (the bytes needed)

abbrev pub write_number : WriteRefusal → ℕ
write_number (Edition f) = read_number f
write_number (PageFull n) = 7

abbrev pub write_carries : WriteRefusal → ℕ
write_carries (Edition f) = read_carries f
write_carries (PageFull n) = n

-- ---- the answer

-- For n bytes on a page of m: written, or the page is too short.
abbrev pub page_answer : ℕ → ℕ → Result ℕ WriteRefusal
page_answer n m = cond (leb n m) (Ok n) (Err (PageFull n))

abbrev pub written_by : List ℕ → ℕ → Result Counts ReadRefusal → Result ℕ WriteRefusal
written_by bs m (Ok n) = page_answer (length bs) m
written_by bs m (Err f) = Err (Edition f)

-- For a text, with words for cards and entries and a page lent.
unfoldable pub writing_of : Conventions → List ℕ → ℕ → ℕ → ℕ → Result ℕ WriteRefusal
writing_of c text lc le m = written_by (written_text c text) m (reading_of c text lc le)

-- ---- the contract

-- A page of m bytes after a call: the bytes bs and zeros behind them where all went well, nothing but zeros after a refusal.
abbrev pub page_after : Bool → List ℕ → ℕ → List ℕ
page_after well bs m = cond well (padded m bs) (replicate m 0)

-- The contract of writing: the answer, every byte of the page and every word of the boxes. What is not used is zero; after a refusal all is.
pub record IsWritten (c : Conventions) (text cards entries page : List ℕ) (r : Result ℕ WriteRefusal) (cards' entries' page' : List ℕ) : Type 0 where
  pub answer : r ≡ writing_of c text (length cards) (length entries) (length page)
  pub page_left : page' ≡ page_after (is_ok r) (written_text c text) (length page)
  pub cards_after : cards' ≡ lent (is_ok r) (length cards) (cards_of c text)
  pub entries_after : entries' ≡ lent (is_ok r) (length entries) (entries_of c text)
